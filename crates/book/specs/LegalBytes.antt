-- Two laws of legal bytes, of any book, by one test that antt computes at each of the 256 bytes. Stands here since the laws of the books do. Assumes nothing.
use Rattle.std.specs.Prelude.{◌≡◌, ℕ, ◌/◌, ◌%◌, ◌<◌, Bool, true, false, ◌&&◌, T, ◌==◌}
use Rattle.std.proofs.Common.{subst, eqb→eq}
use Rattle.book.specs.Bits.{without_a}
use Rattle.book.specs.Computed.{same_b, same_b_eq, and_left, and_right, below, at_below}

abbrev implies : Bool → Bool → Bool
implies true b = b
implies false b = true

-- a byte is as legal as with its A field cleared, and if it is legal then its reserved bits are zero
abbrev pub law_test : (ℕ → Bool) → ℕ → Bool
law_test legal c = same_b (legal c) (legal (without_a c)) && implies (legal c) (c / 32 % 4 == 0)

module _ (legal : ℕ → Bool) (t : T (below (law_test legal) 256)) (c : ℕ) (h : c < 256) where
  pub ignores_a : legal c ≡ legal (without_a c)
  ignores_a = same_b_eq (legal c) (legal (without_a c)) (and_left _ (implies (legal c) (c / 32 % 4 == 0)) (at_below (law_test legal) 256 t c h))

  pub reserved_zero_lem : legal c ≡ true → c / 32 % 4 ≡ 0
  reserved_zero_lem l =
      eqb→eq (c / 32 % 4) 0
      (subst (λ (b : Bool). T (implies b (c / 32 % 4 == 0))) l
      (and_right (same_b (legal c) (legal (without_a c))) _ (at_below (law_test legal) 256 t c h)))
