-- The masks of SUM read, set and clear bit 18 alone. Assumes nothing.
use Rattle.std.proofs.Common.{◌≡◌, ℕ, ◌^◌, ◌<◌, ◌≢◌, true, false, not, eqb, ap, ◌∙◌, ⊎_elim, sym, lit<, arith}
use lib.Bits.{bit_and, bit_or, or_add_and, and_comm}
use Rattle.std.specs.Int.{bit_at, w32}
use Rattle.std.specs.Int.Bits.{and_lt}
use Rattle.std.proofs.lemmas.Nat.{and-not}
use Rattle.std.proofs.lemmas.Nat.Bits.{and_pow, bit_at-lt, bit_at_above, bit_at_set_same, bit_at_set_other, bit_at_clear_same, bit_at_clear_other}
use Rattle.std.proofs.lemmas.Bool.{cases_lt}
use Rattle.std.proofs.lemmas.Bool.Decides.{nat_tests}
use Rattle.hart.specs.Status.{sum_of, with_sum, SumAlone}

-- SUM as a mask, and every other bit of 32 as a mask
abbrev only : ℕ
only = 262144

abbrev rest : ℕ
rest = 4294705151

-- SUM is set where the mask leaves something
pub sum_tested : (w : ℕ) → not (eqb (bit_and w only) 0) ≡ sum_of w
sum_tested w = let e = and_pow w 18 in let b = bit_at-lt w 18 in grind (arith, nat_tests)

pub set_word : (w : ℕ) → bit_or w only ≡ with_sum w true
set_word w = omega (arith, or_add_and w only, and_pow w 18)

pub cleared_word : (w : ℕ) → w < 2 ^ 32 → bit_and w rest ≡ with_sum w false
cleared_word w h = omega (arith, and-not 32 only w (lit< tt) h, and_comm w rest, and_comm w only, and_pow w 18)

pub set_alone : (w : ℕ) → SumAlone w true (bit_or w only)
set_alone w = record {
  sum = ap (λ (x : ℕ). eqb x 1) (bit_at_set_same w32 w 18 (lit< tt));
  others = λ k n. ap (λ (x : ℕ). eqb x 1) (bit_at_set_other w32 w 18 (lit< tt) k n);
}

cleared_other : (w k : ℕ) → w < 2 ^ 32 → k ≢ 18 → bit_at (bit_and w rest) k ≡ bit_at w k
cleared_other w k h n = ⊎_elim (λ l. bit_at_clear_other w32 w 18 (lit< tt) k l n)
    (λ l. bit_at_above (bit_and w rest) 32 k (and_lt 32 w rest h (lit< tt)) l ∙ sym (bit_at_above w 32 k h l)) (cases_lt k 32)

pub cleared_alone : (w : ℕ) → w < 2 ^ 32 → SumAlone w false (bit_and w rest)
cleared_alone w h = record {
  sum = ap (λ (x : ℕ). eqb x 1) (bit_at_clear_same w32 w 18 (lit< tt));
  others = λ k n. ap (λ (x : ℕ). eqb x 1) (cleared_other w k h n);
}
