-- A part of a list of bytes: its value, and the bytes after a write into it.
use Rattle.std.proofs.Common.{◌≡◌, ℕ, ◌+◌, ◌-◌, ◌%◌, ◌<◌, ◌≤◌, List, length, take, drop, ap, ◌∙◌, arith}
use Rattle.std.proofs.lemmas.List.{get_or-take, get_or-drop, length-take, length-drop}
use Rattle.std.proofs.lemmas.Bool.Decides.{nat_tests}
use Rattle.memory.specs.Effects.{value_at, byte_of, replaced}
use Rattle.memory.specs.Bytes.{byte_in}
use Rattle.memory.proofs.Values.{value_same}

-- the length of a part
pub length_part : (bs : List ℕ) (a w : ℕ) → a + w ≤ length bs → length (take (a + w - a) (drop a bs)) ≡ w
length_part bs a w inside = length-take (a + w - a) (drop a bs) ∙ omega (arith, length-drop a bs)

-- the value of a part is the value of the whole at the part's place
pub value_part : (bs : List ℕ) (a w : ℕ) → a + w ≤ length bs → value_at (byte_in (take (a + w - a) (drop a bs))) 0 (length (take (a + w - a) (drop a bs))) ≡ value_at (byte_in bs) a w
value_part bs a w inside =
    let part = take (a + w - a) (drop a bs) in
    ap (value_at (byte_in part) 0) (length_part bs a w inside) ∙ value_same (byte_in part) (byte_in bs) 0 a w (λ i h.
    ap (byte_in part) (omega arith) ∙ ap (λ (n : ℕ). n % 256) (get_or-take (a + w - a) (drop a bs) i 0 (omega arith) ∙ get_or-drop a bs i 0))

-- at, before and behind the addresses of a store
module _ (byte : ℕ → ℕ) (a w v k : ℕ) where
  pub replaced_inside : a ≤ k → k < a + w → replaced byte a w v k ≡ byte_of v (k - a)
  replaced_inside low high = grind (arith, nat_tests)

  pub replaced_before : k < a → replaced byte a w v k ≡ byte k
  replaced_before h = grind (arith, nat_tests)

  pub replaced_behind : a + w ≤ k → replaced byte a w v k ≡ byte k
  replaced_behind h = grind (arith, nat_tests)
