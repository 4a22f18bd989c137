-- The supervisor's status word: SUM is its bit 18. Assumes nothing.
use Rattle.std.specs.Prelude.{◌≡◌, ℕ, ◌+◌, ◌*◌, ◌/◌, ◌%◌, ◌^◌, Bool, cond, ◌≢◌}
use Rattle.book.specs.Bits.{bit}

-- SUM of a status word.
abbrev pub sum_of : ℕ → Bool
sum_of w = bit w 18

-- The word with SUM put to a value, between the bits above it and those below.
abbrev pub with_sum : ℕ → Bool → ℕ
with_sum w on = w / 2 ^ 19 * 2 ^ 19 + cond on (2 ^ 18) 0 + w % 2 ^ 18

-- From one word to another SUM is put to a value, and it alone: every other bit is as it was.
pub record SumAlone (before : ℕ) (on : Bool) (after : ℕ) : Type 0 where
  pub sum : sum_of after ≡ on
  pub others : (k : ℕ) → (k ≢ 18) → bit after k ≡ bit before k
