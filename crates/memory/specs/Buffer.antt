-- What a caller's buffer holds after a store to the RAM over it. Assumes nothing.
use Rattle.std.specs.Prelude.{◌≡◌, ℕ, ◌+◌, ◌<◌, ◌≤◌, List, length, Ok, Err, Result, slice_index}
use Rattle.access.specs.Formed.{WellFormed}
use Rattle.access.specs.declared.access.Kind.TheVariants.{Store}
use Rattle.memory.specs.declared.not_admitted.NotAdmitted.{NotAdmitted}
use Rattle.memory.specs.Effects.{byte_of}

-- The bytes cs are bs with the w from a replaced by the low bytes of v.
pub record Overwritten (bs : List ℕ) (a w v : ℕ) (cs : List ℕ) : Type 0 where
  pub long : length cs ≡ length bs
  pub before : (k : ℕ) → k < a → slice_index cs k ≡ slice_index bs k
  pub inside : (i : ℕ) → i < w → slice_index cs (a + i) ≡ byte_of v i
  pub behind : (k : ℕ) → a + w ≤ k → slice_index cs k ≡ slice_index bs k

-- A store of w bytes at a into a buffer of bs was answered r and left cs: it is done if it is well formed and ends within the buffer, and else refused.
pub record StoredInto (f : ℕ) (bs : List ℕ) (a w v : ℕ) (r : Result (Unit {0}) NotAdmitted) (cs : List ℕ) : Type 0 where
  pub admitted : WellFormed f Store a w → a + w ≤ length bs → (r ≡ Ok tt) × Overwritten bs a w v cs
  pub refused : (WellFormed f Store a w → a + w ≤ length bs → ⊥) → (r ≡ Err (record {})) × (cs ≡ bs)
