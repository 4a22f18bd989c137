-- What an access to a memory answers, and the memory after it. Assumes nothing.
use Rattle.std.specs.Prelude.{ℕ, zero, suc, ◌+◌, ◌-◌, ◌*◌, ◌/◌, ◌%◌, ◌^◌, Bool, cond, ◌&&◌, Ok, Err, Result, nat_le, nat_lt}
use Rattle.access.specs.declared.access.Kind.{Kind}
use Rattle.access.specs.declared.access.Kind.TheVariants.{Store}
use Rattle.memory.specs.declared.not_admitted.NotAdmitted.{NotAdmitted}
use Rattle.memory.specs.Meaning.{MemoryMeaning}

-- The little-endian value of the w bytes from the address a.
abbrev pub value_at : (ℕ → ℕ) → ℕ → ℕ → ℕ
value_at byte a zero = 0
value_at byte a (suc w) = byte a + 256 * value_at byte (a + 1) w

-- The byte of the value v at the place i, the lowest at 0.
abbrev pub byte_of : ℕ → ℕ → ℕ
byte_of v i = v / 256 ^ i % 256

-- Whether k is one of the w addresses from a.
abbrev pub covers : ℕ → ℕ → ℕ → Bool
covers a w k = nat_le a k && nat_lt k (a + w)

-- The bytes after the w from a were replaced by the low bytes of v.
abbrev pub replaced : (ℕ → ℕ) → ℕ → ℕ → ℕ → ℕ → ℕ
replaced byte a w v k = cond (covers a w k) (byte_of v (k - a)) (byte k)

-- The memory after an admitted store: only the bytes at its addresses differ.
abbrev pub stored : MemoryMeaning → ℕ → ℕ → ℕ → MemoryMeaning
stored m a w v = record { size = m.size; byte = replaced m.byte a w v; admits = m.admits }

-- A load or a fetch answers the value if it is admitted.
abbrev pub read_answer : MemoryMeaning → Kind → ℕ → ℕ → Result ℕ NotAdmitted
read_answer m k a w = cond (m.admits k a w) (Ok (value_at m.byte a w)) (Err (record {}))

-- A store answers that it was admitted or not.
abbrev pub store_answer : MemoryMeaning → ℕ → ℕ → Result (Unit {0}) NotAdmitted
store_answer m a w = cond (m.admits Store a w) (Ok tt) (Err (record {}))

-- The memory after a store, which alters nothing unless it is admitted.
abbrev pub written : MemoryMeaning → ℕ → ℕ → ℕ → MemoryMeaning
written m a w v = cond (m.admits Store a w) (stored m a w v) m
