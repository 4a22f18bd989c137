-- What transfers within a memory answer and leave. Assumes nothing.
use Rattle.std.specs.Prelude.{ℕ, ◌+◌, ◌-◌, ◌%◌, ◌^◌, Bool, cond, ◌&&◌, Ok, Err, Result}
use Rattle.access.specs.declared.access.Kind.TheVariants.{Load, Store}
use Rattle.memory.specs.declared.not_admitted.NotAdmitted.{NotAdmitted}
use Rattle.memory.specs.Meaning.{MemoryMeaning}
use Rattle.memory.specs.Effects.{covers}

-- A store and then a load at the same place give the low w bytes of the value.
abbrev pub read_back : MemoryMeaning → ℕ → ℕ → ℕ → Result ℕ NotAdmitted
read_back m a w v = cond (m.admits Store a w && m.admits Load a w) (Ok (v % 256 ^ w)) (Err (record {}))

-- Whether a word can be copied from a to b.
abbrev pub copies : MemoryMeaning → ℕ → ℕ → Bool
copies m a b = m.admits Load a 4 && m.admits Store b 4

-- A copy answers that both its load and its store were admitted, or not.
abbrev pub copy_answer : MemoryMeaning → ℕ → ℕ → Result (Unit {0}) NotAdmitted
copy_answer m a b = cond (copies m a b) (Ok tt) (Err (record {}))

-- The memory after a copy: the four bytes from b are those that were at a.
abbrev pub copied : MemoryMeaning → ℕ → ℕ → MemoryMeaning
copied m a b = record {
  size = m.size;
  byte = λ k. cond (copies m a b && covers b 4 k) (m.byte (a + (k - b))) (m.byte k);
  admits = m.admits;
}
