-- RAM: what it means, and what that says. Assumes nothing.
use Rattle.std.specs.Prelude.{◌≡◌, ℕ, ◌+◌, ◌<◌, ◌≤◌, min, Bool, ◌&&◌, List, length, Decides, nat_le}
use Rattle.access.specs.Formed.{width_of, limit, WellFormed}
use Rattle.access.specs.declared.access.Kind.{Kind}
use Rattle.memory.specs.Meaning.{MemoryMeaning, memory_end}
use Rattle.memory.specs.Bytes.{byte_in, over_bytes}

-- The bytes of the buffer up to the end of the addresses.
abbrev pub ram_size : ℕ → List ℕ → ℕ
ram_size f bs = min (length bs) (memory_end f)

-- An access to n bytes: its width is one of the kind's, and it ends at n or below.
abbrev pub ram_admits : ℕ → Kind → ℕ → ℕ → Bool
ram_admits n k a w = width_of k w && nat_le (a + w) n

-- The RAM over a buffer that holds bs.
abbrev pub ram_meaning : ℕ → List ℕ → MemoryMeaning
ram_meaning f bs = over_bytes bs (ram_size f bs) (ram_admits (ram_size f bs))

-- What a RAM over bs is: bs as far as there are addresses, open to just the well-formed accesses that stay inside.
pub record RamOver (f : ℕ) (bs : List ℕ) (m : MemoryMeaning) : Type 0 where
  pub size : m.size ≡ min (length bs) (limit f)
  pub bytes : (k : ℕ) → k < m.size → m.byte k ≡ byte_in bs k
  pub admits : (k : Kind) (a w : ℕ) → Decides (m.admits k a w) (WellFormed f k a w × (a + w ≤ m.size))
