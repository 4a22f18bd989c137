-- A pair of memories: what it means, and what that says. Assumes nothing.
use Rattle.std.specs.Prelude.{◌≡◌, ℕ, ◌+◌, ◌-◌, ◌<◌, ◌≤◌, min, Bool, false, cond, ◌&&◌, nat_le, nat_lt}
use Rattle.access.specs.Formed.{limit}
use Rattle.access.specs.declared.access.Kind.{Kind}
use Rattle.memory.specs.Meaning.{MemoryMeaning, memory_end}

-- Of the accesses that end within the addresses, one goes to the first memory if it ends there, and to the second if it begins there.
abbrev pub pair_admits : ℕ → MemoryMeaning → MemoryMeaning → Kind → ℕ → ℕ → Bool
pair_admits f m n k a w = nat_le (a + w) (memory_end f) && cond (nat_le (a + w) m.size) (m.admits k a w) (nat_le m.size a && n.admits k (a - m.size) w)

-- The memory n directly behind the memory m.
abbrev pub pair_meaning : ℕ → MemoryMeaning → MemoryMeaning → MemoryMeaning
pair_meaning f m n = record {
  size = min (m.size + n.size) (memory_end f);
  byte = λ k. cond (nat_lt k m.size) (m.byte k) (n.byte (k - m.size));
  admits = pair_admits f m n;
}

-- What a pair p of the memories m and n is.
pub record PairOf (f : ℕ) (m n p : MemoryMeaning) : Type 0 where
  -- it is as large as both together, as far as there are addresses
  pub size : p.size ≡ min (m.size + n.size) (limit f)
  -- the bytes of m come first, then those of n
  pub first_bytes : (k : ℕ) → k < m.size → p.byte k ≡ m.byte k
  pub second_bytes : (k : ℕ) → p.byte (m.size + k) ≡ n.byte k
  -- an access below the size of m is answered as m answers
  pub first : (k : Kind) (a w : ℕ) → a + w ≤ m.size → p.admits k a w ≡ m.admits k a w
  -- one behind m and below the size is answered as n answers at the address less the size of m
  pub second : (k : Kind) (a w : ℕ) → m.size ≤ a → a + w ≤ p.size → p.admits k a w ≡ n.admits k (a - m.size) w
  -- one that straddles the border gets a no, and so does one that runs past the size
  pub across : (k : Kind) (a w : ℕ) → a < m.size → m.size < a + w → p.admits k a w ≡ false
  pub beyond : (k : Kind) (a w : ℕ) → p.size < a + w → p.admits k a w ≡ false
