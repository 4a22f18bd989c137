-- What a memory means, and what holds of every memory. Assumes nothing.
use Rattle.std.specs.Prelude.{◌≡◌, ℕ, ◌+◌, ◌<◌, ◌≤◌, min, Bool, true}
use Rattle.access.specs.Formed.{limit, WellFormed}
use Rattle.access.specs.declared.access.Kind.{Kind}

-- A memory: how many bytes it has, what each of them is, and whether it lets an access of a kind, at an address, of a width pass.
-- At or past the size `byte` says nothing about the memory: there a meaning may have any numbers.
pub record MemoryMeaning : Type 0 where
  pub size : ℕ
  pub byte : ℕ → ℕ
  pub admits : Kind → ℕ → ℕ → Bool

-- No memory is larger than the address space, its bytes are below 256, and what gets a yes is well formed and stays inside.
pub record MemoryLaws (f : ℕ) (m : MemoryMeaning) : Type 0 where
  pub size_fits : m.size ≤ limit f
  pub bytes_fit : (k : ℕ) → k < m.size → m.byte k < 256
  pub formed : (k : Kind) (a w : ℕ) → m.admits k a w ≡ true → WellFormed f k a w
  pub within : (k : Kind) (a w : ℕ) → m.admits k a w ≡ true → a + w ≤ m.size

-- The end of the addresses. It is the limit, since fields have 60 bits at most; for one of more bits it is that of 60, so that each size is a 64-bit number.
abbrev pub memory_end : ℕ → ℕ
memory_end f = limit (min f 60)
