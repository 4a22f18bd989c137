-- The register bank: what it means, and what that says. Assumes nothing.
use Rattle.std.specs.Prelude.{◌≡◌, ℕ, ◌+◌, ◌%◌, ◌<◌, min, Bool, false, ◌&&◌, List, Decides, ◌==◌, nat_le}
use Rattle.access.specs.declared.access.Kind.{Kind}
use Rattle.access.specs.declared.access.Kind.TheVariants.{Load, Store, Fetch}
use Rattle.memory.specs.Meaning.{MemoryMeaning, memory_end}
use Rattle.memory.specs.Bytes.{over_bytes}

-- 64 bytes. (Fields have 4 bits at least, so the addresses end at 64 or above.)
abbrev pub bank_size : ℕ → ℕ
bank_size f = min 64 (memory_end f)

-- Whether an access is to a whole register of a bank of n bytes.
abbrev pub of_register : ℕ → ℕ → ℕ → Bool
of_register n a w = w == 4 && (a % 4 == 0 && nat_le (a + w) n)

-- In a bank of n bytes whole registers can be loaded and stored, and nothing can be fetched.
abbrev pub bank_admits : ℕ → Kind → ℕ → ℕ → Bool
bank_admits n Load a w = of_register n a w
bank_admits n Store a w = of_register n a w
bank_admits n Fetch a w = false

-- A bank whose bytes are bs.
abbrev pub bank_meaning : ℕ → List ℕ → MemoryMeaning
bank_meaning f bs = over_bytes bs (bank_size f) (bank_admits (bank_size f))

-- The accesses to whole registers: four bytes from a multiple of four on, loaded or stored.
abbrev pub RegisterAccess : Kind → ℕ → ℕ → Type 0
RegisterAccess Load a w = (w ≡ 4) × (a % 4 ≡ 0) × (a < 64)
RegisterAccess Store a w = (w ≡ 4) × (a % 4 ≡ 0) × (a < 64)
RegisterAccess Fetch a w = ⊥

-- What a new bank is: 64 bytes, all zero, with the accesses to a whole register admitted and no other.
pub record ZeroBank (m : MemoryMeaning) : Type 0 where
  pub size : m.size ≡ 64
  pub bytes : (k : ℕ) → k < 64 → m.byte k ≡ 0
  pub admits : (k : Kind) (a w : ℕ) → Decides (m.admits k a w) (RegisterAccess k a w)
