-- The registers of a table, and what follows from them alone. Assumes nothing.
use Rattle.std.specs.Prelude.{◌≡◌, ℕ, zero, suc, ◌^◌, ◌<◌, cond, ◌==◌}
use Rattle.book.specs.Bits.{bit}
use Rattle.book.specs.Books.{Book, LegalByte}
use Rattle.table.specs.Bounds.{matching_of, resolved}

-- The configuration byte and the address register of each entry, and the switch bits: bit i belongs to entry i.
pub record Registers : Type 0 where
  pub config : ℕ → ℕ
  pub address : ℕ → ℕ
  pub switch : ℕ

abbrev pub zeros : Registers
zeros = record { config = λ _. 0; address = λ _. 0; switch = 0 }

-- The address register below entry i, or 0.
abbrev pub below_at : (ℕ → ℕ) → ℕ → ℕ
below_at address zero = 0
below_at address (suc i) = address i

-- The bounds of entry i, from the registers as they stand; the register below counts whether that entry is on or off.
abbrev pub bounds_at : Registers → ℕ → ℕ × ℕ
bounds_at r i = resolved (matching_of (r.config i)) (r.address i) (below_at r.address i)

-- The address registers are fields of f bits.
abbrev pub AddressesBelow : ℕ → Registers → Type 0
AddressesBelow f r = (i : ℕ) → i < 64 → r.address i < 2 ^ f

-- Every configuration byte is legal.
abbrev pub AllLegal : Book → Registers → Type 0
AllLegal b r = (i : ℕ) → i < 64 → LegalByte b (r.config i)

-- Two tables have the same registers.
pub record Same (r s : Registers) : Type 0 where
  pub configs : (i : ℕ) → i < 64 → r.config i ≡ s.config i
  pub addresses : (i : ℕ) → i < 64 → r.address i ≡ s.address i
  pub switches : (i : ℕ) → i < 64 → bit r.switch i ≡ bit s.switch i

-- A function with another value at one place.
abbrev pub put : (ℕ → ℕ) → ℕ → ℕ → ℕ → ℕ
put f i v k = cond (k == i) v (f k)

-- The registers with one of them changed.
abbrev pub with_address_at : Registers → ℕ → ℕ → Registers
with_address_at r i v = record { config = r.config; address = put r.address i v; switch = r.switch }

abbrev pub with_config_at : Registers → ℕ → ℕ → Registers
with_config_at r i c = record { config = put r.config i c; address = r.address; switch = r.switch }

abbrev pub with_switch : Registers → ℕ → Registers
with_switch r w = record { config = r.config; address = r.address; switch = w }
