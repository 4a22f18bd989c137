-- The registers of owners and a selection. Assumes nothing.
use Rattle.std.specs.Prelude.{ℕ, zero, suc, ◌+◌, ◌*◌, ◌/◌, ◌^◌, Bool, false, cond, List, Some, None, Option, ◌==◌}
use Rattle.book.specs.Books.{Book}
use Rattle.table.specs.Registers.{Registers}
use Rattle.grants.specs.Regions.{form_of, top_address, a_of}
use Rattle.grants.specs.Owners.{owner_at}
use Rattle.grants.specs.declared.owner.Owner.{Owner}
use Rattle.grants.specs.declared.owner.Owner.TheVariants.{Free, Lower, Upper}

-- The byte of an owner's entry: 0, or for the entry that shows a region the book's byte for its rights with the A field put in.
abbrev pub byte_of : Book → Owner → ℕ
byte_of b Free = 0
byte_of b (Lower t g) = 0
byte_of b (Upper t g) = b.byte_for g.rights + 8 * a_of (form_of g.base g.length)

-- The address register of an owner's entry: 0, a pair's base, or what the form says.
abbrev pub address_of : Owner → ℕ
address_of Free = 0
address_of (Lower t g) = g.base / 4
address_of (Upper t g) = top_address (form_of g.base g.length) g.base g.length

abbrev pub selects : Option ℕ → ℕ → Bool
selects None u = false
selects (Some t) u = u == t

-- The entry belongs to the selected task, lower ones of pairs included.
abbrev pub switched_on : Option ℕ → Owner → Bool
switched_on s Free = false
switched_on s (Lower u g) = selects s u
switched_on s (Upper u g) = selects s u

-- The number whose bit k is p k, for k below n.
unfoldable pub bits_below : (ℕ → Bool) → ℕ → ℕ
bits_below p zero = 0
bits_below p (suc n) = bits_below p n + cond (p n) (2 ^ n) 0

-- Exactly the entries of the selected task are switched on.
abbrev pub switch_bits : List Owner → Option ℕ → ℕ
switch_bits os s = bits_below (λ i. switched_on s (owner_at os i)) 64

-- The registers as owners and selection say.
abbrev pub image : Book → List Owner → Option ℕ → Registers
image b os s = record { config = λ i. byte_of b (owner_at os i); address = λ i. address_of (owner_at os i); switch = switch_bits os s }
