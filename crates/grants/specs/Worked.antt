-- Worked cases of RV32. Assumes nothing.
use Rattle.std.specs.Prelude.{◌≡◌, ℕ, ◌-◌, ◌^◌, true, List, [], ◌∷◌, Some, None}
use Rattle.access.specs.Cases.{refused}
use Rattle.book.specs.SpmpBook.{spmp_book}
use Rattle.grants.specs.Owners.{owner_at}
use Rattle.grants.specs.Images.{byte_of, address_of, switch_bits}
use Rattle.grants.specs.Refusals.{grant_cases}
use Rattle.grants.specs.ResidentMeaning.{owners_after}
use Rattle.grants.specs.declared.owner.Owner.TheVariants.{Free}
use Rattle.grants.specs.declared.call.PlanCall.{PlanCall}
use Rattle.grants.specs.declared.call.PlanCall.TheVariants.{Grant}

-- With nothing held and room for any form: a region from 4 that ends 4 bytes below the limit is granted, and one that ends at the limit gets 25.
pub record WorkedGrants : Type 0 where
  pub granted : grant_cases 32 16 [] (λ _. true) 0 4 (2 ^ 34 - 8) 1 ≡ None
  pub at_limit : grant_cases 32 16 [] (λ _. true) 0 4 (2 ^ 34 - 4) 1 ≡ Some (refused 25 [])

-- Two regions of task 0 and one of task 1, the newest first.
abbrev pub layout : List PlanCall
layout = Grant 1 0x10000000 4 1 ∷ Grant 0 0x80001000 0x1800 3 ∷ Grant 0 0x80000000 0x1000 5 ∷ []

-- Byte and address of entry i after these grants.
abbrev pub entry_after : ℕ → ℕ × ℕ
entry_after i = (byte_of spmp_book (owner_at (owners_after 32 layout) i), address_of (owner_at (owners_after 32 layout) i))

-- The entries of the layout, and the switch bits that a selection of each task sets.
pub record WorkedLayout : Type 0 where
  pub entry0 : entry_after 0 ≡ (0x1d, 0x200001ff)
  pub entry1 : entry_after 1 ≡ (0x00, 0x20000400)
  pub entry2 : entry_after 2 ≡ (0x0b, 0x20000a00)
  pub entry3 : entry_after 3 ≡ (0x11, 0x04000000)
  pub free4 : owner_at (owners_after 32 layout) 4 ≡ Free
  pub switches0 : switch_bits (owners_after 32 layout) (Some 0) ≡ 7
  pub switches1 : switch_bits (owners_after 32 layout) (Some 1) ≡ 8
