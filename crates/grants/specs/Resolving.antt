-- What active entries show, and owners for which they show it. Assumes nothing.
use Rattle.std.specs.Prelude.{◌≡◌, ℕ, suc, ◌+◌, ◌<◌, Bool, true, false, ◌⊎◌, List, [], ◌∷◌, length, Some, None, Option, ◌≢◌}
use Rattle.access.specs.Rights.{allows, perms_of}
use Rattle.access.specs.declared.access.Kind.{Kind}
use Rattle.access.specs.declared.access.Mode.TheVariants.{User}
use Rattle.book.specs.Books.{Book}
use Rattle.table.specs.Registers.{Registers, bounds_at}
use Rattle.table.specs.Checks.{active}
use Rattle.grants.specs.Regions.{form_of, overlapping}
use Rattle.grants.specs.Owners.{owner_at, held}
use Rattle.grants.specs.Images.{switch_bits}
use Rattle.grants.specs.Residence.{Placeable, Resident, after_grant, after_withdraw}
use Rattle.grants.specs.declared.region.Region.{Region}
use Rattle.grants.specs.declared.region.Form.TheVariants.{Pair}
use Rattle.grants.specs.declared.owner.Owner.{Owner}
use Rattle.grants.specs.declared.owner.Owner.TheVariants.{Lower, Upper}

-- The region is one of the list.
abbrev pub In : Region → List Region → Type 0
In g [] = ⊥
In g (k ∷ gs) = (g ≡ k) ⊎ In g gs

-- Entry i resolves to the region, and gives user mode exactly its rights.
pub record Shows (b : Book) (r : Registers) (i : ℕ) (g : Region) : Type 0 where
  pub bounds : bounds_at r i ≡ (g.base, g.base + g.length)
  pub rights : (sum : Bool) (k : Kind) → b.permits (r.config i) User sum k ≡ allows (perms_of g.rights) k

-- Every active entry shows one of these regions, and each of these is shown by one.
pub record Resolves (b : Book) (r : Registers) (gs : List Region) : Type 0 where
  pub only : (i : ℕ) → i < 64 → active r i ≡ true → (g : Region) × In g gs × Shows b r i g
  pub all : (g : Region) → In g gs → (i : ℕ) × (i < 64) × (active r i ≡ true) × Shows b r i g

-- The same of the owners of entries: nothing is active without a selection, and then just what the owners say of the selected task.
abbrev pub SelectedShown : Book → Registers → List Owner → Option ℕ → Type 0
SelectedShown b r os None = (i : ℕ) → i < 64 → active r i ≡ false
SelectedShown b r os (Some t) = Resolves b r (held os t)

-- An entry that shows a region can show it, and that of a pair has its lower one below.
abbrev pub Uppers : ℕ → List Owner → Type 0
Uppers f os =
    (i t : ℕ) (g : Region) → owner_at os i ≡ Upper t g
    → Placeable f g × (form_of g.base g.length ≡ Pair → (j : ℕ) × (i ≡ suc j) × (owner_at os j ≡ Lower t g))

-- Owners that make sense: pairs are whole, and the regions of one task lie apart.
pub record Placed (f : ℕ) (os : List Owner) : Type 0 where
  pub sized : length os ≡ 64
  pub uppers : Uppers f os
  pub lowers : (i t : ℕ) (g : Region) → owner_at os i ≡ Lower t g → (owner_at os (suc i) ≡ Upper t g) × (form_of g.base g.length ≡ Pair)
  pub apart : (i j t : ℕ) (g k : Region) → owner_at os i ≡ Upper t g → owner_at os j ≡ Upper t k → (i ≢ j) → overlapping g k.base k.length ≡ false

-- The registers are those of owners that make sense, and of the selection.
pub record Standing (f : ℕ) (b : Book) (r : Registers) (os : List Owner) (s : Option ℕ) : Type 0 where
  pub resident : Resident b r os s
  pub placed : Placed f os

-- The switch bits of a task are the same after a call for another task t.
pub record Untouched (f : ℕ) (os : List Owner) (u t : ℕ) : Type 0 where
  pub grants : (b l r : ℕ) → switch_bits (after_grant f os t b l r) (Some u) ≡ switch_bits os (Some u)
  pub withdrawals : (b : ℕ) → switch_bits (after_withdraw os t b) (Some u) ≡ switch_bits os (Some u)

-- That is so of owners that make sense.
abbrev pub OthersUntouched : ℕ → Type 0
OthersUntouched f = (os : List Owner) (u t : ℕ) → Placed f os → (t ≢ u) → Untouched f os u t
