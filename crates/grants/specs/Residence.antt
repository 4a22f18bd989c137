-- A plan whose regions stay in their entries: what its calls answer, and what they leave. Assumes nothing.
use Rattle.std.specs.Prelude.{◌≡◌, ℕ, Bool, true, false, List, Some, None, Option, is_some}
use Rattle.access.specs.Cases.{Report}
use Rattle.book.specs.Books.{Book}
use Rattle.table.specs.Registers.{Registers}
use Rattle.grants.specs.Regions.{fitting, form_of, asked}
use Rattle.grants.specs.Owners.{owner_at, held, room_for, found_at, occupied, vacated}
use Rattle.grants.specs.Images.{byte_of, address_of, image}
use Rattle.grants.specs.Refusals.{formless, grant_cases, withdraw_cases, select_cases, unless_refused}
use Rattle.grants.specs.declared.region.Region.{Region}
use Rattle.grants.specs.declared.region.Form.{Form}
use Rattle.grants.specs.declared.owner.Owner.{Owner}
use Rattle.grants.specs.declared.owner.Owner.TheVariants.{Free, Lower, Upper}

-- A region that entries with fields of f bits can show.
abbrev pub Placeable : ℕ → Region → Type 0
Placeable f g = (fitting f g.base g.length ≡ true) × (formless f g.base g.length ≡ false)

abbrev pub OwnerFits : ℕ → Owner → Type 0
OwnerFits f Free = Unit {0}
OwnerFits f (Lower t g) = Placeable f g
OwnerFits f (Upper t g) = Placeable f g

-- Bytes and addresses are those of the owners, whatever is switched on.
pub record EntriesShow (b : Book) (r : Registers) (os : List Owner) : Type 0 where
  pub configs : r.config ≡ (λ i. byte_of b (owner_at os i))
  pub addresses : r.address ≡ (λ i. address_of (owner_at os i))

-- The registers are exactly those of the owners and the selection.
abbrev pub Resident : Book → Registers → List Owner → Option ℕ → Type 0
Resident b r os s = r ≡ image b os s

abbrev pub has_room : List Owner → Form → Bool
has_room os form = is_some (room_for os form)

-- Why a grant is refused, if it is; there are sixteen tasks.
abbrev pub grant_answer : ℕ → List Owner → ℕ → ℕ → ℕ → ℕ → Option Report
grant_answer f os t b l r = grant_cases f 16 (held os t) (has_room os) t b l r

abbrev pub occupied_at : List Owner → ℕ → Option Region → Option ℕ → List Owner
occupied_at os t None o = os
occupied_at os t (Some g) None = os
occupied_at os t (Some g) (Some i) = occupied os (form_of g.base g.length) t g i

-- The owners after a grant: the region takes the lowest room for it.
abbrev pub after_grant : ℕ → List Owner → ℕ → ℕ → ℕ → ℕ → List Owner
after_grant f os t b l r = unless_refused (grant_answer f os t b l r) (occupied_at os t (asked b l r) (room_for os (form_of b l))) os

abbrev pub withdraw_answer : List Owner → ℕ → ℕ → Option Report
withdraw_answer os t b = withdraw_cases 16 (held os t) t b

abbrev pub vacated_at : List Owner → Option ℕ → List Owner
vacated_at os None = os
vacated_at os (Some i) = vacated os i

-- The owners after a withdrawal: the entries of the region are free.
abbrev pub after_withdraw : List Owner → ℕ → ℕ → List Owner
after_withdraw os t b = unless_refused (withdraw_answer os t b) (vacated_at os (found_at os t b)) os

abbrev pub select_answer : ℕ → Option Report
select_answer t = select_cases 16 t

-- The selection after a call that selects a task.
abbrev pub after_select : Option ℕ → ℕ → Option ℕ
after_select s t = unless_refused (select_answer t) (Some t) s
