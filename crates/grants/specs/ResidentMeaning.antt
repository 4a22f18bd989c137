-- What the plan whose regions stay in their entries is as a plan. Assumes nothing.
use Rattle.std.specs.Prelude.{◌≡◌, ℕ, List, [], ◌∷◌, replicate, None, Option}
use Rattle.book.specs.declared.book.RuleBook.{Ghosts}
use Rattle.book.specs.Books.{Book, Laws}
use Rattle.grants.specs.Regions.{form_of}
use Rattle.grants.specs.Images.{image}
use Rattle.grants.specs.Residence.{has_room, after_grant, after_withdraw, after_select}
use Rattle.grants.specs.Plans.{PlanTerms, PlanMeaning, PlanLaws}
use Rattle.grants.specs.Standing.{owners_of}
use Rattle.grants.specs.declared.owner.Owner.{Owner}
use Rattle.grants.specs.declared.owner.Owner.TheVariants.{Free}
use Rattle.grants.specs.declared.resident.ResidentPlan.{ResidentPlan}
use Rattle.grants.specs.declared.call.PlanCall.{PlanCall}
use Rattle.grants.specs.declared.call.PlanCall.TheVariants.{Grant, Withdraw, Select}

abbrev pub owners_with : ℕ → PlanCall → List Owner → List Owner
owners_with f (Grant t b l r) os = after_grant f os t b l r
owners_with f (Withdraw t b) os = after_withdraw os t b
owners_with f (Select t) os = os

-- The owners after calls, the newest first, on a plan without regions.
unfoldable pub owners_after : ℕ → List PlanCall → List Owner
owners_after f [] = replicate 64 Free
owners_after f (c ∷ cs) = owners_with f c (owners_after f cs)

abbrev pub selection_with : PlanCall → Option ℕ → Option ℕ
selection_with (Grant t b l r) s = s
selection_with (Withdraw t b) s = s
selection_with (Select t) s = after_select s t

-- The selection after calls.
unfoldable pub selection_after : List PlanCall → Option ℕ
selection_after [] = None
selection_after (c ∷ cs) = selection_with c (selection_after cs)

-- Sixteen tasks, and room where entries are free.
abbrev pub resident_terms : ℕ → PlanTerms
resident_terms f = record { tasks = 16; room = λ cs base len. has_room (owners_after f cs) (form_of base len) }

abbrev pub resident_plan : ℕ → Book → PlanMeaning
resident_plan f b = record { terms = resident_terms f; entries = λ cs. image b (owners_after f cs) (selection_after cs) }

-- The plan is as these calls leave it, and the laws of its book and of a plan hold.
pub record ResidentStands {B : Type 0} {f : ℕ} {g : Ghosts B} (b : Book) (p : ResidentPlan B f g) (cs : List PlanCall) : Type 0 where
  pub book_laws : Laws b
  pub plan_laws : PlanLaws f b (resident_plan f b)
  pub owners : owners_of p ≡ owners_after f cs
  pub selection : p.selected ≡ selection_after cs
