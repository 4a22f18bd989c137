-- Which task accesses a table passes above any plan. Assumes nothing.
use Rattle.std.specs.Prelude.{◌≡◌, ℕ, ◌+◌, ◌≤◌, Bool, true, ◌↔◌, List, Some, Ok, Err, Result}
use Rattle.access.specs.Formed.{WellFormed}
use Rattle.access.specs.Rights.{allows, perms_of}
use Rattle.access.specs.declared.access.Kind.{Kind}
use Rattle.access.specs.declared.access.Mode.TheVariants.{User}
use Rattle.access.specs.declared.refusal.Refusal.{Refusal}
use Rattle.book.specs.Books.{Book, Laws}
use Rattle.table.specs.Checks.{Checked}
use Rattle.grants.specs.Resolving.{In}
use Rattle.grants.specs.Plans.{PlanMeaning, PlanLaws, held_after, selected_after}
use Rattle.grants.specs.declared.region.Region.{Region}
use Rattle.grants.specs.declared.call.PlanCall.{PlanCall}

-- One region covers every byte of an access with the right for its kind.
pub record Covered (gs : List Region) (k : Kind) (a w : ℕ) : Type 0 where
  pub region : Region
  pub held : In region gs
  pub from : region.base ≤ a
  pub to : a + w ≤ region.base + region.length
  pub right : allows (perms_of region.rights) k ≡ true

abbrev pub Passed : Result ℕ Refusal → Type 0
Passed (Ok e) = Unit {0}
Passed (Err e) = ⊥

-- An access of the selected task passes exactly when it is well formed and one region that the task holds covers it.
abbrev pub PassesTask : ℕ → PlanMeaning → List PlanCall → Kind → ℕ → ℕ → Result ℕ Refusal → Type 0
PassesTask f p cs k a w x =
    (t : ℕ) → selected_after f p.terms cs ≡ Some t
    → Passed x ↔ (WellFormed f k a w × Covered (held_after f p.terms cs t) k a w)

-- That is so above any plan of any book.
abbrev pub TaskAccesses : ℕ → Type 0
TaskAccesses f =
    (b : Book) → Laws b → (p : PlanMeaning) → PlanLaws f b p → (cs : List PlanCall) (sum : Bool) (k : Kind) (a w : ℕ) (x : Result ℕ Refusal)
    → Checked f b (p.entries cs) User sum k a w x → PassesTask f p cs k a w x
