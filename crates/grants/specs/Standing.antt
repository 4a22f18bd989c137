-- A plan as its calls leave it. Assumes nothing.
use Rattle.std.specs.Prelude.{ℕ, List}
use Rattle.book.specs.declared.book.RuleBook.{Ghosts}
use Rattle.book.specs.Books.{Book}
use Rattle.table.specs.Tables.{regs}
use Rattle.grants.specs.Resolving.{SelectedShown}
use Rattle.grants.specs.declared.owner.Owner.{Owner}
use Rattle.grants.specs.declared.resident.ResidentPlan.{ResidentPlan}

-- The owner of each entry.
abbrev pub owners_of : {B : Type 0} {f : ℕ} {g : Ghosts B} → ResidentPlan B f g → List Owner
owners_of p = p.entries.owners.cells

-- What is active is what the selected task holds.
abbrev pub PlanShown : {B : Type 0} {f : ℕ} {g : Ghosts B} → Book → ResidentPlan B f g → Type 0
PlanShown b p = SelectedShown b (regs p.entries.table) (owners_of p) p.selected
