-- The accesses of a task in user mode. Assumes nothing.
use Rattle.std.specs.Prelude.{◌≡◌, ℕ, true, ◌↔◌, List, Some, None, Ok, Err, Result}
use Rattle.access.specs.Cases.{Report}
use Rattle.access.specs.Formed.{WellFormed}
use Rattle.access.specs.Refusals.{report_of, stopped}
use Rattle.access.specs.declared.access.Kind.{Kind}
use Rattle.access.specs.declared.refusal.Refusal.{Refusal}
use Rattle.memory.specs.Meaning.{MemoryMeaning}
use Rattle.grants.specs.Plans.{PlanMeaning, held_after, selected_after}
use Rattle.grants.specs.Passing.{Covered}
use Rattle.grants.specs.declared.call.PlanCall.{PlanCall}

module _ {X : Type 0} where
  -- The access passed, whatever it gives.
  abbrev pub PassedAny : Result X Refusal → Type 0
  PassedAny (Ok v) = Unit {0}
  PassedAny (Err x) = ⊥

  -- The access was refused with this report.
  abbrev pub RefusedWith : Report → Result X Refusal → Type 0
  RefusedWith y (Ok v) = ⊥
  RefusedWith y (Err x) = report_of x ≡ y

  -- An access of the selected task passes exactly when it is well formed, the memory admits it, and one region that the task holds covers
  -- it with the right for its kind.
  abbrev pub TaskPasses : ℕ → PlanMeaning → List PlanCall → MemoryMeaning → Kind → ℕ → ℕ → Result X Refusal → Type 0
  TaskPasses f p cs m k a w r =
      (t : ℕ) → selected_after f p.terms cs ≡ Some t
      → PassedAny r ↔ (WellFormed f k a w × (m.admits k a w ≡ true) × Covered (held_after f p.terms cs t) k a w)

  -- While no task is selected the table stops every access that is well formed, and no entry decides it: 64 stands for the entry.
  abbrev pub StoppedUnselected : ℕ → PlanMeaning → List PlanCall → Kind → ℕ → ℕ → Result X Refusal → Type 0
  StoppedUnselected f p cs k a w r = selected_after f p.terms cs ≡ None → WellFormed f k a w → RefusedWith (stopped k a 64) r
