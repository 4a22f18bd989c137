-- What the answer to an access says of the selected task, and of no task. Assumes nothing.
use Rattle.std.proofs.Common.{ℕ, Bool, List, Ok, Err, Result, inl, inr}
use Rattle.std.proofs.lemmas.Bool.{both_ways}
use Rattle.access.specs.declared.access.Kind.{Kind}
use Rattle.access.specs.declared.access.Mode.TheVariants.{User}
use Rattle.access.specs.declared.refusal.Refusal.{Refusal}
use Rattle.book.specs.Books.{Book, Laws}
use Rattle.memory.specs.Meaning.{MemoryMeaning}
use Rattle.grants.specs.Plans.{PlanMeaning, PlanLaws}
use Rattle.grants.specs.declared.call.PlanCall.{PlanCall}
use Rattle.grants.proofs.Passing.{task_accesses}
use Rattle.hart.specs.Accesses.{AccessAnswer}
use Rattle.hart.specs.Tasks.{TaskPasses, StoppedUnselected}
use Rattle.hart.proofs.Unselected.{unselected_passes, unselected_stops}

module _ (f : ℕ) (b : Book) (p : PlanMeaning) (laws : Laws b × PlanLaws f b p) (cs : List PlanCall) (m : MemoryMeaning) (sum : Bool) (k : Kind) (a w : ℕ) {X : Type 0} (v : X) where
  pub task_passes : (r : Result X Refusal) → AccessAnswer f b (p.entries cs) m User sum k a w v r → TaskPasses f p cs m k a w r
  task_passes (Ok u) c t q =
      (λ _. let z = (task_accesses f b laws.0 p laws.1 cs sum k a w (Ok c.0.entry) c.0.checked t q).0 tt in (z.0, c.0.admitted, z.1), λ _. tt)
  task_passes (Err x) (inl c) t q = (λ z. absurd z, λ z. (task_accesses f b laws.0 p laws.1 cs sum k a w (Err x) c t q).1 (z.0, z.2))
  task_passes (Err x) (inr c) t q = (λ z. absurd z, λ z. both_ways (m.admits k a w) c.declined z.1)

  pub stopped_unselected : (r : Result X Refusal) → AccessAnswer f b (p.entries cs) m User sum k a w v r → StoppedUnselected f p cs k a w r
  stopped_unselected (Ok u) c q z = unselected_passes f b laws.0 p laws.1 cs q sum k a w c.0.entry c.0.checked
  stopped_unselected (Err x) (inl c) q z = unselected_stops f b laws.0 p laws.1 cs q sum k a w x z c
  stopped_unselected (Err x) (inr c) q z = absurd (unselected_passes f b laws.0 p laws.1 cs q sum k a w c.entry c.checked)
