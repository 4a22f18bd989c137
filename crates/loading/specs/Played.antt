-- What it comes to if grants are made one after the other. Assumes nothing.
use Rattle.std.specs.Prelude.{◌≡◌, ℕ, List, [], ◌∷◌, Some, None, Ok, Err, Option, Result}
use Rattle.access.specs.Cases.{Report}
use Rattle.grants.specs.Plans.{PlanTerms, answer_after}
use Rattle.grants.specs.Refusals.{grant_report}
use Rattle.grants.specs.declared.call.PlanCall.{PlanCall}
use Rattle.loading.specs.Grants.{LayoutGrant}
use Rattle.loading.specs.declared.refusal.LoadRefusal.{LoadRefusal}

-- A grant that was refused: the report, the number of its task, and the index of its region.
pub record RefusedGrant : Type 0 where
  pub report : Report
  pub task : ℕ
  pub region : ℕ

-- The calls made, the newest first and a refused one included, and what was refused.
pub record Outcome : Type 0 where
  pub calls : List PlanCall
  pub refusal : Option RefusedGrant

-- What is refused if a grant is answered so.
abbrev pub refused_by : LayoutGrant → Option Report → Option RefusedGrant
refused_by g None = None
refused_by g (Some x) = Some (record { report = x; task = g.task; region = g.region })

-- A refused call is the last; else it goes on.
abbrev pub gone_on : Option RefusedGrant → List PlanCall → Outcome → Outcome
gone_on None cs next = next
gone_on (Some x) cs next = record { calls = cs; refusal = Some x }

-- Grants made after calls, with fields of f bits and the terms of a plan: up to the first that is refused.
unfoldable pub played : ℕ → PlanTerms → List PlanCall → List LayoutGrant → Outcome
played f p cs [] = record { calls = cs; refusal = None }
played f p cs (g ∷ gs) = gone_on (refused_by g (answer_after f p cs g.call)) (g.call ∷ cs) (played f p (g.call ∷ cs) gs)

-- The refusal that an error says.
abbrev pub refused_grant : LoadRefusal → RefusedGrant
refused_grant e = record { report = grant_report e.refusal; task = e.task; region = e.region }

-- The answer says what was refused, and is Ok exactly if nothing was.
abbrev pub Reported : Option RefusedGrant → Result (Unit {0}) LoadRefusal → Type 0
Reported o (Ok _) = o ≡ None
Reported o (Err e) = o ≡ Some (refused_grant e)
