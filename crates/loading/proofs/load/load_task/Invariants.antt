use Rattle.std.proofs.Common.{◌+◌, List, drop}
use Rattle.grants.specs.declared.call.PlanCall.{PlanCall}
use Rattle.loading.specs.Grants.{task_grants}
use Rattle.loading.specs.Played.{played}
use Rattle.loading.proofs.Playing.{Reached}
use Rattle.loading.proofs.load.load_task.Given as goal

abbrev pub invariant-loop-i : goal.invariant-loop-i
invariant-loop-i g l =
    (cs : List PlanCall) → g.P.Plan.stands l.initial.plan cs
    → Reached g.row.F g.P.Plan.plan.terms (g.P.Plan.stands l.plan) (played g.row.F g.P.Plan.plan.terms cs (task_grants l.task l.first l.regions))
    (task_grants l.task (l.first + l.i) (drop l.i l.regions))
