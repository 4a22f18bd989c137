use Rattle.std.proofs.Common.{List, drop}
use Rattle.grants.specs.declared.call.PlanCall.{PlanCall}
use Rattle.loading.specs.Grants.{grants_from, grants_of}
use Rattle.loading.specs.Played.{played}
use Rattle.loading.proofs.Playing.{Reached}
use Rattle.loading.proofs.load.load_tasks.Given as goal

abbrev pub invariant-loop-task : goal.invariant-loop-task
invariant-loop-task g l =
    (cs : List PlanCall) → g.P.Plan.stands l.initial.plan cs
    → Reached g.row.F g.P.Plan.plan.terms (g.P.Plan.stands l.plan) (played g.row.F g.P.Plan.plan.terms cs (grants_of l.tasks l.regions))
    (grants_from l.task (drop l.task l.tasks) l.regions)
