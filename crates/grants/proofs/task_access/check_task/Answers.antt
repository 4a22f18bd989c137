use Rattle.grants.proofs.Passing.{task_accesses}
use Rattle.grants.proofs.task_access.check_task.Goals as goal

pub returns : goal.returns
returns g c =
    let a = c.args in
    record {
      passes = λ cs st.
          let laws = g.P.Plan.lawful a.plan.now cs st in
          task_accesses g.row.F g.P.Plan.book laws.0 g.P.Plan.plan laws.1 cs a.sum a.kind a.address a.width
          c.check.result (c.check.ensures cs st);
      everywhere = task_accesses g.row.F;
    }
