use Rattle.std.proofs.Common.{false, rules}
use Rattle.access.specs.declared.access.Kind.TheVariants.{Store}
use Rattle.hart.proofs.TaskAnswers.{task_passes, stopped_unselected}
use Rattle.hart.proofs.harts.UserHart.store.Goals as goal

pub returns : goal.returns
returns g c =
    let a = c.args in
    let plan = g.P.Plan in
    let m = g.M.Memory.meaning a.memory.now in
    record {
      answer = search rules;
      passes = λ cs st.
          task_passes g.row.F plan.book plan.plan (plan.lawful a.self.now.plan cs st) cs m false Store a.address a.width tt
          c.store.result (search rules);
      unselected = λ cs st.
          stopped_unselected g.row.F plan.book plan.plan (plan.lawful a.self.now.plan cs st) cs m false Store a.address a.width tt
          c.store.result (search rules);
      after = search rules;
      borrows = search rules;
    }
