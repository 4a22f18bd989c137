use Rattle.std.proofs.Common.{false, rules}
use Rattle.access.specs.Kinds.{kind_of}
use Rattle.memory.specs.Effects.{value_at}
use Rattle.hart.proofs.TaskAnswers.{task_passes, stopped_unselected}
use Rattle.hart.proofs.harts.UserHart.read.Goals as goal

pub returns : goal.returns
returns g c =
    let a = c.args in
    let plan = g.P.Plan in
    let m = g.M.Memory.meaning a.memory.now in
    let k = kind_of a.reading in
    let v = value_at m.byte a.address a.width in
    record {
      answer = search rules;
      passes = λ cs st.
          task_passes g.row.F plan.book plan.plan (plan.lawful a.self.now.plan cs st) cs m false k a.address a.width v
          c.read.result (search rules);
      unselected = λ cs st.
          stopped_unselected g.row.F plan.book plan.plan (plan.lawful a.self.now.plan cs st) cs m false k a.address a.width v
          c.read.result (search rules);
    }
