use Rattle.std.proofs.Common.{Some, rules}
use Rattle.table.specs.Tables.{regs}
use Rattle.grants.proofs.Active.{selected_shown}
use Rattle.grants.proofs.resident.ResidentPlan.select.Goals as goal

pub returns-then-task-ge-TASKS-clause-shown : goal.returns-then-task-ge-TASKS-clause-shown
returns-then-task-ge-TASKS-clause-shown g c = selected_shown g.row.F g.B.RuleBook.meaning g.met.B.RuleBook.lawful _ _ _ c.args.self.now.stands

pub returns-clause-shown : goal.returns-clause-shown
returns-clause-shown g c =
    let e = c.switch_on.new.self in
    selected_shown g.row.F g.B.RuleBook.meaning g.met.B.RuleBook.lawful (regs e.table) e.owners.cells (Some c.args.task) (search rules)
