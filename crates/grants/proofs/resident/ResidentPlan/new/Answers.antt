use Rattle.std.proofs.Common.{None, sym, subst, rules}
use Rattle.table.specs.Tables.{regs}
use Rattle.grants.specs.Resolving.{Placed}
use Rattle.grants.proofs.Agreeing.{start_placed}
use Rattle.grants.proofs.Active.{selected_shown}
use Rattle.grants.proofs.resident.ResidentPlan.new.Goals as goal

pub invariant_of-result : goal.invariant_of-result
invariant_of-result g c = record {
  stands = record {
    resident = c.new.ensures.registers;
    placed = subst (Placed g.row.F) (sym c.new.ensures.owners) (start_placed g.row.F);
  };
}

pub returns-clause-shown : goal.returns-clause-shown
returns-clause-shown g c =
    let e = c.new.result in
    selected_shown g.row.F g.B.RuleBook.meaning g.met.B.RuleBook.lawful (regs e.table) e.owners.cells None (search rules)
