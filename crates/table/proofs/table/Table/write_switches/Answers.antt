use Rattle.std.proofs.Common.{sym, subst}
use Rattle.table.specs.Registers.{AllLegal}
use Rattle.table.proofs.table.Table.write_switches.Goals as goal

pub invariant_of-self : goal.invariant_of-self
invariant_of-self g c = record { legal = subst (AllLegal g.B.RuleBook.meaning) (sym c.write_switches.ensures) c.args.self.now.legal }
