use Rattle.std.proofs.Common.{sym, subst}
use Rattle.table.specs.Registers.{AllLegal}
use Rattle.table.proofs.table.Table.set_address.Goals as goal

pub invariant_of-self : goal.invariant_of-self
invariant_of-self g c = record { legal = subst (AllLegal g.B.RuleBook.meaning) (sym c.write_address.ensures) c.args.self.now.legal }
