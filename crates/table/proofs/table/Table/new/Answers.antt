use Rattle.std.proofs.Common.{sym, subst}
use Rattle.table.specs.Registers.{AllLegal}
use Rattle.table.proofs.Legality.{zeros_legal}
use Rattle.table.proofs.table.Table.new.Goals as goal

pub invariant_of-result : goal.invariant_of-result
invariant_of-result g c =
    let m = g.B.RuleBook.meaning in
    record { legal = subst (AllLegal m) (sym c.zeroed-plain.ensures) (zeros_legal m g.met.B.RuleBook.lawful) }
