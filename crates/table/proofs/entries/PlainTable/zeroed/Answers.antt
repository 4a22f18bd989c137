use Rattle.std.proofs.Common.{sym, subst, pow_pos}
use Rattle.table.specs.Registers.{AddressesBelow}
use Rattle.table.proofs.EntryLists.{kept_zero, registers_zero}
use Rattle.table.proofs.entries.PlainTable.zeroed.Goals as goal

pub invariant_of-result : goal.invariant_of-result
invariant_of-result g c = record { below = subst (AddressesBelow g.row.F) (sym registers_zero) (λ _ _. pow_pos g.row.F); kept = kept_zero }

pub returns : goal.returns
returns g c = registers_zero
