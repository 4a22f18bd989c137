use Rattle.std.proofs.Common.{◌≡◌}
use Rattle.table.specs.Tables.{regs}
use Rattle.table.specs.Contexts.{restored_to, words_of}
use Rattle.table.proofs.context.Table+B+32.restore_addresses.Given as goal

abbrev pub invariant-loop-i : goal.invariant-loop-i
invariant-loop-i g l = regs l.self ≡ restored_to g.B.RuleBook.meaning (regs l.initial.self) (words_of l.words) l.i 0
