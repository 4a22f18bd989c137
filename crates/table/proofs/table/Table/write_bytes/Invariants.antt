use Rattle.std.proofs.Common.{◌≡◌}
use Rattle.table.specs.Tables.{regs}
use Rattle.table.specs.RegisterCalls.{bytes_written}
use Rattle.table.proofs.table.Table.write_bytes.Given as goal

abbrev pub invariant-loop-k : goal.invariant-loop-k
invariant-loop-k g l = regs l.self ≡ bytes_written g.B.RuleBook.meaning (regs l.initial.self) l.start l.word l.k
