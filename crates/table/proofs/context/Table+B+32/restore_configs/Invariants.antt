use Rattle.std.proofs.Common.{◌≡◌, ℕ}
use Rattle.table.specs.Registers.{Registers}
use Rattle.table.specs.Tables.{regs}
use Rattle.table.specs.Contexts.{restored_to, words_of}
use Rattle.table.proofs.context.Table+B+32.restore_configs.Given as goal

abbrev pub invariant-loop-n : goal.invariant-loop-n
invariant-loop-n g l =
    (r : Registers) (k : ℕ) → regs l.initial.self ≡ restored_to g.B.RuleBook.meaning r (words_of l.words) k 0
    → regs l.self ≡ restored_to g.B.RuleBook.meaning r (words_of l.words) k l.n
