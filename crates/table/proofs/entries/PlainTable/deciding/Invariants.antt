use Rattle.std.proofs.Common.{ℕ, ◌<◌}
use Rattle.table.specs.Tables.{registers}
use Rattle.table.specs.Checks.{Holds}
use Rattle.table.proofs.entries.PlainTable.deciding.Given as goal

abbrev pub invariant-loop-i : goal.invariant-loop-i
invariant-loop-i g l = (k : ℕ) → k < l.i → Holds (registers l.self) k l.span.address l.span.width → ⊥
