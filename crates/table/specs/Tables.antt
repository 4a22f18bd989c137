-- The registers of a table. Assumes nothing.
use Rattle.std.specs.Prelude.{ℕ}
use Rattle.book.specs.declared.book.RuleBook.{Ghosts}
use Rattle.table.specs.Registers.{Registers}
use Rattle.table.specs.Entries.{registers_of}
use Rattle.table.specs.declared.entries.PlainTable.{PlainTable}
use Rattle.table.specs.declared.table.Table.{Table}

-- The registers of a plain table.
abbrev pub registers : {f : ℕ} → PlainTable f → Registers
registers t = registers_of t.entries t.switches

-- The registers of a table of a rule book.
abbrev pub regs : {B : Type 0} {f : ℕ} {g : Ghosts B} → Table B f g → Registers
regs t = registers t.plain
