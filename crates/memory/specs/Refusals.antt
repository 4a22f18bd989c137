-- The refusal of a memory by its number. Assumes nothing.
use Rattle.std.specs.Prelude.{[]}
use Rattle.access.specs.Cases.{Report, refused}
use Rattle.memory.specs.declared.not_admitted.NotAdmitted.{NotAdmitted}

-- An access that the memory does not admit: the number is all that the memory tells.
abbrev pub not_admitted_report : NotAdmitted → Report
not_admitted_report e = refused 52 []
