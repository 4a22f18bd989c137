-- The memory after an access of a run. Assumes nothing.
use Rattle.std.specs.Prelude.{cond, ◌&&◌}
use Rattle.memory.specs.Meaning.{MemoryMeaning}
use Rattle.history.specs.Accesses.{stores_at, stored_byte}
use Rattle.history.specs.Answers.{passed}
use Rattle.history.specs.declared.call.Access.{Access}
use Rattle.history.specs.declared.call.Answer.{Answer}

-- The memory after an access with its answer: a passed store has put its bytes.
abbrev pub memory_with : MemoryMeaning → Access → Answer → MemoryMeaning
memory_with m x r = record { size = m.size; byte = λ k. cond (passed r && stores_at x k) (stored_byte x k) (m.byte k); admits = m.admits }
