-- The bytes of a layout. Assumes nothing.
use Rattle.std.specs.Prelude.{ℕ, ◌+◌, ◌*◌, List, ◌++◌, length}
use Rattle.std.specs.List.{flat_map}
use Rattle.layout.specs.Words.{word_bytes}
use Rattle.layout.specs.declared.records.TaskRecord.{TaskRecord}
use Rattle.layout.specs.declared.records.RegionRecord.{RegionRecord}

-- A task record.
abbrev pub task_bytes : TaskRecord → List ℕ
task_bytes t = word_bytes t.first ++ word_bytes t.count

-- A region record with its fourth word.
abbrev pub region_words : RegionRecord → ℕ → List ℕ
region_words r fourth = word_bytes r.base ++ (word_bytes r.length ++ (word_bytes r.rights ++ word_bytes fourth))

-- A region record, whose fourth word is zero.
abbrev pub region_bytes : RegionRecord → List ℕ
region_bytes r = region_words r 0

-- The header of t tasks and n regions: the counts, and where the records of each begin.
abbrev pub header_bytes : ℕ → ℕ → List ℕ
header_bytes t n = word_bytes t ++ (word_bytes n ++ (word_bytes 16 ++ word_bytes (16 + 8 * t)))

-- A whole file: the header, the task records, the region records.
abbrev pub encoded : List TaskRecord → List RegionRecord → List ℕ
encoded ts rs = header_bytes (length ts) (length rs) ++ (flat_map task_bytes ts ++ flat_map region_bytes rs)
