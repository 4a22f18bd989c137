-- The records of a layout file, read from its bytes. Assumes nothing.
use Rattle.std.specs.Prelude.{ℕ, ◌+◌, ◌*◌, ◌/◌, List, length, map, take, drop}
use Rattle.std.specs.Simd.{first_chunks}
use Rattle.layout.specs.Words.{word}
use Rattle.layout.specs.declared.header.Header.{Header}
use Rattle.layout.specs.declared.records.TaskRecord.{TaskRecord}
use Rattle.layout.specs.declared.records.RegionRecord.{RegionRecord}

-- A header: the numbers of tasks and of regions, and where the records of each begin.
abbrev pub header_at : List ℕ → Header
header_at b = record { tasks = word b 0; regions = word b 4; task_offset = word b 8; region_offset = word b 12 }

-- A task record: the index of its first region, and the number of its regions.
abbrev pub task_at : List ℕ → TaskRecord
task_at b = record { first = word b 0; count = word b 4 }

-- A region record: base and length in units of four bytes, and rights.
abbrev pub region_at : List ℕ → RegionRecord
region_at b = record { base = word b 0; length = word b 4; rights = word b 8 }

-- The fourth word of a region record.
abbrev pub fourth_at : List ℕ → ℕ
fourth_at b = word b 12

-- The records of k bytes that some bytes hold whole, one after the other.
abbrev pub records : ℕ → List ℕ → List (List ℕ)
records k b = first_chunks k (length b / k) b

-- All the task records of some bytes, all the region records, and the fourth words of these.
abbrev pub tasks_of : List ℕ → List TaskRecord
tasks_of b = map task_at (records 8 b)

abbrev pub regions_of : List ℕ → List RegionRecord
regions_of b = map region_at (records 16 b)

abbrev pub fourths_of : List ℕ → List ℕ
fourths_of b = map fourth_at (records 16 b)

-- The bytes of a file that hold its task records: 8 for each, after the header of 16.
abbrev pub task_part : List ℕ → List ℕ
task_part f = take (8 * word f 0) (drop 16 f)

-- The bytes after them, which hold its region records.
abbrev pub region_part : List ℕ → List ℕ
region_part f = drop (16 + 8 * word f 0) f

-- The tasks and the regions of a file.
abbrev pub file_tasks : List ℕ → List TaskRecord
file_tasks f = tasks_of (task_part f)

abbrev pub file_regions : List ℕ → List RegionRecord
file_regions f = regions_of (region_part f)
