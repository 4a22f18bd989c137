-- How the tasks part the regions among them. Assumes nothing.
use Rattle.std.specs.Prelude.{◌≡◌, ℕ, ◌+◌, ◌<◌, List, [], ◌∷◌, length, take, slice_index_or}
use Rattle.layout.specs.declared.records.TaskRecord.{TaskRecord}

-- The number of the regions of some tasks.
abbrev pub region_count : List TaskRecord → ℕ
region_count [] = 0
region_count (t ∷ ts) = t.count + region_count ts

-- The first region of each task comes after all regions of the tasks before it.
abbrev pub Consecutive : List TaskRecord → Type 0
Consecutive ts = (i : ℕ) (d : TaskRecord) → i < length ts → (slice_index_or ts i d).first ≡ region_count (take i ts)
