-- The layouts that files can hold, each of which is accepted. Assumes nothing.
use Rattle.std.specs.Prelude.{◌≡◌, ◌^◌, ◌<◌, ◌≤◌, List, [], ◌∷◌, length, None}
use Rattle.layout.specs.Records.{file_tasks, file_regions}
use Rattle.layout.specs.Encoding.{encoded}
use Rattle.layout.specs.Faults.{layout_fault}
use Rattle.layout.specs.Partition.{region_count, Consecutive}
use Rattle.layout.specs.declared.records.TaskRecord.{TaskRecord}
use Rattle.layout.specs.declared.records.RegionRecord.{RegionRecord}

-- Every word of every region has 32 bits.
abbrev pub RegionsFit : List RegionRecord → Type 0
RegionsFit [] = Unit {0}
RegionsFit (r ∷ rs) = (r.base < 2 ^ 32) × (r.length < 2 ^ 32) × (r.rights < 2 ^ 32) × RegionsFit rs

-- At most 16 tasks and 64 regions, which the tasks part among them.
pub record WellFormed (ts : List TaskRecord) (rs : List RegionRecord) : Type 0 where
  pub tasks : length ts ≤ 16
  pub regions : length rs ≤ 64
  pub consecutive : Consecutive ts
  pub shared : region_count ts ≡ length rs
  pub fit : RegionsFit rs

-- The bytes of every such layout have no fault, and hold its tasks and its regions.
abbrev pub Accepts : Type 0
Accepts =
    (ts : List TaskRecord) (rs : List RegionRecord) → WellFormed ts rs
    → (layout_fault (encoded ts rs) ≡ None) × (file_tasks (encoded ts rs) ≡ ts) × (file_regions (encoded ts rs) ≡ rs)
