-- The grants of a layout, in the order of its file. Assumes nothing.
use Rattle.std.specs.Prelude.{ℕ, ◌+◌, ◌*◌, List, [], ◌∷◌, ◌++◌, take, drop}
use Rattle.grants.specs.declared.call.PlanCall.{PlanCall}
use Rattle.grants.specs.declared.call.PlanCall.TheVariants.{Grant}
use Rattle.layout.specs.declared.records.TaskRecord.{TaskRecord}
use Rattle.layout.specs.declared.records.RegionRecord.{RegionRecord}

-- A grant: the number of its task, the index of its region in the file, and the call that it is.
pub record LayoutGrant : Type 0 where
  pub task : ℕ
  pub region : ℕ
  pub call : PlanCall

-- The grant of region i to a task; the file counts in units of four bytes.
abbrev pub grant_of : ℕ → ℕ → RegionRecord → LayoutGrant
grant_of t i g = record { task = t; region = i; call = Grant t (4 * g.base) (4 * g.length) g.rights }

-- The grants of regions to a task, the first of which is region i.
unfoldable pub task_grants : ℕ → ℕ → List RegionRecord → List LayoutGrant
task_grants t i [] = []
task_grants t i (g ∷ gs) = grant_of t i g ∷ task_grants t (i + 1) gs

-- The grants of tasks, the first of which is task t: to each as many regions as it counts, from its first on.
unfoldable pub grants_from : ℕ → List TaskRecord → List RegionRecord → List LayoutGrant
grants_from t [] gs = []
grants_from t (k ∷ ks) gs = task_grants t k.first (take k.count (drop k.first gs)) ++ grants_from (t + 1) ks gs

-- The grants of a layout's tasks and regions.
abbrev pub grants_of : List TaskRecord → List RegionRecord → List LayoutGrant
grants_of ks gs = grants_from 0 ks gs
