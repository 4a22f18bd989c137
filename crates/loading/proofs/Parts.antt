-- What is left of a layout's grants within a loop.
use Rattle.std.proofs.Common.{◌≡◌, ℕ, zero, suc, ◌+◌, ◌<◌, ◌≤◌, List, [], ◌∷◌, ◌++◌, length, get_or, take, drop, sym, refl, ap, ◌∙◌, add_assoc, arith}
use Rattle.std.proofs.lemmas.List.{drop_more, drop_all}
use Rattle.layout.specs.Partition.{Consecutive, region_count}
use Rattle.layout.specs.declared.records.TaskRecord.{TaskRecord}
use Rattle.layout.specs.declared.records.RegionRecord.{RegionRecord}
use Rattle.loading.specs.Grants.{LayoutGrant, grant_of, task_grants, grants_from}

task_cons : (t i : ℕ) (g : RegionRecord) (gs : List RegionRecord) → task_grants t i (g ∷ gs) ≡ grant_of t i g ∷ task_grants t (i + 1) gs
unfolding task_grants
task_cons t i g gs = refl

pub task_more : (t i k : ℕ) (d : RegionRecord) (gs : List RegionRecord) → k < length gs
    → task_grants t (i + k) (drop k gs) ≡ grant_of t (i + k) (get_or gs k d) ∷ task_grants t (i + (k + 1)) (drop (k + 1) gs)
task_more t i k d gs h =
    ap (λ (x : List RegionRecord). task_grants t (i + k) x) (drop_more gs k d h)
    ∙ task_cons t (i + k) (get_or gs k d) (drop (k + 1) gs)
    ∙ ap (λ (n : ℕ). grant_of t (i + k) (get_or gs k d) ∷ task_grants t n (drop (k + 1) gs)) (add_assoc i k 1)

pub task_all : (t i k : ℕ) (gs : List RegionRecord) → length gs ≤ k → task_grants t i (drop k gs) ≡ []
unfolding task_grants
task_all t i k gs h = ap (λ (x : List RegionRecord). task_grants t i x) (drop_all k gs h)

tasks_cons : (t : ℕ) (k : TaskRecord) (ks : List TaskRecord) (gs : List RegionRecord)
    → grants_from t (k ∷ ks) gs ≡ task_grants t k.first (take k.count (drop k.first gs)) ++ grants_from (t + 1) ks gs
unfolding grants_from
tasks_cons t k ks gs = refl

-- The grants of n regions of a task.
abbrev pub grants_at : ℕ → TaskRecord → ℕ → List RegionRecord → List LayoutGrant
grants_at t k n gs = task_grants t k.first (take n (drop k.first gs))

pub tasks_more : (t : ℕ) (d : TaskRecord) (ks : List TaskRecord) (gs : List RegionRecord) (n : ℕ) → t < length ks → n ≡ (get_or ks t d).count
    → grants_from t (drop t ks) gs ≡ grants_at t (get_or ks t d) n gs ++ grants_from (t + 1) (drop (t + 1) ks) gs
tasks_more t d ks gs n h e =
    ap (λ (x : List TaskRecord). grants_from t x gs) (drop_more ks t d h)
    ∙ tasks_cons t (get_or ks t d) (drop (t + 1) ks) gs
    ∙ ap (λ (m : ℕ). grants_at t (get_or ks t d) m gs ++ grants_from (t + 1) (drop (t + 1) ks) gs) (sym e)

pub tasks_all : (t : ℕ) (ks : List TaskRecord) (gs : List RegionRecord) → length ks ≤ t → grants_from t (drop t ks) gs ≡ []
unfolding grants_from
tasks_all t ks gs h = ap (λ (x : List TaskRecord). grants_from t x gs) (drop_all t ks h)

counted : (ts : List TaskRecord) (i : ℕ) (d : TaskRecord) → i < length ts → region_count (take i ts) + (get_or ts i d).count ≤ region_count ts
counted [] i d h = absurd (omega arith)
counted (t ∷ ts) zero d h = omega arith
counted (t ∷ ts) (suc i) d h = omega (arith, counted ts i d (omega arith))

-- The regions of a task are among those of all.
pub within : (ts : List TaskRecord) (i : ℕ) (d : TaskRecord) → Consecutive ts → i < length ts → (get_or ts i d).first + (get_or ts i d).count ≤ region_count ts
within ts i d c h = omega (arith, c i d h, counted ts i d h)
