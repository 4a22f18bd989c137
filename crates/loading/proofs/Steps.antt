-- A turn of a loop over a layout's grants.
use Rattle.std.proofs.Common.{◌≡◌, ℕ, ◌+◌, ◌<◌, ◌≤◌, List, ◌∷◌, length, get_or, drop, None, Option, ap, ◌∙◌}
use Rattle.grants.specs.Plans.{PlanTerms}
use Rattle.grants.specs.declared.call.PlanCall.{PlanCall}
use Rattle.layout.specs.declared.records.TaskRecord.{TaskRecord}
use Rattle.layout.specs.declared.records.RegionRecord.{RegionRecord}
use Rattle.loading.specs.Grants.{LayoutGrant, grant_of, task_grants, grants_from}
use Rattle.loading.specs.Played.{Outcome, RefusedGrant, gone_on, played}
use Rattle.loading.proofs.Playing.{refused_at, played_none, played_by, append_by}
use Rattle.loading.proofs.Parts.{grants_at, task_more, task_all, tasks_more, tasks_all}

module _ (f : ℕ) (p : PlanTerms) (cs : List PlanCall) where
  module _ (t i k : ℕ) (d : RegionRecord) (gs : List RegionRecord) (h : k < length gs) where
    abbrev here : LayoutGrant
    here = grant_of t (i + k) (get_or gs k d)

    pub task_step : (o : Option RefusedGrant) → refused_at f p cs here ≡ o
        → played f p cs (task_grants t (i + k) (drop k gs)) ≡ gone_on o (here.call ∷ cs) (played f p (here.call ∷ cs) (task_grants t (i + (k + 1)) (drop (k + 1) gs)))
    task_step o e = ap (λ (x : List LayoutGrant). played f p cs x) (task_more t i k d gs h) ∙ played_by f p cs here _ o e

  pub task_end : (t i k : ℕ) (gs : List RegionRecord) → length gs ≤ k → played f p cs (task_grants t i (drop k gs)) ≡ record { calls = cs; refusal = None }
  task_end t i k gs h = ap (λ (x : List LayoutGrant). played f p cs x) (task_all t i k gs h) ∙ played_none f p cs

  module _ (t : ℕ) (d : TaskRecord) (ks : List TaskRecord) (gs : List RegionRecord) (n : ℕ) (h : t < length ks) (m : n ≡ (get_or ks t d).count) where
    abbrev of_task : Outcome
    of_task = played f p cs (grants_at t (get_or ks t d) n gs)

    pub tasks_step : (o : Option RefusedGrant) → of_task.refusal ≡ o
        → played f p cs (grants_from t (drop t ks) gs) ≡ gone_on o of_task.calls (played f p of_task.calls (grants_from (t + 1) (drop (t + 1) ks) gs))
    tasks_step o e = ap (λ (x : List LayoutGrant). played f p cs x) (tasks_more t d ks gs n h m) ∙ append_by f p cs (grants_at t (get_or ks t d) n gs) _ o e

  pub tasks_end : (t : ℕ) (ks : List TaskRecord) (gs : List RegionRecord) → length ks ≤ t → played f p cs (grants_from t (drop t ks) gs) ≡ record { calls = cs; refusal = None }
  tasks_end t ks gs h = ap (λ (x : List LayoutGrant). played f p cs x) (tasks_all t ks gs h) ∙ played_none f p cs
