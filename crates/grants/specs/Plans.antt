-- What a plan is: its terms and its entries, each from the calls made on it, the newest first. Assumes nothing.
use Rattle.std.specs.Prelude.{◌≡◌, ℕ, ◌<◌, Bool, true, false, cond, List, [], ◌∷◌, Some, None, Option, ◌==◌}
use Rattle.access.specs.Cases.{Report}
use Rattle.book.specs.Books.{Book}
use Rattle.table.specs.Registers.{Registers}
use Rattle.table.specs.Checks.{active}
use Rattle.grants.specs.Regions.{asked}
use Rattle.grants.specs.Refusals.{grant_cases, withdraw_cases, select_cases, unless_refused}
use Rattle.grants.specs.Resolving.{Resolves}
use Rattle.grants.specs.declared.region.Region.{Region}
use Rattle.grants.specs.declared.call.PlanCall.{PlanCall}
use Rattle.grants.specs.declared.call.PlanCall.TheVariants.{Grant, Withdraw, Select}

-- What refusals are decided by: how many tasks there are, and whether a region asked for after some calls would still find a place.
pub record PlanTerms : Type 0 where
  pub tasks : ℕ
  pub room : List PlanCall → ℕ → ℕ → Bool

pub record PlanMeaning : Type 0 where
  pub terms : PlanTerms
  pub entries : List PlanCall → Registers

-- The regions that each task holds.
abbrev pub Holdings : Type 0
Holdings = ℕ → List Region

abbrev pub with_region : Option Region → List Region → List Region
with_region None gs = gs
with_region (Some g) gs = g ∷ gs

-- The regions but those that begin at b.
abbrev pub without : ℕ → List Region → List Region
without b [] = []
without b (g ∷ gs) = cond (g.base == b) (without b gs) (g ∷ without b gs)

-- What an accepted call makes of the holdings: a grant adds its region to the task's, and a withdrawal takes it away.
abbrev pub held_with : PlanCall → Holdings → Holdings
held_with (Grant t b l r) h u = cond (t == u) (with_region (asked b l r) (h u)) (h u)
held_with (Withdraw t b) h u = cond (t == u) (without b (h u)) (h u)
held_with (Select t) h u = h u

abbrev pub selected_with : PlanCall → Option ℕ → Option ℕ
selected_with (Grant t b l r) s = s
selected_with (Withdraw t b) s = s
selected_with (Select t) s = Some t

-- With fields of f bits and the terms of a plan.
module _ (f : ℕ) (p : PlanTerms) where
  -- Why a call is refused, if it is, after these calls and with these holdings.
  abbrev pub answer_with : List PlanCall → Holdings → PlanCall → Option Report
  answer_with cs h (Grant t b l r) = grant_cases f p.tasks (h t) (λ _. p.room cs b l) t b l r
  answer_with cs h (Withdraw t b) = withdraw_cases p.tasks (h t) t b
  answer_with cs h (Select t) = select_cases p.tasks t

  -- What a task holds: each region that was granted it and not yet withdrawn.
  unfoldable pub held_after : List PlanCall → Holdings
  held_after [] u = []
  held_after (c ∷ cs) u = unless_refused (answer_with cs (held_after cs) c) (held_with c (held_after cs) u) (held_after cs u)

  -- Why a call is refused, if it is, after these calls.
  abbrev pub answer_after : List PlanCall → PlanCall → Option Report
  answer_after cs c = answer_with cs (held_after cs) c

  -- The selected task is that of the last accepted selection.
  unfoldable pub selected_after : List PlanCall → Option ℕ
  selected_after [] = None
  selected_after (c ∷ cs) = unless_refused (answer_after cs c) (selected_with c (selected_after cs)) (selected_after cs)

-- While no task is selected no entry is active; from then on the active ones show what the selected task holds, and nothing else.
abbrev pub ShownFor : Book → Registers → Option ℕ → Holdings → Type 0
ShownFor b r None h = (i : ℕ) → i < 64 → active r i ≡ false
ShownFor b r (Some t) h = Resolves b r (h t)

pub record PlanLaws (f : ℕ) (b : Book) (p : PlanMeaning) : Type 0 where
  -- there is a task, and there is room while no task holds a region
  pub some : 0 < p.terms.tasks
  pub roomy : (cs : List PlanCall) (base len : ℕ) → ((u : ℕ) → held_after f p.terms cs u ≡ []) → p.terms.room cs base len ≡ true
  -- after any calls the active entries are those of the selected task's regions
  pub shown : (cs : List PlanCall) → ShownFor b (p.entries cs) (selected_after f p.terms cs) (held_after f p.terms cs)
