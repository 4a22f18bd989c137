-- What a history of calls and answers shows. The newest event comes first. Assumes nothing.
use Rattle.std.specs.Prelude.{◌≡◌, ℕ, ◌+◌, ◌<◌, ◌≤◌, Bool, true, false, cond, ◌&&◌, ◌⊎◌, List, [], ◌∷◌, Some, None, Option, ◌==◌}
use Rattle.access.specs.Rights.{allows, perms_of}
use Rattle.access.specs.declared.access.Kind.{Kind}
use Rattle.grants.specs.Regions.{asked}
use Rattle.grants.specs.declared.region.Region.{Region}
use Rattle.grants.specs.declared.call.PlanCall.{PlanCall}
use Rattle.grants.specs.declared.call.PlanCall.TheVariants.{Grant, Withdraw, Select}
use Rattle.history.specs.declared.call.Access.{Access}
use Rattle.history.specs.declared.call.Call.{Call}
use Rattle.history.specs.declared.call.Call.TheVariants.{Plan, Supervisor, Enter, Trap, Task}
use Rattle.history.specs.declared.call.Answer.{Answer}
use Rattle.history.specs.declared.call.Event.{Event}
use Rattle.history.specs.Accesses.{stores_at, stored_byte}
use Rattle.history.specs.Answers.{passed}

abbrev pub History : Type 0
History = List Event

-- ---- the state of the hart

-- Entering leads to user state, and a trap back to supervisor state, in which a hart begins.
abbrev pub state_with : Call → Bool → Bool
state_with (Plan c) s = s
state_with (Supervisor sum x) s = s
state_with Enter s = true
state_with Trap s = false
state_with (Task x) s = s

abbrev pub in_user : History → Bool
in_user [] = false
in_user (e ∷ h) = state_with e.call (in_user h)

-- User state allows task accesses and a trap, supervisor state everything else.
abbrev pub allowed : Bool → Call → Bool
allowed true (Plan c) = false
allowed true (Supervisor sum x) = false
allowed true Enter = false
allowed true Trap = true
allowed true (Task x) = true
allowed false (Plan c) = true
allowed false (Supervisor sum x) = true
allowed false Enter = true
allowed false Trap = false
allowed false (Task x) = false

-- ---- the selected task and the entered one

abbrev pub selected_by_plan : PlanCall → Answer → Option ℕ → Option ℕ
selected_by_plan (Grant u b l r) a old = old
selected_by_plan (Withdraw u b) a old = old
selected_by_plan (Select u) a old = cond (passed a) (Some u) old

abbrev pub selected_by : Call → Answer → Option ℕ → Option ℕ
selected_by (Plan c) a old = selected_by_plan c a old
selected_by (Supervisor sum x) a old = old
selected_by Enter a old = old
selected_by Trap a old = old
selected_by (Task x) a old = old

-- The task of the last accepted selection.
abbrev pub selected : History → Option ℕ
selected [] = None
selected (e ∷ h) = selected_by e.call e.answer (selected h)

-- The task that is entered: in user state the selected one.
abbrev pub entered : History → Option ℕ
entered h = cond (in_user h) (selected h) None

-- ---- what a task holds

abbrev pub GrantedByPlan : PlanCall → Answer → ℕ → Region → Type 0
GrantedByPlan (Grant u b l r) a t g = (passed a ≡ true) × (u ≡ t) × (asked b l r ≡ Some g)
GrantedByPlan (Withdraw u b) a t g = ⊥
GrantedByPlan (Select u) a t g = ⊥

-- The event is an accepted grant of the region to the task.
abbrev pub Granted : Call → Answer → ℕ → Region → Type 0
Granted (Plan c) a t g = GrantedByPlan c a t g
Granted (Supervisor sum x) a t g = ⊥
Granted Enter a t g = ⊥
Granted Trap a t g = ⊥
Granted (Task x) a t g = ⊥

abbrev pub WithdrawnByPlan : PlanCall → Answer → ℕ → Region → Type 0
WithdrawnByPlan (Grant u b l r) a t g = ⊥
WithdrawnByPlan (Withdraw u b) a t g = (passed a ≡ true) × (u ≡ t) × (g.base ≡ b)
WithdrawnByPlan (Select u) a t g = ⊥

-- The event is an accepted withdrawal of the region from the task.
abbrev pub Withdrawn : Call → Answer → ℕ → Region → Type 0
Withdrawn (Plan c) a t g = WithdrawnByPlan c a t g
Withdrawn (Supervisor sum x) a t g = ⊥
Withdrawn Enter a t g = ⊥
Withdrawn Trap a t g = ⊥
Withdrawn (Task x) a t g = ⊥

-- A task holds a region from its accepted grant to its accepted withdrawal.
abbrev pub Holds : History → ℕ → Region → Type 0
Holds [] t g = ⊥
Holds (e ∷ h) t g = Granted e.call e.answer t g ⊎ (Holds h t g × ¬ Withdrawn e.call e.answer t g)

-- The region has the byte at x, or all w bytes from a.
pub record HasByte (g : Region) (x : ℕ) : Type 0 where
  pub from : g.base ≤ x
  pub to : x < g.base + g.length

pub record Covers (g : Region) (a w : ℕ) : Type 0 where
  pub from : g.base ≤ a
  pub to : a + w ≤ g.base + g.length

-- The region's rights have the one for the kind: R for a load, W for a store, X for a fetch.
abbrev pub right_for : Region → Kind → Bool
right_for g k = allows (perms_of g.rights) k

-- A task holds a byte for a kind while it holds a region with that byte and that right.
pub record HoldsByte (h : History) (t : ℕ) (k : Kind) (x : ℕ) : Type 0 where
  pub region : Region
  pub held : Holds h t region
  pub has : HasByte region x
  pub right : right_for region k ≡ true

-- At some time so far.
abbrev pub EverHolds : History → ℕ → Kind → ℕ → Type 0
EverHolds [] t k x = ⊥
EverHolds (e ∷ h) t k x = HoldsByte (e ∷ h) t k x ⊎ EverHolds h t k x

-- ---- stores

-- A passed store, a task's or the supervisor's, puts a byte at x.
abbrev pub puts : Call → Answer → ℕ → Bool
puts (Plan c) r x = false
puts (Supervisor sum y) r x = passed r && stores_at y x
puts Enter r x = false
puts Trap r x = false
puts (Task y) r x = passed r && stores_at y x

-- The byte that it puts there.
abbrev pub byte_of_call : Call → ℕ → ℕ
byte_of_call (Plan c) x = 0
byte_of_call (Supervisor sum y) x = stored_byte y x
byte_of_call Enter x = 0
byte_of_call Trap x = 0
byte_of_call (Task y) x = stored_byte y x

-- No passed store of the history puts a byte at x.
abbrev pub Unstored : History → ℕ → Type 0
Unstored [] x = Unit {0}
Unstored (e ∷ h) x = (puts e.call e.answer x ≡ false) × Unstored h x

-- ---- accesses

-- The call makes this access, for a task or for the supervisor.
abbrev pub Makes : Call → Access → Type 0
Makes (Plan c) y = ⊥
Makes (Supervisor sum x) y = x ≡ y
Makes Enter y = ⊥
Makes Trap y = ⊥
Makes (Task x) y = x ≡ y

abbrev pub is_task : Call → Bool
is_task (Plan c) = false
is_task (Supervisor sum x) = false
is_task Enter = false
is_task Trap = false
is_task (Task x) = true

abbrev pub is_the : ℕ → Option ℕ → Bool
is_the t None = false
is_the t (Some u) = u == t

-- Task t's accesses are those made while it is entered.
abbrev pub access_by : ℕ → History → Call → Bool
access_by t h c = is_task c && is_the t (entered h)

-- The calls that remain when task t's accesses are taken out.
abbrev pub without : ℕ → History → List Call
without t [] = []
without t (e ∷ h) = cond (access_by t h e.call) (without t h) (e.call ∷ without t h)

-- The answers to task t's accesses.
abbrev pub answers_of : ℕ → History → List Answer
answers_of t [] = []
answers_of t (e ∷ h) = cond (access_by t h e.call) (e.answer ∷ answers_of t h) (answers_of t h)
