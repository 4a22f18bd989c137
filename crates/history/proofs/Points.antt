-- Points in a history, and what a task access leaves as it was.
use Rattle.std.proofs.Common.{◌≡◌, ℕ, Bool, true, false, cond, List, [], ◌∷◌, ◌++◌, Some, None, Option, refl, ap, subst, inl}
use Rattle.std.proofs.lemmas.Bool.{false≢true, and_parts, eqb-true}
use Rattle.access.specs.declared.access.Kind.{Kind}
use Rattle.book.specs.Books.{Book}
use Rattle.memory.specs.Meaning.{MemoryMeaning}
use Rattle.grants.specs.Plans.{PlanMeaning}
use Rattle.grants.specs.declared.call.PlanCall.{PlanCall}
use Rattle.history.specs.declared.call.Access.{Access}
use Rattle.history.specs.declared.call.Access.TheVariants.{Load, Store, Fetch}
use Rattle.history.specs.declared.call.Call.{Call}
use Rattle.history.specs.declared.call.Call.TheVariants.{Plan, Supervisor, Enter, Trap, Task}
use Rattle.history.specs.declared.call.Event.{Event}
use Rattle.history.specs.Accesses.{kind_of, address_of, width_of, stores_at}
use Rattle.history.specs.Histories.{History, allowed, state_with, entered, is_task, is_the, access_by, HoldsByte, EverHolds}
use Rattle.history.specs.Runs.{Run, Follows, with_plan_call}
use Rattle.memory.specs.Effects.{covers}

module _ (f : ℕ) (b : Book) (p : PlanMeaning) (m : MemoryMeaning) where
  -- a run up to an event
  suffix : (later h : History) → Run f b p m (later ++ h) → Run f b p m h
  suffix [] h r = r
  suffix (l ∷ later) h r = suffix later h r.1

  pub run_at : (h later : History) (e : Event) (earlier : History) → h ≡ later ++ (e ∷ earlier) → Run f b p m h → Follows f b p m earlier e × Run f b p m earlier
  run_at h later e earlier q r = suffix later (e ∷ earlier) (subst (Run f b p m) q r)

pub task_in_user : (s : Bool) (x : Access) → allowed s (Task x) ≡ true → s ≡ true
task_in_user true x h = refl
task_in_user false x h = h

-- ---- a task access

pub task_call : (c : Call) → is_task c ≡ true → (x : Access) × (c ≡ Task x)
task_call (Plan c) q = absurd (false≢true q)
task_call (Supervisor sum x) q = absurd (false≢true q)
task_call Enter q = absurd (false≢true q)
task_call Trap q = absurd (false≢true q)
task_call (Task x) q = (x, refl)

pub task_plan : (c : Call) (cs : List PlanCall) → is_task c ≡ true → with_plan_call c cs ≡ cs
task_plan (Plan c) cs q = absurd (false≢true q)
task_plan (Supervisor sum x) cs q = refl
task_plan Enter cs q = refl
task_plan Trap cs q = refl
task_plan (Task x) cs q = refl

pub task_state : (c : Call) (s : Bool) → is_task c ≡ true → state_with c s ≡ s
task_state (Plan c) s q = refl
task_state (Supervisor sum x) s q = refl
task_state Enter s q = absurd (false≢true q)
task_state Trap s q = absurd (false≢true q)
task_state (Task x) s q = refl

-- ---- the task entered

is_the_lem : (t : ℕ) (o : Option ℕ) → is_the t o ≡ true → o ≡ Some t
is_the_lem t None q = absurd (false≢true q)
is_the_lem t (Some u) q = ap Some (eqb-true u t q)

pub access_by_lem : (t : ℕ) (h : History) (c : Call) → access_by t h c ≡ true → (is_task c ≡ true) × (entered h ≡ Some t)
access_by_lem t h c q = let p = and_parts (is_task c) (is_the t (entered h)) q in (p.0, is_the_lem t (entered h) p.1)

-- the entered task is the selected one
pub entered_selected : (s : Bool) (o : Option ℕ) (t : ℕ) → cond s o None ≡ Some t → (s ≡ true) × (o ≡ Some t)
entered_selected true o t q = (refl, q)
entered_selected false o t q = cc

pub one_task : (o : Option ℕ) (t u : ℕ) → o ≡ Some t → o ≡ Some u → t ≡ u
one_task o t u p q = cc

-- ---- bytes

-- a store with the byte at x
pub stores_at_lem : (y : Access) (x : ℕ) → stores_at y x ≡ true → (kind_of y ≡ Kind.Store) × (covers (address_of y) (width_of y) x ≡ true)
stores_at_lem (Load a w) x q = absurd (false≢true q)
stores_at_lem (Store a w v) x q = (refl, q)
stores_at_lem (Fetch a w) x q = absurd (false≢true q)

pub now_ever : (h : History) (t : ℕ) (k : Kind) (x : ℕ) → HoldsByte h t k x → EverHolds h t k x
now_ever [] t k x z = z.held
now_ever (e ∷ h) t k x z = inl z
