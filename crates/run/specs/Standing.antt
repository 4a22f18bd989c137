-- A hart and a memory as a history leaves them. Assumes nothing.
use Rattle.std.specs.Prelude.{◌≡◌, ℕ, Bool, true, false, List}
use Rattle.book.specs.Books.{Book}
use Rattle.memory.specs.Meaning.{MemoryMeaning}
use Rattle.grants.specs.Plans.{PlanMeaning}
use Rattle.grants.specs.declared.call.PlanCall.{PlanCall}
use Rattle.history.specs.Histories.{History, in_user}
use Rattle.history.specs.Runs.{Run, plan_calls, memory_after}
use Rattle.run.specs.declared.hart_state.Hart.{Hart}
use Rattle.run.specs.declared.hart_state.Hart.TheVariants.{Supervisor, User}

abbrev pub plan_of : {P : Type 0} → Hart P → P
plan_of (Supervisor s) = s.plan
plan_of (User u) = u.plan

abbrev pub is_user : {P : Type 0} → Hart P → Bool
is_user (Supervisor s) = false
is_user (User u) = true

-- A hart's plan and state, and a memory, after a run that began with the memory `start`.
pub record At {P : Type 0} (f : ℕ) (b : Book) (p : PlanMeaning) (stands : P → List PlanCall → Type 0) (start : MemoryMeaning) (plan : P) (user : Bool) (memory : MemoryMeaning) (h : History) : Type 0 where
  pub run : Run f b p start h
  pub plans : stands plan (plan_calls h)
  pub state : user ≡ in_user h
  pub bytes : memory ≡ memory_after start h
