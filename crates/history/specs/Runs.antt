-- Which histories are runs: a new hart beside a memory, and then calls that its state allows, each answered as that call is. Assumes nothing.
use Rattle.std.specs.Prelude.{◌≡◌, ℕ, Bool, true, false, cond, List, [], ◌∷◌, Some, None, Option}
use Rattle.access.specs.Cases.{Report}
use Rattle.access.specs.declared.access.Mode.{Mode}
use Rattle.book.specs.Books.{Book}
use Rattle.table.specs.Registers.{Registers}
use Rattle.memory.specs.Meaning.{MemoryMeaning}
use Rattle.grants.specs.Refusals.{grant_report}
use Rattle.grants.specs.Plans.{PlanMeaning, answer_after}
use Rattle.grants.specs.declared.call.PlanCall.{PlanCall}
use Rattle.hart.specs.Accesses.{AccessPasses, AccessRefused}
use Rattle.history.specs.declared.call.Access.{Access}
use Rattle.history.specs.declared.call.Call.{Call}
use Rattle.history.specs.declared.call.Call.TheVariants.{Plan, Supervisor, Enter, Trap, Task}
use Rattle.history.specs.declared.call.Answer.{Answer}
use Rattle.history.specs.declared.call.Answer.TheVariants.{Done, Value, Declined, Refused}
use Rattle.history.specs.declared.call.Event.{Event}
use Rattle.history.specs.Accesses.{kind_of, address_of, width_of, given}
use Rattle.history.specs.Histories.{History, in_user, allowed, puts, byte_of_call}

abbrev pub with_plan_call : Call → List PlanCall → List PlanCall
with_plan_call (Plan c) cs = c ∷ cs
with_plan_call (Supervisor sum x) cs = cs
with_plan_call Enter cs = cs
with_plan_call Trap cs = cs
with_plan_call (Task x) cs = cs

-- The grants, withdrawals and selections made, refused ones included.
abbrev pub plan_calls : History → List PlanCall
plan_calls [] = []
plan_calls (e ∷ h) = with_plan_call e.call (plan_calls h)

-- What the memory holds after the passed stores.
abbrev pub contents : MemoryMeaning → History → ℕ → ℕ
contents m [] x = m.byte x
contents m (e ∷ h) x = cond (puts e.call e.answer x) (byte_of_call e.call x) (contents m h x)

abbrev pub memory_after : MemoryMeaning → History → MemoryMeaning
memory_after m h = record { size = m.size; byte = contents m h; admits = m.admits }

-- A grant, a withdrawal or a selection is refused in its cases alone, with the first that holds.
abbrev pub PlanAnswered : Option Report → Answer → Type 0
PlanAnswered cases Done = cases ≡ None
PlanAnswered cases (Value v) = ⊥
PlanAnswered cases (Declined x) = cases ≡ Some (grant_report x)
PlanAnswered cases (Refused x) = ⊥

-- An access passes with what it gives, or is refused.
abbrev pub Accessed : ℕ → Book → Registers → MemoryMeaning → Mode → Bool → Access → Answer → Type 0
Accessed f b r m mode sum x Done = AccessPasses f b r m mode sum (kind_of x) (address_of x) (width_of x) × (Done ≡ given m.byte x)
Accessed f b r m mode sum x (Value v) = AccessPasses f b r m mode sum (kind_of x) (address_of x) (width_of x) × (Value v ≡ given m.byte x)
Accessed f b r m mode sum x (Declined y) = ⊥
Accessed f b r m mode sum x (Refused y) = AccessRefused f b r m mode sum (kind_of x) (address_of x) (width_of x) y

-- With fields of f bits, a book, a plan and a memory as it is when the run begins.
module _ (f : ℕ) (b : Book) (p : PlanMeaning) (m : MemoryMeaning) where
  -- The answer to a call after a history, on plan and memory as that left them.
  abbrev pub Answers : History → Call → Answer → Type 0
  Answers h (Plan c) a = PlanAnswered (answer_after f p.terms (plan_calls h) c) a
  Answers h (Supervisor sum x) a = Accessed f b (p.entries (plan_calls h)) (memory_after m h) Mode.Supervisor sum x a
  Answers h Enter a = a ≡ Done
  Answers h Trap a = a ≡ Done
  Answers h (Task x) a = Accessed f b (p.entries (plan_calls h)) (memory_after m h) Mode.User false x a

  -- The event can follow the history.
  pub record Follows (h : History) (e : Event) : Type 0 where
    pub allows : allowed (in_user h) e.call ≡ true
    pub answers : Answers h e.call e.answer

  abbrev pub Run : History → Type 0
  Run [] = Unit {0}
  Run (e ∷ h) = Follows h e × Run h
