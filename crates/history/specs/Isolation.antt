-- What every run shows: which task accesses pass, what loads and fetches give, and that what one task does cannot reach another. Assumes nothing.
use Rattle.std.specs.Prelude.{◌≡◌, ℕ, ◌+◌, ◌^◌, ◌<◌, true, ◌≢◌, ◌⊎◌, ◌↔◌, ◌∷◌, ◌++◌, Some}
use Rattle.access.specs.Formed.{WellFormed}
use Rattle.access.specs.declared.access.Kind.{Kind}
use Rattle.book.specs.Books.{Book}
use Rattle.memory.specs.Meaning.{MemoryMeaning}
use Rattle.memory.specs.Effects.{byte_of}
use Rattle.grants.specs.Plans.{PlanMeaning}
use Rattle.grants.specs.declared.region.Region.{Region}
use Rattle.history.specs.declared.call.Access.{Access}
use Rattle.history.specs.declared.call.Call.{Call}
use Rattle.history.specs.declared.call.Answer.{Answer}
use Rattle.history.specs.declared.call.Event.{Event}
use Rattle.history.specs.Accesses.{kind_of, address_of, width_of}
use Rattle.history.specs.Answers.{passed}
use Rattle.history.specs.Histories.{History, entered, Holds, Covers, right_for, EverHolds, puts, byte_of_call, Unstored, Makes, without, answers_of}
use Rattle.history.specs.Runs.{Run}

-- ---- which task accesses pass

-- The access is well formed, the memory admits it, and one region that the entered task holds covers every byte with the right for its kind.
pub record Entitled (f : ℕ) (m : MemoryMeaning) (h : History) (x : Access) : Type 0 where
  pub formed : WellFormed f (kind_of x) (address_of x) (width_of x)
  pub admitted : m.admits (kind_of x) (address_of x) (width_of x) ≡ true
  pub task : ℕ
  pub is_entered : entered h ≡ Some task
  pub region : Region
  pub held : Holds h task region
  pub covers : Covers region (address_of x) (width_of x)
  pub right : right_for region (kind_of x) ≡ true

-- Wherever a task access stands in the history: it passes exactly when it is entitled.
abbrev pub PassWhenEntitled : ℕ → MemoryMeaning → History → Type 0
PassWhenEntitled f m h =
    (later : History) (e : Event) (earlier : History) → h ≡ later ++ (e ∷ earlier) → (x : Access) → e.call ≡ Call.Task x
    → (passed e.answer ≡ true) ↔ Entitled f m earlier x

-- ---- what loads and fetches give

-- The value v of an access after the history h: each of its bytes is what the last passed store put there, else the starting byte.
pub record LastStored (m : MemoryMeaning) (h : History) (x : Access) (v : ℕ) : Type 0 where
  pub size : v < 256 ^ width_of x
  pub last : (newer : History) (s : Event) (older : History) → h ≡ newer ++ (s ∷ older) → (i : ℕ) → i < width_of x
      → Unstored newer (address_of x + i) → puts s.call s.answer (address_of x + i) ≡ true
      → byte_of v i ≡ byte_of_call s.call (address_of x + i)
  pub start : (i : ℕ) → i < width_of x → Unstored h (address_of x + i) → byte_of v i ≡ m.byte (address_of x + i)

-- A passed load or fetch, a task's or the supervisor's, gives such a value.
abbrev pub GiveLastStored : MemoryMeaning → History → Type 0
GiveLastStored m h =
    (later : History) (e : Event) (earlier : History) → h ≡ later ++ (e ∷ earlier) → (x : Access) → Makes e.call x
    → kind_of x ≢ Kind.Store → passed e.answer ≡ true
    → (v : ℕ) × (e.answer ≡ Answer.Value v) × LastStored m earlier x v

-- ---- separation

-- B never holds for storing a byte that A ever holds for loading or fetching.
abbrev pub Separate : History → ℕ → ℕ → Type 0
Separate h A B = (x : ℕ) → EverHolds h B Kind.Store x → EverHolds h A Kind.Load x ⊎ EverHolds h A Kind.Fetch x → ⊥

-- Two memories of the same meaning.
pub record SameMeaning (m n : MemoryMeaning) : Type 0 where
  pub size : m.size ≡ n.size
  pub byte : (x : ℕ) → x < m.size → m.byte x ≡ n.byte x
  pub admits : (k : Kind) (a w : ℕ) → m.admits k a w ≡ n.admits k a w

-- For two such tasks, A's answers are the same in every other run, of the same book and plan and a memory of the same meaning, with the same
-- calls in the same order once B's accesses are taken out of both.
abbrev pub Separated : ℕ → Book → PlanMeaning → MemoryMeaning → History → Type 0
Separated f b p m h =
    (A B : ℕ) → A ≢ B → Separate h A B
    → (n : MemoryMeaning) → SameMeaning m n → (k : History) → Run f b p n k → without B h ≡ without B k
    → answers_of A h ≡ answers_of A k

-- ---- all three

pub record Isolated (f : ℕ) (b : Book) (p : PlanMeaning) (m : MemoryMeaning) (h : History) : Type 0 where
  pub passes : PassWhenEntitled f m h
  pub gives : GiveLastStored m h
  pub separated : Separated f b p m h
