-- A passed load or fetch gives at each byte what the last passed store put there, else the starting byte.
use Rattle.std.proofs.Common.{◌≡◌, ℕ, ◌+◌, ◌%◌, ◌^◌, ◌<◌, ◌≤◌, Bool, true, false, ◌≢◌, [], ◌∷◌, ◌++◌, refl, ap, ◌∙◌, subst, arith, lit<}
use Rattle.std.proofs.lemmas.Bool.{cond_both, cond-true, cond-false}
use Rattle.access.specs.declared.access.Kind.{Kind}
use Rattle.access.specs.declared.access.Mode.{Mode}
use Rattle.book.specs.Books.{Book}
use Rattle.memory.specs.Meaning.{MemoryMeaning, MemoryLaws}
use Rattle.memory.specs.Effects.{value_at}
use Rattle.memory.proofs.Values.{value_same, value_below, byte_of_value}
use Rattle.grants.specs.Plans.{PlanMeaning}
use Rattle.history.specs.declared.call.Access.{Access}
use Rattle.history.specs.declared.call.Access.TheVariants.{Load, Store, Fetch}
use Rattle.history.specs.declared.call.Call.{Call}
use Rattle.history.specs.declared.call.Call.TheVariants.{Plan, Supervisor, Enter, Trap, Task}
use Rattle.history.specs.declared.call.Answer.{Answer}
use Rattle.history.specs.declared.call.Event.{Event}
use Rattle.history.specs.Accesses.{kind_of, address_of, width_of, given, stored_byte}
use Rattle.history.specs.Histories.{History, puts, byte_of_call, Unstored, Makes}
use Rattle.history.specs.Runs.{Run, Answers, Accessed, plan_calls, contents, memory_after}
use Rattle.history.specs.Isolation.{GiveLastStored}
use Rattle.history.proofs.Accessing.{accessed_passed}
use Rattle.history.proofs.Points.{run_at}

-- ---- what the memory holds

contents_start : (m : MemoryMeaning) (h : History) (x : ℕ) → Unstored h x → contents m h x ≡ m.byte x
contents_start m [] x u = refl
contents_start m (e ∷ h) x u = cond-false _ _ _ u.0 ∙ contents_start m h x u.1

contents_last : (m : MemoryMeaning) (newer : History) (s : Event) (older : History) (x : ℕ) → Unstored newer x → puts s.call s.answer x ≡ true → contents m (newer ++ (s ∷ older)) x ≡ byte_of_call s.call x
contents_last m [] s older x u q = cond-true _ _ _ q
contents_last m (e ∷ newer) s older x u q = cond-false _ _ _ u.0 ∙ contents_last m newer s older x u.1 q

stored_small : (y : Access) (x : ℕ) → stored_byte y x < 256
stored_small (Load a w) x = lit< tt
stored_small (Store a w v) x = omega arith
stored_small (Fetch a w) x = lit< tt

byte_small : (c : Call) (x : ℕ) → byte_of_call c x < 256
byte_small (Plan c) x = lit< tt
byte_small (Supervisor sum y) x = stored_small y x
byte_small Enter x = lit< tt
byte_small Trap x = lit< tt
byte_small (Task y) x = stored_small y x

contents_small : (f : ℕ) (m : MemoryMeaning) → MemoryLaws f m → (h : History) (x : ℕ) → x < m.size → contents m h x < 256
contents_small f m ml [] x l = ml.bytes_fit x l
contents_small f m ml (e ∷ h) x l =
    cond_both (puts e.call e.answer x) (byte_of_call e.call x) (contents m h x) (λ (n : ℕ). n < 256) (λ _. byte_small e.call x) (λ _. contents_small f m ml h x l)

value_small : (g : ℕ → ℕ) (a w : ℕ) → ((j : ℕ) → j < w → g (a + j) < 256) → value_at g a w < 256 ^ w
value_small g a w fit =
    subst (λ (v : ℕ). v < 256 ^ w)
    (value_same (λ k. g k % 256) g a a w (λ i l. let z = fit i l in omega arith))
    (value_below (λ k. g k % 256) a w (λ k. omega arith))

-- ---- what an access gives

-- every access is answered as one
call_accessed : (f : ℕ) (b : Book) (p : PlanMeaning) (m : MemoryMeaning) (h : History) (c : Call) (a : Answer) (x : Access) → Makes c x → Answers f b p m h c a → (mode : Mode) × (sum : Bool) × Accessed f b (p.entries (plan_calls h)) (memory_after m h) mode sum x a
call_accessed f b p m h (Plan c) a x k q = absurd k
call_accessed f b p m h (Supervisor sum y) a x k q = (Mode.Supervisor, sum, subst (λ (z : Access). Accessed f b (p.entries (plan_calls h)) (memory_after m h) Mode.Supervisor sum z a) k q)
call_accessed f b p m h Enter a x k q = absurd k
call_accessed f b p m h Trap a x k q = absurd k
call_accessed f b p m h (Task y) a x k q = (Mode.User, false, subst (λ (z : Access). Accessed f b (p.entries (plan_calls h)) (memory_after m h) Mode.User false z a) k q)

read : (g : ℕ → ℕ) (x : Access) → kind_of x ≢ Kind.Store → given g x ≡ Answer.Value (value_at g (address_of x) (width_of x))
read g (Load a w) n = refl
read g (Store a w v) n = absurd (n refl)
read g (Fetch a w) n = refl

pub give_last_stored : (f : ℕ) (b : Book) (p : PlanMeaning) (m : MemoryMeaning) → MemoryLaws f m → (h : History) → Run f b p m h → GiveLastStored m h
give_last_stored f b p m ml h run later e earlier q x makes reads ok =
    let r = run_at f b p m h later e earlier q run in
    let t = call_accessed f b p m earlier e.call e.answer x makes r.0.answers in
    let z = accessed_passed f b (p.entries (plan_calls earlier)) t.0 t.1 x (memory_after m earlier) e.answer t.2 ok in
    let a = address_of x in
    let w = width_of x in
    let g : ℕ → ℕ = contents m earlier in
    let fits : a + w ≤ m.size = ml.within (kind_of x) a w z.0.admitted in
    let small : (i : ℕ) → i < w → g (a + i) < 256 = λ i l. contents_small f m ml earlier (a + i) (omega arith) in (
      value_at g a w,
      z.1 ∙ read g x reads,
      record {
        size = value_small g a w small;
        last = λ newer s older eq i l u y. byte_of_value g a w small i l ∙ ap (λ (k : History). contents m k (a + i)) eq ∙ contents_last m newer s older (a + i) u y;
        start = λ i l u. byte_of_value g a w small i l ∙ contents_start m earlier (a + i) u;
      },
    )
