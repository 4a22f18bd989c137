-- Two runs that are alike in all but one task's accesses stay alike, but for the bytes that this task may store.
use Rattle.std.proofs.Common.{◌≡◌, ℕ, ◌+◌, ◌<◌, ◌≤◌, Bool, true, false, cond, ◌&&◌, ltb, leb, ◌≢◌, ◌⊎◌, List, [], ◌∷◌, Some, None, sym, refl, ap, ◌∙◌, subst, inl, inr, ⊎_elim, arith}
use mathlib.Core.List.{cons-ne-nil, head-eq_of_cons-eq, tail-eq_of_cons-eq}
use Rattle.std.proofs.lemmas.Bool.{cases_Bool, cond-true, cond-false, and_parts, leb-true, ltb-true}
use Rattle.access.specs.declared.access.Kind.{Kind}
use Rattle.access.specs.declared.access.Mode.{Mode}
use Rattle.book.specs.Books.{Book, Laws}
use Rattle.memory.specs.Meaning.{MemoryMeaning, MemoryLaws}
use Rattle.memory.proofs.Values.{value_same}
use Rattle.grants.specs.Resolving.{In}
use Rattle.grants.specs.Plans.{PlanMeaning, PlanLaws, held_after, selected_after}
use Rattle.grants.specs.declared.region.Region.{Region}
use Rattle.grants.specs.declared.call.PlanCall.{PlanCall}
use Rattle.history.specs.declared.call.Access.{Access}
use Rattle.history.specs.declared.call.Access.TheVariants.{Load, Store, Fetch}
use Rattle.history.specs.declared.call.Call.{Call}
use Rattle.history.specs.declared.call.Call.TheVariants.{Plan, Supervisor, Enter, Trap, Task}
use Rattle.history.specs.declared.call.Answer.{Answer}
use Rattle.history.specs.declared.call.Event.{Event}
use Rattle.history.specs.Accesses.{kind_of, address_of, width_of, given, stores_at}
use Rattle.history.specs.Answers.{passed}
use Rattle.history.specs.Histories.{History, in_user, state_with, selected, entered, Holds, right_for, HoldsByte, EverHolds, puts, byte_of_call, is_task, is_the, access_by, without, answers_of}
use Rattle.history.specs.Runs.{Run, Answers, Accessed, plan_calls, with_plan_call, contents, memory_after}
use Rattle.history.specs.Isolation.{Separate, Separated, SameMeaning}
use Rattle.history.proofs.Planning.{selected_planned, holds_planned}
use Rattle.history.proofs.Accessing.{passed_same, accessed_same}
use Rattle.history.proofs.Points.{task_call, task_plan, task_state, access_by_lem, entered_selected, one_task, stores_at_lem, now_ever}
use Rattle.history.proofs.Passing.{checked_covered, pass_when_entitled}

by_test : {C : Type 0} (t : Bool) → (t ≡ true → C) → (t ≡ false → C) → C
by_test t f g = ⊎_elim f g (cases_Bool t)

pub record Alike (m n : MemoryMeaning) (A B : ℕ) (h k : History) : Type 0 where
  pub plans : plan_calls h ≡ plan_calls k
  pub state : in_user h ≡ in_user k
  pub bytes : (x : ℕ) → x < m.size → (EverHolds h B Kind.Store x → ⊥) → contents m h x ≡ contents n k x
  pub answers : answers_of A h ≡ answers_of A k

-- ---- one task's access

-- an access that puts a byte at x is a passed store with that byte
task_puts : (y : Access) (a : Answer) (x : ℕ) → puts (Task y) a x ≡ true → (passed a ≡ true) × (kind_of y ≡ Kind.Store) × ((address_of y ≤ x) × (x < address_of y + width_of y))
task_puts y a x q =
    let p = and_parts (passed a) (stores_at y x) q in
    let s = stores_at_lem y x p.1 in
    let c = and_parts (leb (address_of y) x) (ltb x (address_of y + width_of y)) s.1 in
    (p.0, s.0, (leb-true (address_of y) x c.0, ltb-true x (address_of y + width_of y) c.1))

module _ (f : ℕ) (b : Book) (p : PlanMeaning) (m : MemoryMeaning) (bl : Laws b) (pl : PlanLaws f b p) where
  -- a byte that the entered task's store puts is one that it holds for storing
  store_held : (e : Event) (h : History) → Run f b p m (e ∷ h) → (t : ℕ) → access_by t h e.call ≡ true → (x : ℕ) → puts e.call e.answer x ≡ true → HoldsByte h t Kind.Store x
  store_held e h run t by x q =
      let is = access_by_lem t h e.call by in
      let y = task_call e.call is.0 in
      let s = task_puts y.0 e.answer x (subst (λ (c : Call). puts c e.answer x ≡ true) y.1 q) in
      let en = (pass_when_entitled f b p m bl pl (e ∷ h) run [] e h refl y.0 y.1).0 s.0 in
      let lo = s.2.0 in
      let hi = s.2.1 in
      record {
        region = en.region;
        held = subst (λ (u : ℕ). Holds h u en.region) (one_task (entered h) en.task t en.is_entered is.1) en.held;
        has = record { from = omega (arith, en.covers.from); to = omega (arith, en.covers.to) };
        right = sym (ap (right_for en.region) s.1) ∙ en.right;
      }

  -- a task's access leaves every byte that it does not hold for storing
  keeps_byte : (e : Event) (h : History) → Run f b p m (e ∷ h) → (B : ℕ) → access_by B h e.call ≡ true → (x : ℕ) → (HoldsByte h B Kind.Store x → ⊥) → contents m (e ∷ h) x ≡ contents m h x
  keeps_byte e h run B by x no_store =
      by_test (puts e.call e.answer x)
      (λ q. absurd (no_store (store_held e h run B by x q)))
      (λ q. cond-false _ _ _ q)

-- it is no access of another task
other_answers : (e : Event) (h : History) (A B : ℕ) → A ≢ B → access_by B h e.call ≡ true → answers_of A (e ∷ h) ≡ answers_of A h
other_answers e h A B ne by =
    by_test (access_by A h e.call)
    (λ q. absurd (ne (one_task (entered h) A B (access_by_lem A h e.call q).1 (access_by_lem B h e.call by).1)))
    (λ q. cond-false _ _ _ q)

-- ---- reads

-- an access gives the same where the bytes that it reads are the same
given_same : (c d : ℕ → ℕ) (y : Access) → (kind_of y ≢ Kind.Store → (i : ℕ) → i < width_of y → c (address_of y + i) ≡ d (address_of y + i)) → given c y ≡ given d y
given_same c d (Load a w) e = ap Answer.Value (value_same c d a a w (e (λ q. cc)))
given_same c d (Store a w v) e = refl
given_same c d (Fetch a w) e = ap Answer.Value (value_same c d a a w (e (λ q. cc)))

reads : (h : History) (t : ℕ) (k : Kind) (x : ℕ) → k ≢ Kind.Store → EverHolds h t k x → EverHolds h t Kind.Load x ⊎ EverHolds h t Kind.Fetch x
reads h t Kind.Load x n e = inl e
reads h t Kind.Store x n e = absurd (n refl)
reads h t Kind.Fetch x n e = inr e

-- ---- two runs

module _ (f : ℕ) (b : Book) (p : PlanMeaning) (m n : MemoryMeaning) (bl : Laws b) (pl : PlanLaws f b p) (ml : MemoryLaws f m) (same : SameMeaning m n) (A B : ℕ) (ne : A ≢ B) where
  same_selected : (h k : History) → Run f b p m h → Run f b p n k → plan_calls h ≡ plan_calls k → selected h ≡ selected k
  same_selected h k r s q = selected_planned f b p m h r ∙ ap (selected_after f p.terms) q ∙ sym (selected_planned f b p n k s)

  same_held : (h k : History) → Run f b p m h → Run f b p n k → plan_calls h ≡ plan_calls k → (t : ℕ) (g : Region) → Holds k t g → Holds h t g
  same_held h k r s q t g x = (holds_planned f b p m t g h r).1 (subst (λ (cs : List PlanCall). In g (held_after f p.terms cs t)) (sym q) ((holds_planned f b p n t g k s).0 x))

  -- an access of B in the first run
  step_left : (e : Event) (h k : History) → Run f b p m (e ∷ h) → access_by B h e.call ≡ true → Alike m n A B h k → Alike m n A B (e ∷ h) k
  step_left e h k run by al =
      let task = (access_by_lem B h e.call by).0 in
      record {
        plans = task_plan e.call (plan_calls h) task ∙ al.plans;
        state = task_state e.call (in_user h) task ∙ al.state;
        bytes = λ x l never. keeps_byte f b p m bl pl e h run B by x (λ s. never (inr (now_ever h B Kind.Store x s))) ∙ al.bytes x l (λ s. never (inr s));
        answers = other_answers e h A B ne by ∙ al.answers;
      }

  -- an access of B in the second
  step_right : (h : History) (e : Event) (k : History) → Run f b p m h → Run f b p n (e ∷ k) → access_by B k e.call ≡ true → Alike m n A B h k → Alike m n A B h (e ∷ k)
  step_right h e k r run by al =
      let task = (access_by_lem B k e.call by).0 in
      record {
        plans = al.plans ∙ sym (task_plan e.call (plan_calls k) task);
        state = al.state ∙ sym (task_state e.call (in_user k) task);
        bytes = λ x l never. al.bytes x l never ∙ sym (keeps_byte f b p n bl pl e k run B by x (λ s. never (now_ever h B Kind.Store x (record {
          region = s.region;
          held = same_held h k r run.1 al.plans B s.region s.held;
          has = s.has;
          right = s.right;
        }))));
        answers = al.answers ∙ sym (other_answers e k A B ne by);
      }

  -- ---- the same call in both

  module _ (h k : History) (plans : plan_calls h ≡ plan_calls k) where
    -- an access in the second run, seen with the registers of the first
    moved : (mode : Mode) (sum : Bool) (y : Access) (c : Answer) → Accessed f b (p.entries (plan_calls k)) (memory_after n k) mode sum y c → Accessed f b (p.entries (plan_calls h)) (memory_after n k) mode sum y c
    moved mode sum y c q = subst (λ (cs : List PlanCall). Accessed f b (p.entries cs) (memory_after n k) mode sum y c) (sym plans) q

    access_puts : (mode : Mode) (sum : Bool) (y : Access) (a c : Answer) (x : ℕ) → Accessed f b (p.entries (plan_calls h)) (memory_after m h) mode sum y a → Accessed f b (p.entries (plan_calls k)) (memory_after n k) mode sum y c → (passed a && stores_at y x) ≡ (passed c && stores_at y x)
    access_puts mode sum y a c x q s =
        ap (λ (z : Bool). z && stores_at y x) (passed_same f b (p.entries (plan_calls h)) mode sum y (memory_after m h) (memory_after n k) same.admits a c q (moved mode sum y c s))

    -- a call puts a byte in both or in neither
    puts_same : (d : Call) (a c : Answer) (x : ℕ) → Answers f b p m h d a → Answers f b p n k d c → puts d a x ≡ puts d c x
    puts_same (Plan d) a c x q s = refl
    puts_same (Supervisor sum y) a c x q s = access_puts Mode.Supervisor sum y a c x q s
    puts_same Enter a c x q s = refl
    puts_same Trap a c x q s = refl
    puts_same (Task y) a c x q s = access_puts Mode.User false y a c x q s

  -- an access of A gets the same answer in both
  task_answer : (h k : History) → Run f b p m h → Separate h A B → Alike m n A B h k → selected h ≡ Some A → (y : Access) (a c : Answer) → Answers f b p m h (Task y) a → Answers f b p n k (Task y) c → a ≡ c
  task_answer h k run sep al sel y a c q s =
      accessed_same f b (p.entries (plan_calls h)) Mode.User false y (memory_after m h) (memory_after n k) same.admits a c q (moved h k al.plans Mode.User false y c s)
      (λ z. given_same (contents m h) (contents n k) y (λ read i l.
      let cov = (checked_covered f b p m bl pl h run (kind_of y) (address_of y) (width_of y) z.entry z.checked).1 in
      let fits : address_of y + width_of y ≤ m.size = ml.within (kind_of y) (address_of y) (width_of y) z.admitted in
      let holds : HoldsByte h A (kind_of y) (address_of y + i) = record {
        region = cov.region;
        held = subst (λ (u : ℕ). Holds h u cov.region) (one_task (selected h) cov.task A cov.is_selected sel) cov.held;
        has = record { from = omega (arith, cov.covers.from); to = omega (arith, cov.covers.to) };
        right = cov.right;
      } in
      al.bytes (address_of y + i) (omega arith) (λ st. sep (address_of y + i) st (reads h A (kind_of y) (address_of y + i) read (now_ever h A (kind_of y) (address_of y + i) holds)))))

  step_both : (e : Event) (h : History) (d : Event) (k : History) → Run f b p m (e ∷ h) → Run f b p n (d ∷ k) → Separate h A B → e.call ≡ d.call → Alike m n A B h k → Alike m n A B (e ∷ h) (d ∷ k)
  step_both e h d k r s sep call al =
      let answered : Answers f b p n k e.call d.answer = subst (λ (c : Call). Answers f b p n k c d.answer) (sym call) s.0.answers in
      let picks = same_selected h k r.1 s.1 al.plans in
      record {
        plans = λ i. with_plan_call (call i) (al.plans i);
        state = λ i. state_with (call i) (al.state i);
        bytes = λ x l never.
            let old = al.bytes x l (λ z. never (inr z)) in
            let q : puts e.call e.answer x ≡ puts d.call d.answer x =
            puts_same h k al.plans e.call e.answer d.answer x r.0.answers answered ∙ ap (λ (c : Call). puts c d.answer x) call in
            λ i. cond (q i) (byte_of_call (call i) x) (old i);
        answers =
            let acc : access_by A h e.call ≡ access_by A k d.call = λ i. is_task (call i) && is_the A (cond (al.state i) (picks i) None) in
            by_test (access_by A h e.call)
            (λ q.
            let is = access_by_lem A h e.call q in
            let y = task_call e.call is.0 in
            let sel = (entered_selected (in_user h) (selected h) A is.1).1 in
            let ans : e.answer ≡ d.answer =
            task_answer h k r.1 sep al sel y.0 e.answer d.answer
            (subst (λ (c : Call). Answers f b p m h c e.answer) y.1 r.0.answers)
            (subst (λ (c : Call). Answers f b p n k c d.answer) y.1 answered) in
            λ i. cond (acc i) (ans i ∷ al.answers i) (al.answers i))
            (λ q. cond-false _ _ _ q ∙ al.answers ∙ sym (cond-false _ _ _ (sym acc ∙ q)));
      }

  -- ---- along both runs

  alike_nil : (k : History) → Run f b p n k → without B k ≡ [] → Alike m n A B [] k
  alike_nil [] s w = record { plans = refl; state = refl; bytes = λ x l never. same.byte x l; answers = refl }
  alike_nil (d ∷ k) s w =
      by_test (access_by B k d.call)
      (λ q. step_right [] d k tt s q (alike_nil k s.1 (sym (cond-true _ _ _ q) ∙ w)))
      (λ q. absurd (cons-ne-nil d.call (without B k) (sym (cond-false _ _ _ q) ∙ w)))

  alike_cons : (e : Event) (h : History) → Run f b p m (e ∷ h) → Separate h A B → ((k : History) → Run f b p n k → without B h ≡ without B k → Alike m n A B h k) → (k : History) → Run f b p n k → (e.call ∷ without B h) ≡ without B k → Alike m n A B (e ∷ h) k
  alike_cons e h r sep ih [] s w = absurd (cons-ne-nil e.call (without B h) w)
  alike_cons e h r sep ih (d ∷ k) s w =
      by_test (access_by B k d.call)
      (λ q. step_right (e ∷ h) d k r s q (alike_cons e h r sep ih k s.1 (w ∙ cond-true _ _ _ q)))
      (λ q. let z : (e.call ∷ without B h) ≡ (d.call ∷ without B k) = w ∙ cond-false _ _ _ q in
      step_both e h d k r s sep (head-eq_of_cons-eq z) (ih k s.1 (tail-eq_of_cons-eq z)))

  alike : (h : History) → Run f b p m h → Separate h A B → (k : History) → Run f b p n k → without B h ≡ without B k → Alike m n A B h k
  alike [] r sep k s w = alike_nil k s (sym w)
  alike (e ∷ h) r sep k s w =
      let less : Separate h A B = λ x y z. sep x (inr y) (⊎_elim (λ u. inl (inr u)) (λ u. inr (inr u)) z) in
      by_test (access_by B h e.call)
      (λ q. step_left e h k r q (alike h r.1 less k s (sym (cond-true _ _ _ q) ∙ w)))
      (λ q. alike_cons e h r less (alike h r.1 less) k s (sym (cond-false _ _ _ q) ∙ w))

pub separated : (f : ℕ) (b : Book) (p : PlanMeaning) (m : MemoryMeaning) → Laws b → PlanLaws f b p → MemoryLaws f m → (h : History) → Run f b p m h → Separated f b p m h
separated f b p m bl pl ml h run A B ne sep n same k other w = (alike f b p m n bl pl ml same A B ne h run sep k other w).answers
