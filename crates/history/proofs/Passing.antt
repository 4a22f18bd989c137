-- A task access passes exactly when the entered task is entitled to it.
use Rattle.std.proofs.Common.{◌≡◌, ℕ, Bool, true, false, cond, Some, None, Ok, Err, Option, sym, refl, ap, ◌∙◌, subst, ⊎_elim}
use Rattle.std.proofs.lemmas.Bool.{true≢false}
use Rattle.access.specs.Formed.{WellFormed}
use Rattle.access.specs.declared.access.Kind.{Kind}
use Rattle.access.specs.declared.access.Mode.{Mode}
use Rattle.book.specs.Books.{Book, Laws}
use Rattle.table.specs.Checks.{Checked}
use Rattle.memory.specs.Meaning.{MemoryMeaning}
use Rattle.grants.specs.Plans.{PlanMeaning, PlanLaws}
use Rattle.grants.specs.declared.region.Region.{Region}
use Rattle.grants.proofs.Passing.{task_accesses}
use Rattle.hart.proofs.Unselected.{unselected_passes}
use Rattle.history.specs.declared.call.Call.{Call}
use Rattle.history.specs.Accesses.{kind_of, address_of, width_of}
use Rattle.history.specs.Answers.{passed}
use Rattle.history.specs.Histories.{History, in_user, allowed, selected, Holds, Covers, right_for}
use Rattle.history.specs.Runs.{Run, Answers, Accessed, plan_calls, memory_after}
use Rattle.history.specs.Isolation.{PassWhenEntitled}
use Rattle.history.proofs.Planning.{selected_planned, holds_planned}
use Rattle.history.proofs.Accessing.{given_passed, accessed_cases, accessed_passed}
use Rattle.history.proofs.Points.{run_at, task_in_user, entered_selected}

-- one region that the selected task holds covers the access with the right for its kind
pub record Covered (h : History) (k : Kind) (a w : ℕ) : Type 0 where
  pub task : ℕ
  pub is_selected : selected h ≡ Some task
  pub region : Region
  pub held : Holds h task region
  pub covers : Covers region a w
  pub right : right_for region k ≡ true

module _ (f : ℕ) (b : Book) (p : PlanMeaning) (m : MemoryMeaning) (bl : Laws b) (pl : PlanLaws f b p) (h : History) (run : Run f b p m h) (k : Kind) (a w : ℕ) where
  -- what passes the table is covered
  pub checked_covered : (e : ℕ) → Checked f b (p.entries (plan_calls h)) Mode.User false k a w (Ok e) → WellFormed f k a w × Covered h k a w
  checked_covered e c = go (selected h) refl
    where
      go : (o : Option ℕ) → selected h ≡ o → WellFormed f k a w × Covered h k a w
      go None q = absurd (unselected_passes f b bl p pl (plan_calls h) (sym (selected_planned f b p m h run) ∙ q) false k a w e c)
      go (Some t) q =
          let z = (task_accesses f b bl p pl (plan_calls h) false k a w (Ok e) c t (sym (selected_planned f b p m h run) ∙ q)).0 tt in (
            z.0,
            record {
              task = t;
              is_selected = q;
              region = z.1.region;
              held = (holds_planned f b p m t z.1.region h run).1 z.1.held;
              covers = record { from = z.1.from; to = z.1.to };
              right = z.1.right;
            },
          )

  -- what is covered is not refused by the table
  pub covered_checked : (t : ℕ) → selected h ≡ Some t → (g : Region) → Holds h t g → Covers g a w → right_for g k ≡ true → WellFormed f k a w → (y : Rattle.access.specs.declared.refusal.Refusal.Refusal) → Checked f b (p.entries (plan_calls h)) Mode.User false k a w (Err y) → ⊥
  covered_checked t sel g held cov right wf y c =
      (task_accesses f b bl p pl (plan_calls h) false k a w (Err y) c t (sym (selected_planned f b p m h run) ∙ sel)).1
      (wf, record { region = g; held = (holds_planned f b p m t g h run).0 held; from = cov.from; to = cov.to; right = right })

pub pass_when_entitled : (f : ℕ) (b : Book) (p : PlanMeaning) (m : MemoryMeaning) → Laws b → PlanLaws f b p → (h : History) → Run f b p m h → PassWhenEntitled f m h
pass_when_entitled f b p m bl pl h run later e earlier q x call =
    let r = run_at f b p m h later e earlier q run in
    let k = kind_of x in
    let a = address_of x in
    let w = width_of x in
    let user : in_user earlier ≡ true = task_in_user (in_user earlier) x (subst (λ (c : Call). allowed (in_user earlier) c ≡ true) call r.0.allows) in
    let is : Accessed f b (p.entries (plan_calls earlier)) (memory_after m earlier) Mode.User false x e.answer = subst (λ (c : Call). Answers f b p m earlier c e.answer) call r.0.answers in (
      (λ ok.
          let z = (accessed_passed f b (p.entries (plan_calls earlier)) Mode.User false x (memory_after m earlier) e.answer is ok).0 in
          let c = checked_covered f b p m bl pl earlier r.1 k a w z.entry z.checked in
          record {
            formed = c.0;
            admitted = z.admitted;
            task = c.1.task;
            is_entered = ap (λ (s : Bool). cond s (selected earlier) None) user ∙ c.1.is_selected;
            region = c.1.region;
            held = c.1.held;
            covers = c.1.covers;
            right = c.1.right;
          }),
      (λ en.
          let sel = (entered_selected (in_user earlier) (selected earlier) en.task en.is_entered).1 in
          ⊎_elim
          (λ z. ap passed z.1 ∙ given_passed (memory_after m earlier).byte x)
          (λ z. absurd (⊎_elim
          (λ c. covered_checked f b p m bl pl earlier r.1 k a w en.task sel en.region en.held en.covers en.right en.formed z.0 c)
          (λ d. true≢false (sym en.admitted ∙ d.declined))
          z.2))
          (accessed_cases f b (p.entries (plan_calls earlier)) Mode.User false x (memory_after m earlier) e.answer is)),
    )
