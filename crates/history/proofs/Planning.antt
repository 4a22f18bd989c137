-- A run's history and its plan say the same of selection and regions.
use Rattle.std.proofs.Common.{◌≡◌, ℕ, Bool, true, false, cond, eqb, ◌⊎◌, ◌↔◌, List, [], ◌∷◌, Some, None, Option, sym, refl, ap, ◌∙◌, subst, inl, inr, ⊎_elim, is_none}
use Rattle.std.proofs.lemmas.Bool.{cond_both, cond-true, cond-false, false≢true, eqb-true, eqb-false, eq-eqb}
use Rattle.access.specs.Cases.{Report}
use Rattle.book.specs.Books.{Book}
use Rattle.memory.specs.Meaning.{MemoryMeaning}
use Rattle.grants.specs.Regions.{asked}
use Rattle.grants.specs.Refusals.{unless_refused}
use Rattle.grants.specs.Resolving.{In}
use Rattle.grants.specs.Plans.{PlanMeaning, Holdings, with_region, without, held_with, selected_with, held_after, answer_after, selected_after}
use Rattle.grants.specs.declared.region.Region.{Region}
use Rattle.grants.specs.declared.call.PlanCall.{PlanCall}
use Rattle.grants.specs.declared.call.PlanCall.TheVariants.{Grant, Withdraw, Select}
use Rattle.grants.proofs.Passing.{without_parts}
use Rattle.history.specs.declared.call.Call.{Call}
use Rattle.history.specs.declared.call.Call.TheVariants.{Plan, Supervisor, Enter, Trap, Task}
use Rattle.history.specs.declared.call.Answer.{Answer}
use Rattle.history.specs.declared.call.Answer.TheVariants.{Done, Value, Declined, Refused}
use Rattle.history.specs.Answers.{passed}
use Rattle.history.specs.Histories.{History, selected, selected_by, selected_by_plan, Holds, Granted, GrantedByPlan, Withdrawn, WithdrawnByPlan}
use Rattle.history.specs.Runs.{PlanAnswered, Answers, Run, plan_calls, with_plan_call}

accepted : (cases : Option Report) (a : Answer) → PlanAnswered cases a → passed a ≡ is_none cases
accepted cases Done q = sym (ap is_none q)
accepted cases (Value v) q = absurd q
accepted cases (Declined x) q = sym (ap is_none q)
accepted cases (Refused x) q = absurd q

-- ---- the selection

selected_plan : (c : PlanCall) (a : Answer) (o : Option Report) → passed a ≡ is_none o → (s t : Option ℕ) → s ≡ t → selected_by_plan c a s ≡ unless_refused o (selected_with c t) t
selected_plan (Grant u b l r) a None q s t e = e
selected_plan (Grant u b l r) a (Some x) q s t e = e
selected_plan (Withdraw u b) a None q s t e = e
selected_plan (Withdraw u b) a (Some x) q s t e = e
selected_plan (Select u) a None q s t e = cond-true _ _ _ q
selected_plan (Select u) a (Some x) q s t e = cond-false _ _ _ q ∙ e

-- ---- the regions of a task

with_kept : (o : Option Region) (gs : List Region) (g : Region) → In g gs → In g (with_region o gs)
with_kept None gs g i = i
with_kept (Some k) gs g i = inr i

with_new : (o : Option Region) (gs : List Region) (g : Region) → o ≡ Some g → In g (with_region o gs)
with_new o gs g q = subst (λ (z : Option Region). In g (with_region z gs)) (sym q) (inl refl)

with_either : (o : Option Region) (gs : List Region) (g : Region) → In g (with_region o gs) → (o ≡ Some g) ⊎ In g gs
with_either None gs g i = inr i
with_either (Some k) gs g (inl e) = inl (ap Some (sym e))
with_either (Some k) gs g (inr i) = inr i

without_kept : (b : ℕ) (gs : List Region) (g : Region) → In g gs → (g.base ≡ b → ⊥) → In g (without b gs)
without_kept b [] g i n = i
without_kept b (k ∷ gs) g i n = go (eqb k.base b) refl (λ j. without_kept b gs g j n) i
  where
    go : (x : Bool) → eqb k.base b ≡ x → (In g gs → In g (without b gs)) → In g (k ∷ gs) → In g (cond x (without b gs) (k ∷ without b gs))
    go true q ih (inl e) = absurd (n (ap (λ (z : Region). z.base) e ∙ eqb-true k.base b q))
    go true q ih (inr i) = ih i
    go false q ih (inl e) = inl e
    go false q ih (inr i) = inr (ih i)

module _ (a : Answer) (t : ℕ) (g : Region) (H : Type 0) (hs : Holdings) (same : H ↔ In g (hs t)) where
  granted_held : (u b l r : ℕ) → passed a ≡ true → ((GrantedByPlan (Grant u b l r) a t g ⊎ (H × ¬ ⊥)) ↔ In g (cond (eqb u t) (with_region (asked b l r) (hs t)) (hs t)))
  granted_held u b l r ok = (to, from)
    where
      to : (GrantedByPlan (Grant u b l r) a t g ⊎ (H × ¬ ⊥)) → In g (cond (eqb u t) (with_region (asked b l r) (hs t)) (hs t))
      to (inl x) = subst (λ (z : Bool). In g (cond z (with_region (asked b l r) (hs t)) (hs t))) (sym (eq-eqb u t x.1)) (with_new (asked b l r) (hs t) g x.2)
      to (inr y) = cond_both (eqb u t) (with_region (asked b l r) (hs t)) (hs t) (In g) (λ _. with_kept (asked b l r) (hs t) g (same.0 y.0)) (λ _. same.0 y.0)

      kept : In g (hs t) → GrantedByPlan (Grant u b l r) a t g ⊎ (H × ¬ ⊥)
      kept i = inr (same.1 i, λ z. z)

      from : In g (cond (eqb u t) (with_region (asked b l r) (hs t)) (hs t)) → GrantedByPlan (Grant u b l r) a t g ⊎ (H × ¬ ⊥)
      from = cond_both (eqb u t) (with_region (asked b l r) (hs t)) (hs t) (λ (gs : List Region). In g gs → GrantedByPlan (Grant u b l r) a t g ⊎ (H × ¬ ⊥))
          (λ q j. ⊎_elim (λ e. inl (ok, eqb-true u t q, e)) kept (with_either (asked b l r) (hs t) g j)) (λ q j. kept j)

  withdrawn_held : (u b : ℕ) → passed a ≡ true → ((⊥ ⊎ (H × ¬ WithdrawnByPlan (Withdraw u b) a t g)) ↔ In g (cond (eqb u t) (without b (hs t)) (hs t)))
  withdrawn_held u b ok = (to, from)
    where
      to : (⊥ ⊎ (H × ¬ WithdrawnByPlan (Withdraw u b) a t g)) → In g (cond (eqb u t) (without b (hs t)) (hs t))
      to (inl x) = absurd x
      to (inr y) = cond_both (eqb u t) (without b (hs t)) (hs t) (In g) (λ q. without_kept b (hs t) g (same.0 y.0) (λ e. y.1 (ok, eqb-true u t q, e))) (λ _. same.0 y.0)

      from : In g (cond (eqb u t) (without b (hs t)) (hs t)) → ⊥ ⊎ (H × ¬ WithdrawnByPlan (Withdraw u b) a t g)
      from = cond_both (eqb u t) (without b (hs t)) (hs t) (λ (gs : List Region). In g gs → ⊥ ⊎ (H × ¬ WithdrawnByPlan (Withdraw u b) a t g))
          (λ q j. let p = without_parts b (hs t) g j in inr (same.1 p.0, λ w. p.1 w.2))
          (λ q j. inr (same.1 j, λ w. eqb-false u t q w.1))

  -- where nothing is granted or withdrawn
  unchanged : (G W : Type 0) → (G → ⊥) → (W → ⊥) → ((G ⊎ (H × ¬ W)) ↔ In g (hs t))
  unchanged G W no-g no-w = (⊎_elim (λ x. absurd (no-g x)) (λ y. same.0 y.0), λ i. inr (same.1 i, no-w))

  holds_plan : (c : PlanCall) (o : Option Report) → passed a ≡ is_none o → ((GrantedByPlan c a t g ⊎ (H × ¬ WithdrawnByPlan c a t g)) ↔ In g (unless_refused o (held_with c hs t) (hs t)))
  holds_plan (Grant u b l r) None q = granted_held u b l r q
  holds_plan (Grant u b l r) (Some x) q = unchanged _ _ (λ y. false≢true (sym q ∙ y.0)) (λ z. z)
  holds_plan (Withdraw u b) None q = withdrawn_held u b q
  holds_plan (Withdraw u b) (Some x) q = unchanged _ _ (λ z. z) (λ y. false≢true (sym q ∙ y.0))
  holds_plan (Select u) None q = unchanged _ _ (λ z. z) (λ z. z)
  holds_plan (Select u) (Some x) q = unchanged _ _ (λ z. z) (λ z. z)

-- ---- along a run

module _ (f : ℕ) (b : Book) (p : PlanMeaning) (m : MemoryMeaning) where
  selected_step : (h : History) (c : Call) (a : Answer) → Answers f b p m h c a → selected h ≡ selected_after f p.terms (plan_calls h) → selected_by c a (selected h) ≡ selected_after f p.terms (with_plan_call c (plan_calls h))
  unfolding selected_after
  selected_step h (Plan c) a q ih = selected_plan c a (answer_after f p.terms (plan_calls h) c) (accepted _ a q) (selected h) (selected_after f p.terms (plan_calls h)) ih
  selected_step h (Supervisor sum x) a q ih = ih
  selected_step h Enter a q ih = ih
  selected_step h Trap a q ih = ih
  selected_step h (Task x) a q ih = ih

  -- the selected task is that of the plan
  pub selected_planned : (h : History) → Run f b p m h → selected h ≡ selected_after f p.terms (plan_calls h)
  unfolding selected_after
  selected_planned [] r = refl
  selected_planned (e ∷ h) r = selected_step h e.call e.answer r.0.answers (selected_planned h r.1)

  module _ (t : ℕ) (g : Region) where
    holds_step : (h : History) (c : Call) (a : Answer) → Answers f b p m h c a → (Holds h t g ↔ In g (held_after f p.terms (plan_calls h) t)) → ((Granted c a t g ⊎ (Holds h t g × ¬ Withdrawn c a t g)) ↔ In g (held_after f p.terms (with_plan_call c (plan_calls h)) t))
    unfolding held_after
    holds_step h (Plan c) a q ih = holds_plan a t g (Holds h t g) (held_after f p.terms (plan_calls h)) ih c (answer_after f p.terms (plan_calls h) c) (accepted _ a q)
    holds_step h (Supervisor sum x) a q ih = unchanged a t g (Holds h t g) (held_after f p.terms (plan_calls h)) ih ⊥ ⊥ (λ z. z) (λ z. z)
    holds_step h Enter a q ih = unchanged a t g (Holds h t g) (held_after f p.terms (plan_calls h)) ih ⊥ ⊥ (λ z. z) (λ z. z)
    holds_step h Trap a q ih = unchanged a t g (Holds h t g) (held_after f p.terms (plan_calls h)) ih ⊥ ⊥ (λ z. z) (λ z. z)
    holds_step h (Task x) a q ih = unchanged a t g (Holds h t g) (held_after f p.terms (plan_calls h)) ih ⊥ ⊥ (λ z. z) (λ z. z)

    -- what a task holds is what it holds of the plan
    pub holds_planned : (h : History) → Run f b p m h → (Holds h t g ↔ In g (held_after f p.terms (plan_calls h) t))
    unfolding held_after
    holds_planned [] r = ((λ x. x), (λ x. x))
    holds_planned (e ∷ h) r = holds_step h e.call e.answer r.0.answers (holds_planned h r.1)
