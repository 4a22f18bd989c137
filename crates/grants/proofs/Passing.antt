-- Which task accesses a table passes above any plan. Assumes nothing.
use Rattle.std.proofs.Common.{◌≡◌, ℕ, zero, suc, ◌+◌, ◌-◌, ◌<◌, ◌≤◌, Bool, true, false, cond, not, eqb, ltb, ◌⊎◌, ◌↔◌, List, [], ◌∷◌, Some, None, Ok, Err, MatchBool, Option, Result, sym, refl, ap, ◌∙◌, subst, subst₂, inl, inr, ⊎_elim, arith}
use mathlib.Core.Bool.{and_comm}
use Rattle.std.proofs.lemmas.Bool.{cond_both, cases_lt, lt-ltb, le-ltb, ltb-false, and_from, both_ways, eqb-true, eqb-false, true≢false}
use Rattle.std.proofs.lemmas.Bool.Decides.{when_true, when_false}
use Rattle.access.specs.Cases.{Report, refused, first_of}
use Rattle.access.specs.Formed.{limit, width_of, WellFormed, ill_formed}
use Rattle.access.specs.Refusals.{report_of}
use Rattle.access.specs.Rights.{allows, perms_of}
use Rattle.access.specs.declared.access.Kind.{Kind}
use Rattle.access.specs.declared.access.Kind.TheVariants.{Load, Store, Fetch}
use Rattle.access.specs.declared.access.Mode.TheVariants.{User}
use Rattle.access.specs.declared.refusal.Refusal.{Refusal}
use Rattle.book.specs.Books.{Book, Laws}
use Rattle.table.specs.Registers.{Registers, bounds_at}
use Rattle.table.specs.Checks.{AnyByte, EveryByte, Holds, Deciding, Permitted, Passes, PassesWith, RefusedAs, Checked}
use Rattle.grants.specs.Regions.{asked, overlapping}
use Rattle.grants.specs.Refusals.{any_overlaps, unless_refused}
use Rattle.grants.specs.Resolving.{In, Resolves}
use Rattle.grants.specs.Plans.{PlanTerms, Holdings, ShownFor, answer_with, with_region, without, held_with, held_after, selected_after}
use Rattle.grants.specs.Passing.{Covered, Passed, TaskAccesses}
use Rattle.grants.specs.declared.region.Region.{Region}
use Rattle.grants.specs.declared.call.PlanCall.{PlanCall}
use Rattle.grants.specs.declared.call.PlanCall.TheVariants.{Grant, Withdraw, Select}
use Rattle.grants.proofs.Deciding.{granted}
use Rattle.grants.proofs.Answering.{asked_by}
use Rattle.grants.proofs.Taking.{none_overlaps}

-- ---- the regions that a task holds lie apart

abbrev Apart : List Region → Type 0
Apart gs = (g k : Region) → In g gs → In k gs → (g ≡ k) ⊎ (overlapping g k.base k.length ≡ false)

apart_more : (gs : List Region) (g : Region) → Apart gs → any_overlaps gs g.base g.length ≡ false → Apart (g ∷ gs)
apart_more gs g a n h k (inl p) (inl q) = inl (p ∙ sym q)
apart_more gs g a n h k (inl p) (inr j) =
    inr (and_comm (ltb h.base (k.base + k.length)) (ltb k.base (h.base + h.length)) ∙ ap (λ (z : Region). overlapping k z.base z.length) p ∙ none_overlaps gs g.base g.length k n j)
apart_more gs g a n h k (inr i) (inl q) = inr (ap (λ (z : Region). overlapping h z.base z.length) q ∙ none_overlaps gs g.base g.length h n i)
apart_more gs g a n h k (inr i) (inr j) = a h k i j

-- what is left of the regions was there, and begins elsewhere
pub without_parts : (b : ℕ) (gs : List Region) (g : Region) → In g (without b gs) → In g gs × (g.base ≡ b → ⊥)
without_parts b [] g i = absurd i
without_parts b (k ∷ gs) g i = go (eqb k.base b) refl (without_parts b gs g) i
  where
    go : (x : Bool) → eqb k.base b ≡ x → (In g (without b gs) → In g gs × (g.base ≡ b → ⊥)) → In g (cond x (without b gs) (k ∷ without b gs)) → In g (k ∷ gs) × (g.base ≡ b → ⊥)
    go true q ih i = let p = ih i in (inr p.0, p.1)
    go false q ih (inl e) = (inl e, λ h. eqb-false k.base b q (ap (λ (z : Region). z.base) (sym e) ∙ h))
    go false q ih (inr i) = let p = ih i in (inr p.0, p.1)

with_region_lem : (o : Option Region) (b l : ℕ) (gs : List Region) → ((g : Region) → o ≡ Some g → (g.base ≡ b) × (g.length ≡ l)) → Apart gs → any_overlaps gs b l ≡ false → Apart (with_region o gs)
with_region_lem None b l gs s a n = a
with_region_lem (Some g) b l gs s a n = let e = s g refl in apart_more gs g a (subst₂ (λ (x y : ℕ). any_overlaps gs x y ≡ false) (sym e.0) (sym e.1) n)

module _ (f : ℕ) (p : PlanTerms) where
  step : (cs : List PlanCall) (h : Holdings) → ((u : ℕ) → Apart (h u)) → (c : PlanCall) (o : Option Report) → answer_with f p cs h c ≡ o → (u : ℕ) → Apart (unless_refused o (held_with c h u) (h u))
  step cs h a c (Some e) q u = a u
  step cs h a (Grant t b l r) None q u = cond_both (eqb t u) (with_region (asked b l r) (h u)) (h u) Apart
      (λ e. let n = (granted f p.tasks (h t) t b l r (λ _. p.room cs b l) q).1.apart in
      with_region_lem (asked b l r) b l (h u) (asked_by b l r) (a u) (subst (λ (z : ℕ). any_overlaps (h z) b l ≡ false) (eqb-true t u e) n)) (λ _. a u)
  step cs h a (Withdraw t b) None q u = cond_both (eqb t u) (without b (h u)) (h u) Apart (λ e g k i j. a u g k (without_parts b (h u) g i).0 (without_parts b (h u) k j).0) (λ _. a u)
  step cs h a (Select t) None q u = a u

  held_apart : (cs : List PlanCall) (u : ℕ) → Apart (held_after f p cs u)
  unfolding held_after
  held_apart [] u = λ g k i j. absurd i
  held_apart (c ∷ cs) u = step cs (held_after f p cs) (held_apart cs) c (answer_with f p cs (held_after f p cs) c) refl u

-- ---- accesses

some_width : (k : Kind) (w : ℕ) → width_of k w ≡ true → 0 < w
some_width Load zero e = absurd (true≢false (sym e))
some_width Store zero e = absurd (true≢false (sym e))
some_width Fetch zero e = absurd (true≢false (sym e))
some_width k (suc w) e = omega arith

-- an access is well formed exactly when nothing is wrong with it
pub none_wrong : (f : ℕ) (k : Kind) (a w : ℕ) → WellFormed f k a w → ill_formed f k a w ≡ None
none_wrong f k a w z = let r = le-ltb (limit f) (a + w) z.1 in λ i. first_of ((not (z.0 i), refused 41 []) ∷ (r i, refused 42 []) ∷ [])

is_formed : (f : ℕ) (k : Kind) (a w : ℕ) → ill_formed f k a w ≡ None → WellFormed f k a w
is_formed f k a w e = go (width_of k w) (ltb (limit f) (a + w)) refl refl e
  where
    go : (x y : Bool) → width_of k w ≡ x → ltb (limit f) (a + w) ≡ y → first_of ((not x, refused 41 []) ∷ (y, refused 42 []) ∷ []) ≡ None → WellFormed f k a w
    go false y p q n = cc
    go true true p q n = cc
    go true false p q n = (p, ltb-false (limit f) (a + w) q)

module _ (b : Book) (l : Laws b) (r : Registers) (gs : List Region) (s : Resolves b r gs) (sum : Bool) (k : Kind) (a w : ℕ) where
  covered : (e : ℕ) → 0 < w → Passes b r User sum k a w e → Covered gs k a w
  covered e pos p = ⊎_elim
      (λ h.
      let P : Type 0 = EveryByte (bounds_at r e) a w × (b.permits (r.config e) User sum k ≡ true) in
      let m = when_true P (b.unmatched User ≡ true) (lt-ltb e 64 h) p.1 in
      let y = s.only e h (p.0.2 h).0 in
      let g = y.0 in
      let every = subst (λ (z : ℕ × ℕ). EveryByte z a w) y.2.bounds m.0 in
      let lo = every a (omega arith) (omega arith) in
      let hi = every (a + w - 1) (omega arith) (omega arith) in
      record { region = g; held = y.1; from = lo.0; to = (let z = hi.1 in omega arith); right = sym (y.2.rights sum k) ∙ m.1 })
      (λ h.
      let P : Type 0 = EveryByte (bounds_at r e) a w × (b.permits (r.config e) User sum k ≡ true) in
      let m = when_false P (b.unmatched User ≡ true) (le-ltb e 64 h) p.1 in
      absurd (both_ways (b.unmatched User) l.user_unmatched m))
      (cases_lt e 64)

  module _ (ap' : Apart gs) (c : Covered gs k a w) (pos : 0 < w) where
    same_region_lem : (g : Region) → In g gs → AnyByte (g.base, g.base + g.length) a w → g ≡ c.region
    same_region_lem g i x =
        let h = c.region in
        let lo = x.1.0 in let hi = x.1.1 in let lo' = x.2.0 in let hi' = x.2.1 in let f = c.from in let t = c.to in
        ⊎_elim (λ e. e)
        (λ n. absurd (both_ways (overlapping g h.base h.length) n
        (and_from (ltb g.base (h.base + h.length)) (ltb h.base (g.base + g.length)) (lt-ltb g.base (h.base + h.length) (omega arith)) (lt-ltb h.base (g.base + g.length) (omega arith)))))
        (ap' g h i c.held)

    permitted : (e : ℕ) → Deciding r a w e → Permitted b r e User sum k a w
    permitted e d =
        let h = c.region in
        let y = s.all h c.held in
        let i = y.0 in
        let f = c.from in
        let t = c.to in
        let il = y.1 in
        let holds : Holds r i a w = (y.2, subst (λ (z : ℕ × ℕ). AnyByte z a w) (sym y.3.bounds) (a, (omega arith, omega arith), (omega arith, omega arith))) in
        let low : e ≤ i = ⊎_elim (λ q. absurd (d.1 i q holds)) (λ q. q) (cases_lt i e) in
        let el : e < 64 = omega arith in
        let m = d.2 el in
        let x = s.only e el m.0 in
        let g = x.0 in
        let same : g ≡ h = same_region_lem g x.1 (subst (λ (z : ℕ × ℕ). AnyByte z a w) x.2.bounds m.1) in
        let bounds : bounds_at r e ≡ (h.base, h.base + h.length) = x.2.bounds ∙ ap (λ (z : Region). (z.base, z.base + z.length)) same in
        let every : EveryByte (bounds_at r e) a w = subst (λ (z : ℕ × ℕ). EveryByte z a w) (sym bounds) (λ z u v. (omega arith, omega arith)) in
        let right : b.permits (r.config e) User sum k ≡ true = x.2.rights sum k ∙ ap (λ (z : Region). allows (perms_of z.rights) k) same ∙ c.right in
        let P : Type 0 = EveryByte (bounds_at r e) a w × (b.permits (r.config e) User sum k ≡ true) in
        subst (λ (z : Bool). MatchBool z P (b.unmatched User ≡ true)) (sym (lt-ltb e 64 el)) (every, right)

  decided : (f : ℕ) → Apart gs → (x : Result ℕ Refusal) → Checked f b r User sum k a w x → Passed x ↔ (WellFormed f k a w × Covered gs k a w)
  decided f n (Ok e) c = ((λ _. let z = formed f (ill_formed f k a w) refl c in (z.0, covered e (some_width k w z.0.0) z.1)), (λ _. tt))
    where
      formed : (f : ℕ) (v : Option Report) → ill_formed f k a w ≡ v → PassesWith b r User sum k a w v e → WellFormed f k a w × Passes b r User sum k a w e
      formed f None q p = (is_formed f k a w q, p)
      formed f (Some y) q p = absurd p
  decided f n (Err x) c = ((λ z. absurd z), (λ z. stops f (ill_formed f k a w) refl z.0 z.1 c))
    where
      stops : (f : ℕ) (v : Option Report) → ill_formed f k a w ≡ v → WellFormed f k a w → Covered gs k a w → RefusedAs b r User sum k a w v (report_of x) → ⊥
      stops f (Some y) q wf cov p = let z = sym q ∙ none_wrong f k a w wf in cc
      stops f None q wf cov p = p.1.1 (permitted n cov (some_width k w wf.0) p.0 p.1.0)

shown_at : (b : Book) (r : Registers) (h : Holdings) (t : ℕ) (o : Option ℕ) → o ≡ Some t → ShownFor b r o h → Resolves b r (h t)
shown_at b r h t o q s = subst (λ (z : Option ℕ). ShownFor b r z h) q s

pub task_accesses : (f : ℕ) → TaskAccesses f
task_accesses f b l p laws cs sum k a w x c t q =
    decided b l (p.entries cs) (held_after f p.terms cs t)
    (shown_at b (p.entries cs) (held_after f p.terms cs) t (selected_after f p.terms cs) q (laws.shown cs)) sum k a w f (held_apart f p.terms cs t) x c
