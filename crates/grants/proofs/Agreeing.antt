-- The owners hold the regions that the calls on the plan give. Assumes nothing.
use Rattle.std.proofs.Common.{◌≡◌, ℕ, zero, suc, ◌+◌, Bool, true, false, cond, not, ◌&&◌, eqb, ltb, List, [], ◌∷◌, count_by, replicate, Some, None, Option, sym, refl, ap, ◌∙◌, subst, subst₂, ⊎_elim, arith}
use Rattle.std.proofs.lemmas.List.{length-replicate}
use Rattle.std.proofs.lemmas.Bool.{cases_eq, cases_Bool, cases_order, cond-true, cond-false, ne_eqb, eq-eqb, eqb-true, lt-ltb, le-ltb, and_from, both_ways}
use Rattle.access.specs.Cases.{Report}
use Rattle.grants.specs.Regions.{fitting, asked, form_of, overlapping}
use Rattle.grants.specs.Owners.{owner_at, held, held_by, held_below, found_at, vacated}
use Rattle.grants.specs.Refusals.{grant_cases, withdraw_cases, unless_refused}
use Rattle.grants.specs.Residence.{grant_answer, after_grant, has_room, withdraw_answer, after_withdraw, vacated_at}
use Rattle.grants.specs.Resolving.{Placed}
use Rattle.grants.specs.Plans.{Holdings, with_region, without, held_with}
use Rattle.grants.specs.declared.region.Region.{Region}
use Rattle.grants.specs.declared.owner.Owner.{Owner}
use Rattle.grants.specs.declared.owner.Owner.TheVariants.{Free, Lower, Upper}
use Rattle.grants.specs.declared.call.PlanCall.{PlanCall}
use Rattle.grants.specs.declared.call.PlanCall.TheVariants.{Grant, Withdraw, Select}
use Rattle.grants.proofs.Resolution.{fits_from}
use Rattle.grants.proofs.OwnerRegisters.{all_free}
use Rattle.grants.proofs.Answering.{after_refused, withdraw_missing, withdraw_none, after_kept}
use Rattle.grants.proofs.Taking.{Taken, grant_taken, grant_placed}
use Rattle.grants.proofs.Freeing.{Freed, lower_was, withdraws, withdraw_placed}
use Rattle.grants.proofs.Same.{Same, same_grant, same_withdraw, weight, count_held_by, sums_same, count_without}

-- ---- a grant

module _ (os os' : List Owner) (top t : ℕ) (g : Region) (x : Taken os os' top t g) (q : Region → Bool) (u : ℕ) where
  weight_other : (n : ℕ) → (n ≡ top → ⊥) → weight q u (owner_at os' n) ≡ weight q u (owner_at os n)
  weight_other n ne = ⊎_elim
      (λ e. absurd (ne e))
      (⊎_elim (λ l. ap (weight q u) l.0 ∙ sym (ap (weight q u) l.1)) (λ s. ap (weight q u) s))
      (x.each n)

  past_other : (n : ℕ) → (n ≡ top → ⊥) → ltb top (suc n) ≡ ltb top n
  past_other n ne = ⊎_elim
      (λ e. absurd (ne e))
      (⊎_elim (λ h. le-ltb top (suc n) (omega arith) ∙ sym (le-ltb top n (omega arith))) (λ h. lt-ltb top (suc n) (omega arith) ∙ sym (lt-ltb top n h)))
      (cases_order n top)

  taken_count : (n : ℕ) → count_by q (held_below os' u n) ≡ cond (ltb top n) (weight q u (Upper t g)) 0 + count_by q (held_below os u n)
  unfolding held_below
  taken_count zero = let e = cond-false (ltb top 0) (weight q u (Upper t g)) 0 (le-ltb top 0 (omega arith)) in omega arith
  taken_count (suc n) = ⊎_elim
      (λ e.
      let a = count_held_by q u (owner_at os' n) (held_below os' u n) in
      let b = count_held_by q u (owner_at os n) (held_below os u n) in
      let c : weight q u (owner_at os' n) ≡ weight q u (Upper t g) = ap (λ (k : ℕ). weight q u (owner_at os' k)) e ∙ ap (weight q u) x.top_is in
      let d : weight q u (owner_at os n) ≡ 0 = ap (λ (k : ℕ). weight q u (owner_at os k)) e ∙ ap (weight q u) x.top_was in
      let i = taken_count n in
      let y = cond-false (ltb top n) (weight q u (Upper t g)) 0 (le-ltb top n (omega arith)) in
      let z = cond-true (ltb top (suc n)) (weight q u (Upper t g)) 0 (lt-ltb top (suc n) (omega arith)) in
      omega arith)
      (λ ne.
      let a = count_held_by q u (owner_at os' n) (held_below os' u n) in
      let b = count_held_by q u (owner_at os n) (held_below os u n) in
      let c = weight_other n ne in
      let i = taken_count n in
      let y : cond (ltb top (suc n)) (weight q u (Upper t g)) 0 ≡ cond (ltb top n) (weight q u (Upper t g)) 0 = ap (λ (w : Bool). cond w (weight q u (Upper t g)) 0) (past_other n ne) in
      omega arith)
      (cases_eq n top)

  -- one region more
  pub taken_held : count_by q (held os' u) ≡ count_by q (held_by (Upper t g) u (held os u))
  taken_held =
      let z = cond-true (ltb top 64) (weight q u (Upper t g)) 0 (lt-ltb top 64 x.below) in
      let i = taken_count 64 in
      let b = count_held_by q u (Upper t g) (held os u) in
      omega arith

-- ---- a withdrawal

meet : (f : ℕ) (h g : Region) → fitting f h.base h.length ≡ true → fitting f g.base g.length ≡ true → h.base ≡ g.base → overlapping h g.base g.length ≡ true
meet f h g l k e =
    let a = fits_from f h.base h.length l in
    let b = fits_from f g.base g.length k in
    let c = a.some in
    let d = b.some in
    and_from (ltb h.base (g.base + g.length)) (ltb g.base (h.base + h.length)) (lt-ltb h.base (g.base + g.length) (omega arith)) (lt-ltb g.base (h.base + h.length) (omega arith))

module _ (os os' : List Owner) (top t : ℕ) (g : Region) (x : Freed os os' top t g) (f : ℕ) (p : Placed f os) (q : Region → Bool) where
  other : Region → Bool
  other h = q h && not (eqb h.base g.base)

  not_base : (k : ℕ) (h : Region) → owner_at os k ≡ Upper t h → (k ≡ top → ⊥) → eqb h.base g.base ≡ false
  not_base k h e ne = ne_eqb h.base g.base
      (λ s. both_ways (overlapping h g.base g.length) (p.apart k top t h g e x.top_was ne) (meet f h g (p.uppers k t h e).0.0 (p.uppers top t g x.top_was).0.0 s))

  keep_weight : (k : ℕ) (o : Owner) → owner_at os k ≡ o → (k ≡ top → ⊥) → weight q t o ≡ weight other t o
  unfolding other
  keep_weight k Free e ne = refl
  keep_weight k (Lower u h) e ne = refl
  keep_weight k (Upper u h) e ne = ⊎_elim
      (λ s. let f = not_base k h (e ∙ ap (λ (z : ℕ). Upper z h) (eqb-true u t s)) ne in
      ap (λ (z : Bool). cond (eqb u t) (cond z 1 0) 0) (same (q h) (eqb h.base g.base) f))
      (λ s. ap (λ (z : Bool). cond z (cond (q h) 1 0) 0) s ∙ sym (ap (λ (z : Bool). cond z (cond (q h && not (eqb h.base g.base)) 1 0) 0) s))
      (cases_Bool (eqb u t))
    where
      same : (a c : Bool) → c ≡ false → a ≡ (a && not c)
      same true c f = sym (ap not f)
      same false c f = refl

  gone : weight other t (Upper t g) ≡ 0
  unfolding other
  gone = go (eqb t t) (q g) (eqb g.base g.base) (eq-eqb g.base g.base refl)
    where
      go : (a b c : Bool) → c ≡ true → ◌≡◌ {A = ℕ} (cond a (cond (b && not c) 1 0) 0) 0
      go true true c e = ap (λ (z : Bool). cond {A = ℕ} (not z) 1 0) e
      go true false c e = refl
      go false b c e = refl

  weight_freed : (k : ℕ) → weight q t (owner_at os' k) ≡ weight other t (owner_at os k)
  unfolding other
  weight_freed k = ⊎_elim
      (λ y. ap (weight q t) y.0 ∙ sym (⊎_elim
      (λ e. ap (λ (z : ℕ). weight other t (owner_at os z)) e ∙ ap (weight other t) x.top_was ∙ gone)
      (λ e. ap (weight other t) (lower_was os os' top t g x f p k e.0 e.1))
      y.1))
      (λ s. ap (weight q t) s.0 ∙ keep_weight k (owner_at os k) refl s.1)
      (x.each k)

  weight_others : (u : ℕ) → eqb t u ≡ false → (k : ℕ) → weight q u (owner_at os' k) ≡ weight q u (owner_at os k)
  weight_others u d k = ⊎_elim
      (λ y. ap (weight q u) y.0 ∙ sym (⊎_elim
      (λ e. ap (λ (z : ℕ). weight q u (owner_at os z)) e ∙ ap (weight q u) x.top_was ∙ cond-false (eqb t u) (cond (q g) 1 0) 0 d)
      (λ e. ap (weight q u) (lower_was os os' top t g x f p k e.0 e.1))
      y.1))
      (λ s. ap (weight q u) s.0)
      (x.each k)

  -- the region is gone, and all others stay
  freed_own : count_by q (held os' t) ≡ count_by q (without g.base (held os t))
  unfolding other
  freed_own = sums_same q other t os os' weight_freed 64 ∙ sym (count_without q g.base (held os t))

  freed_others : (u : ℕ) → eqb t u ≡ false → count_by q (held os' u) ≡ count_by q (held os u)
  freed_others u d = sums_same q q u os os' (weight_others u d) 64

  pub freed_held : (u : ℕ) → count_by q (held os' u) ≡ count_by q (cond (eqb t u) (without g.base (held os u)) (held os u))
  freed_held u = ⊎_elim
      (λ e. let P : ℕ → Type 0 = λ v. count_by q (held os' v) ≡ count_by q (without g.base (held os v)) in
      subst P (eqb-true t u e) freed_own ∙ sym (ap (count_by q) (cond-true (eqb t u) (without g.base (held os u)) (held os u) e)))
      (λ d. freed_others u d ∙ sym (ap (count_by q) (cond-false (eqb t u) (without g.base (held os u)) (held os u) d)))
      (cases_Bool (eqb t u))

-- ---- the calls

-- the owners hold what each task holds, and make sense
pub record Agrees (f : ℕ) (os : List Owner) (h : Holdings) : Type 0 where
  pub placed : Placed f os
  pub same : (u : ℕ) → Same (held os u) (h u)

-- the holdings after a call with this answer
abbrev pub held_next : Option Report → PlanCall → Holdings → Holdings
held_next a c h u = unless_refused a (held_with c h u) (h u)

kept_held : (f : ℕ) (os os' : List Owner) (h : Holdings) (c : PlanCall) (a : Option Report) (x : Report) → os' ≡ os → a ≡ Some x → Agrees f os h → (u : ℕ) → Same (held os' u) (held_next a c h u)
kept_held f os os' h c a x p q y u = subst₂ (λ (z : List Owner) (w : Option Report). Same (held z u) (held_next w c h u)) (sym p) (sym q) (y.same u)

module _ (f : ℕ) (os : List Owner) (h : Holdings) (x : Agrees f os h) (t b l r : ℕ) where
  pub asked_is : grant_cases f 16 (h t) (λ _. has_room os (form_of b l)) t b l r ≡ grant_answer f os t b l r
  asked_is = sym (same_grant (held os t) (h t) (x.same t) f 16 (has_room os) t b l r)

  more_held : grant_answer f os t b l r ≡ None → (u : ℕ) → Same (held (after_grant f os t b l r) u) (held_with (Grant t b l r) h u)
  more_held q u w =
      let y = grant_taken f os t b l r x.placed q in
      let g = y.0 in
      let k = y.1 in
      let a = taken_held os (after_grant f os t b l r) k.top t g k.taken w u in
      let c = count_held_by w u (Upper t g) (held os u) in
      let d = count_held_by w u (Upper t g) (h u) in
      let e = x.same u w in
      let s : count_by w (held_by (Upper t g) u (held os u)) ≡ count_by w (held_by (Upper t g) u (h u)) = omega arith in
      let z : with_region (asked b l r) (h u) ≡ g ∷ h u = ap (λ (o : Option Region). with_region o (h u)) k.region in
      a ∙ s ∙ ap (λ (v : List Region). count_by w (cond (eqb t u) v (h u))) (sym z)

  grant_held : (o : Option Report) → grant_answer f os t b l r ≡ o
      → (u : ℕ) → Same (held (after_grant f os t b l r) u) (held_next (grant_cases f 16 (h t) (λ _. has_room os (form_of b l)) t b l r) (Grant t b l r) h u)
  grant_held (Some e) q = kept_held f os (after_grant f os t b l r) h (Grant t b l r) _ e (after_refused f os t b l r e q) (asked_is ∙ q) x
  grant_held None q = λ u.
      subst (λ (w : Option Report). Same (held (after_grant f os t b l r) u) (held_next w (Grant t b l r) h u)) (sym (asked_is ∙ q)) (more_held q u)

  pub grant_agrees : Agrees f (after_grant f os t b l r) (held_next (grant_cases f 16 (h t) (λ _. has_room os (form_of b l)) t b l r) (Grant t b l r) h)
  grant_agrees = record { placed = grant_placed f os t b l r x.placed; same = grant_held (grant_answer f os t b l r) refl }

module _ (f : ℕ) (os : List Owner) (h : Holdings) (x : Agrees f os h) (t b : ℕ) where
  pub missing_is : withdraw_cases 16 (h t) t b ≡ withdraw_answer os t b
  missing_is = sym (same_withdraw (held os t) (h t) (x.same t) 16 t b)

  less_held : (i : ℕ) → found_at os t b ≡ Some i → (u : ℕ) → Same (held (vacated os i) u) (held_with (Withdraw t b) h u)
  less_held i n u w =
      let y = withdraws f os t b i x.placed n in
      freed_held os (vacated os i) i t y.0 y.1.freed f x.placed w u
      ∙ ap (λ (z : ℕ). count_by w (cond (eqb t u) (without z (held os u)) (held os u))) y.1.base
      ∙ go (eqb t u)
    where
      go : (y : Bool) → count_by w (cond y (without b (held os u)) (held os u)) ≡ count_by w (cond y (without b (h u)) (h u))
      go true = count_without w b (held os u) ∙ x.same u (λ g. w g && not (eqb g.base b)) ∙ sym (count_without w b (h u))
      go false = x.same u w

  -- an accepted withdrawal found the region
  found_some : withdraw_answer os t b ≡ None → (i : ℕ) × (found_at os t b ≡ Some i)
  found_some q = go (found_at os t b) refl
    where
      go : (o : Option ℕ) → found_at os t b ≡ o → (i : ℕ) × (found_at os t b ≡ Some i)
      go (Some i) e = (i, e)
      go None e = ⊎_elim
          (λ y. let n = sym (withdraw_missing os t b y e) ∙ q in cc)
          (λ d. let n = sym (withdraw_none os t b d) ∙ q in cc)
          (cases_Bool (ltb t 16))

  withdraw_held : (o : Option Report) → withdraw_answer os t b ≡ o → (u : ℕ) → Same (held (after_withdraw os t b) u) (held_next (withdraw_cases 16 (h t) t b) (Withdraw t b) h u)
  withdraw_held (Some e) q = kept_held f os (after_withdraw os t b) h (Withdraw t b) _ e (after_kept os t b e q) (missing_is ∙ q) x
  withdraw_held None q = λ u.
      let n = found_some q in
      let a : after_withdraw os t b ≡ vacated os n.0 = λ j. unless_refused (q j) (vacated_at os (n.1 j)) os in
      subst₂ (λ (z : List Owner) (w : Option Report). Same (held z u) (held_next w (Withdraw t b) h u)) (sym a) (sym (missing_is ∙ q)) (less_held n.0 n.1 u)

  pub withdraw_agrees : Agrees f (after_withdraw os t b) (held_next (withdraw_cases 16 (h t) t b) (Withdraw t b) h)
  withdraw_agrees = record { placed = withdraw_placed f os t b x.placed; same = withdraw_held (withdraw_answer os t b) refl }

pub select_agrees : (f : ℕ) (os : List Owner) (h : Holdings) → Agrees f os h → (t : ℕ) (a : Option Report) → Agrees f os (held_next a (Select t) h)
select_agrees f os h x t None = x
select_agrees f os h x t (Some e) = x

-- ---- no calls

start_held : (u : ℕ) → Same (held (replicate 64 Free) u) []
unfolding held_below
start_held u q = sums_same q q u [] (replicate 64 Free) (λ k. ap (weight q u) (all_free k)) 64

pub start_placed : (f : ℕ) → Placed f (replicate 64 Free)
start_placed f = record {
  sized = length-replicate 64 Free;
  uppers = λ i t g e. let a = all_free i in cc;
  lowers = λ i t g e. let a = all_free i in cc;
  apart = λ i j t g k e d n. let a = all_free i in cc;
}

pub start_agrees : (f : ℕ) → Agrees f (replicate 64 Free) (λ _. [])
start_agrees f = record { placed = start_placed f; same = start_held }
