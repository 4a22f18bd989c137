-- Owners that make sense stay so when a region is withdrawn. Assumes nothing.
use Rattle.std.proofs.Common.{◌≡◌, ℕ, suc, ◌-◌, ◌<◌, true, eqb, ◌⊎◌, List, length, set, Some, None, Option, sym, refl, ap, ◌∙◌, subst, inl, inr, ⊎_elim, arith}
use Rattle.std.proofs.lemmas.List.{get_or-set_same, get_or-set_other, length-set}
use Rattle.std.proofs.lemmas.Bool.{cases_eq, and_parts, eqb-true, true≢false}
use Rattle.grants.specs.Owners.{owner_at, begins, found_at, vacated, vacated_by, vacated_form}
use Rattle.access.specs.Cases.{Report}
use Rattle.grants.specs.Refusals.{unless_refused}
use Rattle.grants.specs.Residence.{withdraw_answer, after_withdraw, vacated_at}
use Rattle.grants.specs.Resolving.{Placed}
use Rattle.grants.specs.declared.region.Region.{Region}
use Rattle.grants.specs.declared.region.Form.{Form}
use Rattle.grants.specs.declared.region.Form.TheVariants.{Na4, Napot, Pair}
use Rattle.grants.specs.declared.owner.Owner.{Owner}
use Rattle.grants.specs.declared.owner.Owner.TheVariants.{Free, Lower, Upper}
use Rattle.grants.proofs.Answering.{found_law}
use Rattle.grants.proofs.Taking.{FormOf}

-- the entries of the region at `top` are free, and every other entry is as it was
pub record Freed (os os' : List Owner) (top t : ℕ) (g : Region) : Type 0 where
  pub sized : length os' ≡ 64
  pub below : top < 64
  pub top_was : owner_at os top ≡ Upper t g
  pub each : (k : ℕ) → ((owner_at os' k ≡ Free) × ((k ≡ top) ⊎ ((suc k ≡ top) × (FormOf g ≡ Pair)))) ⊎ ((owner_at os' k ≡ owner_at os k) × (k ≡ top → ⊥) × (FormOf g ≡ Pair → suc k ≡ top → ⊥))

module _ (os os' : List Owner) (top t : ℕ) (g : Region) (x : Freed os os' top t g) (f : ℕ) (p : Placed f os) where
  kept_upper : (i u : ℕ) (k : Region) → owner_at os' i ≡ Upper u k → (owner_at os i ≡ Upper u k) × (i ≡ top → ⊥)
  kept_upper i u k e = ⊎_elim (λ f. let a = f.0 in cc) (λ s. (sym s.0 ∙ e, s.1)) (x.each i)

  -- the lower entry of a freed pair
  pub lower_was : (k : ℕ) → suc k ≡ top → FormOf g ≡ Pair → owner_at os k ≡ Lower t g
  lower_was k e pair =
      let y = (p.uppers top t g x.top_was).1 pair in
      let a = y.1 in
      let s : k ≡ y.0 = omega arith in
      ap (owner_at os) s ∙ y.2

  -- the lower entry of another region stays
  lower_stays : (i u : ℕ) (k : Region) → owner_at os i ≡ Lower u k → (suc i ≡ top → ⊥) → owner_at os' i ≡ Lower u k
  lower_stays i u k e ne = ⊎_elim
      (λ f. ⊎_elim (λ q. let a : owner_at os i ≡ Upper t g = ap (owner_at os) q ∙ x.top_was in cc) (λ q. absurd (ne q.0)) f.1)
      (λ s. s.0 ∙ e)
      (x.each i)

  -- the upper entry of another region stays
  upper_stays : (i u : ℕ) (k : Region) → owner_at os i ≡ Upper u k → (i ≡ top → ⊥) → owner_at os' i ≡ Upper u k
  upper_stays i u k e ne = ⊎_elim
      (λ f. ⊎_elim
      (λ q. absurd (ne q))
      (λ q. let a = lower_was i q.0 q.1 in cc)
      f.1)
      (λ s. s.0 ∙ e)
      (x.each i)

  freed_lowers : (i u : ℕ) (k : Region) → owner_at os' i ≡ Lower u k → (owner_at os' (suc i) ≡ Upper u k) × (FormOf k ≡ Pair)
  freed_lowers i u k e = ⊎_elim
      (λ f. let a = f.0 in cc)
      (λ s. let o = p.lowers i u k (sym s.0 ∙ e) in
      let differs : suc i ≡ top → ⊥ = λ q.
      let a = o.0 in
      let b : owner_at os (suc i) ≡ Upper t g = ap (owner_at os) q ∙ x.top_was in
      let same : g ≡ k = cc in
      s.2 (ap FormOf same ∙ o.1) q in
      (upper_stays (suc i) u k o.0 differs, o.1))
      (x.each i)

  pub freed_placed : Placed f os'
  freed_placed = record {
    sized = x.sized;
    uppers = λ i u k e.
        let w = kept_upper i u k e in
        let o = p.uppers i u k w.0 in
        (o.0, λ q. let y = o.1 q in (y.0, y.1, lower_stays y.0 u k y.2 (λ z. w.1 (y.1 ∙ z))));
    lowers = freed_lowers;
    apart = λ i j u h k a b ne. p.apart i j u h k (kept_upper i u h a).0 (kept_upper j u k b).0 ne;
  }

module _ (os : List Owner) (t : ℕ) (g : Region) (f : ℕ) (p : Placed f os) (i : ℕ) (h : i < 64) (e : owner_at os i ≡ Upper t g) where
  freed_one : (FormOf g ≡ Pair → ⊥) → Freed os (set os i Free) i t g
  freed_one np = record {
    sized = simp length-set p.sized;
    below = h;
    top_was = e;
    each = λ k. ⊎_elim
        (λ q. inl (ap (owner_at (set os i Free)) q ∙ get_or-set_same os i Free Free (omega (arith, p.sized)), inl q))
        (λ n. inr (get_or-set_other os i k Free Free n, n, λ q. absurd (np q)))
        (cases_eq k i);
  }

  freed_two : FormOf g ≡ Pair → Freed os (set (set os (i - 1) Free) i Free) i t g
  freed_two pair =
      let y = (p.uppers i t g e).1 pair in
      let a = y.1 in
      let j = y.0 in
      let os₁ = set os (i - 1) Free in
      let len₁ : length os₁ ≡ 64 = simp length-set p.sized in
      record {
        sized = simp length-set p.sized;
        below = h;
        top_was = e;
        each = λ k. ⊎_elim
            (λ q. inl (ap (owner_at (set os₁ i Free)) q ∙ get_or-set_same os₁ i Free Free (omega arith), inl q))
            (λ n. ⊎_elim
            (λ q. inl (get_or-set_other os₁ i k Free Free n ∙ ap (owner_at os₁) q ∙ get_or-set_same os (i - 1) Free Free (omega (arith, p.sized)), inr (omega arith, pair)))
            (λ m. inr (get_or-set_other os₁ i k Free Free n ∙ get_or-set_other os (i - 1) k Free Free m, n, λ _ z. m (omega arith)))
            (cases_eq k (i - 1)))
            (cases_eq k i);
      }

  freed_form : (form : Form) → FormOf g ≡ form → Freed os (vacated_form form os i) i t g
  freed_form Na4 q = freed_one (λ z. cc)
  freed_form Napot q = freed_one (λ z. cc)
  freed_form Pair q = freed_two q

  pub freed : Freed os (vacated os i) i t g
  freed = subst (λ (o : Owner). Freed os (vacated_by o os i) i t g) (sym e) (freed_form (FormOf g) refl)

-- the owner found by a withdrawal
pub found_upper : (t b : ℕ) (o : Owner) → begins t b o ≡ true → (g : Region) × (o ≡ Upper t g) × (g.base ≡ b)
found_upper t b Free e = absurd (true≢false (sym e))
found_upper t b (Lower u g) e = absurd (true≢false (sym e))
found_upper t b (Upper u g) e =
    let a = and_parts (eqb u t) (eqb g.base b) e in
    (g, ap (λ (x : ℕ). Upper x g) (eqb-true u t a.0), eqb-true g.base b a.1)

-- what an accepted withdrawal frees
pub record Withdraws (os : List Owner) (t b i : ℕ) (g : Region) : Type 0 where
  pub base : g.base ≡ b
  pub freed : Freed os (vacated os i) i t g

pub withdraws : (f : ℕ) (os : List Owner) (t b i : ℕ) → Placed f os → found_at os t b ≡ Some i → (g : Region) × Withdraws os t b i g
withdraws f os t b i p n =
    let s = found_law os t b (Some i) n in
    let h = found_upper t b (owner_at os i) s.1 in
    (h.0, record { base = h.2; freed = freed os t h.0 f p i s.0 h.1 })

found_placed : (f : ℕ) (os : List Owner) (t b : ℕ) → Placed f os → (o : Option ℕ) → found_at os t b ≡ o → Placed f (vacated_at os (found_at os t b))
found_placed f os t b p None n = subst (λ (o : Option ℕ). Placed f (vacated_at os o)) (sym n) p
found_placed f os t b p (Some i) n =
    let w = withdraws f os t b i p n in
    subst (λ (o : Option ℕ). Placed f (vacated_at os o)) (sym n) (freed_placed os (vacated os i) i t w.0 w.1.freed f p)

pub withdraw_placed : (f : ℕ) (os : List Owner) (t b : ℕ) → Placed f os → Placed f (after_withdraw os t b)
withdraw_placed f os t b p = go (withdraw_answer os t b)
  where
    go : (a : Option Report) → Placed f (unless_refused a (vacated_at os (found_at os t b)) os)
    go None = found_placed f os t b p (found_at os t b) refl
    go (Some x) = p
