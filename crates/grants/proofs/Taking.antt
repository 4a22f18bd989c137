-- Owners that make sense stay so when a region is granted. Assumes nothing.
use Rattle.std.proofs.Common.{◌≡◌, ℕ, suc, ◌+◌, ◌<◌, true, false, ltb, ◌⊎◌, List, [], ◌∷◌, length, set, Some, None, Option, sym, refl, ap, ◌∙◌, subst, subst₂, inl, inr, ⊎_elim, add-one, arith}
use mathlib.Core.Bool.{and_comm}
use Rattle.std.proofs.lemmas.List.{get_or-set_same, get_or-set_other, get_or_past, length-set}
use Rattle.std.proofs.lemmas.Bool.{cases_eq, cases_lt, and_parts, or_parts, true≢false}
use Rattle.access.specs.Cases.{Report}
use Rattle.grants.specs.Regions.{fitting, form_of, asked, overlapping}
use Rattle.grants.specs.Owners.{owner_at, is_free, held, room_for, free_at, occupied}
use Rattle.grants.specs.Refusals.{any_overlaps, formless}
use Rattle.grants.specs.Residence.{Placeable, has_room, grant_answer, after_grant}
use Rattle.grants.specs.Resolving.{In, Placed}
use Rattle.grants.specs.declared.region.Region.{Region}
use Rattle.grants.specs.declared.region.Form.{Form}
use Rattle.grants.specs.declared.region.Form.TheVariants.{Na4, Napot, Pair}
use Rattle.grants.specs.declared.owner.Owner.{Owner}
use Rattle.grants.specs.declared.owner.Owner.TheVariants.{Free, Lower, Upper}
use Rattle.grants.proofs.Active.{in_held}
use Rattle.grants.proofs.Deciding.{granted}
use Rattle.grants.proofs.Walks.{IsRoom, is_room}
use Rattle.grants.proofs.Answering.{room_some, after_accepted, after_refused}

free_is : (o : Owner) → is_free o ≡ true → o ≡ Free
free_is Free e = refl
free_is (Lower t g) e = absurd (true≢false (sym e))
free_is (Upper t g) e = absurd (true≢false (sym e))

-- ---- a grant

abbrev pub FormOf : Region → Form
FormOf g = form_of g.base g.length

-- entry `top` now shows the region, a pair's with the entry below, and every other entry is as it was
pub record Taken (os os' : List Owner) (top t : ℕ) (g : Region) : Type 0 where
  pub sized : length os' ≡ 64
  pub below : top < 64
  pub top_is : owner_at os' top ≡ Upper t g
  pub top_was : owner_at os top ≡ Free
  pub low : FormOf g ≡ Pair → (j : ℕ) × (top ≡ suc j) × (owner_at os' j ≡ Lower t g)
  pub each : (k : ℕ) → (k ≡ top) ⊎ (((owner_at os' k ≡ Lower t g) × (owner_at os k ≡ Free) × (suc k ≡ top) × (FormOf g ≡ Pair)) ⊎ (owner_at os' k ≡ owner_at os k))

module _ (os os' : List Owner) (top t : ℕ) (g : Region) (x : Taken os os' top t g) (f : ℕ) (p : Placed f os) (fit : Placeable f g)
    (none : (i : ℕ) (k : Region) → owner_at os i ≡ Upper t k → overlapping k g.base g.length ≡ false) where
  -- an upper entry is the new one, or was there
  upper_was : (i u : ℕ) (k : Region) → owner_at os' i ≡ Upper u k → ((i ≡ top) × (t ≡ u) × (g ≡ k)) ⊎ (owner_at os i ≡ Upper u k)
  upper_was i u k e = ⊎_elim
      (λ q. let a : owner_at os' i ≡ Upper t g = ap (owner_at os') q ∙ x.top_is in inl (q, cc, cc))
      (⊎_elim (λ l. let a = l.0 in cc) (λ s. inr (sym s ∙ e)))
      (x.each i)

  -- what was used stays
  used_stays : (i : ℕ) (o : Owner) → owner_at os i ≡ o → (o ≡ Free → ⊥) → owner_at os' i ≡ o
  used_stays i o e n = ⊎_elim
      (λ q. absurd (n (sym e ∙ ap (owner_at os) q ∙ x.top_was)))
      (⊎_elim (λ l. absurd (n (sym e ∙ l.1))) (λ s. s ∙ e))
      (x.each i)

  UpperFine : ℕ → ℕ → Region → Type 0
  UpperFine i u k = Placeable f k × (FormOf k ≡ Pair → (j : ℕ) × (i ≡ suc j) × (owner_at os' j ≡ Lower u k))

  upper_new : UpperFine top t g
  unfolding UpperFine
  upper_new = (fit, x.low)

  uppers : (i u : ℕ) (k : Region) → owner_at os' i ≡ Upper u k → UpperFine i u k
  unfolding UpperFine
  uppers i u k e = ⊎_elim
      (λ n. subst (λ (z : ℕ). UpperFine z u k) (sym n.0) (subst₂ (λ (v : ℕ) (h : Region). UpperFine top v h) n.1 n.2 upper_new))
      (λ w. let o = p.uppers i u k w in (o.0, λ q. let y = o.1 q in (y.0, y.1, used_stays y.0 (Lower u k) y.2 (λ z. cc))))
      (upper_was i u k e)

  lowers : (i u : ℕ) (k : Region) → owner_at os' i ≡ Lower u k → (owner_at os' (suc i) ≡ Upper u k) × (FormOf k ≡ Pair)
  lowers i u k e = ⊎_elim
      (λ q. let a : owner_at os' i ≡ Upper t g = ap (owner_at os') q ∙ x.top_is in cc)
      (⊎_elim
      (λ l. let a = l.0 in let v : t ≡ u = cc in let h : g ≡ k = cc in
      (ap (owner_at os') l.2 ∙ x.top_is ∙ (λ j. Upper (v j) (h j)), ap FormOf (sym h) ∙ l.3))
      (λ s. let o = p.lowers i u k (sym s ∙ e) in (used_stays (suc i) (Upper u k) o.0 (λ z. cc), o.1)))
      (x.each i)

  turned : (h k : Region) → overlapping h k.base k.length ≡ overlapping k h.base h.length
  turned h k = and_comm (ltb h.base (k.base + k.length)) (ltb k.base (h.base + h.length))

  apart : (i j u : ℕ) (h k : Region) → owner_at os' i ≡ Upper u h → owner_at os' j ≡ Upper u k → (i ≡ j → ⊥) → overlapping h k.base k.length ≡ false
  apart i j u h k a b ne = ⊎_elim
      (λ m. ⊎_elim
      (λ n. absurd (ne (m.0 ∙ sym n.0)))
      (λ w. turned h k ∙ ap (λ (z : Region). overlapping k z.base z.length) (sym m.2) ∙ none j k (w ∙ ap (λ (z : ℕ). Upper z k) (sym m.1)))
      (upper_was j u k b))
      (λ v. ⊎_elim
      (λ n. ap (λ (z : Region). overlapping h z.base z.length) (sym n.2) ∙ none i h (v ∙ ap (λ (z : ℕ). Upper z h) (sym n.1)))
      (λ w. p.apart i j u h k v w ne)
      (upper_was j u k b))
      (upper_was i u h a)

  pub taken_placed : Placed f os'
  unfolding UpperFine
  taken_placed = record { sized = x.sized; uppers = uppers; lowers = lowers; apart = apart }

-- ---- the entries taken

module _ (os : List Owner) (t : ℕ) (g : Region) (f : ℕ) (p : Placed f os) where
  set_same : (i : ℕ) (o : Owner) → i < 64 → owner_at (set os i o) i ≡ o
  set_same i o h = get_or-set_same os i o Free (omega (arith, p.sized))

  taken_one : (i : ℕ) → i < 64 → owner_at os i ≡ Free → (FormOf g ≡ Pair → ⊥) → Taken os (set os i (Upper t g)) i t g
  taken_one i h f np = record {
    sized = simp length-set p.sized;
    below = h;
    top_is = set_same i (Upper t g) h;
    top_was = f;
    low = λ q. absurd (np q);
    each = λ k. ⊎_elim (λ q. inl q) (λ n. inr (inr (get_or-set_other os i k (Upper t g) Free n))) (cases_eq k i);
  }

  taken_two : (i : ℕ) → i < 63 → owner_at os i ≡ Free → owner_at os (i + 1) ≡ Free → FormOf g ≡ Pair → Taken os (set (set os i (Lower t g)) (i + 1) (Upper t g)) (i + 1) t g
  taken_two i h f f' pair =
      let os₁ = set os i (Lower t g) in
      let len₁ : length os₁ ≡ 64 = simp length-set p.sized in
      let ne : i ≡ i + 1 → ⊥ = λ e. omega arith in
      let low-is : owner_at (set os₁ (i + 1) (Upper t g)) i ≡ Lower t g = get_or-set_other os₁ (i + 1) i (Upper t g) Free ne ∙ set_same i (Lower t g) (omega arith) in
      record {
        sized = simp length-set p.sized;
        below = omega arith;
        top_is = get_or-set_same os₁ (i + 1) (Upper t g) Free (omega arith);
        top_was = f';
        low = λ _. (i, add-one i, low-is);
        each = λ k. ⊎_elim (λ q. inl q)
            (λ n. ⊎_elim
            (λ q. inr (inl (ap (owner_at (set os₁ (i + 1) (Upper t g))) q ∙ low-is, ap (owner_at os) q ∙ f, omega arith, pair)))
            (λ m. inr (inr (get_or-set_other os₁ (i + 1) k (Upper t g) Free n ∙ get_or-set_other os i k (Lower t g) Free m)))
            (cases_eq k i))
            (cases_eq k (i + 1));
      }

  pub taken : (form : Form) → FormOf g ≡ form → (i : ℕ) → room_for os form ≡ Some i → (top : ℕ) × Taken os (occupied os form t g i) top t g
  taken form e i r = go form e (is_room os form (Some i) (sym r))
    where
      go : (form : Form) → FormOf g ≡ form → IsRoom os form (Some i) → (top : ℕ) × Taken os (occupied os form t g i) top t g
      go Na4 e s = (i, taken_one i s.0 (free_is (owner_at os i) s.1) (λ q. cc))
      go Napot e s = (i, taken_one i s.0 (free_is (owner_at os i) s.1) (λ q. cc))
      go Pair e s =
          let b = and_parts (free_at os i) (free_at os (i + 1)) s.1 in
          (i + 1, taken_two i s.0 (free_is (owner_at os i) b.0) (free_is (owner_at os (i + 1)) b.1) e)

pub none_overlaps : (gs : List Region) (b l : ℕ) (k : Region) → any_overlaps gs b l ≡ false → In k gs → overlapping k b l ≡ false
none_overlaps [] b l k e i = absurd i
none_overlaps (h ∷ gs) b l k e (inl q) = ap (λ (z : Region). overlapping z b l) q ∙ (or_parts (overlapping h b l) (any_overlaps gs b l) e).0
none_overlaps (h ∷ gs) b l k e (inr i) = none_overlaps gs b l k (or_parts (overlapping h b l) (any_overlaps gs b l) e).1 i

pub upper_below : (os : List Owner) (i t : ℕ) (g : Region) → length os ≡ 64 → owner_at os i ≡ Upper t g → i < 64
upper_below os i t g len e = ⊎_elim (λ h. h) (λ h. let a : owner_at os i ≡ Free = get_or_past os i Free (omega arith) in cc) (cases_lt i 64)

module _ (f : ℕ) (os : List Owner) (t b l r : ℕ) where
  -- what an accepted grant takes
  pub record Grants (g : Region) : Type 0 where
    pub region : asked b l r ≡ Some g
    pub top : ℕ
    pub taken : Taken os (after_grant f os t b l r) top t g
    pub fits : Placeable f g
    pub none : (i : ℕ) (k : Region) → owner_at os i ≡ Upper t k → overlapping k g.base g.length ≡ false

  pub grant_taken : Placed f os → grant_answer f os t b l r ≡ None → (g : Region) × Grants g
  grant_taken p q =
      let y = granted f 16 (held os t) t b l r (has_room os) q in
      let g = y.0 in
      let h = y.1 in
      let e : FormOf g ≡ form_of b l = λ j. form_of (h.base j) (h.len j) in
      let n = room_some os (form_of b l) h.has_room_lem in
      let x = taken os t g f p (form_of b l) e n.0 n.1 in (
        g,
        record {
          region = h.region;
          top = x.0;
          taken = subst (λ (z : List Owner). Taken os z x.0 t g) (sym (after_accepted f os t b l r g h.region n.0 q n.1)) x.1;
          fits = (subst₂ (λ (x y : ℕ). fitting f x y ≡ true) (sym h.base) (sym h.len) h.fits, subst₂ (λ (x y : ℕ). formless f x y ≡ false) (sym h.base) (sym h.len) h.form);
          none = λ j k u. subst₂ (λ (x y : ℕ). overlapping k x y ≡ false) (sym h.base) (sym h.len)
              (none_overlaps (held os t) b l k h.apart (in_held os t 64 k j (upper_below os j t k p.sized u) u));
        },
      )

  pub grant_placed : Placed f os → Placed f (after_grant f os t b l r)
  grant_placed p = go (grant_answer f os t b l r) refl
    where
      go : (o : Option Report) → grant_answer f os t b l r ≡ o → Placed f (after_grant f os t b l r)
      go (Some x) q = subst (Placed f) (sym (after_refused f os t b l r x q)) p
      go None q =
          let y = grant_taken p q in
          let x = y.1 in
          taken_placed os (after_grant f os t b l r) x.top t y.0 x.taken f p x.fits x.none
