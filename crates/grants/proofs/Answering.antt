-- What the calls on owners answer and leave. Assumes nothing.
use Rattle.std.proofs.Common.{◌≡◌, ℕ, zero, suc, ◌<◌, true, false, cond, not, ◌||◌, eqb, ltb, List, [], Some, None, Option, is_some, sym, refl, ap, ◌∙◌, subst, subst₂, ⊎_elim, arith}
use Rattle.std.proofs.lemmas.Bool.{cases_eq, lt-ltb, or_left, or_right, or_from, true≢false}
use Rattle.access.specs.Cases.{Report, refused}
use Rattle.access.specs.declared.access.Rights.{Rights}
use Rattle.access.specs.Rights.{rights_of}
use Rattle.grants.specs.Regions.{fitting, with_rights, asked, form_of}
use Rattle.grants.specs.Owners.{owner_at, held, held_below, begins, IsLowest, room_for, found_at, occupied, vacated}
use Rattle.grants.specs.Refusals.{formless, grant_cases, any_begins, unless_refused}
use Rattle.grants.specs.Residence.{Placeable, grant_answer, after_grant, occupied_at, has_room, withdraw_answer, after_withdraw, vacated_at}
use Rattle.grants.specs.declared.region.Region.{Region}
use Rattle.grants.specs.declared.region.Form.{Form}
use Rattle.grants.specs.declared.owner.Owner.{Owner}
use Rattle.grants.proofs.Deciding.{granted, grant_room}
use Rattle.grants.proofs.Walks.{lowest_law, any_by}

-- ---- grants

with_rights_lem : (b l : ℕ) (o : Option Rights) (g : Region) → with_rights b l o ≡ Some g → (g.base ≡ b) × (g.length ≡ l)
with_rights_lem b l None g e = cc
with_rights_lem b l (Some r) g e =
    let i : record { base = b; length = l; rights = r } ≡ g = cc in
    (sym (ap (λ (x : Region). x.base) i), sym (ap (λ (x : Region). x.length) i))

pub asked_by : (b l r : ℕ) (g : Region) → asked b l r ≡ Some g → (g.base ≡ b) × (g.length ≡ l)
asked_by b l r g e = with_rights_lem b l (rights_of r) g e

pub room_some : (os : List Owner) (form : Form) → has_room os form ≡ true → (i : ℕ) × (room_for os form ≡ Some i)
room_some os form h = go (room_for os form) refl
  where
    go : (o : Option ℕ) → room_for os form ≡ o → (i : ℕ) × (room_for os form ≡ Some i)
    go None e = absurd (true≢false (sym h ∙ ap is_some e))
    go (Some i) e = (i, e)

module _ (f : ℕ) (os : List Owner) (t b l r : ℕ) where
  module _ (g : Region) (q : asked b l r ≡ Some g) where
    pub form_asked : form_of g.base g.length ≡ form_of b l
    form_asked = let a = asked_by b l r g q in λ i. form_of (a.0 i) (a.1 i)

    pub placeable : grant_cases f 16 (held os t) (λ _. true) t b l r ≡ None → Placeable f g
    placeable p =
        let a = asked_by b l r g q in
        let h = (granted f 16 (held os t) t b l r (λ _. true) p).1 in (
          subst₂ (λ (x y : ℕ). fitting f x y ≡ true) (sym a.0) (sym a.1) h.fits,
          subst₂ (λ (x y : ℕ). formless f x y ≡ false) (sym a.0) (sym a.1) h.form,
        )

    pub after_accepted : (i : ℕ) → grant_answer f os t b l r ≡ None → room_for os (form_of b l) ≡ Some i → after_grant f os t b l r ≡ occupied os (form_of b l) t g i
    after_accepted i p n = (λ j. unless_refused (p j) (occupied_at os t (q j) (n j)) os) ∙ ap (λ (x : Form). occupied os x t g i) form_asked

  pub after_refused : (x : Report) → grant_answer f os t b l r ≡ Some x → after_grant f os t b l r ≡ os
  after_refused x p = λ j. unless_refused (p j) (occupied_at os t (asked b l r) (room_for os (form_of b l))) os

  module _ (p : grant_cases f 16 (held os t) (λ _. true) t b l r ≡ None) where
    pub answer_full : room_for os (form_of b l) ≡ None → grant_answer f os t b l r ≡ Some (refused 27 [])
    answer_full n = grant_room f 16 (held os t) t b l r (has_room os) p ∙ (λ i. cond (not (is_some (n i))) (Some (refused 27 [])) None)

    answer_done : (i : ℕ) → room_for os (form_of b l) ≡ Some i → grant_answer f os t b l r ≡ None
    answer_done i n = grant_room f 16 (held os t) t b l r (has_room os) p ∙ (λ j. cond (not (is_some (n j))) (Some (refused 27 [])) None)

    -- a grant that finds room is made
    pub grant_made : (os' : List Owner) (form : Form) (o : Option ℕ) (g : Region) (i : ℕ) → form ≡ form_of b l → o ≡ room_for os form → o ≡ Some i → asked b l r ≡ Some g
        → os' ≡ occupied os form t g i → (grant_answer f os t b l r ≡ None) × (os' ≡ after_grant f os t b l r)
    grant_made os' form o g i m n s q e =
        let room : room_for os (form_of b l) ≡ Some i = ap (room_for os) (sym m) ∙ sym n ∙ s in
        let done = answer_done i room in
        (done, e ∙ ap (λ (x : Form). occupied os x t g i) m ∙ sym (after_accepted g q i done room))

-- ---- withdrawals

module _ (os : List Owner) (t b : ℕ) where
  begins_more : (n : ℕ) → any_begins (held_below os t (suc n)) b ≡ (begins t b (owner_at os n) || any_begins (held_below os t n) b)
  unfolding held_below
  begins_more n = any_by t (λ g. eqb g.base b) (begins t b) refl (λ _ _. refl) (λ _ _. refl) (owner_at os n) (held_below os t n)

  none_begins : (n : ℕ) → ((k : ℕ) → k < n → begins t b (owner_at os k) ≡ false) → any_begins (held_below os t n) b ≡ false
  unfolding held_below
  none_begins zero h = refl
  none_begins (suc n) h =
      begins_more n
      ∙ or_from (begins t b (owner_at os n)) (any_begins (held_below os t n) b) (h n (omega arith)) (none_begins n (λ k l. h k (omega arith)))

  begins_at : (n i : ℕ) → i < n → begins t b (owner_at os i) ≡ true → any_begins (held_below os t n) b ≡ true
  unfolding held_below
  begins_at zero i h e = absurd (omega arith)
  begins_at (suc n) i h e = begins_more n ∙ ⊎_elim
      (λ q. or_left (begins t b (owner_at os n)) (any_begins (held_below os t n) b) (ap (λ (x : ℕ). begins t b (owner_at os x)) (sym q) ∙ e))
      (λ q. or_right (begins t b (owner_at os n)) (any_begins (held_below os t n) b) (begins_at n i (omega arith) e))
      (cases_eq i n)

  -- what was found below 64
  pub found_law : (o : Option ℕ) → found_at os t b ≡ o → IsLowest (λ k. begins t b (owner_at os k)) 64 o
  found_law o e = subst (IsLowest (λ k. begins t b (owner_at os k)) 64) e (lowest_law (λ k. begins t b (owner_at os k)) 64)

  module _ (h : ltb t 16 ≡ true) where
    pub withdraw_missing : found_at os t b ≡ None → withdraw_answer os t b ≡ Some (refused 28 [])
    withdraw_missing e =
        let n = none_begins 64 (found_law None e) in
        λ i. cond (not (h i)) (Some (refused 21 [])) (cond (not (n i)) (Some (refused 28 [])) None)

    withdraw_done : (i : ℕ) → found_at os t b ≡ Some i → withdraw_answer os t b ≡ None
    withdraw_done i e =
        let s = found_law (Some i) e in
        let y = begins_at 64 i s.0 s.1 in
        λ j. cond (not (h j)) (Some (refused 21 [])) (cond (not (y j)) (Some (refused 28 [])) None)

  pub withdraw_none : ltb t 16 ≡ false → withdraw_answer os t b ≡ Some (refused 21 [])
  withdraw_none h = λ i. cond (not (h i)) (Some (refused 21 [])) (cond (not (any_begins (held os t) b)) (Some (refused 28 [])) None)

  pub after_kept : (x : Report) → withdraw_answer os t b ≡ Some x → after_withdraw os t b ≡ os
  after_kept x p = λ j. unless_refused (p j) (vacated_at os (found_at os t b)) os

  after_vacated : (i : ℕ) → withdraw_answer os t b ≡ None → found_at os t b ≡ Some i → after_withdraw os t b ≡ vacated os i
  after_vacated i p n = λ j. unless_refused (p j) (vacated_at os (n j)) os

  -- a withdrawal that finds the region is made
  pub withdraw_made : (os' : List Owner) (o : Option ℕ) (i : ℕ) → t < 16 → o ≡ found_at os t b → o ≡ Some i → os' ≡ vacated os i
      → (withdraw_answer os t b ≡ None) × (os' ≡ after_withdraw os t b)
  withdraw_made os' o i h n s e =
      let found : found_at os t b ≡ Some i = sym n ∙ s in
      let done = withdraw_done (lt-ltb t 16 h) i found in
      (done, e ∙ sym (after_vacated i done found))
