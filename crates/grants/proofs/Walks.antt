-- Walks over the owners. Assumes nothing.
use Rattle.std.proofs.Common.{◌≡◌, ℕ, zero, suc, ◌+◌, ◌<◌, ◌≤◌, Bool, true, false, cond, ◌&&◌, ◌||◌, eqb, List, ◌∷◌, length, take, count_by, Some, None, Option, sym, refl, ap, ◌∙◌, subst, ⊎_elim, add-one, arith}
use mathlib.Core.Bool.{or_comm}
use Rattle.std.specs.List.{list_any}
use Rattle.std.proofs.lemmas.Bool.{cases_eq, cond-true, cond-false}
use Rattle.std.proofs.lemmas.List.{take_all}
use Rattle.std.proofs.lemmas.List.Folds.{list_any_more}
use Rattle.std.proofs.lemmas.List.Sums.{sum_by_more}
use Rattle.grants.specs.Regions.{overlapping}
use Rattle.grants.specs.Owners.{owner_at, holds, owner_overlaps, held, held_by, held_below, lowest, or_else, IsLowest, LowestFound, room_for, free_at, free_pair_at, entries_of}
use Rattle.grants.specs.Refusals.{any_overlaps}
use Rattle.grants.specs.declared.region.Region.{Region}
use Rattle.grants.specs.declared.region.Form.{Form}
use Rattle.grants.specs.declared.region.Form.TheVariants.{Na4, Napot, Pair}
use Rattle.grants.specs.declared.owner.Owner.{Owner}
use Rattle.grants.specs.declared.owner.Owner.TheVariants.{Free, Lower, Upper}

pub lowest_start : (p : ℕ → Bool) → lowest p 0 ≡ None
unfolding lowest
lowest_start p = refl

lowest_next : (p : ℕ → Bool) (i : ℕ) → lowest p i ≡ None → p i ≡ false → lowest p (suc i) ≡ None
unfolding lowest
lowest_next p i n f = ap (λ (o : Option ℕ). or_else o (cond (p i) (Some i) None)) n ∙ cond-false (p i) (Some i) None f

pub lowest_more : (p : ℕ → Bool) (i : ℕ) → lowest p i ≡ None → p i ≡ false → lowest p (i + 1) ≡ None
lowest_more p i n f = ap (lowest p) (add-one i) ∙ lowest_next p i n f

lowest_none : (p : ℕ → Bool) (n : ℕ) → ((k : ℕ) → k < n → p k ≡ false) → lowest p n ≡ None
unfolding lowest
lowest_none p zero h = refl
lowest_none p (suc n) h = lowest_next p n (lowest_none p n (λ k l. h k (omega arith))) (h n (omega arith))

pub lowest_found : (p : ℕ → Bool) (i n : ℕ) → i < n → lowest p i ≡ None → p i ≡ true → lowest p n ≡ Some i
unfolding lowest
lowest_found p i zero h e t = absurd (omega arith)
lowest_found p i (suc n) h e t = ⊎_elim
    (λ q. let P : ℕ → Type 0 = λ k. or_else (lowest p k) (cond (p k) (Some k) None) ≡ Some i in
    subst P q (ap (λ (o : Option ℕ). or_else o (cond (p i) (Some i) None)) e ∙ cond-true (p i) (Some i) None t))
    (λ q. ap (λ (o : Option ℕ). or_else o (cond (p n) (Some n) None)) (lowest_found p i n (omega arith) e t))
    (cases_eq i n)

-- a search has one right outcome
pub lowest_only : (p : ℕ → Bool) (n : ℕ) (o : Option ℕ) → IsLowest p n o → o ≡ lowest p n
lowest_only p n None h = sym (lowest_none p n h)
lowest_only p n (Some i) h = sym (lowest_found p i n h.0 (lowest_none p i h.2) h.1)

pub first_found : (p : ℕ → Bool) (n : ℕ) → 0 < n → p 0 ≡ true → lowest p n ≡ Some 0
first_found p n h e = sym (lowest_only p n (Some 0) (h, e, λ k l. absurd (omega arith)))

-- ---- what a search finds

law_next : (p : ℕ → Bool) (n : ℕ) (o : Option ℕ) → IsLowest p n o → (x : Bool) → p n ≡ x → IsLowest p (suc n) (or_else o (cond x (Some n) None))
law_next p n (Some i) h x e = let l = h.0 in (omega arith, h.1, h.2)
law_next p n None h true e = (omega arith, e, h)
law_next p n None h false e = λ k l. ⊎_elim (λ q. ap p q ∙ e) (λ q. h k (omega arith)) (cases_eq k n)

pub lowest_law : LowestFound
unfolding lowest
lowest_law p zero = λ k l. absurd (omega arith)
lowest_law p (suc n) = law_next p n (lowest p n) (lowest_law p n) (p n) refl

is_lowest : (p : ℕ → Bool) (n : ℕ) (o : Option ℕ) → o ≡ lowest p n → IsLowest p n o
is_lowest p n o e = subst (IsLowest p n) (sym e) (lowest_law p n)

-- the room for a form in other words
abbrev pub IsRoom : List Owner → Form → Option ℕ → Type 0
IsRoom os Na4 o = IsLowest (free_at os) 64 o
IsRoom os Napot o = IsLowest (free_at os) 64 o
IsRoom os Pair o = IsLowest (free_pair_at os) 63 o

pub is_room : (os : List Owner) (form : Form) (o : Option ℕ) → o ≡ room_for os form → IsRoom os form o
is_room os Na4 o e = is_lowest (free_at os) 64 o e
is_room os Napot o e = is_lowest (free_at os) 64 o e
is_room os Pair o e = is_lowest (free_pair_at os) 63 o e

pub room_below : (os : List Owner) (form : Form) (i : ℕ) → IsRoom os form (Some i) → i + entries_of form ≤ 64
room_below os Na4 i h = let l = h.0 in omega arith
room_below os Napot i h = let l = h.0 in omega arith
room_below os Pair i h = let l = h.0 in omega arith

-- ---- the regions that a task holds

-- p says of an owner that it shows a region of the task that passes q
module _ (t : ℕ) (q : Region → Bool) (p : Owner → Bool) (free : p Free ≡ false) (lower : (u : ℕ) (g : Region) → p (Lower u g) ≡ false) (upper : (u : ℕ) (g : Region) → p (Upper u g) ≡ (eqb u t && q g)) where
  pub any_by : (o : Owner) (gs : List Region) → list_any q (held_by o t gs) ≡ (p o || list_any q gs)
  any_by Free gs = ap (λ (x : Bool). x || list_any q gs) (sym free)
  any_by (Lower u g) gs = ap (λ (x : Bool). x || list_any q gs) (sym (lower u g))
  any_by (Upper u g) gs = go (eqb u t) ∙ ap (λ (x : Bool). x || list_any q gs) (sym (upper u g))
    where
      go : (x : Bool) → list_any q (cond x (g ∷ gs) gs) ≡ ((x && q g) || list_any q gs)
      go true = refl
      go false = refl

overlaps_below : (os : List Owner) (t b l n : ℕ) → n ≤ length os → list_any (owner_overlaps t b l) (take n os) ≡ any_overlaps (held_below os t n) b l
unfolding held_below
overlaps_below os t b l zero h = refl
overlaps_below os t b l (suc n) h =
    ap (λ (k : ℕ). list_any (owner_overlaps t b l) (take k os)) (sym (add-one n))
    ∙ list_any_more (owner_overlaps t b l) os n Free (omega arith)
    ∙ or_comm (list_any (owner_overlaps t b l) (take n os)) (owner_overlaps t b l (owner_at os n))
    ∙ ap (λ (x : Bool). owner_overlaps t b l (owner_at os n) || x) (overlaps_below os t b l n (omega arith))
    ∙ sym (any_by t (λ g. overlapping g b l) (owner_overlaps t b l) refl (λ _ _. refl) (λ _ _. refl) (owner_at os n) (held_below os t n))

pub overlaps_any : (os : List Owner) (t b l : ℕ) → length os ≡ 64 → list_any (owner_overlaps t b l) os ≡ any_overlaps (held os t) b l
overlaps_any os t b l h = ap (list_any (owner_overlaps t b l)) (sym (take_all 64 os (omega arith))) ∙ overlaps_below os t b l 64 (omega arith)

length_by : (o : Owner) (t : ℕ) (gs : List Region) → length (held_by o t gs) ≡ length gs + cond (holds t o) 1 0
length_by Free t gs = omega arith
length_by (Lower u g) t gs = omega arith
length_by (Upper u g) t gs = go (eqb u t)
  where
    go : (x : Bool) → length (cond x (g ∷ gs) gs) ≡ length gs + cond x 1 0
    go true = omega arith
    go false = omega arith

count_below : (os : List Owner) (t n : ℕ) → n ≤ length os → count_by (holds t) (take n os) ≡ length (held_below os t n)
unfolding held_below
count_below os t zero h = refl
count_below os t (suc n) h =
    let m = ap (λ (k : ℕ). count_by (holds t) (take k os)) (sym (add-one n)) ∙ sum_by_more (λ (o : Owner). cond (holds t o) 1 0) os n Free (omega arith) in
    let i = count_below os t n (omega arith) in
    let l = length_by (owner_at os n) t (held_below os t n) in
    omega arith

pub count_held : (os : List Owner) (t : ℕ) → length os ≡ 64 → count_by (holds t) os ≡ length (held os t)
count_held os t h = ap (count_by (holds t)) (sym (take_all 64 os (omega arith))) ∙ count_below os t 64 (omega arith)
