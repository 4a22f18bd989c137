-- The same regions in another order. Assumes nothing.
use Rattle.std.proofs.Common.{◌≡◌, ℕ, zero, suc, ◌+◌, ◌<◌, Bool, true, false, cond, not, ◌&&◌, ◌||◌, eqb, ltb, leb, List, [], ◌∷◌, length, count_by, is_none, sym, refl, ap, ◌∙◌, inl, inr, ⊎_elim, arith}
use Rattle.std.specs.List.{list_any}
use Rattle.std.proofs.lemmas.List.Sums.{sum_by-cons}
use Rattle.std.proofs.Math.Bool.{and-true}
use Rattle.std.proofs.lemmas.Bool.{cond-false, and_right, cases_Bool, ne_eqb, eq-eqb, eqb-true, and_parts, and_from}
use Rattle.access.specs.Rights.{rights_of, sum_of}
use Rattle.grants.specs.Regions.{fitting, form_of, overlapping}
use Rattle.grants.specs.Owners.{owner_at, held_below, held_by}
use Rattle.access.specs.Cases.{refused, first_of}
use Rattle.grants.specs.Refusals.{formless, grant_cases, withdraw_cases}
use Rattle.grants.specs.Resolving.{In}
use Rattle.grants.specs.Once.{region_one}
use Rattle.grants.specs.Plans.{without}
use Rattle.grants.specs.declared.region.Region.{Region}
use Rattle.grants.specs.declared.region.Form.{Form}
use Rattle.grants.specs.declared.owner.Owner.{Owner}
use Rattle.grants.specs.declared.owner.Owner.TheVariants.{Free, Lower, Upper}

-- each region as often
abbrev pub Same : List Region → List Region → Type 0
Same gs hs = (q : Region → Bool) → count_by q gs ≡ count_by q hs

count_more : (q : Region → Bool) (g : Region) (gs : List Region) → count_by q (g ∷ gs) ≡ cond (q g) 1 0 + count_by q gs
count_more q g gs = sum_by-cons (λ (k : Region). cond (q k) 1 0) g gs

any_step : (x rest : Bool) (n m : ℕ) → rest ≡ not (eqb n 0) → m ≡ cond x 1 0 + n → (x || rest) ≡ not (eqb m 0)
any_step true rest n m e c = sym (ap not (ne_eqb m 0 (λ z. omega arith)))
any_step false rest n m e c = let d : n ≡ m = omega arith in e ∙ ap (λ (k : ℕ). not (eqb k 0)) d

any_count : (q : Region → Bool) (gs : List Region) → list_any q gs ≡ not (eqb (count_by q gs) 0)
any_count q [] = refl
any_count q (g ∷ gs) = any_step (q g) (list_any q gs) (count_by q gs) (count_by q (g ∷ gs)) (any_count q gs) (count_more q g gs)

length_count : (gs : List Region) → length gs ≡ count_by (λ _. true) gs
length_count [] = refl
length_count (g ∷ gs) = let c = count_more (λ _. true) g gs in let i = length_count gs in omega arith

module _ (gs hs : List Region) (s : Same gs hs) where
  same_any : (q : Region → Bool) → list_any q gs ≡ list_any q hs
  same_any q = any_count q gs ∙ ap (λ (n : ℕ). not (eqb n 0)) (s q) ∙ sym (any_count q hs)

  same_length : length gs ≡ length hs
  same_length = length_count gs ∙ s (λ _. true) ∙ sym (length_count hs)

  pub same_grant : (f tasks : ℕ) (room : Form → Bool) (t b l r : ℕ) → grant_cases f tasks gs room t b l r ≡ grant_cases f tasks hs room t b l r
  same_grant f tasks room t b l r = λ i. first_of (
      (not (ltb t tasks), refused 21 []) ∷ (not (fitting f b l), refused 22 []) ∷ (is_none (rights_of r), refused 23 []) ∷ (same_any (λ g. overlapping g b l) i, refused 24 [])
      ∷ (formless f b l, refused 25 []) ∷ (leb 8 (same_length i), refused 26 []) ∷ (not (room (form_of b l)), refused 27 []) ∷ [])

  pub same_withdraw : (tasks t b : ℕ) → withdraw_cases tasks gs t b ≡ withdraw_cases tasks hs t b
  same_withdraw tasks t b = λ i. first_of ((not (ltb t tasks), refused 21 []) ∷ (not (same_any (λ g. eqb g.base b) i), refused 28 []) ∷ [])

-- ---- membership

abbrev same_region : Region → Region → Bool
same_region g k = (eqb g.base k.base && eqb g.length k.length) && eqb (sum_of g.rights) (sum_of k.rights)

same_true : (g k : Region) → same_region g k ≡ true → g ≡ k
same_true g k e =
    let p = and_parts (eqb g.base k.base && eqb g.length k.length) (eqb (sum_of g.rights) (sum_of k.rights)) e in
    let q = and_parts (eqb g.base k.base) (eqb g.length k.length) p.0 in
    region_one g k (eqb-true g.base k.base q.0) (eqb-true g.length k.length q.1) (eqb-true (sum_of g.rights) (sum_of k.rights) p.1)

same_self : (g : Region) → same_region g g ≡ true
same_self g =
    and_from (eqb g.base g.base && eqb g.length g.length) (eqb (sum_of g.rights) (sum_of g.rights))
    (and_from (eqb g.base g.base) (eqb g.length g.length) (eq-eqb g.base g.base refl) (eq-eqb g.length g.length refl))
    (eq-eqb (sum_of g.rights) (sum_of g.rights) refl)

in_count : (g : Region) (gs : List Region) → In g gs → 0 < count_by (same_region g) gs
in_count g [] i = absurd i
in_count g (k ∷ gs) (inl e) =
    let t : same_region g k ≡ true = ap (same_region g) (sym e) ∙ same_self g in
    let q = ap (λ (x : Bool). cond {A = ℕ} x 1 0) t in
    let c = count_more (same_region g) k gs in
    omega arith
in_count g (k ∷ gs) (inr i) = let c = count_more (same_region g) k gs in let h = in_count g gs i in omega arith

count_in : (g : Region) (gs : List Region) → 0 < count_by (same_region g) gs → In g gs
count_in g [] h = absurd (omega arith)
count_in g (k ∷ gs) h = ⊎_elim
    (λ t. inl (same_true g k t))
    (λ f. let q = ap (λ (x : Bool). cond {A = ℕ} x 1 0) f in let c = count_more (same_region g) k gs in inr (count_in g gs (omega arith)))
    (cases_Bool (same_region g k))

pub same_in : (gs hs : List Region) → Same gs hs → (g : Region) → In g gs → In g hs
same_in gs hs s g i = let h = in_count g gs i in let e = s (same_region g) in count_in g hs (omega arith)

-- ---- counts by entry

abbrev pub weight : (Region → Bool) → ℕ → Owner → ℕ
weight q u Free = 0
weight q u (Lower t g) = 0
weight q u (Upper t g) = cond (eqb t u) (cond (q g) 1 0) 0

pub count_held_by : (q : Region → Bool) (u : ℕ) (o : Owner) (gs : List Region) → count_by q (held_by o u gs) ≡ weight q u o + count_by q gs
count_held_by q u Free gs = omega arith
count_held_by q u (Lower t g) gs = omega arith
count_held_by q u (Upper t g) gs = go (eqb t u)
  where
    go : (x : Bool) → count_by q (cond x (g ∷ gs) gs) ≡ cond x (cond (q g) 1 0) 0 + count_by q gs
    go true = count_more q g gs
    go false = omega arith

pub sums_same : (q q' : Region → Bool) (u : ℕ) (os os' : List Owner) → ((k : ℕ) → weight q u (owner_at os' k) ≡ weight q' u (owner_at os k))
    → (n : ℕ) → count_by q (held_below os' u n) ≡ count_by q' (held_below os u n)
unfolding held_below
sums_same q q' u os os' f zero = refl
sums_same q q' u os os' f (suc n) =
    let a = count_held_by q u (owner_at os' n) (held_below os' u n) in
    let b = count_held_by q' u (owner_at os n) (held_below os u n) in
    let c = f n in
    let d = sums_same q q' u os os' f n in
    omega arith

pub count_without : (q : Region → Bool) (b : ℕ) (gs : List Region) → count_by q (without b gs) ≡ count_by (λ g. q g && not (eqb g.base b)) gs
count_without q b [] = refl
count_without q b (g ∷ gs) = go (eqb g.base b) (count_without q b gs) ∙ sym (count_more p g gs)
  where
    p : Region → Bool
    p k = q k && not (eqb k.base b)

    go : (x : Bool) → count_by q (without b gs) ≡ count_by p gs
        → count_by q (cond x (without b gs) (g ∷ without b gs)) ≡ cond (q g && not x) 1 0 + count_by p gs
    go true e = let d = cond-false {A = ℕ} (q g && false) 1 0 (and_right (q g) false refl) in omega arith
    go false e = let c = count_more q g (without b gs) in let k = ap (λ (y : Bool). cond {A = ℕ} y 1 0) (and-true (q g)) in omega arith
