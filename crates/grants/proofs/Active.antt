-- Which entries are active, and what they show. Assumes nothing.
use Rattle.std.proofs.Common.{◌≡◌, ℕ, zero, suc, ◌<◌, Bool, true, false, cond, not, ◌&&◌, eqb, ◌⊎◌, List, ◌∷◌, Some, None, Option, sym, refl, ap, ◌∙◌, subst, inl, inr, ⊎_elim, arith}
use Rattle.std.proofs.Math.Bool.{and-true}
use Rattle.std.proofs.lemmas.Bool.{cases_eq, eq-eqb, eqb-true, and_right, true≢false}
use Rattle.book.specs.Books.{Book, Laws}
use Rattle.book.specs.Bits.{bit, a_field}
use Rattle.table.specs.Registers.{Registers, below_at}
use Rattle.table.specs.Checks.{active}
use Rattle.table.specs.Bounds.{resolved, matching_of}
use Rattle.access.specs.declared.access.Mode.TheVariants.{User}
use Rattle.grants.specs.Regions.{form_of, a_of}
use Rattle.grants.specs.Owners.{owner_at, held, held_by, held_below}
use Rattle.grants.specs.Images.{byte_of, address_of, selects, switched_on, switch_bits, image}
use Rattle.grants.specs.Resolving.{In, Shows, Resolves, SelectedShown, Uppers, Standing}
use Rattle.grants.specs.declared.region.Region.{Region}
use Rattle.grants.specs.declared.region.Form.{Form}
use Rattle.grants.specs.declared.region.Form.TheVariants.{Na4, Napot, Pair}
use Rattle.grants.specs.declared.owner.Owner.{Owner}
use Rattle.grants.specs.declared.owner.Owner.TheVariants.{Free, Lower, Upper}
use Rattle.grants.proofs.Bytes.{byte_field}
use Rattle.grants.proofs.Showing.{a_below, region_shown}
use Rattle.grants.proofs.Switches.{bit_of_bits}

-- ---- the regions held, by entry

upper_same : (u t : ℕ) (k g : Region) → u ≡ t → g ≡ k → Upper u k ≡ Upper t g
upper_same u t k g p q = λ i. Upper (p i) (sym q i)

held_by_lem : (o : Owner) (t : ℕ) (gs : List Region) (g : Region) → In g (held_by o t gs) → (o ≡ Upper t g) ⊎ In g gs
held_by_lem Free t gs g h = inr h
held_by_lem (Lower u k) t gs g h = inr h
held_by_lem (Upper u k) t gs g h = go (eqb u t) (eqb-true u t) h
  where
    go : (x : Bool) → (x ≡ true → u ≡ t) → In g (cond x (k ∷ gs) gs) → (Upper u k ≡ Upper t g) ⊎ In g gs
    go true f (inl e) = inl (upper_same u t k g (f refl) e)
    go true f (inr i) = inr i
    go false f i = inr i

pub held_in : (os : List Owner) (t n : ℕ) (g : Region) → In g (held_below os t n) → (i : ℕ) × (i < n) × (owner_at os i ≡ Upper t g)
unfolding held_below
held_in os t zero g h = absurd h
held_in os t (suc n) g h = go (held_in os t n g) (held_by_lem (owner_at os n) t (held_below os t n) g h)
  where
    go : (In g (held_below os t n) → (i : ℕ) × (i < n) × (owner_at os i ≡ Upper t g)) → (owner_at os n ≡ Upper t g) ⊎ In g (held_below os t n) → (i : ℕ) × (i < suc n) × (owner_at os i ≡ Upper t g)
    go ih (inl e) = (n, omega arith, e)
    go ih (inr i) = let x = ih i in let l = x.1 in (x.0, omega arith, x.2)

by_here : (o : Owner) (t : ℕ) (gs : List Region) (g : Region) → o ≡ Upper t g → In g (held_by o t gs)
by_here o t gs g e = subst (λ (x : Owner). In g (held_by x t gs)) (sym e) (subst (λ (x : Bool). In g (cond x (g ∷ gs) gs)) (sym (eq-eqb t t refl)) (inl refl))

by_rest : (o : Owner) (t : ℕ) (gs : List Region) (g : Region) → In g gs → In g (held_by o t gs)
by_rest Free t gs g i = i
by_rest (Lower u k) t gs g i = i
by_rest (Upper u k) t gs g i = go (eqb u t)
  where
    go : (x : Bool) → In g (cond x (k ∷ gs) gs)
    go true = inr i
    go false = i

pub in_held : (os : List Owner) (t n : ℕ) (g : Region) (i : ℕ) → i < n → owner_at os i ≡ Upper t g → In g (held_below os t n)
unfolding held_below
in_held os t zero g i h e = absurd (omega arith)
in_held os t (suc n) g i h e = ⊎_elim
    (λ q. by_here (owner_at os n) t (held_below os t n) g (ap (owner_at os) (sym q) ∙ e))
    (λ q. by_rest (owner_at os n) t (held_below os t n) g (in_held os t n g i (omega arith) e))
    (cases_eq i n)

-- ---- the active entries

a_some : (f : Form) → not (eqb (a_of f) 0) ≡ true
a_some Na4 = refl
a_some Napot = refl
a_some Pair = refl

-- the owner shows a region of the selected task
abbrev shown_by : Option ℕ → Owner → Bool
shown_by s Free = false
shown_by s (Lower t g) = false
shown_by s (Upper t g) = selects s t

abbrev resolved_owner : Book → Owner → ℕ → ℕ × ℕ
resolved_owner b o below = resolved (matching_of (byte_of b o)) (address_of o) below

module _ (b : Book) (l : Laws b) (os : List Owner) (s : Option ℕ) where
  switch_bit : (i : ℕ) → i < 64 → bit (switch_bits os s) i ≡ switched_on s (owner_at os i)
  switch_bit i h = bit_of_bits (λ k. switched_on s (owner_at os k)) 64 i h

  active_owner : (o : Owner) → (switched_on s o && not (eqb (a_field (byte_of b o)) 0)) ≡ shown_by s o
  active_owner Free = refl
  active_owner (Lower t g) = and_right (selects s t) false refl
  active_owner (Upper t g) =
      let form = form_of g.base g.length in
      ap (λ (x : ℕ). selects s t && not (eqb x 0)) (byte_field b l g.rights (a_of form) (a_below form)) ∙ ap (λ (x : Bool). selects s t && x) (a_some form) ∙ and-true (selects s t)

  active_at : (i : ℕ) → i < 64 → active (image b os s) i ≡ shown_by s (owner_at os i)
  active_at i h = ap (λ (x : Bool). x && not (eqb (a_field (byte_of b (owner_at os i))) 0)) (switch_bit i h) ∙ active_owner (owner_at os i)

  module _ (f : ℕ) (p : Uppers f os) where
    below_pair : (i t : ℕ) (g : Region) → owner_at os i ≡ Upper t g → form_of g.base g.length ≡ Pair → below_at (image b os s).address i ≡ address_of (Lower t g)
    below_pair i t g e q =
        let x = (p i t g e).1 q in
        ap (below_at (image b os s).address) x.1 ∙ ap address_of x.2

    shows_at : (i t : ℕ) (g : Region) → owner_at os i ≡ Upper t g → Shows b (image b os s) i g
    shows_at i t g e =
        let w = region_shown f b l t g (below_at (image b os s).address i) (p i t g e).0.0 (below_pair i t g e) in
        record {
          bounds = (λ j. resolved_owner b (e j) (below_at (image b os s).address i)) ∙ w.bounds;
          rights = λ sum k. ap (λ (o : Owner). b.permits (byte_of b o) User sum k) e ∙ w.rights sum k;
        }

    only_by : (t i : ℕ) → s ≡ Some t → i < 64 → (o : Owner) → owner_at os i ≡ o → shown_by s o ≡ true → (g : Region) × In g (held os t) × Shows b (image b os s) i g
    only_by t i q h Free e a = absurd (true≢false (sym a))
    only_by t i q h (Lower u g) e a = absurd (true≢false (sym a))
    only_by t i q h (Upper u g) e a =
        let ut : u ≡ t = eqb-true u t (sym (ap (λ (x : Option ℕ). selects x u) q) ∙ a) in
        let e' : owner_at os i ≡ Upper t g = e ∙ ap (λ (x : ℕ). Upper x g) ut in
        (g, in_held os t 64 g i h e', shows_at i t g e')

    pub image_resolves : (t : ℕ) → s ≡ Some t → Resolves b (image b os s) (held os t)
    image_resolves t q = record {
      only = λ i h a. only_by t i q h (owner_at os i) refl (sym (active_at i h) ∙ a);
      all = λ g m.
          let x = held_in os t 64 g m in
          let i = x.0 in
          let a : shown_by s (owner_at os i) ≡ true = ap (shown_by s) x.2 ∙ ap (λ (y : Option ℕ). selects y t) q ∙ eq-eqb t t refl in
          (i, x.1, active_at i x.1 ∙ a, shows_at i t g x.2);
    }

  none_shown : (o : Owner) → s ≡ None → shown_by s o ≡ false
  none_shown Free q = refl
  none_shown (Lower t g) q = refl
  none_shown (Upper t g) q = ap (λ (y : Option ℕ). selects y t) q

  pub image_idle : s ≡ None → (i : ℕ) → i < 64 → active (image b os s) i ≡ false
  image_idle q i h = active_at i h ∙ none_shown (owner_at os i) q

pub selected_shown : (f : ℕ) (b : Book) → Laws b → (r : Registers) (os : List Owner) (s : Option ℕ) → Standing f b r os s → SelectedShown b r os s
selected_shown f b l r os None st = λ i h. ap (λ (x : Registers). active x i) st.resident ∙ active_at b l os None i h ∙ none_shown b l os None (owner_at os i) refl
selected_shown f b l r os (Some t) st = subst (λ (x : Registers). Resolves b x (held os t)) (sym st.resident) (image_resolves b l os (Some t) f st.placed.uppers t refl)
