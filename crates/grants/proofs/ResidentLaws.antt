-- The plan whose regions stay in their entries keeps the laws of a plan. Assumes nothing.
use Rattle.std.proofs.Common.{◌≡◌, ℕ, suc, true, ◌&&◌, List, [], ◌∷◌, Some, None, Option, is_some, sym, refl, ap, ◌∙◌, subst, lit<}
use Rattle.access.specs.Cases.{Report}
use Rattle.book.specs.Books.{Book, Laws}
use Rattle.table.specs.Registers.{Registers}
use Rattle.grants.specs.Regions.{form_of}
use Rattle.grants.specs.Owners.{owner_at, is_free, held, free_at, free_pair_at, room_for}
use Rattle.grants.specs.Images.{image}
use Rattle.grants.specs.Refusals.{unless_refused}
use Rattle.grants.specs.Residence.{grant_answer, withdraw_answer, has_room}
use Rattle.grants.specs.Resolving.{In, SelectedShown, Standing}
use Rattle.grants.specs.Plans.{PlanLaws, Holdings, ShownFor, answer_with, answer_after, held_after, selected_after}
use Rattle.grants.specs.ResidentMeaning.{owners_after, owners_with, selection_after, resident_terms, resident_plan}
use Rattle.grants.specs.declared.region.Region.{Region}
use Rattle.grants.specs.declared.region.Form.{Form}
use Rattle.grants.specs.declared.region.Form.TheVariants.{Na4, Napot, Pair}
use Rattle.grants.specs.declared.owner.Owner.{Owner}
use Rattle.grants.specs.declared.owner.Owner.TheVariants.{Free, Lower, Upper}
use Rattle.grants.specs.declared.call.PlanCall.{PlanCall}
use Rattle.grants.specs.declared.call.PlanCall.TheVariants.{Grant, Withdraw, Select}
use Rattle.grants.proofs.Active.{selected_shown, in_held}
use Rattle.grants.proofs.Walks.{first_found}
use Rattle.grants.proofs.Same.{same_in}
use Rattle.grants.proofs.Taking.{upper_below}
use Rattle.grants.proofs.Agreeing.{Agrees, held_next, asked_is, missing_is, grant_agrees, withdraw_agrees, select_agrees, start_agrees}

module _ (f : ℕ) where
  with_call_lem : (cs : List PlanCall) (c : PlanCall) → Agrees f (owners_after f cs) (held_after f (resident_terms f) cs)
      → Agrees f (owners_with f c (owners_after f cs)) (held_next (answer_with f (resident_terms f) cs (held_after f (resident_terms f) cs) c) c (held_after f (resident_terms f) cs))
  with_call_lem cs (Grant t b l r) x = grant_agrees f (owners_after f cs) (held_after f (resident_terms f) cs) x t b l r
  with_call_lem cs (Withdraw t b) x = withdraw_agrees f (owners_after f cs) (held_after f (resident_terms f) cs) x t b
  with_call_lem cs (Select t) x =
      select_agrees f (owners_after f cs) (held_after f (resident_terms f) cs) x t (answer_with f (resident_terms f) cs (held_after f (resident_terms f) cs) (Select t))

  pub agrees : (cs : List PlanCall) → Agrees f (owners_after f cs) (held_after f (resident_terms f) cs)
  unfolding owners_after held_after
  agrees [] = start_agrees f
  agrees (c ∷ cs) = with_call_lem cs c (agrees cs)

  -- the answers of the owners are those of the plan
  pub grant_answers : (cs : List PlanCall) (t b l r : ℕ) → grant_answer f (owners_after f cs) t b l r ≡ answer_after f (resident_terms f) cs (Grant t b l r)
  grant_answers cs t b l r = sym (asked_is f (owners_after f cs) (held_after f (resident_terms f) cs) (agrees cs) t b l r)

  pub withdraw_answers : (cs : List PlanCall) (t b : ℕ) → withdraw_answer (owners_after f cs) t b ≡ answer_after f (resident_terms f) cs (Withdraw t b)
  withdraw_answers cs t b = sym (missing_is f (owners_after f cs) (held_after f (resident_terms f) cs) (agrees cs) t b)

  kept_selection : (s : Option ℕ) (a : Option Report) → s ≡ unless_refused a s s
  kept_selection s None = refl
  kept_selection s (Some e) = refl

  pub selections : (cs : List PlanCall) → selection_after cs ≡ selected_after f (resident_terms f) cs
  unfolding selection_after selected_after
  selections [] = refl
  selections (Grant t b l r ∷ cs) = selections cs ∙ kept_selection _ (answer_after f (resident_terms f) cs (Grant t b l r))
  selections (Withdraw t b ∷ cs) = selections cs ∙ kept_selection _ (answer_after f (resident_terms f) cs (Withdraw t b))
  selections (Select t ∷ cs) = ap (unless_refused (answer_after f (resident_terms f) cs (Select t)) (Some t)) (selections cs)

-- ---- room while nothing is held

module _ (f : ℕ) (os : List Owner) (h : Holdings) (x : Agrees f os h) (none : (u : ℕ) → h u ≡ []) where
  no_upper : (i t : ℕ) (g : Region) → owner_at os i ≡ Upper t g → ⊥
  no_upper i t g e =
      let i64 = upper_below os i t g x.placed.sized e in
      subst (In g) (none t) (same_in (held os t) (h t) (x.same t) g (in_held os t 64 g i i64 e))

  all_free : (i : ℕ) (o : Owner) → owner_at os i ≡ o → free_at os i ≡ true
  all_free i Free e = ap is_free e
  all_free i (Lower t g) e = absurd (no_upper (suc i) t g (x.placed.lowers i t g e).0)
  all_free i (Upper t g) e = absurd (no_upper i t g e)

  free_first : free_at os 0 ≡ true
  free_first = all_free 0 (owner_at os 0) refl

  room_at : (form : Form) → room_for os form ≡ Some 0
  room_at Na4 = first_found (free_at os) 64 (lit< tt) free_first
  room_at Napot = first_found (free_at os) 64 (lit< tt) free_first
  room_at Pair = first_found (free_pair_at os) 63 (lit< tt) (λ i. free_first i && all_free 1 (owner_at os 1) refl i)

  pub room_free : (form : Form) → has_room os form ≡ true
  room_free form = ap is_some (room_at form)

-- ---- the laws

shown_for : (f : ℕ) (b : Book) (r : Registers) (os : List Owner) (h : Holdings) → Agrees f os h → (s : Option ℕ) → SelectedShown b r os s → ShownFor b r s h
shown_for f b r os h x None y = y
shown_for f b r os h x (Some t) y = record {
  only = λ i m a. let z = y.only i m a in (z.0, same_in (held os t) (h t) (x.same t) z.0 z.1, z.2);
  all = λ g m. y.all g (same_in (h t) (held os t) (λ q. sym (x.same t q)) g m);
}

pub resident_laws : (f : ℕ) (b : Book) → Laws b → PlanLaws f b (resident_plan f b)
resident_laws f b l = record {
  some = lit< tt;
  roomy = λ cs base len none. room_free f (owners_after f cs) (held_after f (resident_terms f) cs) (agrees f cs) none (form_of base len);
  shown = λ cs.
      let os = owners_after f cs in
      let s = selection_after cs in
      let x = agrees f cs in
      let st : Standing f b (image b os s) os s = record { resident = refl; placed = x.placed } in
      subst (λ (z : Option ℕ). ShownFor b (image b os s) z (held_after f (resident_terms f) cs)) (selections f cs)
      (shown_for f b (image b os s) os (held_after f (resident_terms f) cs) x s (selected_shown f b l (image b os s) os s st));
}
