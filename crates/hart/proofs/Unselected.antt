-- Before a selection no access of user mode passes, and one that is well formed is stopped with no entry deciding. Assumes nothing.
use Rattle.std.proofs.Common.{◌≡◌, ℕ, ◌<◌, ◌≤◌, Bool, true, false, List, Some, None, Ok, Err, Option, ap, ◌∙◌, subst, ⊎_elim, arith}
use Rattle.std.proofs.lemmas.Bool.{cases_lt, le-ltb, both_ways}
use Rattle.std.proofs.lemmas.Bool.Decides.{when_false}
use Rattle.access.specs.Cases.{Report}
use Rattle.access.specs.Formed.{WellFormed, ill_formed}
use Rattle.access.specs.Refusals.{report_of, stopped}
use Rattle.access.specs.declared.access.Kind.{Kind}
use Rattle.access.specs.declared.access.Mode.TheVariants.{User}
use Rattle.access.specs.declared.refusal.Refusal.{Refusal}
use Rattle.book.specs.Books.{Book, Laws}
use Rattle.table.specs.Registers.{Registers, bounds_at}
use Rattle.table.specs.Checks.{EveryByte, active, Deciding, PassesWith, RefusedAs, Checked}
use Rattle.grants.specs.Plans.{PlanMeaning, PlanLaws, ShownFor, held_after, selected_after}
use Rattle.grants.specs.declared.call.PlanCall.{PlanCall}
use Rattle.grants.proofs.Passing.{none_wrong}

-- where no entry is active
module _ (b : Book) (l : Laws b) (r : Registers) (off : (i : ℕ) → i < 64 → active r i ≡ false) (sum : Bool) (k : Kind) (a w : ℕ) where
  none_decides : (e : ℕ) → Deciding r a w e → 64 ≤ e
  none_decides e d = ⊎_elim (λ h. absurd (both_ways (active r e) (off e h) (d.2 h).0)) (λ h. h) (cases_lt e 64)

  none_passes : (v : Option Report) (e : ℕ) → PassesWith b r User sum k a w v e → ⊥
  none_passes (Some x) e p = p
  none_passes None e p =
      let P : Type 0 = EveryByte (bounds_at r e) a w × (b.permits (r.config e) User sum k ≡ true) in
      both_ways (b.unmatched User) l.user_unmatched (when_false P (b.unmatched User ≡ true) (le-ltb e 64 (none_decides e p.0)) p.1)

  all_stopped : (v : Option Report) → v ≡ None → (y : Report) → RefusedAs b r User sum k a w v y → y ≡ stopped k a 64
  all_stopped (Some x) q y p = let z : ◌≡◌ {A = ℕ} 0 1 = cc in absurd (omega arith)
  all_stopped None q y p =
      let low = p.1.0.0 in
      let high = none_decides p.0 p.1.0 in
      let at : p.0 ≡ 64 = omega arith in
      p.2 ∙ ap (stopped k a) at

module _ (f : ℕ) (b : Book) (l : Laws b) (p : PlanMeaning) (laws : PlanLaws f b p) (cs : List PlanCall) (none : selected_after f p.terms cs ≡ None) where
  none_active : (i : ℕ) → i < 64 → active (p.entries cs) i ≡ false
  none_active = subst (λ (z : Option ℕ). ShownFor b (p.entries cs) z (held_after f p.terms cs)) none (laws.shown cs)

  -- no access of user mode passes before a selection
  pub unselected_passes : (sum : Bool) (k : Kind) (a w e : ℕ) → Checked f b (p.entries cs) User sum k a w (Ok e) → ⊥
  unselected_passes sum k a w e c = none_passes b l (p.entries cs) none_active sum k a w (ill_formed f k a w) e c

  -- and one that is well formed is stopped, with 64 for its entry
  pub unselected_stops : (sum : Bool) (k : Kind) (a w : ℕ) (x : Refusal) → WellFormed f k a w → Checked f b (p.entries cs) User sum k a w (Err x) → report_of x ≡ stopped k a 64
  unselected_stops sum k a w x z c = all_stopped b l (p.entries cs) none_active sum k a w (ill_formed f k a w) (none_wrong f k a w z) (report_of x) c
