-- What the deciding entry permits, and the answers of a check. Assumes nothing.
use Rattle.std.proofs.Common.{arith, ◌≡◌, ℕ, ◌<◌, Bool, true, Some, None, Decides as Tells, Option, sym, refl, subst}
use Rattle.std.proofs.lemmas.Bool.Decides.{nat_tests}
use Rattle.access.specs.Cases.{Report}
use Rattle.access.specs.Refusals.{stopped}
use Rattle.access.specs.declared.access.Kind.{Kind}
use Rattle.access.specs.declared.access.Mode.{Mode}
use Rattle.access.specs.declared.access.Mode.TheVariants.{Machine, Supervisor, User}
use Rattle.book.specs.Books.{Book}
use Rattle.table.specs.Registers.{Registers, bounds_at}
use Rattle.table.specs.Checks.{EveryByte, Deciding, Permitted, entry_number, Passes, Stops, PassesWith, RefusedAs}

module _ (b : Book) (r : Registers) (m : Mode) (sum : Bool) (k : Kind) (a w : ℕ) where
  -- an entry decides, and has all of the access or not
  pub permitted_by_entry : (v : Bool) (o : Option ℕ) (i : ℕ) → o ≡ Some i → i < 64
      → Tells v (EveryByte (bounds_at r i) a w × (b.permits (r.config i) m sum k ≡ true)) → Tells v (Permitted b r (entry_number o) m sum k a w)
  permitted_by_entry v o i e h t = grind (arith, nat_tests)

  -- the answers of a check, by what is wrong with the access itself
  pub passes_with : (v : Option Report) (e : ℕ) → v ≡ None → Passes b r m sum k a w e → PassesWith b r m sum k a w v e
  passes_with v e n p = subst (λ (x : Option Report). PassesWith b r m sum k a w x e) (sym n) p

  pub refused_as : (v : Option Report) (x : Report) → v ≡ Some x → RefusedAs b r m sum k a w v x
  refused_as v x n = subst (λ (y : Option Report). RefusedAs b r m sum k a w y x) (sym n) refl

  pub stopped_as : (v : Option Report) (e : ℕ) → v ≡ None → Stops b r m sum k a w e → RefusedAs b r m sum k a w v (stopped k a e)
  stopped_as v e n s = subst (λ (y : Option Report). RefusedAs b r m sum k a w y (stopped k a e)) (sym n) (e, s, refl)

  -- what the deciding entry permits passes, and what it does not is stopped, in every mode but M
  pub decided_pass : (e : ℕ) → (m ≡ Machine → ⊥) → Deciding r a w e → Permitted b r e m sum k a w → Passes b r m sum k a w e
  decided_pass e n d p = elim m as (λ x. (x ≡ Machine → ⊥) → Permitted b r e x sum k a w → Passes b r x sum k a w e) [ Machine ↦ λ n' _. absurd (n' refl) | Supervisor ↦ λ _ q. (d, q) | User ↦ λ _ q. (d, q) ] n p

  pub decided_stop : (e : ℕ) → (m ≡ Machine → ⊥) → Deciding r a w e → (Permitted b r e m sum k a w → ⊥) → Stops b r m sum k a w e
  decided_stop e n d p = elim m as (λ x. (x ≡ Machine → ⊥) → (Permitted b r e x sum k a w → ⊥) → Stops b r x sum k a w e) [ Machine ↦ λ n' _. absurd (n' refl) | Supervisor ↦ λ _ q. (d, q) | User ↦ λ _ q. (d, q) ] n p
