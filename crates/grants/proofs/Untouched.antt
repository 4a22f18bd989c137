-- Calls for another task leave the switch bits of the selection as they were. Assumes nothing.
use Rattle.std.proofs.Common.{◌≡◌, ℕ, Bool, false, eqb, List, Some, None, Option, sym, refl, ap, ◌∙◌, ⊎_elim}
use Rattle.std.proofs.lemmas.Bool.{ne_eqb}
use Rattle.access.specs.Cases.{Report}
use Rattle.grants.specs.Owners.{owner_at, found_at, vacated}
use Rattle.grants.specs.Images.{switched_on, switch_bits}
use Rattle.grants.specs.Refusals.{unless_refused}
use Rattle.grants.specs.Residence.{grant_answer, after_grant, withdraw_answer, after_withdraw, vacated_at}
use Rattle.grants.specs.Resolving.{Placed, OthersUntouched}
use Rattle.grants.specs.declared.region.Region.{Region}
use Rattle.grants.specs.declared.owner.Owner.{Owner}
use Rattle.grants.proofs.Switches.{bits_alike}
use Rattle.grants.proofs.Answering.{after_refused}
use Rattle.grants.proofs.Taking.{Taken, grant_taken}
use Rattle.grants.proofs.Freeing.{Freed, lower_was, withdraws}

module _ (f : ℕ) (os : List Owner) (p : Placed f os) (u t : ℕ) (ne : t ≡ u → ⊥) where
  -- whether the owner is switched on for the other task
  on : Owner → Bool
  on o = switched_on (Some u) o

  off : eqb t u ≡ false
  off = ne_eqb t u ne

  switches_alike : (os' : List Owner) → ((k : ℕ) → on (owner_at os' k) ≡ on (owner_at os k)) → switch_bits os' (Some u) ≡ switch_bits os (Some u)
  unfolding on
  switches_alike os' h = bits_alike (λ k. switched_on (Some u) (owner_at os' k)) (λ k. switched_on (Some u) (owner_at os k)) 64 (λ k _. h k)

  module _ (os' : List Owner) (top : ℕ) (g : Region) where
    taken_alike : Taken os os' top t g → (k : ℕ) → on (owner_at os' k) ≡ on (owner_at os k)
    unfolding on
    taken_alike x k = ⊎_elim
        (λ e. ap on (ap (owner_at os') e ∙ x.top_is) ∙ off ∙ sym (ap on (ap (owner_at os) e ∙ x.top_was)))
        (⊎_elim (λ l. ap on l.0 ∙ off ∙ sym (ap on l.1)) (λ s. ap on s))
        (x.each k)

    freed_alike : Freed os os' top t g → (k : ℕ) → on (owner_at os' k) ≡ on (owner_at os k)
    unfolding on
    freed_alike x k = ⊎_elim
        (λ z. ap on z.0 ∙ sym (⊎_elim
        (λ e. ap on (ap (owner_at os) e ∙ x.top_was) ∙ off)
        (λ e. ap on (lower_was os os' top t g x f p k e.0 e.1) ∙ off)
        z.1))
        (λ s. ap on s.0)
        (x.each k)

  grant_untouched : (b l r : ℕ) → switch_bits (after_grant f os t b l r) (Some u) ≡ switch_bits os (Some u)
  grant_untouched b l r = go (grant_answer f os t b l r) refl
    where
      go : (o : Option Report) → grant_answer f os t b l r ≡ o → switch_bits (after_grant f os t b l r) (Some u) ≡ switch_bits os (Some u)
      go (Some x) q = ap (λ (z : List Owner). switch_bits z (Some u)) (after_refused f os t b l r x q)
      go None q =
          let y = grant_taken f os t b l r p q in
          switches_alike (after_grant f os t b l r) (taken_alike (after_grant f os t b l r) y.1.top y.0 y.1.taken)

  withdraw_untouched : (b : ℕ) → switch_bits (after_withdraw os t b) (Some u) ≡ switch_bits os (Some u)
  withdraw_untouched b = go (withdraw_answer os t b)
    where
      found : (o : Option ℕ) → found_at os t b ≡ o → switch_bits (vacated_at os o) (Some u) ≡ switch_bits os (Some u)
      found None n = refl
      found (Some i) n =
          let w = withdraws f os t b i p n in
          switches_alike (vacated os i) (freed_alike (vacated os i) i w.0 w.1.freed)

      go : (a : Option Report) → switch_bits (unless_refused a (vacated_at os (found_at os t b)) os) (Some u) ≡ switch_bits os (Some u)
      go None = found (found_at os t b) refl
      go (Some x) = refl

pub others_untouched : (f : ℕ) → OthersUntouched f
others_untouched f os u t p ne = record { grants = grant_untouched f os p u t ne; withdrawals = withdraw_untouched f os p u t ne }
