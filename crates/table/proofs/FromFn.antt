-- What `array::from_fn` makes of a closure. Assumes nothing.
use Rattle.std.proofs.Common.{◌≡◌, ℕ, zero, suc, ◌+◌, ◌<◌, ◌≤◌, List, get_or, sym, subst, ⊎_elim, arith}
use Rattle.std.proofs.lemmas.Bool.{cases_eq}
use Rattle.std.specs.Array.{IsFromFnResultFrom}
use denote.Param.Members.{Mut, Called}

module _ {F A : Type 0} (g : Mut F (ℕ × Unit {0}) A) (I : F → Type 0) (P : ℕ → A → Type 0) (ys : List A) (m : ℕ)
    (step : (p : F) (k : ℕ) (v : A) (q : F) → k < m → I p → Called g p (k, tt) v q → P k v × I q) where
  -- what a call says of its answer holds of each element, given what every call keeps
  pub each_from : (p : F) (i n : ℕ) → i + n ≡ m → IsFromFnResultFrom g p ys i n → I p → (j : ℕ) (d : A) → i ≤ j → j < m → P j (get_or ys j d)
  each_from p i zero s each ip j d l h = absurd (omega arith)
  each_from p i (suc n) s each ip j d l h = ⊎_elim
      (λ e. subst (λ x. P x (get_or ys x d)) (sym e) (subst (P i) (sym (each.2.1 d)) call.0))
      (λ e. each_from each.0 (i + 1) n (omega arith) each.4 call.1 j d (omega arith) h)
      (cases_eq j i)
    where
      call : P i each.1 × I each.0
      call = step p i each.1 each.0 (omega arith) ip each.3
