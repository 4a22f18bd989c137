-- The answer to an access: that it passes or is refused, and that there is one.
use Rattle.std.proofs.Common.{◌≡◌, ℕ, Bool, true, ◌⊎◌, Ok, Err, Result, sym, refl, ap, ◌∙◌, inl, inr, ⊎_elim}
use Rattle.std.proofs.lemmas.Bool.{false≢true, true≢false}
use Rattle.access.specs.Refusals.{not_admitted}
use Rattle.access.specs.declared.access.Kind.{Kind}
use Rattle.access.specs.declared.access.Mode.{Mode}
use Rattle.access.specs.declared.refusal.Refusal.{Refusal}
use Rattle.access.proofs.OneReport.{report_one}
use Rattle.book.specs.Books.{Book}
use Rattle.table.specs.Registers.{Registers}
use Rattle.table.specs.Checks.{Checked}
use Rattle.table.proofs.Verdicts.{one_answer}
use Rattle.memory.specs.Meaning.{MemoryMeaning}
use Rattle.hart.specs.Accesses.{AccessPasses, AccessRefused}
use Rattle.history.specs.declared.call.Access.{Access}
use Rattle.history.specs.declared.call.Access.TheVariants.{Load, Store, Fetch}
use Rattle.history.specs.declared.call.Answer.{Answer}
use Rattle.history.specs.declared.call.Answer.TheVariants.{Done, Value, Declined, Refused}
use Rattle.history.specs.Accesses.{kind_of, address_of, width_of, given}
use Rattle.history.specs.Answers.{passed}
use Rattle.history.specs.Runs.{Accessed}

pub given_passed : (byte : ℕ → ℕ) (x : Access) → passed (given byte x) ≡ true
given_passed byte (Load a w) = refl
given_passed byte (Store a w v) = refl
given_passed byte (Fetch a w) = refl

module _ (f : ℕ) (b : Book) (r : Registers) (mode : Mode) (sum : Bool) (x : Access) where
  abbrev PassesIn : MemoryMeaning → Type 0
  PassesIn m = AccessPasses f b r m mode sum (kind_of x) (address_of x) (width_of x)

  abbrev RefusedIn : MemoryMeaning → Refusal → Type 0
  RefusedIn m y = AccessRefused f b r m mode sum (kind_of x) (address_of x) (width_of x) y

  -- an access passes or is refused
  pub accessed_cases : (m : MemoryMeaning) (a : Answer) → Accessed f b r m mode sum x a → (PassesIn m × (a ≡ given m.byte x)) ⊎ ((y : Refusal) × (a ≡ Refused y) × RefusedIn m y)
  accessed_cases m Done q = inl (q.0, q.1)
  accessed_cases m (Value v) q = inl (q.0, q.1)
  accessed_cases m (Declined y) q = absurd q
  accessed_cases m (Refused y) q = inr (y, refl, q)

  -- one that passed
  pub accessed_passed : (m : MemoryMeaning) (a : Answer) → Accessed f b r m mode sum x a → passed a ≡ true → PassesIn m × (a ≡ given m.byte x)
  accessed_passed m a q ok = ⊎_elim (λ z. z) (λ z. absurd (false≢true (sym (ap passed z.1) ∙ ok))) (accessed_cases m a q)

  checked_one : (c d : Result ℕ Refusal) → Checked f b r mode sum (kind_of x) (address_of x) (width_of x) c → Checked f b r mode sum (kind_of x) (address_of x) (width_of x) d → c ≡ d
  checked_one c d p q = one_answer f b r mode sum (kind_of x) (address_of x) (width_of x) c d p q

  module _ (m n : MemoryMeaning) (same : (k : Kind) (a w : ℕ) → m.admits k a w ≡ n.admits k a w) where
    same_here : m.admits (kind_of x) (address_of x) (width_of x) ≡ n.admits (kind_of x) (address_of x) (width_of x)
    same_here = same (kind_of x) (address_of x) (width_of x)

    not_both : PassesIn m → (y : Refusal) → RefusedIn n y → ⊥
    not_both p y (inl c) = let q = checked_one (Ok p.entry) (Err y) p.checked c in cc
    not_both p y (inr d) = true≢false (sym p.admitted ∙ same_here ∙ d.declined)

    one_refused : (y z : Refusal) → RefusedIn m y → RefusedIn n z → y ≡ z
    one_refused y z (inl c) (inl d) = let q = checked_one (Err y) (Err z) c d in cc
    one_refused y z (inl c) (inr d) = let q = checked_one (Ok d.entry) (Err y) d.checked c in cc
    one_refused y z (inr c) (inl d) = let q = checked_one (Ok c.entry) (Err z) c.checked d in cc
    one_refused y z (inr c) (inr d) =
        let q = checked_one (Ok c.entry) (Ok d.entry) c.checked d.checked in
        let e : c.entry ≡ d.entry = cc in
        report_one y z (c.reported ∙ ap (not_admitted (kind_of x) (address_of x)) e ∙ sym d.reported)

  module _ (m n : MemoryMeaning) (same : (k : Kind) (a w : ℕ) → m.admits k a w ≡ n.admits k a w) (a c : Answer) (p : Accessed f b r m mode sum x a) (q : Accessed f b r n mode sum x c) where
    -- the access passes in both memories, or is refused in both with one refusal
    both : (PassesIn m × (a ≡ given m.byte x) × (c ≡ given n.byte x)) ⊎ ((y : Refusal) × (a ≡ Refused y) × (c ≡ Refused y))
    both = ⊎_elim
        (λ u. ⊎_elim
        (λ v. inl (u.0, u.1, v.1))
        (λ v. absurd (not_both m n same u.0 v.0 v.2))
        (accessed_cases n c q))
        (λ u. ⊎_elim
        (λ v. absurd (not_both n m (λ k a w. sym (same k a w)) v.0 u.0 u.2))
        (λ v. inr (v.0, u.1 ∙ ap Refused (one_refused m n same u.0 v.0 u.2 v.2), v.1))
        (accessed_cases n c q))
        (accessed_cases m a p)

    -- whether an access passes does not depend on what the memory holds
    pub passed_same : passed a ≡ passed c
    passed_same = ⊎_elim
        (λ u. ap passed u.1 ∙ given_passed m.byte x ∙ sym (ap passed u.2 ∙ given_passed n.byte x))
        (λ u. ap passed (u.1 ∙ sym u.2))
        both

    -- where a passed access gives the same, so is the answer
    pub accessed_same : (PassesIn m → given m.byte x ≡ given n.byte x) → a ≡ c
    accessed_same gives = ⊎_elim (λ u. u.1 ∙ gives u.0 ∙ sym u.2) (λ u. u.1 ∙ sym u.2) both
