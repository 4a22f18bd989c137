-- Powers of two: a number with one bit set is one, and the other way round. Assumes nothing.
use Rattle.std.proofs.Common.{◌≡◌, ℕ, zero, suc, ◌+◌, ◌*◌, ◌/◌, ◌%◌, ◌^◌, ◌<◌, true, eqb, ◌⊎◌, sym, ap, ◌∙◌, inl, inr, ⊎_elim, add-zero, one-mul, pow-suc, arith}
use lib.Count.{ones, ones_in, ones_step, ones_cat}
use Rattle.std.proofs.lemmas.Nat.{pow_pos}
use Rattle.std.proofs.lemmas.Bool.{cases_eq, cases_Bool, eq-eqb, eqb-true, eqb-false, or_cases, or_left, or_right}
use Rattle.grants.specs.Regions.{power_below}

ones_none : (k n : ℕ) → n < 2 ^ k → ones n ≡ 0 → n ≡ 0
ones_none zero n h e = omega arith
ones_none (suc k) n h e =
    let s = ones_step n in
    let p = pow-suc 2 k in
    let z : n / 2 ≡ 0 = ones_none k (n / 2) (omega arith) (omega arith) in
    omega arith

abbrev PowerBelow : ℕ → ℕ → Type 0
PowerBelow k n = (j : ℕ) × (j < k) × (n ≡ 2 ^ j)

ones_single : (k n : ℕ) → n < 2 ^ k → ones n ≡ 1 → PowerBelow k n
unfolding ones ones_in
ones_single zero n h e = let z : n ≡ 0 = omega arith in let q : ones 0 ≡ 1 = ap ones (sym z) ∙ e in absurd (omega arith)
ones_single (suc k) n h e = go (ones_single k (n / 2)) (cases_eq (n % 2) 0)
  where
    s : ones n ≡ n % 2 + ones (n / 2)
    s = ones_step n

    p : 2 ^ suc k ≡ 2 ^ k * 2
    p = pow-suc 2 k

    go : (n / 2 < 2 ^ k → ones (n / 2) ≡ 1 → PowerBelow k (n / 2)) → (n % 2 ≡ 0) ⊎ (n % 2 ≡ 0 → ⊥) → PowerBelow (suc k) n
    go ih (inl q) =
        let i = ih (omega (arith, p)) (omega (arith, s)) in
        let w = pow-suc 2 i.0 in
        let l = i.1 in
        let m = i.2 in
        (suc i.0, omega arith, omega arith)
    go ih (inr d) = let q : n % 2 ≡ 1 = ⊎_elim (λ e. absurd (d (omega arith))) (λ e. omega arith) (cases_eq (n % 2) 0) in let z : n / 2 ≡ 0 = ones_none k (n / 2) (omega (arith, p)) (omega (arith, s)) in (0, omega arith, omega arith)

ones_of_power : (j : ℕ) → ones (2 ^ j) ≡ 1
unfolding ones ones_in
ones_of_power j = ap ones (sym (add-zero (1 * 2 ^ j) ∙ one-mul (2 ^ j))) ∙ ones_cat j 1 0 (pow_pos j)

pub power_from : (n j l : ℕ) → j < n → l ≡ 2 ^ j → power_below n l ≡ true
unfolding power_below
power_from zero j l h e = absurd (omega arith)
power_from (suc n) j l h e = ⊎_elim
    (λ q. or_left (eqb l (2 ^ n)) (power_below n l) (eq-eqb l (2 ^ n) (e ∙ ap (λ (x : ℕ). 2 ^ x) q)))
    (λ q. or_right (eqb l (2 ^ n)) (power_below n l) (power_from n j l (omega arith) e))
    (cases_eq j n)

-- a power of two, as the exponent it has
pub power_of : (n l : ℕ) → power_below n l ≡ true → (j : ℕ) × (j < n) × (l ≡ 2 ^ j)
unfolding power_below
power_of zero l t = cc
power_of (suc n) l t = go (power_of n l) (or_cases (eqb l (2 ^ n)) (power_below n l) t)
  where
    go : (power_below n l ≡ true → PowerBelow n l) → (eqb l (2 ^ n) ≡ true) ⊎ (power_below n l ≡ true) → PowerBelow (suc n) l
    go ih (inl q) = (n, omega arith, eqb-true l (2 ^ n) q)
    go ih (inr q) = let i = ih q in let h = i.1 in (i.0, omega arith, i.2)

-- one bit set
pub single_power : (k n : ℕ) → n < 2 ^ k → eqb (ones n) 1 ≡ power_below k n
single_power k n h = ⊎_elim
    (λ t. let i = ones_single k n h (eqb-true (ones n) 1 t) in t ∙ sym (power_from k i.0 n i.1 i.2))
    (λ f. ⊎_elim
    (λ t. let i = power_of k n t in absurd (eqb-false (ones n) 1 f (ap ones i.2 ∙ ones_of_power i.0)))
    (λ g. f ∙ sym g)
    (cases_Bool (power_below k n)))
    (cases_Bool (eqb (ones n) 1))
