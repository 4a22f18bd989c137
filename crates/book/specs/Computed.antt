-- A rule at each number below a bound, by one test that antt computes. Stands here since the laws of the books do. Assumes nothing.
use Rattle.std.specs.Prelude.{◌≡◌, ℕ, zero, suc, ◌<◌, Bool, true, false, ◌&&◌, T, ◌⊎◌, refl}
use Rattle.std.proofs.Common.{subst, sym, inl, inr, not-suc-le-zero, arith}

abbrev pub same_b : Bool → Bool → Bool
same_b true true = true
same_b true false = false
same_b false true = false
same_b false false = true

pub same_b_eq : (a b : Bool) → T (same_b a b) → a ≡ b
same_b_eq true true t = refl
same_b_eq true false t = absurd t
same_b_eq false true t = absurd t
same_b_eq false false t = refl

pub and_left : (a b : Bool) → T (a && b) → T a
and_left true b t = tt
and_left false b t = t

pub and_right : (a b : Bool) → T (a && b) → T b
and_right true b t = t
and_right false b t = absurd t

last : (k n : ℕ) → k < suc n → (k ≡ n) ⊎ (k < n)
last k zero h = inl (omega arith)
last zero (suc n) h = inr (omega arith)
last (suc k) (suc n) h = step (last k n (omega arith))
  where
    step : (k ≡ n) ⊎ (k < n) → (suc k ≡ suc n) ⊎ (suc k < suc n)
    step (inl e) = inl (omega arith)
    step (inr l) = inr (omega arith)

-- the test passes at each number below n
abbrev pub below : (ℕ → Bool) → ℕ → Bool
below f zero = true
below f (suc n) = f n && below f n

pub at_below : (f : ℕ → Bool) (n : ℕ) → T (below f n) → (k : ℕ) → k < n → T (f k)
at_below f zero t k h = absurd (not-suc-le-zero h)
at_below f (suc n) t k h = go (λ l. at_below f n (and_right (f n) (below f n) t) k l) (last k n h)
  where
    go : (k < n → T (f k)) → (k ≡ n) ⊎ (k < n) → T (f k)
    go rest (inl e) = subst (λ (m : ℕ). T (f m)) (sym e) (and_left (f n) (below f n) t)
    go rest (inr l) = rest l
