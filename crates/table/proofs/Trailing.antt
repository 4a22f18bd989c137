-- Trailing ones: what the machine counts, and what the count says by powers of two. Assumes nothing.
use Rattle.std.proofs.Common.{◌≡◌, ℕ, zero, suc, ◌+◌, ◌-◌, ◌*◌, ◌/◌, ◌%◌, ◌^◌, ◌<◌, ◌≤◌, cond, eqb, ◌⊎◌, sym, refl, ap, ◌∙◌, subst, ⊎_elim, mul_assoc, add-mul, pow-suc, arith, pow_pos, pow_mono}
use native.Mathlib.Nat.{div-eq_of_lt}
use lib.Count.{count_trailing_zeros}
use Rattle.std.proofs.lemmas.Bool.Decides.{nat_tests}
use Rattle.std.proofs.lemmas.Nat.{shr-shr, pow-add}
use Rattle.table.specs.Bounds.{trailing_ones, napot_first, resolved, Block, FieldLaws}
use Rattle.table.specs.declared.matching.Matching.TheVariants.{Napot}

ones_step : (k a : ℕ) → trailing_ones (suc k) a ≡ cond (eqb (a % 2) 1) (suc (trailing_ones k (a / 2))) 0
unfolding trailing_ones
ones_step k a = grind (arith, nat_tests)

ones_even : (k a : ℕ) → a % 2 ≡ 0 → trailing_ones (suc k) a ≡ 0
ones_even k a e = grind (arith, nat_tests, ones_step)

ones_odd : (k a : ℕ) → a % 2 ≡ 1 → trailing_ones (suc k) a ≡ suc (trailing_ones k (a / 2))
ones_odd k a e = grind (arith, nat_tests, ones_step)

-- the zeros at the end of the complement
pub ones_of_complement : (k a : ℕ) → a < 2 ^ k → count_trailing_zeros k (2 ^ k - 1 - a) ≡ trailing_ones k a
unfolding trailing_ones count_trailing_zeros
ones_of_complement zero a h = refl
ones_of_complement (suc k) a h =
    let p = pow-suc 2 k in
    let ih = ones_of_complement k (a / 2) (omega arith) in
    let half : (2 ^ suc k - 1 - a) / 2 ≡ 2 ^ k - 1 - a / 2 = omega arith in
    let s = ones_step k a in
    grind (arith, nat_tests)

-- the number and one make an odd multiple of the power
OddAt : ℕ → ℕ → Type 0
OddAt n a = a + 1 ≡ (2 * (a / 2 ^ (n + 1)) + 1) * 2 ^ n

odd_none : (a : ℕ) → a % 2 ≡ 0 → OddAt 0 a
unfolding OddAt
odd_none a e = omega arith

odd_more : (a n : ℕ) → a % 2 ≡ 1 → OddAt n (a / 2) → OddAt (suc n) a
unfolding OddAt
odd_more a n e ih =
    let s : a / 2 / 2 ^ (n + 1) ≡ a / 2 ^ (suc n + 1) = shr-shr a 1 (n + 1) ∙ ap (λ (m : ℕ). a / 2 ^ m) (omega arith) in
    let q = a / 2 ^ (suc n + 1) in
    let f : a / 2 + 1 ≡ (2 * q + 1) * 2 ^ n = ih ∙ ap (λ (m : ℕ). (2 * m + 1) * 2 ^ n) s in
    let g : (2 * q + 1) * 2 ^ suc n ≡ (2 * q + 1) * 2 ^ n * 2 = ap (λ (m : ℕ). (2 * q + 1) * m) (pow-suc 2 n) ∙ sym (mul_assoc (2 * q + 1) (2 ^ n) 2) in
    omega arith

ones_odd_multiple : (k a : ℕ) → a < 2 ^ k → OddAt (trailing_ones k a) a
unfolding trailing_ones OddAt
ones_odd_multiple zero a h = let z : a ≡ 0 = omega arith in odd_none a (omega arith)
ones_odd_multiple (suc k) a h =
    let p = pow-suc 2 k in
    let ih = ones_odd_multiple k (a / 2) (omega arith) in
    let cases : (a % 2 ≡ 0) ⊎ (a % 2 ≡ 1) = grind arith in
    ⊎_elim
    (λ e. subst (λ (n : ℕ). OddAt n a) (sym (ones_even k a e)) (odd_none a e))
    (λ e. subst (λ (n : ℕ). OddAt n a) (sym (ones_odd k a e)) (odd_more a (trailing_ones k (a / 2)) e ih))
    cases

-- what the bounds of a NAPOT register are
pub napot_block : (k a : ℕ) → a < 2 ^ k → Block a (napot_first (trailing_ones k a) a) (napot_first (trailing_ones k a) a + 2 ^ (trailing_ones k a + 3))
unfolding OddAt
napot_block k a h =
    let n = trailing_ones k a in
    let q = a / 2 ^ (n + 1) in
    let one : 2 ^ (n + 1) ≡ 2 ^ n * 2 = pow-add 2 n 1 in
    let three : 2 ^ (n + 3) ≡ 2 ^ n * 8 = pow-add 2 n 3 in
    let two : q * 2 ^ (n + 1) ≡ q * 2 ^ n * 2 = ap (λ (m : ℕ). q * m) one ∙ sym (mul_assoc q (2 ^ n) 2) in
    let eight : q * 2 ^ (n + 3) ≡ q * 2 ^ n * 8 = ap (λ (m : ℕ). q * m) three ∙ sym (mul_assoc q (2 ^ n) 8) in
    let next : (q + 1) * 2 ^ (n + 3) ≡ q * 2 ^ (n + 3) + 1 * 2 ^ (n + 3) = add-mul q 1 (2 ^ (n + 3)) in
    record {
      size = n;
      place = q;
      odd = ones_odd_multiple k a h;
      starts = omega arith;
      ends = omega arith;
    }

-- a number of at most f bits has at most f trailing ones
pub ones_fit : (f k a : ℕ) → a < 2 ^ f → trailing_ones k a ≤ f
unfolding trailing_ones
ones_fit f zero a h = omega arith
ones_fit zero (suc k) a h = grind (arith, nat_tests, ones_step)
ones_fit (suc f) (suc k) a h =
    let p = pow-suc 2 f in
    let ih = ones_fit f k (a / 2) (omega arith) in
    let s = ones_step k a in
    grind (arith, nat_tests)

-- the count does not depend on the bits above the number
ones_any_width : (f k a : ℕ) → f ≤ k → a < 2 ^ f → trailing_ones k a ≡ trailing_ones f a
unfolding trailing_ones
ones_any_width zero zero a l h = refl
ones_any_width zero (suc k) a l h = grind (arith, nat_tests, ones_step)
ones_any_width (suc f) zero a l h = absurd (omega arith)
ones_any_width (suc f) (suc k) a l h =
    let p = pow-suc 2 f in
    let ih = ones_any_width f k (a / 2) (omega arith) (omega arith) in
    let s = ones_step k a in
    let t = ones_step f a in
    grind (arith, nat_tests)

all_ones_lem : (f : ℕ) → trailing_ones f (2 ^ f - 1) ≡ f
unfolding trailing_ones
all_ones_lem zero = refl
all_ones_lem (suc f) =
    let p = pow-suc 2 f in
    let q = pow_pos f in
    let o : (2 ^ suc f - 1) % 2 ≡ 1 = omega arith in
    let h : (2 ^ suc f - 1) / 2 ≡ 2 ^ f - 1 = omega arith in
    ones_odd f (2 ^ suc f - 1) o ∙ ap (λ (n : ℕ). suc (trailing_ones f n)) h ∙ ap suc (all_ones_lem f)

-- a field of f ones is the block of 2 ^ (f + 3) bytes from 0
all_ones_resolved : (f below : ℕ) → f ≤ 64 → resolved Napot (2 ^ f - 1) below ≡ (0, 2 ^ (f + 3))
unfolding resolved
all_ones_resolved f below l =
    let a = 2 ^ f - 1 in
    let q = pow_pos f in
    let n : trailing_ones 64 a ≡ f = ones_any_width f 64 a l (omega arith) ∙ all_ones_lem f in
    let m : 2 ^ f ≤ 2 ^ (f + 1) = pow_mono {i = f} {j = f + 1} (omega arith) in
    let z : a / 2 ^ (f + 1) ≡ 0 = div-eq_of_lt (omega arith) in
    let first : napot_first (trailing_ones 64 a) a ≡ 0 = ap (λ (k : ℕ). napot_first k a) n ∙ ap (λ (x : ℕ). 4 * (x * 2 ^ (f + 1))) z ∙ omega arith in
    let e : 2 ^ (trailing_ones 64 a + 3) ≡ 2 ^ (f + 3) = ap (λ (k : ℕ). 2 ^ (k + 3)) n in
    let end : napot_first (trailing_ones 64 a) a + 2 ^ (trailing_ones 64 a + 3) ≡ 2 ^ (f + 3) = omega (arith, first, e) in
    λ i. (first i, end i)

pub field_laws : (f : ℕ) → f ≤ 64 → FieldLaws f
field_laws f l = record { same_ones = λ a h. ones_any_width f 64 a l h; all_ones = λ below. all_ones_resolved f below l }
