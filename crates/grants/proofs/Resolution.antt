-- The entry that a region takes resolves back to the region. Assumes nothing.
use Rattle.std.proofs.Common.{◌≡◌, ℕ, zero, suc, ◌+◌, ◌-◌, ◌*◌, ◌/◌, ◌%◌, ◌^◌, ◌<◌, ◌≤◌, Bool, true, cond, not, ◌&&◌, eqb, leb, sym, refl, ap, ◌∙◌, ⊎_elim, mul_assoc, add-mul, pow-suc, arith}
use Rattle.std.proofs.lemmas.Nat.{pow_pos, pow-add, pow_below, div-mul-add, div-add-mod'}
use Rattle.std.proofs.lemmas.Bool.{cases_Bool, cases_lt, and_parts, eqb-true, eqb-false, leb-true, not-true, cond-true, cond-false}
use Rattle.table.specs.Bounds.{resolved, trailing_ones, napot_first, matching_at}
use Rattle.table.specs.declared.matching.Matching.TheVariants.{Napot as NapotMatching}
use Rattle.access.specs.Formed.{limit}
use Rattle.grants.specs.Regions.{in_range, fitting, power_of_two, form_of, top_address, a_of}
use Rattle.grants.specs.declared.region.Form.{Form}
use Rattle.grants.specs.declared.region.Form.TheVariants.{Na4, Napot, Pair}
use Rattle.grants.proofs.Powers.{power_of}

-- an odd multiple of 2 ^ n, less one, ends in n ones
pub ones_of_block : (k n m : ℕ) → n ≤ k → trailing_ones k ((2 * m + 1) * 2 ^ n - 1) ≡ n
unfolding trailing_ones
ones_of_block zero zero m h = refl
ones_of_block (suc k) zero m h =
    let a = (2 * m + 1) * 2 ^ 0 - 1 in
    let o : a / 2 ^ 0 % 2 ≡ 0 = omega arith in
    ap (λ (n : ℕ). cond (eqb n 1) (suc (trailing_ones k (a / 2))) 0) o
ones_of_block zero (suc n) m h = absurd (omega arith)
ones_of_block (suc k) (suc n) m h =
    let x = (2 * m + 1) * 2 ^ n in
    let a = (2 * m + 1) * 2 ^ suc n - 1 in
    let p : (2 * m + 1) * 2 ^ suc n ≡ x * 2 = ap (λ (y : ℕ). (2 * m + 1) * y) (pow-suc 2 n) ∙ sym (mul_assoc (2 * m + 1) (2 ^ n) 2) in
    let d : x ≡ 2 * m * 2 ^ n + 1 * 2 ^ n = add-mul (2 * m) 1 (2 ^ n) in
    let z = pow_pos n in
    let o : a / 2 ^ 0 % 2 ≡ 1 = omega arith in
    let e : a / 2 ≡ x - 1 = omega arith in
    ap (λ (n : ℕ). cond (eqb n 1) (suc (trailing_ones k (a / 2))) 0) o ∙ ap (λ (y : ℕ). suc (trailing_ones k y)) e ∙ ap suc (ones_of_block k n m (omega arith))

-- the q-th block of 2 ^ (n + 3) bytes
pub napot_shows : (n q below : ℕ) → n ≤ 64 → resolved NapotMatching (q * 2 ^ (n + 3) / 4 + 2 ^ (n + 3) / 8 - 1) below ≡ (q * 2 ^ (n + 3), q * 2 ^ (n + 3) + 2 ^ (n + 3))
unfolding resolved
napot_shows n q below h =
    let a = q * 2 ^ (n + 3) / 4 + 2 ^ (n + 3) / 8 - 1 in
    let z = pow_pos n in
    let one : 2 ^ (n + 1) ≡ 2 ^ n * 2 = pow-add 2 n 1 in
    let three : 2 ^ (n + 3) ≡ 2 ^ n * 8 = pow-add 2 n 3 in
    let two : q * 2 ^ (n + 1) ≡ q * 2 ^ n * 2 = ap (λ (m : ℕ). q * m) one ∙ sym (mul_assoc q (2 ^ n) 2) in
    let eight : q * 2 ^ (n + 3) ≡ q * 2 ^ n * 8 = ap (λ (m : ℕ). q * m) three ∙ sym (mul_assoc q (2 ^ n) 8) in
    let odd : (2 * q + 1) * 2 ^ n ≡ 2 * q * 2 ^ n + 1 * 2 ^ n = add-mul (2 * q) 1 (2 ^ n) in
    let twice : 2 * q * 2 ^ n ≡ 2 * (q * 2 ^ n) = mul_assoc 2 q (2 ^ n) in
    let block : a ≡ (2 * q + 1) * 2 ^ n - 1 = omega arith in
    let count : trailing_ones 64 a ≡ n = ap (trailing_ones 64) block ∙ ones_of_block 64 n q h in
    let split : a ≡ q * 2 ^ (n + 1) + (2 ^ n - 1) = omega arith in
    let place : a / 2 ^ (n + 1) ≡ q = ap (λ (x : ℕ). x / 2 ^ (n + 1)) split ∙ div-mul-add q (2 ^ (n + 1)) (2 ^ n - 1) (omega arith) in
    let first : napot_first n a ≡ q * 2 ^ (n + 3) = ap (λ (x : ℕ). 4 * (x * 2 ^ (n + 1))) place ∙ omega arith in
    (λ i. (napot_first (count i) a, napot_first (count i) a + 2 ^ (count i + 3))) ∙ (λ i. (first i, first i + 2 ^ (n + 3)))

-- ---- the three forms

-- what a region's numbers say
pub record Fits (f b l : ℕ) : Type 0 where
  pub base : b % 4 ≡ 0
  pub length : l % 4 ≡ 0
  pub some : 0 < l
  pub end : b + l ≤ limit f

pub fits_from : (f b l : ℕ) → fitting f b l ≡ true → Fits f b l
fits_from f b l t =
    let p = and_parts (eqb (b % 4) 0 && eqb (l % 4) 0) (not (eqb l 0) && in_range f b l) t in
    let q = and_parts (eqb (b % 4) 0) (eqb (l % 4) 0) p.0 in
    let r = and_parts (not (eqb l 0)) (in_range f b l) p.1 in
    let n : l ≡ 0 → ⊥ = eqb-false l 0 (not-true (eqb l 0) r.0) in
    record {
      base = eqb-true (b % 4) 0 q.0;
      length = eqb-true (l % 4) 0 q.1;
      some = ⊎_elim (λ h. absurd (n (omega arith))) (λ h. omega arith) (cases_lt l 1);
      end = leb-true (b + l) (limit f) r.1;
    }

abbrev napot_test : ℕ → ℕ → Bool
napot_test b l = power_of_two l && (leb 8 l && eqb (b % l) 0)

form_na4 : (b l : ℕ) → form_of b l ≡ Na4 → l ≡ 4
form_na4 b l e = ⊎_elim
    (λ t. eqb-true l 4 t)
    (λ f. ⊎_elim
    (λ t. let q = cond-false (eqb l 4) Na4 (cond (napot_test b l) Napot Pair) f ∙ cond-true (napot_test b l) Napot Pair t in let z : ◌≡◌ {A = ℕ} 0 1 = cc in absurd (omega arith))
    (λ n. let q = cond-false (eqb l 4) Na4 (cond (napot_test b l) Napot Pair) f ∙ cond-false (napot_test b l) Napot Pair n in let z : ◌≡◌ {A = ℕ} 0 1 = cc in absurd (omega arith))
    (cases_Bool (napot_test b l)))
    (cases_Bool (eqb l 4))

form_napot : (b l : ℕ) → form_of b l ≡ Napot → napot_test b l ≡ true
form_napot b l e = ⊎_elim
    (λ t. let q = cond-true (eqb l 4) Na4 (cond (napot_test b l) Napot Pair) t in let z : ◌≡◌ {A = ℕ} 0 1 = cc in absurd (omega arith))
    (λ f. ⊎_elim
    (λ t. t)
    (λ n. let q = cond-false (eqb l 4) Na4 (cond (napot_test b l) Napot Pair) f ∙ cond-false (napot_test b l) Napot Pair n in let z : ◌≡◌ {A = ℕ} 0 1 = cc in absurd (omega arith))
    (cases_Bool (napot_test b l)))
    (cases_Bool (eqb l 4))

-- a block of 2 ^ (n + 3) bytes
record Aligned (b l : ℕ) : Type 0 where
  size : ℕ
  place : ℕ
  small : size ≤ 64
  long : l ≡ 2 ^ (size + 3)
  starts : b ≡ place * 2 ^ (size + 3)

aligned : (b l : ℕ) → napot_test b l ≡ true → Aligned b l
aligned b l t =
    let p = and_parts (power_of_two l) (leb 8 l && eqb (b % l) 0) t in
    let q = and_parts (leb 8 l) (eqb (b % l) 0) p.1 in
    let k = power_of 64 l p.0 in
    let e = k.2 in
    let j = k.0 in
    let small = k.1 in
    let eight = leb-true 8 l q.0 in
    let m = eqb-true (b % l) 0 q.1 in
    let d = div-add-mod' b l in
    let big : 3 ≤ j = ⊎_elim (λ h. let w = pow_below j 3 h in absurd (omega arith)) (λ h. h) (cases_lt j 3) in
    let n : j - 3 + 3 ≡ j = omega arith in
    let long : l ≡ 2 ^ (j - 3 + 3) = e ∙ ap (λ (x : ℕ). 2 ^ x) (sym n) in
    let whole : b ≡ b / l * l = omega arith in
    record { size = j - 3; place = b / l; small = omega arith; long = long; starts = whole ∙ ap (λ (x : ℕ). b / l * x) long }

napot_back : (b l below : ℕ) → Aligned b l → resolved NapotMatching (b / 4 + l / 8 - 1) below ≡ (b, b + l)
napot_back b l below a =
    let n = a.size in
    let e = a.long in
    let s = a.starts in
    ap (λ (x : ℕ). resolved NapotMatching (x / 4 + l / 8 - 1) below) s
    ∙ ap (λ (x : ℕ). resolved NapotMatching (a.place * 2 ^ (n + 3) / 4 + x / 8 - 1) below) e
    ∙ napot_shows n a.place below a.small
    ∙ (λ i. (sym s i, sym s i + sym e i))

module _ (f b l : ℕ) (fits : Fits f b l) where
  -- the entry that a region takes resolves back to the region; that of a pair with the base of the region below it
  pub shown : (below : ℕ) (form : Form) → form_of b l ≡ form → (form ≡ Pair → below ≡ b / 4) → resolved (matching_at (a_of form)) (top_address form b l) below ≡ (b, b + l)
  unfolding resolved
  shown below Na4 e p =
      let q = form_na4 b l e in
      let h = fits.base in
      let x : 4 * (b / 4) ≡ b = omega arith in
      let y : 4 * (b / 4) + 4 ≡ b + l = omega arith in
      λ i. (x i, y i)
  shown below Napot e p = napot_back b l below (aligned b l (form_napot b l e))
  shown below Pair e p =
      let w = p refl in
      let h = fits.base in
      let k = fits.length in
      let x : 4 * below ≡ b = omega arith in
      let y : 4 * ((b + l) / 4) ≡ b + l = omega arith in
      λ i. (x i, y i)

  -- the addresses fit their registers
  pub top_fits : (form : Form) → form_of b l ≡ form → (form ≡ Pair → b + l < limit f) → top_address form b l < 2 ^ f
  top_fits Na4 e p = let z = pow-add 2 f 2 in let h = fits.base in let k = fits.end in let q = form_na4 b l e in omega arith
  top_fits Napot e p =
      let z = pow-add 2 f 2 in
      let k = fits.end in
      let t = and_parts (power_of_two l) (leb 8 l && eqb (b % l) 0) (form_napot b l e) in
      let q = leb-true 8 l (and_parts (leb 8 l) (eqb (b % l) 0) t.1).0 in
      omega arith
  top_fits Pair e p = let z = pow-add 2 f 2 in let h = p refl in omega arith

  pub base_fits : b / 4 < 2 ^ f
  base_fits = let z = pow-add 2 f 2 in let h = fits.some in let k = fits.end in omega arith
