-- The switch bits as one number. Assumes nothing.
use Rattle.std.proofs.Common.{◌≡◌, ℕ, zero, suc, ◌+◌, ◌-◌, ◌*◌, ◌/◌, ◌%◌, ◌^◌, ◌<◌, Bool, true, false, cond, eqb, sym, refl, ap, ◌∙◌, subst, ⊎_elim, add-mul, one-mul, pow-suc, add-one, arith}
use lib.Bits.{bit_or}
use Rattle.std.proofs.lemmas.Nat.{pow_pos, pow-add, one_shl, or_shifted, or_comm, div-mul-add, mod_below, shr_split, shr_high}
use Rattle.std.proofs.lemmas.Bool.{cases_eq, cond-true, cond-false, cond_both}
use Rattle.book.specs.Bits.{bit}
use Rattle.grants.specs.Images.{bits_below}

pub bits_fit : (f : ℕ → Bool) (n : ℕ) → bits_below f n < 2 ^ n
unfolding bits_below
bits_fit f zero = omega arith
bits_fit f (suc n) =
    let h = bits_fit f n in
    let p = pow-suc 2 n in
    cond_both (f n) (2 ^ n) 0 (λ (x : ℕ). bits_below f n + x < 2 ^ suc n) (λ _. omega arith) (λ _. omega arith)

pub bit_same : (f : ℕ → Bool) (k w : ℕ) → w ≡ bits_below f k → f k ≡ false → w ≡ bits_below f (k + 1)
unfolding bits_below
bit_same f k w e t =
    let q : bits_below f (suc k) ≡ bits_below f k + 0 = ap (λ (x : ℕ). bits_below f k + x) (cond-false (f k) (2 ^ k) 0 t) in
    e ∙ omega arith ∙ sym q ∙ ap (bits_below f) (sym (add-one k))

pub bit_more : (f : ℕ → Bool) (k w : ℕ) → k < 64 → w ≡ bits_below f k → f k ≡ true → bit_or w ((1 * 2 ^ k) % 2 ^ 64) ≡ bits_below f (k + 1)
unfolding bits_below
bit_more f k w h e t =
    let q : bits_below f (suc k) ≡ bits_below f k + 2 ^ k = ap (λ (x : ℕ). bits_below f k + x) (cond-true (f k) (2 ^ k) 0 t) in
    let l : w < 2 ^ k = omega (arith, bits_fit f k) in
    let s : bit_or w (1 * 2 ^ k) ≡ 1 * 2 ^ k + w = or_comm w (1 * 2 ^ k) ∙ or_shifted 1 k w l in
    let o = one-mul (2 ^ k) in
    let m : (1 * 2 ^ k) % 2 ^ 64 ≡ 1 * 2 ^ k = one_shl k 64 h ∙ sym o in
    ap (bit_or w) m ∙ s ∙ omega arith ∙ sym q ∙ ap (bits_below f) (sym (add-one k))

pub bits_alike : (p q : ℕ → Bool) (n : ℕ) → ((k : ℕ) → k < n → p k ≡ q k) → bits_below p n ≡ bits_below q n
unfolding bits_below
bits_alike p q zero h = refl
bits_alike p q (suc n) h =
    let i = bits_alike p q n (λ k l. h k (omega arith)) in
    let e = h n (omega arith) in
    λ j. i j + cond (e j) (2 ^ n) 0

no_bits : (n : ℕ) → bits_below (λ _. false) n ≡ 0
unfolding bits_below
no_bits zero = refl
no_bits (suc n) = let e = no_bits n in omega arith

pub bits_none : (f : ℕ → Bool) (n : ℕ) → ((k : ℕ) → k < n → f k ≡ false) → bits_below f n ≡ 0
bits_none f n h = bits_alike f (λ _. false) n h ∙ no_bits n

-- ---- the bits of that number

top_bit : (x n : ℕ) (c : Bool) → x < 2 ^ n → bit (x + cond c (2 ^ n) 0) n ≡ c
top_bit x n true h =
    let e : (x + 2 ^ n) / 2 ^ n ≡ 1 = ap (λ (y : ℕ). y / 2 ^ n) (omega (arith, one-mul (2 ^ n))) ∙ div-mul-add 1 (2 ^ n) x h in
    ap (λ (y : ℕ). eqb (y % 2) 1) e
top_bit x n false h =
    let e : (x + 0) / 2 ^ n ≡ 0 = ap (λ (y : ℕ). y / 2 ^ n) {x = x + 0} {y = 0 * 2 ^ n + x} (omega arith) ∙ div-mul-add 0 (2 ^ n) x h in
    ap (λ (y : ℕ). eqb (y % 2) 1) e

low_bit : (x n k : ℕ) (c : Bool) → k < n → bit (x + cond c (2 ^ n) 0) k ≡ bit x k
low_bit x n k true h =
    let d = n - k - 1 in
    let m : d + 1 + k ≡ n = omega arith in
    let p : 2 ^ n ≡ 2 ^ (d + 1) * 2 ^ k = ap (λ (y : ℕ). 2 ^ y) (sym m) ∙ pow-add 2 (d + 1) k in
    let q : 2 ^ (d + 1) ≡ 2 ^ d * 2 = pow-add 2 d 1 in
    let s = shr_split x k in
    let a : (x / 2 ^ k + 2 ^ (d + 1)) * 2 ^ k ≡ x / 2 ^ k * 2 ^ k + 2 ^ (d + 1) * 2 ^ k = add-mul (x / 2 ^ k) (2 ^ (d + 1)) (2 ^ k) in
    let e : x + 2 ^ n ≡ (x / 2 ^ k + 2 ^ (d + 1)) * 2 ^ k + x % 2 ^ k = omega arith in
    let f : (x + 2 ^ n) / 2 ^ k ≡ x / 2 ^ k + 2 ^ (d + 1) = ap (λ (y : ℕ). y / 2 ^ k) e ∙ shr_high (x / 2 ^ k + 2 ^ (d + 1)) k (x % 2 ^ k) (mod_below x (2 ^ k) (pow_pos k)) in
    let g : (x + 2 ^ n) / 2 ^ k % 2 ≡ x / 2 ^ k % 2 = omega arith in
    ap (λ (y : ℕ). eqb y 1) g
low_bit x n k false h = ap (λ (y : ℕ). eqb (y / 2 ^ k % 2) 1) {x = x + 0} {y = x} (omega arith)

-- bit k is the k-th answer
pub bit_of_bits : (f : ℕ → Bool) (n k : ℕ) → k < n → bit (bits_below f n) k ≡ f k
unfolding bits_below
bit_of_bits f zero k h = absurd (omega arith)
bit_of_bits f (suc n) k h = ⊎_elim
    (λ e. let P : ℕ → Type 0 = λ (j : ℕ). bit (bits_below f n + cond (f n) (2 ^ n) 0) j ≡ f j in subst P (sym e) (top_bit (bits_below f n) n (f n) (bits_fit f n)))
    (λ ne. low_bit (bits_below f n) n k (f n) (omega arith) ∙ bit_of_bits f n k (omega arith))
    (cases_eq k n)
