-- Little-endian values and their bytes.
use Rattle.std.proofs.Common.{◌≡◌, ℕ, zero, suc, ◌+◌, ◌-◌, ◌*◌, ◌/◌, ◌%◌, ◌^◌, ◌<◌, ◌≤◌, sym, refl, ap, ◌∙◌, subst, get_or, List, slice_index, drop, length, replicate, ⊎_elim, mod-eq_of_lt, pow-suc, div-one, add-one, arith}
use native.Mathlib.Nat.{div-div-eq-div-mul, pow-succ', one-le-pow, mod-one}
use lib.Arith.{mod-mul}
use borrow.Rule.Slice.PartMut.{put_mid}
use Rattle.std.proofs.lemmas.List.{get_or_append_left, get_or-append_right, get_or-drop, get_or-replicate, get_or_past}
use Rattle.std.proofs.lemmas.Bool.{cases_lt}
use Rattle.memory.specs.Bytes.{byte_in}
use Rattle.std.specs.Int.{w64, byte_at, bytes_low_first, to_le_bytes, from_le_bytes}
use Rattle.memory.specs.Effects.{value_at, byte_of}

-- values of equal bytes
pub value_same : (f g : ℕ → ℕ) (a b w : ℕ) → ((i : ℕ) → i < w → f (a + i) ≡ g (b + i)) → value_at f a w ≡ value_at g b w
value_same f g a b zero same = refl
value_same f g a b (suc w) same =
    let here : f a ≡ g b = ap f (omega arith) ∙ same 0 (omega arith) ∙ ap g (omega arith) in
    let rest : value_at f (a + 1) w ≡ value_at g (b + 1) w =
    value_same f g (a + 1) (b + 1) w (λ i h. ap f (omega arith) ∙ same (i + 1) (omega arith) ∙ ap g (omega arith)) in
    omega arith

pub value_below : (f : ℕ → ℕ) (a w : ℕ) → ((k : ℕ) → f k < 256) → value_at f a w < 256 ^ w
value_below f a zero below = omega arith
value_below f a (suc w) below = omega (arith, pow-succ' 256 w, value_below f (a + 1) w below, below a)

-- the bytes of a number that is written out
byte_at_is : (v i : ℕ) → byte_at i v ≡ byte_of v i
byte_at_is v zero = ap (λ (n : ℕ). n % 256) (sym (div-one v))
byte_at_is v (suc i) = refl

low_first : (v i k j : ℕ) → j < k → get_or (bytes_low_first i k v) j 0 ≡ byte_of v (i + j)
low_first v i zero j h = absurd (omega arith)
low_first v i (suc k) zero h = byte_at_is v i ∙ ap (byte_of v) {x = i} {y = i + 0} (omega arith)
low_first v i (suc k) (suc j) h = low_first v (suc i) k j (omega arith) ∙ ap (byte_of v) {x = suc i + j} {y = i + suc j} (omega arith)

pub byte_of_le : (v j : ℕ) → j < 8 → get_or (to_le_bytes w64 v) j 0 ≡ byte_of v j
byte_of_le v j h = low_first v 0 8 j h ∙ ap (byte_of v) {x = 0 + j} {y = j} (omega arith)

-- zeros above alter no value
value_zeros : (f : ℕ → ℕ) (a w : ℕ) → ((k : ℕ) → a ≤ k → f k ≡ 0) → value_at f a w ≡ 0
value_zeros f a zero none = refl
value_zeros f a (suc w) none = omega (arith, none a (omega arith), value_zeros f (a + 1) w (λ k h. none k (omega arith)))

value_low : (f g : ℕ → ℕ) (a n w : ℕ) → n ≤ w → ((k : ℕ) → a ≤ k → k < a + n → f k ≡ g k) → ((k : ℕ) → a + n ≤ k → f k ≡ 0) → value_at f a w ≡ value_at g a n
value_low f g a zero w fit same none = value_zeros f a w (λ k h. none k (omega arith))
value_low f g a (suc n) zero fit same none = absurd (omega arith)
value_low f g a (suc n) (suc w) fit same none =
    omega (arith, same a (omega arith) (omega arith), value_low f g (a + 1) n w (omega arith) (λ k low high. same k (omega arith) (omega arith)) (λ k h. none k (omega arith)))

-- eight bytes are read as their value
from_eight : (cs : List ℕ) → from_le_bytes w64 cs ≡ value_at (slice_index cs) 0 8
from_eight cs = omega arith

no_bytes : (k : ℕ) → get_or {A = ℕ} (replicate 8 0) k 0 ≡ 0
no_bytes k = ⊎_elim (λ h. get_or-replicate 8 k 0 0 h) (λ h. get_or_past (replicate 8 0) k 0 h) (cases_lt k 8)

-- a part is read with zeros above
pub from_part : (bs : List ℕ) → length bs ≤ 8 → ((k : ℕ) → get_or bs k 0 < 256) → from_le_bytes w64 (put_mid 0 (length bs) (replicate 8 0) bs) ≡ value_at (byte_in bs) 0 (length bs)
from_part bs few bytes =
    let cs = put_mid 0 (length bs) (replicate 8 0) bs in
    let n = length bs in
    from_eight cs ∙ value_low (slice_index cs) (byte_in bs) 0 n 8 few
    (λ k low high. get_or_append_left bs (drop n (replicate 8 0)) 0 k (omega arith) ∙ sym (mod-eq_of_lt (bytes k)))
    (λ k h. get_or-append_right bs (drop n (replicate 8 0)) n k 0 refl (omega arith) ∙ get_or-drop n (replicate 8 0) (k - n) 0 ∙ no_bytes (n + (k - n)))

-- the bytes after i + 1 are those after i without the lowest
pub rest_more : (v i : ℕ) → v / 256 ^ i / 256 ≡ v / 256 ^ (i + 1)
rest_more v i = div-div-eq-div-mul v (256 ^ i) 256 ∙ ap (λ (p : ℕ). v / p) (sym (pow-suc 256 i) ∙ ap (λ (n : ℕ). 256 ^ n) (sym (add-one i)))

-- the bytes of a number from the place i are the number without its i lowest bytes
pub value_bytes : (f : ℕ → ℕ) (v a w i : ℕ) → ((j : ℕ) → j < w → f (a + j) ≡ byte_of v (i + j)) → value_at f a w ≡ v / 256 ^ i % 256 ^ w
value_bytes f v a zero i is = sym (mod-one (v / 256 ^ i))
value_bytes f v a (suc w) i is =
    let x = v / 256 ^ i in
    let here : f a ≡ x % 256 = ap f {x = a} {y = a + 0} (omega arith) ∙ is 0 (omega arith) ∙ ap (byte_of v) {x = i + 0} {y = i} (omega arith) in
    let rest : value_at f (a + 1) w ≡ v / 256 ^ (i + 1) % 256 ^ w =
    value_bytes f v (a + 1) w (i + 1) (λ j h.
    ap f {x = a + 1 + j} {y = a + (j + 1)} (omega arith) ∙ is (j + 1) (omega arith) ∙ ap (byte_of v) {x = i + (j + 1)} {y = i + 1 + j} (omega arith)) in
    let low : value_at f (a + 1) w ≡ x / 256 % 256 ^ w = rest ∙ ap (λ (n : ℕ). n % 256 ^ w) (sym (rest_more v i)) in
    let whole : x % 256 ^ suc w ≡ (x / 256 % 256 ^ w) * 256 + x % 256 =
    ap (λ (p : ℕ). x % p) (pow-suc 256 w) ∙ mod-mul x {m = 256 ^ w} {c = 256} (one-le-pow w 256 (omega arith)) (omega arith) in
    omega arith

-- the bytes of a value are the bytes that it was read from
pub byte_of_value : (f : ℕ → ℕ) (a w : ℕ) → ((j : ℕ) → j < w → f (a + j) < 256) → (i : ℕ) → i < w → byte_of (value_at f a w) i ≡ f (a + i)
byte_of_value f a zero fit i h = absurd (omega arith)
byte_of_value f a (suc w) fit zero h =
    let here : f a < 256 = subst (λ (k : ℕ). f k < 256) {x = a + 0} {y = a} (omega arith) (fit 0 (omega arith)) in
    ap (λ (n : ℕ). n % 256) (div-one (f a + 256 * value_at f (a + 1) w)) ∙ omega arith ∙ ap f {x = a} {y = a + 0} (omega arith)
byte_of_value f a (suc w) fit (suc i) h =
    let here : f a < 256 = subst (λ (k : ℕ). f k < 256) {x = a + 0} {y = a} (omega arith) (fit 0 (omega arith)) in
    let rest : (j : ℕ) → j < w → f (a + 1 + j) < 256 = λ j l. subst (λ (k : ℕ). f k < 256) {x = a + (j + 1)} {y = a + 1 + j} (omega arith) (fit (j + 1) (omega arith)) in
    let v = f a + 256 * value_at f (a + 1) w in
    let shifted : v / 256 ≡ value_at f (a + 1) w = omega arith in
    let split : v / 256 ^ suc i ≡ v / 256 / 256 ^ i = ap (λ (p : ℕ). v / p) (pow-succ' 256 i) ∙ sym (div-div-eq-div-mul v 256 (256 ^ i)) in
    ap (λ (n : ℕ). n % 256) (split ∙ ap (λ (n : ℕ). n / 256 ^ i) shifted)
    ∙ byte_of_value f (a + 1) w rest i (omega arith)
    ∙ ap f {x = a + 1 + i} {y = a + suc i} (omega arith)
