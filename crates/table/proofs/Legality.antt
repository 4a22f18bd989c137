-- Legal bytes stay legal, and saved registers come back. Assumes nothing.
use Rattle.std.proofs.Common.{◌≡◌, ℕ, zero, suc, ◌+◌, ◌-◌, ◌*◌, ◌/◌, ◌%◌, ◌^◌, ◌<◌, ◌≤◌, ltb, sym, ap, ◌∙◌, subst, ⊎_elim, mul-le-mul_right, mod-eq_of_lt, mul_assoc, pow-suc, arith, lit<, pow-add}
use native.Mathlib.Nat.{add-mul-div_right, div-eq_of_lt, one-le-pow}
use Rattle.std.proofs.lemmas.Bool.Decides.{nat_tests}
use Rattle.std.proofs.lemmas.Bool.{cases_eq, cond-true, lt-ltb}
use Rattle.book.specs.Books.{Book, Laws, LegalByte}
use Rattle.table.specs.Registers.{Registers, AllLegal, zeros, with_config_at}
use Rattle.table.specs.RegisterCalls.{kept_byte, packed, switch_word}
use Rattle.table.specs.Contexts.{saved_word, words_of, ComesBack}
use Rattle.table.proofs.SwitchWords.{joined_bits}

pub zeros_legal : (b : Book) → Laws b → AllLegal b zeros
zeros_legal b l = λ i h. (lit< tt, l.zero_legal)

pub config_legal : (b : Book) (r : Registers) (i c : ℕ) → LegalByte b c → AllLegal b r → AllLegal b (with_config_at r i c)
config_legal b r i c h l k q = let m = l k q in (grind (arith, nat_tests), grind (arith, nat_tests))

-- ---- the bytes of a packed word

module _ (r : Registers) (s : ℕ) where
  packed_lt : (n : ℕ) → ((k : ℕ) → k < n → r.config (s + k) < 256) → packed r s n < 256 ^ n
  packed_lt zero h = omega arith
  packed_lt (suc n) h =
      let ih = packed_lt n (λ k l. h k (omega arith)) in
      let p = pow-suc 256 n in
      let c = h n (omega arith) in
      let m : r.config (s + n) * 256 ^ n ≤ 255 * 256 ^ n = mul-le-mul_right (256 ^ n) (omega arith) in
      omega arith

  packed_byte : (n j : ℕ) → j < n → ((k : ℕ) → k < n → r.config (s + k) < 256) → packed r s n / 256 ^ j % 256 ≡ r.config (s + j)
  packed_byte zero j l h = absurd (omega arith)
  packed_byte (suc n) j l h = ⊎_elim same (lower (λ q. packed_byte n j q (λ i m. h i (omega arith)))) (cases_eq j n)
    where
      low : packed r s n < 256 ^ n
      low = packed_lt n (λ k q. h k (omega arith))

      same : j ≡ n → packed r s (suc n) / 256 ^ j % 256 ≡ r.config (s + j)
      same e =
          let P : ℕ → Type 0 = λ x. packed r s (suc n) / 256 ^ x % 256 ≡ r.config (s + x) in
          let d = add-mul-div_right (packed r s n) (r.config (s + n)) {z = 256 ^ n} (one-le-pow n 256 (omega arith)) in
          let z : packed r s n / 256 ^ n ≡ 0 = div-eq_of_lt low in
          let c = h n (omega arith) in
          let v : packed r s (suc n) / 256 ^ n ≡ r.config (s + n) = omega (arith, d, z) in
          let q : packed r s (suc n) / 256 ^ n % 256 ≡ r.config (s + n) = ap (λ (x : ℕ). x % 256) v ∙ mod-eq_of_lt c in
          subst P (sym e) q

      lower : (j < n → packed r s n / 256 ^ j % 256 ≡ r.config (s + j)) → (j ≡ n → ⊥) → packed r s (suc n) / 256 ^ j % 256 ≡ r.config (s + j)
      lower ih ne =
          let k = n - j - 1 in
          let c = r.config (s + n) in
          let split : 256 ^ n ≡ 256 ^ k * 256 * 256 ^ j =
          ap (λ (x : ℕ). 256 ^ x) (omega arith) ∙ pow-add 256 (suc k) j ∙ ap (λ (x : ℕ). x * 256 ^ j) (pow-suc 256 k) in
          let t : c * 256 ^ n ≡ c * (256 ^ k * 256) * 256 ^ j = ap (λ (x : ℕ). c * x) split ∙ sym (mul_assoc c (256 ^ k * 256) (256 ^ j)) in
          let u : c * (256 ^ k * 256) ≡ c * 256 ^ k * 256 = sym (mul_assoc c (256 ^ k) 256) in
          let d : (packed r s n + c * 256 ^ n) / 256 ^ j ≡ packed r s n / 256 ^ j + c * (256 ^ k * 256) =
          ap (λ (x : ℕ). (packed r s n + x) / 256 ^ j) t ∙ add-mul-div_right (packed r s n) (c * (256 ^ k * 256)) {z = 256 ^ j} (one-le-pow j 256 (omega arith)) in
          let m : (packed r s n / 256 ^ j + c * (256 ^ k * 256)) % 256 ≡ packed r s n / 256 ^ j % 256 = omega arith in
          ap (λ (x : ℕ). x % 256) d ∙ m ∙ ih (omega arith)

kept_same : (b : Book) → Laws b → (old c : ℕ) → LegalByte b c → kept_byte b old c ≡ c
kept_same b l old c h = let z = l.reserved_zero c h in grind (arith, nat_tests)

-- ---- saved registers

saved_config : (r : Registers) (n : ℕ) → n < 16 → saved_word r (64 + n) ≡ packed r (4 * n) 4
saved_config r n h = grind (arith, nat_tests)

saved_switch : (r : Registers) (n : ℕ) → n < 2 → saved_word r (80 + n) ≡ switch_word r n
saved_switch r n h = grind (arith, nat_tests)

pub comes_back : (b : Book) → Laws b → ComesBack b
comes_back b l r s before buffer legal saved = record {
  configs = λ i h.
      let n = i / 4 in
      let word = words_of buffer in
      let w : word (64 + n) ≡ packed r (4 * n) 4 = saved.words (64 + n) (omega arith) ∙ saved_config r n (omega arith) in
      let e : word (64 + n) / 256 ^ (i % 4) % 256 ≡ r.config i =
      ap (λ (x : ℕ). x / 256 ^ (i % 4) % 256) w
      ∙ packed_byte r (4 * n) 4 (i % 4) (omega arith) (λ k q. (legal (4 * n + k) (omega arith)).0)
      ∙ ap r.config {x = 4 * n + i % 4} {y = i} (omega arith) in
      cond-true (ltb i 64) _ _ (lt-ltb i 64 h) ∙ ap (kept_byte b (s.config i)) e ∙ kept_same b l (s.config i) (r.config i) (legal i h);
  addresses = λ i h. let w = saved.words i in grind (arith, nat_tests);
  switches = joined_bits r (λ j. words_of buffer (80 + j)) (λ j h. saved.words (80 + j) (omega arith) ∙ saved_switch r j h);
}
