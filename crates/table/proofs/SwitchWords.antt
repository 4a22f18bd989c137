-- The two switch words of RV32. Assumes nothing.
use Rattle.std.proofs.Common.{◌≡◌, ℕ, ◌+◌, ◌-◌, ◌*◌, ◌/◌, ◌%◌, ◌^◌, ◌<◌, eqb, ap, ◌∙◌, arith, lit<}
use lib.Pow.{mod-mod-pow}
use Rattle.std.proofs.lemmas.Nat.{field_of, shr-shr}
use Rattle.table.specs.Registers.{Registers}
use Rattle.book.specs.Bits.{bit}
use Rattle.table.specs.RegisterCalls.{switch_word, joined, SwitchBits}

-- a number below a power of two has the bits of the whole number
bit_of_low : (x n m : ℕ) → m < n → bit (x % 2 ^ n) m ≡ bit x m
bit_of_low x n m h =
    let j = n - m - 1 in
    let low : x % 2 ^ n / 2 ^ m ≡ x / 2 ^ m % 2 ^ (j + 1) = ap (λ (e : ℕ). x % 2 ^ e / 2 ^ m) {x = n} {y = j + 1 + m} (omega arith) ∙ field_of x (j + 1) m in
    ap (λ (b : ℕ). eqb b 1) (ap (λ (b : ℕ). b % 2) low ∙ mod-mod-pow (x / 2 ^ m) j 1)

pub switch_bits_lem : (r : Registers) → SwitchBits r
switch_bits_lem r i h =
    let m = i % 32 in
    let x = r.switch / 2 ^ (32 * (i / 32)) in
    let place : x / 2 ^ m ≡ r.switch / 2 ^ i = shr-shr r.switch (32 * (i / 32)) m ∙ ap (λ (e : ℕ). r.switch / 2 ^ e) {x = 32 * (i / 32) + m} {y = i} (omega arith) in
    bit_of_low x 32 m (omega arith) ∙ ap (λ (n : ℕ). eqb (n % 2) 1) place

-- the two words have the bits of all 64 entries
pub joined_bits : (r : Registers) (word : ℕ → ℕ) → ((j : ℕ) → j < 2 → word j ≡ switch_word r j) → (i : ℕ) → i < 64 → bit (joined word) i ≡ bit r.switch i
joined_bits r word e i h =
    let a = e 0 (lit< tt) in
    let b = e 1 (lit< tt) in
    let whole : joined word ≡ r.switch % 2 ^ 64 = omega arith in
    ap (λ (n : ℕ). bit n i) whole ∙ bit_of_low r.switch 64 i h
