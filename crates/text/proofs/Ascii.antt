-- A digit is one byte of text, and digits are written one by one. Assumes nothing.
use Rattle.std.proofs.Common.{◌≡◌, ℕ, zero, suc, ◌-◌, ◌/◌, ◌%◌, ◌<◌, ◌≤◌, [], ◌∷◌, ◌++◌, Some, Option, SomeIff, encode_utf8, arith}
use Rattle.std.specs.Char.{digit_char}
use Rattle.std.proofs.lemmas.Str.{encode_ascii}
use Rattle.std.proofs.lemmas.Bool.Decides.{nat_tests}
use Rattle.text.specs.Digits.{digits}

pub digit_byte : (base d c : ℕ) (o : Option ℕ) → base ≤ 36 → o ≡ Some c → SomeIff o (d < base) (digit_char d) → encode_utf8 c ≡ digit_char d ∷ []
digit_byte base d c o h e made =
    let here = rw e at made in
    let below = here.0 in
    let small : digit_char d < 128 = grind (arith, nat_tests) in
    rw (here.1, encode_ascii)

pub digits_more : (base k n : ℕ) → 0 < k → digits base (k - 1) (n / base) ++ digit_char (n % base) ∷ [] ≡ digits base k n
digits_more base zero n h = absurd (omega arith)
digits_more base (suc k) n h = let e : suc k - 1 ≡ k = omega arith in rw e
