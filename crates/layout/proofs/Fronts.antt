-- Bytes as the words and the records that they hold. Assumes nothing.
use Rattle.std.proofs.Common.{◌≡◌, ℕ, zero, suc, ◌+◌, ◌*◌, ◌<◌, ◌≤◌, List, [], ◌∷◌, ◌++◌, length, get_or, map, take, drop, None, sym, refl, ap, ◌∙◌, lit<, arith, length-drop}
use Rattle.std.specs.List.{All, flat_map}
use Rattle.std.specs.Simd.{first_chunks}
use Rattle.std.proofs.lemmas.List.{drop_more, length-take-le, nil_from_length, take-append-drop}
use Rattle.std.proofs.lemmas.List.Elements.{All-take, All-drop}
use Rattle.std.proofs.lemmas.Nat.{le_bytes_4}
use Rattle.std.proofs.lemmas.Bool.Decides.{nat_tests}
use Rattle.access.specs.Cases.{first_of}
use Rattle.layout.specs.Words.{word, word_bytes}
use Rattle.layout.specs.Records.{task_at, region_at, fourth_at}
use Rattle.layout.specs.Encoding.{task_bytes, region_words, region_bytes}
use Rattle.layout.specs.Faults.{region_cases}

abbrev pub Byte : ℕ → Type 0
Byte n = n < 256

-- A list of bytes.
abbrev pub Bytes : List ℕ → Type 0
Bytes = All Byte

-- The four bytes at a place.
abbrev four_at : List ℕ → ℕ → List ℕ
four_at b p = get_or b p 0 ∷ get_or b (p + 1) 0 ∷ get_or b (p + 2) 0 ∷ get_or b (p + 3) 0 ∷ []

bytes_at : (b : List ℕ) (p : ℕ) → Bytes b → p + 4 ≤ length b → (i : ℕ) → Byte (get_or (four_at b p) i 0)
bytes_at b p s h zero = s p 0 (omega arith)
bytes_at b p s h (suc zero) = s (p + 1) 0 (omega arith)
bytes_at b p s h (suc (suc zero)) = s (p + 2) 0 (omega arith)
bytes_at b p s h (suc (suc (suc zero))) = s (p + 3) 0 (omega arith)
bytes_at b p s h (suc (suc (suc (suc i)))) = lit< tt

four_front : (b : List ℕ) (p : ℕ) → p + 4 ≤ length b → drop p b ≡ four_at b p ++ drop (p + 4) b
four_front b p h =
    let e₂ : p + 1 + 1 ≡ p + 2 = omega arith in
    let e₃ : p + 2 + 1 ≡ p + 3 = omega arith in
    let e₄ : p + 3 + 1 ≡ p + 4 = omega arith in
    let d₂ = rw e₂ at (drop_more b (p + 1) 0 (omega arith)) in
    let d₃ = rw e₃ at (drop_more b (p + 2) 0 (omega arith)) in
    let d₄ = rw e₄ at (drop_more b (p + 3) 0 (omega arith)) in
    rw (drop_more b p 0 (omega arith), d₂, d₃, d₄)

word_front : (b : List ℕ) (p : ℕ) → Bytes b → p + 4 ≤ length b → drop p b ≡ word_bytes (word b p) ++ drop (p + 4) b
word_front b p s h =
    four_front b p h ∙ ap (λ l. l ++ drop (p + 4) b) (sym (le_bytes_4 (four_at b p) (word b p) refl (bytes_at b p s h) refl))

two_words : (b : List ℕ) → Bytes b → 8 ≤ length b → b ≡ word_bytes (word b 0) ++ (word_bytes (word b 4) ++ drop 8 b)
two_words b s h =
    word_front b 0 s (omega arith)
    ∙ ap (λ l. word_bytes (word b 0) ++ l) (word_front b 4 s (omega arith))

pub four_words : (b : List ℕ) → Bytes b → length b ≡ 16 → word_bytes (word b 0) ++ (word_bytes (word b 4) ++ (word_bytes (word b 8) ++ word_bytes (word b 12))) ≡ b
four_words b s h =
    let none : drop 16 b ≡ [] = nil_from_length (drop 16 b) (simp length-drop (omega arith)) in
    sym
    (two_words b s (omega arith)
    ∙ ap (λ l. word_bytes (word b 0) ++ (word_bytes (word b 4) ++ l))
    (word_front b 8 s (omega arith) ∙ ap (λ l. word_bytes (word b 8) ++ l) (word_front b 12 s (omega arith) ∙ ap (λ l. word_bytes (word b 12) ++ l) none)))

task_back : (b : List ℕ) → Bytes b → length b ≡ 8 → task_bytes (task_at b) ≡ b
task_back b s h =
    let none : drop 8 b ≡ [] = nil_from_length (drop 8 b) (simp length-drop (omega arith)) in
    sym (two_words b s (omega arith) ∙ ap (λ l. word_bytes (word b 0) ++ (word_bytes (word b 4) ++ l)) none)

region_back : (b : List ℕ) → Bytes b → length b ≡ 16 → fourth_at b ≡ 0 → region_bytes (region_at b) ≡ b
region_back b s h e = ap (λ w. region_words (region_at b) w) (sym e) ∙ four_words b s h

-- Records one after the other are written as they were read.
pub tasks_back : (n : ℕ) (b : List ℕ) → Bytes b → length b ≡ n * 8 → flat_map task_bytes (map task_at (first_chunks 8 n b)) ≡ b
tasks_back zero b s h = sym (nil_from_length b (omega arith))
tasks_back (suc n) b s h =
    let head = task_back (take 8 b) (All-take Byte 8 b s) (length-take-le 8 b (omega arith)) in
    let tail = tasks_back n (drop 8 b) (All-drop Byte 8 b s) (simp length-drop (omega arith)) in
    (λ i. head i ++ tail i) ∙ take-append-drop 8 b

pub regions_back : (p n : ℕ) (b : List ℕ) → Bytes b → length b ≡ n * 16 → first_of (region_cases p (map fourth_at (first_chunks 16 n b))) ≡ None
    → flat_map region_bytes (map region_at (first_chunks 16 n b)) ≡ b
regions_back p zero b s h e = sym (nil_from_length b (omega arith))
regions_back p (suc n) b s h e =
    let fourth : fourth_at (take 16 b) ≡ 0 = grind (arith, nat_tests) in
    let left : first_of (region_cases (p + 16) (map fourth_at (first_chunks 16 n (drop 16 b)))) ≡ None = grind (arith, nat_tests) in
    let head = region_back (take 16 b) (All-take Byte 16 b s) (length-take-le 16 b (omega arith)) fourth in
    let tail = regions_back (p + 16) n (drop 16 b) (All-drop Byte 16 b s) (simp length-drop (omega arith)) left in
    (λ i. head i ++ tail i) ∙ take-append-drop 16 b
