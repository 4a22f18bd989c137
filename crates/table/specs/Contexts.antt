-- Saved registers of RV32: 64 addresses, 16 configuration registers, 2 switch words. Assumes nothing.
use Rattle.std.specs.Prelude.{◌≡◌, ℕ, ◌+◌, ◌-◌, ◌*◌, ◌/◌, ◌%◌, ◌^◌, ◌<◌, ◌≤◌, cond, List, [], ◌∷◌, length, Option, nat_lt, slice_index}
use Rattle.access.specs.Cases.{Report, refused, first_of}
use Rattle.book.specs.Books.{Book}
use Rattle.table.specs.Registers.{Registers, AllLegal, Same, with_switch}
use Rattle.table.specs.RegisterCalls.{packed, kept_byte, switch_word, joined}

-- 32 for a buffer of fewer than 82 words.
abbrev pub short_buffer : List ℕ → Option Report
short_buffer buffer = first_of ((nat_lt (length buffer) 82, refused 32 []) ∷ [])

-- Word k of saved registers.
abbrev pub saved_word : Registers → ℕ → ℕ
saved_word r k = cond (nat_lt k 64) (r.address k) (cond (nat_lt k 80) (packed r (4 * (k - 64)) 4) (switch_word r (k - 80)))

-- The first n words of a buffer are given ones, and the rest is as it was.
pub record SavedTo (word : ℕ → ℕ) (n : ℕ) (before after : List ℕ) : Type 0 where
  pub words : (k : ℕ) → k < n → slice_index after k ≡ word k
  pub rest : (k : ℕ) → n ≤ k → slice_index after k ≡ slice_index before k

abbrev pub words_of : List ℕ → ℕ → ℕ
words_of buffer k = slice_index buffer k

-- Registers after the first k address registers and the first n configuration registers were written from words.
abbrev pub restored_to : Book → Registers → (ℕ → ℕ) → ℕ → ℕ → Registers
restored_to b r word k n = record {
  address = λ i. cond (nat_lt i k) (word i) (r.address i);
  config = λ i. cond (nat_lt i (4 * n)) (kept_byte b (r.config i) (word (64 + i / 4) / 256 ^ (i % 4) % 256)) (r.config i);
  switch = r.switch;
}

-- Registers after all were written from words, each configuration byte by the book's rule.
abbrev pub restored : Book → Registers → (ℕ → ℕ) → Registers
restored b r word = with_switch (restored_to b r word 64 16) (joined (λ j. word (80 + j)))

-- What was saved from a table's registers r, restored into any table of the book with registers s, gives it r.
abbrev pub ComesBack : Book → Type 0
ComesBack b =
    (r s : Registers) (before buffer : List ℕ)
    → AllLegal b r → SavedTo (saved_word r) 82 before buffer → Same (restored b s (words_of buffer)) r
