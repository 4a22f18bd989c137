-- Saving and restoring, a word more. Assumes nothing.
use Rattle.std.proofs.Common.{◌≡◌, ℕ, ◌+◌, ◌-◌, ◌*◌, ◌/◌, ◌^◌, ◌<◌, ◌≤◌, List, length, get_or, drop, None, ◌++◌, ap, ◌∙◌, arith}
use mathlib.Core.Path.{fun_ext}
use Rattle.std.proofs.lemmas.List.{get_or_append_left, get_or-append_right, get_or-drop}
use Rattle.std.proofs.lemmas.Bool.Decides.{nat_tests}
use Rattle.book.specs.Books.{Book}
use Rattle.table.specs.Registers.{Registers, put, with_address_at}
use Rattle.table.specs.RegisterCalls.{bytes_written}
use Rattle.table.specs.Contexts.{short_buffer, SavedTo, restored_to, restored}

pub long_enough : (buffer : List ℕ) → 82 ≤ length buffer → short_buffer buffer ≡ None
long_enough buffer h = grind (arith, nat_tests)

-- a buffer that begins with the words
pub saved_first : (word : ℕ → ℕ) (before first : List ℕ) → length first ≡ 82 → ((k : ℕ) → k < 82 → get_or first k 0 ≡ word k)
    → SavedTo word 82 before (first ++ drop 82 before)
saved_first word before first e w = record {
  words = λ k l. get_or_append_left first (drop 82 before) 0 k (omega arith) ∙ w k l;
  rest = λ k l.
      get_or-append_right first (drop 82 before) 82 k 0 e l ∙ get_or-drop 82 before (k - 82) 0
      ∙ ap (λ (j : ℕ). get_or before j 0) {x = 82 + (k - 82)} {y = k} (omega arith);
}

-- no word counts but the first 82
pub restored_same : (b : Book) (r : Registers) (v w : ℕ → ℕ) → ((k : ℕ) → k < 82 → v k ≡ w k) → restored b r v ≡ restored b r w
restored_same b r v w h = λ j. record { address = fun_ext address j; config = fun_ext config j; switch = h 80 (omega arith) j + h 81 (omega arith) j * 2 ^ 32 }
  where
    address : (i : ℕ) → (restored b r v).address i ≡ (restored b r w).address i
    address i = let e = h i in grind (arith, nat_tests)

    config : (i : ℕ) → (restored b r v).config i ≡ (restored b r w).config i
    config i = let e = h (64 + i / 4) in grind (arith, nat_tests)

-- a register more
module _ (b : Book) (r : Registers) (word : ℕ → ℕ) where
  pub address_more : (k n : ℕ) → with_address_at (restored_to b r word k n) k (word k) ≡ restored_to b r word (k + 1) n
  address_more k n = λ j. record { address = fun_ext each j; config = (restored_to b r word k n).config; switch = r.switch }
    where
      each : (i : ℕ) → put (restored_to b r word k n).address k (word k) i ≡ (restored_to b r word (k + 1) n).address i
      each i = grind (arith, nat_tests)

  pub config_more : (k n : ℕ) → bytes_written b (restored_to b r word k n) (4 * n) (word (64 + n)) 4 ≡ restored_to b r word k (n + 1)
  config_more k n = λ j. record { address = (restored_to b r word k n).address; config = fun_ext each j; switch = r.switch }
    where
      each : (i : ℕ) → (bytes_written b (restored_to b r word k n) (4 * n) (word (64 + n)) 4).config i ≡ (restored_to b r word k (n + 1)).config i
      each i = grind (arith, nat_tests)
