-- Writes of configuration bytes. Assumes nothing.
use Rattle.std.proofs.Common.{◌≡◌, ℕ, zero, suc, ◌+◌, ◌-◌, ◌/◌, ◌%◌, ◌^◌, ◌<◌, Bool, true, false, eqb, [], ◌∷◌, get_or, sym, refl, arith, eqb→eq}
use mathlib.Core.Path.{fun_ext}
use lib.Bits.{bit_and}
use Rattle.std.proofs.lemmas.Bool.Decides.{nat_tests}
use Rattle.book.specs.Books.{Book}
use Rattle.book.specs.Bits.{without_reserved}
use Rattle.table.specs.Registers.{Registers, put, with_config_at}
use Rattle.table.specs.RegisterCalls.{kept_byte, bytes_written}
use Rattle.book.specs.Computed.{at_below}
use Rattle.table.proofs.EntryLists.{put_self}

mask_test : ℕ → Bool
mask_test x = eqb (bit_and x 159) (without_reserved x)

pub masked : (x : ℕ) → x < 256 → bit_and x 159 ≡ without_reserved x
unfolding mask_test
masked x h = eqb→eq (bit_and x 159) (without_reserved x) (at_below mask_test 256 tt x h)

pub kept_new : (b : Book) (old new x : ℕ) → x ≡ without_reserved new → b.legal x ≡ true → x ≡ kept_byte b old new
kept_new b old new x e l = grind (arith, nat_tests)

pub kept_old : (b : Book) (old new x : ℕ) → x ≡ without_reserved new → b.legal x ≡ false → old ≡ kept_byte b old new
kept_old b old new x e l = grind (arith, nat_tests)

pub with_config_self : (r : Registers) (i v : ℕ) → r.config i ≡ v → r ≡ with_config_at r i v
with_config_self r i v e = λ j. record { config = sym (put_self r.config i v (sym e)) j; address = r.address; switch = r.switch }

pub byte_at : (w k : ℕ) → k < 4 → get_or (w % 256 ∷ w / 256 % 256 ∷ w / 65536 % 256 ∷ w / 16777216 % 256 ∷ []) k 0 ≡ w / 256 ^ k % 256
byte_at w zero h = omega arith
byte_at w (suc zero) h = refl
byte_at w (suc (suc zero)) h = refl
byte_at w (suc (suc (suc zero))) h = refl
byte_at w (suc (suc (suc (suc k)))) h = absurd (omega arith)

-- a byte of a word more
pub one_more : (b : Book) (r : Registers) (s w k : ℕ)
    → with_config_at (bytes_written b r s w k) (s + k) (kept_byte b ((bytes_written b r s w k).config (s + k)) (w / 256 ^ k % 256)) ≡ bytes_written b r s w (k + 1)
one_more b r s w k = λ j. record { config = fun_ext each j; address = r.address; switch = r.switch }
  where
    each : (i : ℕ) → put (bytes_written b r s w k).config (s + k) (kept_byte b ((bytes_written b r s w k).config (s + k)) (w / 256 ^ k % 256)) i ≡ (bytes_written b r s w (k + 1)).config i
    each i = let place : s + k - s ≡ k = omega arith in grind (arith, nat_tests, place)
