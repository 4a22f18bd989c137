-- What an entry covers: from its first byte up to its end, which it does not cover. Assumes nothing.
use Rattle.std.specs.Prelude.{◌≡◌, ℕ, zero, suc, ◌+◌, ◌-◌, ◌*◌, ◌/◌, ◌^◌, ◌<◌, cond}
use Rattle.book.specs.Bits.{bit, a_field}
use Rattle.table.specs.declared.bounds.Bounds.{Bounds}
use Rattle.table.specs.declared.matching.Matching.{Matching}
use Rattle.table.specs.declared.matching.Matching.TheVariants.{Off, Tor, Na4, Napot}

abbrev pub matching_at : ℕ → Matching
matching_at zero = Off
matching_at (suc zero) = Tor
matching_at (suc (suc zero)) = Na4
matching_at (suc (suc (suc n))) = Napot

-- The A field of a configuration byte: 0 is OFF, 1 TOR, 2 NA4, 3 NAPOT.
abbrev pub matching_of : ℕ → Matching
matching_of c = matching_at (a_field c)

-- How many of the lowest k bits of a number are ones before the first zero.
unfoldable pub trailing_ones : ℕ → ℕ → ℕ
trailing_ones zero a = 0
trailing_ones (suc k) a = cond (bit a 0) (suc (trailing_ones k (a / 2))) 0

-- Where a block begins whose register ends in n ones: those ones and the zero above them do not count.
abbrev pub napot_first : ℕ → ℕ → ℕ
napot_first n a = 4 * (a / 2 ^ (n + 1) * 2 ^ (n + 1))

-- The bounds of an entry with the address register a, where `below` is that of the entry below.
unfoldable pub resolved : Matching → ℕ → ℕ → ℕ × ℕ
resolved Off a below = (0, 0)
resolved Tor a below = (4 * below, 4 * a)
resolved Na4 a below = (4 * a, 4 * a + 4)
resolved Napot a below = (napot_first (trailing_ones 64 a) a, napot_first (trailing_ones 64 a) a + 2 ^ (trailing_ones 64 a + 3))

-- Bounds as a pair.
abbrev pub pair_of : Bounds → ℕ × ℕ
pair_of b = (b.first, b.end)

-- What a NAPOT register says, by powers of two: the register and one make an odd multiple, 2 q + 1, of 2 ^ n, and the block is the q-th of
-- those of 2 ^ (n + 3) bytes.
pub record Block (a first end : ℕ) : Type 0 where
  pub size : ℕ
  pub place : ℕ
  pub odd : a + 1 ≡ (2 * place + 1) * 2 ^ size
  pub starts : first ≡ place * 2 ^ (size + 3)
  pub ends : end ≡ (place + 1) * 2 ^ (size + 3)

abbrev pub NapotBlock : Matching → ℕ → ℕ × ℕ → Type 0
NapotBlock Off a r = Unit {0}
NapotBlock Tor a r = Unit {0}
NapotBlock Na4 a r = Unit {0}
NapotBlock Napot a r = Block a r.0 r.1

-- The bits above a field of f bits do not matter: its ones are counted within the f bits, and a field of f ones is the block of
-- 2 ^ (f + 3) bytes from 0.
pub record FieldLaws (f : ℕ) : Type 0 where
  pub same_ones : (a : ℕ) → a < 2 ^ f → trailing_ones 64 a ≡ trailing_ones f a
  pub all_ones : (below : ℕ) → resolved Napot (2 ^ f - 1) below ≡ (0, 2 ^ (f + 3))
