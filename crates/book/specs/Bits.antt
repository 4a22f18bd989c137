-- Bits of numbers, and the fields of a configuration byte. Assumes nothing.
use Rattle.std.specs.Prelude.{ℕ, ◌+◌, ◌*◌, ◌/◌, ◌%◌, ◌^◌, Bool, cond, List, [], ◌∷◌, ◌==◌}

-- Bit k of a number.
abbrev pub bit : ℕ → ℕ → Bool
bit n k = n / 2 ^ k % 2 == 1

-- The number with these bits, the lowest first.
unfoldable pub bits_of : List Bool → ℕ
bits_of [] = 0
bits_of (b ∷ bs) = cond b 1 0 + 2 * bits_of bs

-- The A field of a configuration byte, bits 4 and 3.
abbrev pub a_field : ℕ → ℕ
a_field c = c / 8 % 4

-- The byte with its A field cleared.
abbrev pub without_a : ℕ → ℕ
without_a c = c / 32 * 32 + c % 8

-- The byte with its reserved bits 5 and 6 cleared.
abbrev pub without_reserved : ℕ → ℕ
without_reserved c = c / 128 * 128 + c % 32
