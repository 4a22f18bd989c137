-- Little-endian words of 32 bits. Assumes nothing.
use Rattle.std.specs.Prelude.{ℕ, ◌+◌, ◌*◌, ◌/◌, ◌%◌, List, [], ◌∷◌, slice_index}

-- The word of four bytes, lowest first.
abbrev pub le32 : ℕ → ℕ → ℕ → ℕ → ℕ
le32 a b c d = a + b * 256 + c * 65536 + d * 16777216

-- The word that begins at the place p of some bytes.
abbrev pub word : List ℕ → ℕ → ℕ
word f p = le32 (slice_index f p) (slice_index f (p + 1)) (slice_index f (p + 2)) (slice_index f (p + 3))

-- The four bytes of a word.
abbrev pub word_bytes : ℕ → List ℕ
word_bytes w = w % 256 ∷ w / 256 % 256 ∷ w / 65536 % 256 ∷ w / 16777216 % 256 ∷ []
