-- Memories that keep their bytes in a list. Assumes nothing.
use Rattle.std.specs.Prelude.{ℕ, ◌%◌, Bool, List, slice_index}
use Rattle.access.specs.declared.access.Kind.{Kind}
use Rattle.memory.specs.Meaning.{MemoryMeaning}

-- The number at a place of a list as a byte. (The numbers of a slice of bytes are below 256; those of a list need not be.)
abbrev pub byte_in : List ℕ → ℕ → ℕ
byte_in bs k = slice_index bs k % 256

-- A memory of a size over a list of bytes.
abbrev pub over_bytes : List ℕ → ℕ → (Kind → ℕ → ℕ → Bool) → MemoryMeaning
over_bytes bs n admits = record { size = n; byte = byte_in bs; admits = admits }
