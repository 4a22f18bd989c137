-- A word loaded through a pointer that stands in user memory. Assumes nothing.
use Rattle.std.specs.Prelude.{ℕ, true, ◌⊎◌, Ok, Err, Result}
use Rattle.access.specs.declared.access.Kind.TheVariants.{Load}
use Rattle.access.specs.declared.access.Mode.TheVariants.{Supervisor}
use Rattle.access.specs.declared.refusal.Refusal.{Refusal}
use Rattle.book.specs.Books.{Book}
use Rattle.table.specs.Registers.{Registers}
use Rattle.memory.specs.Meaning.{MemoryMeaning}
use Rattle.memory.specs.Effects.{value_at}
use Rattle.hart.specs.Accesses.{AccessAnswer}

module _ (f : ℕ) (b : Book) (r : Registers) (m : MemoryMeaning) where
  -- The 32-bit word at an address.
  abbrev pub word_at : ℕ → ℕ
  word_at a = value_at m.byte a 4

  -- The answer to the supervisor's load of that word while SUM is set.
  abbrev pub WordAnswer : ℕ → Result ℕ Refusal → Type 0
  WordAnswer a x = AccessAnswer f b r m Supervisor true Load a 4 (word_at a) x

  -- The word at the address that the pointer's word holds; or the refusal of the pointer's own load, or else that of the word's.
  abbrev pub ThroughAnswer : ℕ → Result ℕ Refusal → Type 0
  ThroughAnswer p (Ok v) = WordAnswer p (Ok (word_at p)) × WordAnswer (word_at p) (Ok v)
  ThroughAnswer p (Err x) = WordAnswer p (Err x) ⊎ (WordAnswer p (Ok (word_at p)) × WordAnswer (word_at p) (Err x))
