-- How an access through a hart is answered: 41, 42, then the table, then the memory. Assumes nothing.
use Rattle.std.specs.Prelude.{◌≡◌, ℕ, Bool, true, false, ◌⊎◌, Ok, Err, Result}
use Rattle.access.specs.Refusals.{report_of, not_admitted}
use Rattle.access.specs.declared.access.Kind.{Kind}
use Rattle.access.specs.declared.access.Mode.{Mode}
use Rattle.access.specs.declared.refusal.Refusal.{Refusal}
use Rattle.book.specs.Books.{Book}
use Rattle.table.specs.Registers.{Registers}
use Rattle.table.specs.Checks.{Checked}
use Rattle.memory.specs.Meaning.{MemoryMeaning}
use Rattle.memory.specs.Effects.{stored}

module _ (f : ℕ) (b : Book) (r : Registers) (m : MemoryMeaning) (mode : Mode) (sum : Bool) (k : Kind) (a w : ℕ) where
  -- The access passes: the check passes it with some entry, and the memory admits it.
  pub record AccessPasses : Type 0 where
    pub entry : ℕ
    pub checked : Checked f b r mode sum k a w (Ok entry)
    pub admitted : m.admits k a w ≡ true

  -- The check passes the access and the memory does not admit it: 52, with its cause, the address, and the entry that passed it.
  pub record MemoryRefuses (x : Refusal) : Type 0 where
    pub entry : ℕ
    pub checked : Checked f b r mode sum k a w (Ok entry)
    pub declined : m.admits k a w ≡ false
    pub reported : report_of x ≡ not_admitted k a entry

  -- The access is refused: by the check, as that says, or else by the memory.
  abbrev pub AccessRefused : Refusal → Type 0
  AccessRefused x = Checked f b r mode sum k a w (Err x) ⊎ MemoryRefuses x

  -- The answer to an access that gives v where it passes.
  abbrev pub AccessAnswer : {X : Type 0} → X → Result X Refusal → Type 0
  AccessAnswer v (Ok u) = AccessPasses × (u ≡ v)
  AccessAnswer v (Err x) = AccessRefused x

-- The memory after a store of the w low bytes of v at a, by its answer: a refused store alters nothing.
abbrev pub after_store : MemoryMeaning → ℕ → ℕ → ℕ → Result (Unit {0}) Refusal → MemoryMeaning
after_store m a w v (Ok u) = stored m a w v
after_store m a w v (Err x) = m
