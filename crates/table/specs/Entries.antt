-- The entries that hold the registers, with the bounds that they keep beside them. Assumes nothing.
use Rattle.std.specs.Prelude.{◌≡◌, ℕ, ◌<◌, List, slice_index_or}
use Rattle.table.specs.Bounds.{matching_of, resolved, pair_of}
use Rattle.table.specs.Registers.{Registers, below_at, bounds_at}
use Rattle.table.specs.declared.entries.Entry.{Entry}

abbrev pub blank : Entry
blank = record { config = 0; address = 0; bounds = record { first = 0; end = 0 } }

abbrev pub entry_at : List Entry → ℕ → Entry
entry_at es i = slice_index_or es i blank

-- The registers that entries and switch bits hold.
abbrev pub registers_of : List Entry → ℕ → Registers
registers_of es switches = record { config = λ i. (entry_at es i).config; address = λ i. (entry_at es i).address; switch = switches }

-- The bounds that are kept are those of the registers as they stand.
abbrev pub Kept : List Entry → ℕ → Type 0
Kept es switches = (i : ℕ) → i < 64 → pair_of (entry_at es i).bounds ≡ bounds_at (registers_of es switches) i

-- The address register below entry i, or 0.
abbrev pub below_of : List Entry → ℕ → ℕ
below_of es i = below_at (λ k. (entry_at es k).address) i

-- The entry of two registers, its bounds resolved over the address register below it.
abbrev pub entry_over : ℕ → ℕ → ℕ → Entry
entry_over below config address = record {
  config = config;
  address = address;
  bounds = record { first = (resolved (matching_of config) address below).0; end = (resolved (matching_of config) address below).1 };
}
