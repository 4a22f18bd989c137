-- The table holds the packed rows: antt computes the number that the rows give every byte, and compares the whole table with these.
use Rattle.std.proofs.Common.{ℕ, arith, rules}
use Rattle.std.proofs.lemmas.List.FromFn.{get_or-map-range_with_len}
use Rattle.book.specs.Bits.{bits_of}
use Rattle.book.specs.Decisions.{decisions_on}
use Rattle.book.proofs.decisions.packed.Goals as goal

rows : ℕ → ℕ
rows c = bits_of (decisions_on c)

pub returns : goal.returns
unfolding rows bits_of
returns c = get_or-map-range_with_len rows 0 256 c.args.byte c.args.byte 0 (search rules) (omega arith)
