use Rattle.std.proofs.Common.{ℕ, ◌/◌, ◌%◌, ◌^◌, eqb, ap, ◌∙◌}
use Rattle.std.proofs.lemmas.Nat.{and_mask}
use Rattle.book.specs.Decisions.{decisions_on}
use Rattle.book.proofs.Packed.{bit_of}
use Rattle.book.proofs.decisions.decided.Goals as goal

pub returns : goal.returns
returns c =
    ap (λ (n : ℕ). eqb n 1) (and_mask _ 1) ∙ ap (λ (n : ℕ). eqb (n / 2 ^ c.args.at % 2) 1) c.packed.ensures
    ∙ bit_of (decisions_on c.args.byte) c.args.at
