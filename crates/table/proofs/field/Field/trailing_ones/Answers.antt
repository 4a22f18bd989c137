use Rattle.std.proofs.Common.{◌∙◌, arith, rules}
use Rattle.table.proofs.Trailing.{ones_of_complement, ones_fit}
use Rattle.table.proofs.field.Field.trailing_ones.Goals as goal

pub returns : goal.returns
returns g c = let e = c.trailing_ones.ensures ∙ ones_of_complement 64 c.args.self.value (search rules) in
    record { count = e; most = omega (arith, ones_fit 60 64 c.args.self.value (search rules)) }
