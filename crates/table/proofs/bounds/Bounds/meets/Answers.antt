use Rattle.std.proofs.Common.{max, arith}
use Rattle.std.proofs.lemmas.Bool.Decides.{nat_tests}
use Rattle.table.proofs.bounds.Bounds.meets.Goals as goal

pub returns : goal.returns
returns c = (
  λ e. let b = c.args.self in let s = c.args.span in
      (max b.first s.address, (grind (arith, nat_tests), grind (arith, nat_tests)), (grind (arith, nat_tests), grind (arith, nat_tests))),
  λ h. grind (arith, nat_tests),
)
