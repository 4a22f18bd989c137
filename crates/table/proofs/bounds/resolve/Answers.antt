use Rattle.std.proofs.Common.{ℕ, ◌∙◌, subst, arith}
use Rattle.table.specs.Bounds.{resolved, pair_of, NapotBlock}
use Rattle.table.proofs.Trailing.{field_laws}
use Rattle.table.proofs.bounds.resolve.Goals as goal

pub returns : goal.returns
returns g c =
    let e = c.of.ensures in
    let b = c.of-2.ensures in
    let fits = c.args.bits.fits in
    record {
      value = c.bounds_of.ensures.value ∙ (λ i. resolved c.args.matching (e i) (b i));
      block = subst (λ (a : ℕ). NapotBlock c.args.matching a (pair_of c.bounds_of.result)) e c.bounds_of.ensures.block;
      fields = field_laws g.row.F (omega arith);
    }
