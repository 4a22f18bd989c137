use Rattle.std.proofs.Common.{ℕ, ◌%◌, ◌^◌, ◌<◌, sym, subst, mod-lt, arith, pow_pos, pow_mono}
use Rattle.table.proofs.field.Field.of.Goals as goal

pub invariant_of-result : goal.invariant_of-result
invariant_of-result g c =
    let top = pow_mono {i = g.row.F} {j = 60} c.args.bits.fits in
    let a : c.args.value % 2 ^ g.row.F < 2 ^ g.row.F = mod-lt c.args.value (pow_pos g.row.F) in
    record { fits = subst (λ (n : ℕ). n < 2 ^ g.row.F) (sym c.field.ensures) a; room = omega (arith, c.field.ensures, a, top) }
