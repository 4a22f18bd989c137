use Rattle.std.proofs.Common.{◌≡◌, ◌/◌, ◌^◌, sym, ap, arith}
use Rattle.std.proofs.lemmas.Nat.{and_mask}
use Rattle.book.specs.Bits.{a_field}
use Rattle.table.specs.Bounds.{matching_at}
use Rattle.table.proofs.bounds.matching_of.Goals as goal

pub returns-in_default : goal.returns-in_default
returns-in_default c =
    let m = and_mask (c.args.byte / 2 ^ 3) 2 in
    let h : a_field c.args.byte ≡ 3 = omega arith in
    sym (ap matching_at h)
