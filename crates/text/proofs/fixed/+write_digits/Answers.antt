use Rattle.std.proofs.Common.{◌<◌, ◌≤◌, true, refl, arith}
use Rattle.std.proofs.Output.{has_written_append, has_written_of_eq}
use Rattle.text.proofs.Ascii.{digit_byte, digits_more}
use Rattle.text.proofs.fixed.+write_digits.Goals as goal

pub returns : goal.returns
returns g t c plain ok =
    let some : 0 < c.args.count = omega arith in
    let letters : c.BASE-base.result ≤ 36 = simp c.BASE-base.ensures g.R.Radix.letters_suffice in
    let byte = digit_byte _ _ _ _ letters c.unwrap-last.ensures c.from_digit.ensures.value in
    let high = c.in_ok-write_digits.ensures plain (refl {a = true}) in
    let last = c.write.ensures.writes high.plain ok in
    let whole = has_written_append g.W.Write.write_str_gives _ _ _ _ _ high last in
    has_written_of_eq g.W.Write.write_str_gives _ _ _ _ (simp (c.from-base_wide.ensures, c.BASE-base.ensures, byte) (digits_more _ _ _ some)) whole
