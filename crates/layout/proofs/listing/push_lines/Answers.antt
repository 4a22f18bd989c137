use Rattle.std.proofs.Common.{◌≡◌, ◌++◌, string_bytes, rules}
use Rattle.layout.proofs.Joining.{lines_more, lines_all}
use Rattle.layout.proofs.listing.push_lines.Goals as goal

pub loop-line-preserved : goal.loop-line-preserved
loop-line-preserved g c = λ shown h.
    let e : string_bytes c.write.new.self ≡ string_bytes c.loop-line.text ++ (shown c.line-item.result ++ c.args.end.now) = search (h c.line-item.result, c.in_ok-write.ensures.bytes, rules) in
    lines_more (λ x. shown x ++ c.args.end.now) _ _ _ _ c.args.lines.now c.loop-line.line-index c.line-item.result c.loop-line-test.true
    (c.loop-line.invariant shown h) e (search (c.line-item.is, rules))

pub returns : goal.returns
returns g c = λ shown h.
    lines_all (λ x. shown x ++ c.args.end.now) _ _ c.args.lines.now c.loop-line.line-index c.loop-line-test.false (c.loop-line.invariant shown h)
