use Rattle.std.proofs.Common.{◌≡◌, ℕ, ◌+◌, ◌*◌, get_or, take, drop, ap, ◌∙◌, arith}
use Rattle.std.proofs.lemmas.List.{get_or-take, get_or-drop}
use Rattle.table.specs.RegisterCalls.{bytes_written}
use Rattle.table.specs.Contexts.{restored_to, words_of}
use Rattle.table.proofs.Contexts.{config_more}
use Rattle.table.proofs.context.Table+B+32.restore_configs.Goals as goal

pub loop-n-preserved : goal.loop-n-preserved
loop-n-preserved g c = λ r k e.
    let m = g.B.RuleBook.meaning in
    let n = c.loop-n.n in
    let word = words_of c.args.words.now in
    let v : get_or (take 16 (drop 64 c.args.words.now)) n 0 ≡ word (64 + n) =
    get_or-take 16 _ n 0 (omega arith) ∙ get_or-drop 64 c.args.words.now n 0 in
    c.write_bytes.ensures ∙ (λ j. bytes_written m (c.loop-n.invariant r k e j) (4 * n) (v j) 4) ∙ config_more m r word k n

pub returns : goal.returns
returns g c = λ r k e.
    let q : c.loop-n.n ≡ 16 = omega arith in
    c.loop-n.invariant r k e ∙ ap (λ (n : ℕ). restored_to g.B.RuleBook.meaning r (words_of c.args.words.now) k n) q
