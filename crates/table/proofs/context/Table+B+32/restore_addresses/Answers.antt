use Rattle.std.proofs.Common.{◌∙◌, arith}
use Rattle.std.proofs.lemmas.List.{get_or-take}
use Rattle.table.specs.Registers.{with_address_at}
use Rattle.table.specs.Tables.{regs}
use Rattle.table.specs.Contexts.{words_of}
use Rattle.table.proofs.Contexts.{address_more}
use Rattle.table.proofs.context.Table+B+32.restore_addresses.Goals as goal

pub loop-i-preserved : goal.loop-i-preserved
loop-i-preserved g c =
    let i = c.loop-i.i in
    let e = c.from.ensures ∙ get_or-take 64 c.args.words.now i 0 (omega arith) in
    c.set_address.ensures
    ∙ (λ j. with_address_at (c.loop-i.invariant j) i (e j))
    ∙ address_more g.B.RuleBook.meaning (regs c.args.self.now) (words_of c.args.words.now) i 0
