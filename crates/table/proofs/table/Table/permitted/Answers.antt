use Rattle.std.proofs.Common.{sym, ◌∙◌, rules}
use Rattle.std.proofs.lemmas.Bool.{both_ways}
use Rattle.table.specs.Tables.{regs}
use Rattle.table.proofs.Permits.{permitted_by_entry}
use Rattle.table.proofs.table.Table.permitted.Goals as goal

pub returns-then-covers : goal.returns-then-covers
returns-then-covers g c =
    let q = c.args.request in
    permitted_by_entry g.B.RuleBook.meaning (regs c.args.self.now) q.mode q.sum q.kind c.args.span.address c.args.span.width
    c.permits.result c.args.entry c.in-Some.i c.in-Some.is (search rules)
    (λ t. (c.covers.ensures.0 c.if-covers.true, sym c.permits.ensures ∙ t), λ p. c.permits.ensures ∙ p.1)

pub returns-else-covers : goal.returns-else-covers
returns-else-covers g c =
    let q = c.args.request in
    permitted_by_entry g.B.RuleBook.meaning (regs c.args.self.now) q.mode q.sum q.kind c.args.span.address c.args.span.width
    c.covers.result c.args.entry c.in-Some.i c.in-Some.is (search rules)
    (λ t. absurd (both_ways c.covers.result c.if-covers.false t), λ p. c.covers.ensures.1 p.0)
