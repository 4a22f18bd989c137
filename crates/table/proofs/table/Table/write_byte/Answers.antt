use Rattle.std.proofs.Common.{sym, ap, ◌∙◌, subst, rules}
use Rattle.table.specs.Tables.{registers}
use Rattle.table.specs.Registers.{AllLegal, with_config_at}
use Rattle.table.proofs.Legality.{config_legal}
use Rattle.table.proofs.RegisterBytes.{masked, kept_new, kept_old, with_config_self}
use Rattle.table.proofs.table.Table.write_byte.Goals as goal

pub returns-then-legal : goal.returns-then-legal
returns-then-legal g c =
    let r = registers c.args.self.now.plain in
    let m = masked c.args.byte (search rules) in
    let l = sym c.legal.ensures ∙ c.if-legal.true in
    c.write_config.ensures ∙ ap (with_config_at r c.args.i) (kept_new g.B.RuleBook.meaning (r.config c.args.i) c.args.byte _ m l)

pub returns-else-legal : goal.returns-else-legal
returns-else-legal g c =
    let r = registers c.args.self.now.plain in
    let m = masked c.args.byte (search rules) in
    let l = sym c.legal.ensures ∙ c.if-legal.false in
    with_config_self r c.args.i _ (kept_old g.B.RuleBook.meaning (r.config c.args.i) c.args.byte _ m l)

pub invariant_of-self : goal.invariant_of-self
invariant_of-self g c =
    let m = g.B.RuleBook.meaning in
    let r = registers c.args.self.now.plain in
    let l = sym c.legal.ensures ∙ c.if-legal.true in
    record { legal = subst (AllLegal m) (sym c.write_config.ensures) (config_legal m r c.args.i _ (search rules, l) c.args.self.now.legal) }
