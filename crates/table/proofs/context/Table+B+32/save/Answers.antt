use Rattle.std.proofs.Common.{◌≡◌, rules, refl, ap, ◌∙◌, arith}
use Rattle.table.specs.Registers.{Registers}
use Rattle.table.specs.Tables.{regs}
use Rattle.table.specs.Contexts.{saved_word}
use Rattle.table.proofs.Contexts.{saved_first, long_enough}
use Rattle.table.proofs.FromFn.{each_from}
use Rattle.table.proofs.context.Table+B+32.save.Goals as goal

pub returns : goal.returns
returns g c =
    let r = regs c.args.self.now in
    let buffer = c.args.buffer.now in
    let items = c.from_fn.ensures.items in (
      long_enough buffer c.in-Some.ensures.cases.enough,
      saved_first (saved_word r) buffer c.from_fn.result items.long
          (λ k h. each_from _ (λ f. regs f.0.now ≡ r) (λ k v. v ≡ saved_word r k) c.from_fn.result 82
          (λ p k v q l e a. let s : v ≡ saved_word (regs p.0.now) k = search rules in (s ∙ ap (λ (x : Registers). saved_word x k) e, ap (λ t. regs t.now) a.met.1 ∙ e))
          _ 0 82 refl items.each refl k 0 (omega arith) h),
    )
