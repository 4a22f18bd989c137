use Rattle.std.proofs.Common.{ℕ, sym, refl, ◌∙◌, arith}
use Rattle.grants.specs.Owners.{owner_at}
use Rattle.grants.specs.Images.{bits_below, switched_on}
use Rattle.grants.proofs.Switches.{bit_more, bit_same}
use Rattle.grants.proofs.owner.Owners.switches.Goals as goal
use Rattle.grants.proofs.owner.Owners.switches.Goals.{then-is_on, else-is_on}

pub loop-i-init : goal.loop-i-init
unfolding bits_below
loop-i-init c = refl

pub loop-i-preserved : goal.loop-i-preserved
loop-i-preserved c =
    let p = λ (k : ℕ). switched_on c.args.selected (owner_at c.args.self.now.cells k) in
    let i = c.loop-i.i in
    elim c.if-is_on.branch [
      | then-is_on w ↦ w.bits-is ∙ bit_more p i c.loop-i.bits (omega arith) c.loop-i.invariant (sym c.is_on.ensures ∙ w.if-is_on.true)
      | else-is_on w ↦ w.bits-is ∙ bit_same p i c.loop-i.bits c.loop-i.invariant (sym c.is_on.ensures ∙ w.if-is_on.false)
    ]
