use Rattle.std.proofs.Common.{Bool, ◌&&◌, sym, ◌∙◌, ap₂, arith}
use Rattle.grants.specs.Owners.{free_pair_at}
use Rattle.grants.proofs.Walks.{lowest_start, lowest_more, lowest_found}
use Rattle.grants.proofs.owner.Owners.lowest_pair.Goals as goal

pub loop-i-init : goal.loop-i-init
loop-i-init c = lowest_start _

pub returns-then-is_free : goal.returns-then-is_free
returns-then-is_free c =
    let e = ap₂ (λ (x y : Bool). x && y) (sym c.is_free.ensures) (sym c.is_free-in-loop-i.ensures) in
    sym (lowest_found (free_pair_at c.args.self.now.cells) c.loop-i.i 63 (omega arith) c.loop-i.invariant (e ∙ c.if-is_free.true))

pub loop-i-preserved : goal.loop-i-preserved
loop-i-preserved c =
    let e = ap₂ (λ (x y : Bool). x && y) (sym c.is_free.ensures) (sym c.is_free-in-loop-i.ensures) in
    lowest_more (free_pair_at c.args.self.now.cells) c.loop-i.i c.loop-i.invariant (e ∙ c.if-is_free.false)
