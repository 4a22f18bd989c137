use Rattle.std.proofs.Common.{◌≡◌}
use Rattle.grants.specs.Owners.{owner_at}
use Rattle.grants.specs.Images.{bits_below, switched_on}
use Rattle.grants.proofs.owner.Owners.switches.Given as goal

abbrev pub invariant-loop-i : goal.invariant-loop-i
invariant-loop-i l = l.bits ≡ bits_below (λ k. switched_on l.selected (owner_at l.self.cells k)) l.i
