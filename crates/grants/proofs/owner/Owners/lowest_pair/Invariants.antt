use Rattle.std.proofs.Common.{◌≡◌, None}
use Rattle.grants.specs.Owners.{lowest, free_pair_at}
use Rattle.grants.proofs.owner.Owners.lowest_pair.Given as goal

abbrev pub invariant-loop-i : goal.invariant-loop-i
invariant-loop-i l = lowest (free_pair_at l.self.cells) l.i ≡ None
