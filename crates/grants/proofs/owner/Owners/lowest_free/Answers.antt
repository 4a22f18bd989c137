use Rattle.std.proofs.Common.{rules}
use Rattle.grants.specs.Owners.{free_at}
use Rattle.grants.proofs.Walks.{lowest_only}
use Rattle.grants.proofs.owner.Owners.lowest_free.Goals as goal

pub returns : goal.returns
returns c = lowest_only (free_at c.args.self.now.cells) 64 c.position.result (search rules)
