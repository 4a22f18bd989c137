use Rattle.std.proofs.Common.{ℕ, Bool, rules}
use Rattle.grants.specs.Owners.{owner_at, begins}
use Rattle.grants.proofs.Walks.{lowest_only, lowest_law}
use Rattle.grants.proofs.owner.Owners.find.Goals as goal

pub returns : goal.returns
returns c =
    let os = c.args.self.now.cells in
    let p : ℕ → Bool = λ k. begins c.args.task c.args.base (owner_at os k) in
    record { value = lowest_only p 64 c.position.result (search rules); lowest = lowest_law }
