use Rattle.std.proofs.Common.{◌≡◌, count_by, arith, rules}
use Rattle.grants.specs.Owners.{holds}
use Rattle.grants.proofs.Walks.{count_held}
use Rattle.grants.proofs.owner.Owners.regions_of.Goals as goal

pub returns : goal.returns
returns c =
    let t = c.args.task in
    let os = c.args.self.now.cells in
    let e : c.count.result ≡ count_by (holds t) os = search rules in
    omega (arith, e, count_held os t (search rules))
