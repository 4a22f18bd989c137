use Rattle.std.proofs.Common.{◌∙◌, rules, tests}
use Rattle.std.proofs.lemmas.Iterator.{YieldsList-from_slice}
use Rattle.std.proofs.lemmas.Iterator.Search.{any_from_yields_List}
use Rattle.grants.specs.Owners.{owner_overlaps}
use Rattle.grants.proofs.Walks.{overlaps_any}
use Rattle.grants.proofs.owner.Owners.any_overlaps.Goals as goal

pub returns : goal.returns
returns c =
    let a = c.args in
    let os = a.self.now.cells in
    any_from_yields_List (owner_overlaps a.task a.region.now.base a.region.now.length) _ _ c.any.result c.any.ensures.ran (YieldsList-from_slice os cc) (λ x b q k. search (rules, tests))
    ∙ overlaps_any os a.task a.region.now.base a.region.now.length (search rules)
