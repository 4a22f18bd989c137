use Rattle.std.proofs.Common.{◌≡◌, ◌∙◌, mod-eq_of_lt}
use Rattle.table.specs.Bounds.{resolved, pair_of, matching_of}
use Rattle.table.proofs.entries.Entry.refresh.Goals as goal

pub returns : goal.returns
returns g c =
    let e = c.args.self.now in
    let below = c.args.below in
    let b : pair_of c.resolve-self.result ≡ resolved (matching_of e.config) e.address below.value =
    c.resolve-self.ensures.value ∙ (λ i. resolved (c.matching_of.ensures i) (mod-eq_of_lt c.requires i) (mod-eq_of_lt below.fits i)) in
    λ i. record { config = e.config; address = e.address; bounds = record { first = (b i).0; end = (b i).1 } }
