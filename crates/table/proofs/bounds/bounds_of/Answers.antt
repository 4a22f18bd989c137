use Rattle.std.proofs.Common.{◌≡◌, ℕ, ◌+◌, ◌^◌, sym, ap, ◌∙◌, subst₂, arith, rules}
use Rattle.table.specs.Bounds.{resolved, pair_of, trailing_ones, NapotBlock}
use Rattle.table.specs.declared.matching.Matching.{Matching}
use Rattle.table.specs.declared.matching.Matching.TheVariants.{Napot}
use Rattle.table.proofs.Trailing.{napot_block}
use Rattle.table.proofs.bounds.bounds_of.Goals as goal

pub returns-in-Off : goal.returns-in-Off
unfolding resolved
returns-in-Off g c = search rules

pub returns-in-Tor : goal.returns-in-Tor
unfolding resolved
returns-in-Tor g c = search rules

pub returns-in-Na4 : goal.returns-in-Na4
unfolding resolved
returns-in-Na4 g c = search rules

pub returns-in-Napot : goal.returns-in-Napot
unfolding resolved
returns-in-Napot g c =
    let m = c.in-Napot.is in
    let n = trailing_ones 64 c.args.address.value in
    let e : pair_of c.napot.result ≡ resolved Napot c.args.address.value c.args.below.value =
    λ i. (c.napot.ensures.first i, (c.napot.ensures.end ∙ ap (λ (x : ℕ). x + 2 ^ (n + 3)) c.napot.ensures.first) i) in
    record {
      value = e ∙ ap (λ (x : Matching). resolved x c.args.address.value c.args.below.value) (sym m);
      block = subst₂ (λ (x : Matching) (r : ℕ × ℕ). NapotBlock x c.args.address.value r) (sym m) (sym e) (napot_block 64 c.args.address.value (omega arith));
    }
