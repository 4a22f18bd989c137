use Rattle.std.proofs.Common.{ℕ, Some, ap, ◌∙◌}
use Rattle.book.specs.Bits.{bit}
use Rattle.grants.specs.Owners.{owner_at}
use Rattle.grants.specs.Images.{switched_on}
use Rattle.grants.proofs.Switches.{bit_of_bits}
use Rattle.grants.proofs.Untouched.{others_untouched}
use Rattle.grants.proofs.resident.ResidentPlan.switches_of.Goals as goal

pub returns-clause-bits : goal.returns-clause-bits
returns-clause-bits g c i h =
    let os = c.args.self.now.entries.owners.cells in
    ap (λ (x : ℕ). bit x i) c.switches.ensures ∙ bit_of_bits (λ k. switched_on (Some c.args.task) (owner_at os k)) 64 i h

pub returns-clause-others : goal.returns-clause-others
returns-clause-others g c = others_untouched g.row.F
