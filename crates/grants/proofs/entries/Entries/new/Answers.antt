use Rattle.std.proofs.Common.{None, replicate, ◌∙◌}
use Rattle.grants.specs.declared.owner.Owner.TheVariants.{Free}
use Rattle.grants.proofs.OwnerRegisters.{zero_image, entries_of_image}
use Rattle.grants.proofs.entries.Entries.new.Goals as goal

pub invariant_of-result : goal.invariant_of-result
invariant_of-result g c =
    let m = g.B.RuleBook.meaning in
    record { shown = entries_of_image (replicate 64 Free) None m _ (c.new.ensures ∙ zero_image m None) }

pub returns-clause-registers : goal.returns-clause-registers
returns-clause-registers g c = c.new.ensures ∙ zero_image g.B.RuleBook.meaning None
