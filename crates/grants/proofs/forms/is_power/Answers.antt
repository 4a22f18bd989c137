use Rattle.std.proofs.Common.{◌∙◌, rules}
use Rattle.grants.proofs.Powers.{single_power}
use Rattle.grants.proofs.forms.is_power.Goals as goal

pub returns : goal.returns
returns c = c.is_power_of_two.ensures ∙ single_power 64 c.args.length (search rules)
