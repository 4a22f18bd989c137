use Rattle.std.proofs.Common.{arith}
use Rattle.std.proofs.lemmas.Grind.{common_steps}
use Rattle.layout.proofs.regions.read_regions.Goals as goal

pub loop-i-preserved : goal.loop-i-preserved
loop-i-preserved c = record { read = grind (arith, common_steps); left = grind (arith, common_steps) }
