use Rattle.std.proofs.Common.{arith}
use Rattle.std.proofs.lemmas.Grind.{common_steps}
use Rattle.layout.proofs.tasks.read_tasks.Goals as goal

pub loop-i-preserved : goal.loop-i-preserved
loop-i-preserved c = record { sum_fits = omega arith; read = grind (arith, common_steps); left = grind (arith, common_steps) }
