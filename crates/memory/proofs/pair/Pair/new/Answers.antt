use Rattle.memory.proofs.Delivered.{pair_of}
use Rattle.memory.proofs.pair.Pair.new.Goals as goal

pub returns-clause-pair : goal.returns-clause-pair
returns-clause-pair g c = pair_of g.row.F _ _ c.args._bits.fits (g.A.Memory.lawful c.args.first) (g.B.Memory.lawful c.args.second)
