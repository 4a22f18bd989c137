use Rattle.hart.proofs.SumBit.{sum_tested}
use Rattle.hart.proofs.status.Status.sum.Goals as goal

pub returns : goal.returns
returns c = sum_tested c.args.self.now.word
