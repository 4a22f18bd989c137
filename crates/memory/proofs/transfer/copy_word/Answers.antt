use Rattle.memory.proofs.Copies.{not_copied, is_copied}
use Rattle.memory.proofs.transfer.copy_word.Goals as goal

pub returns-in_err-word-clause-after : goal.returns-in_err-word-clause-after
returns-in_err-word-clause-after g c = not_copied (g.M.Memory.meaning c.args.memory.now) c.args.from c.args.to _ c.in_err-word.ensures

pub returns-clause-after : goal.returns-clause-after
returns-clause-after g c =
    let m = g.M.Memory.meaning c.args.memory.now in
    let copies = is_copied m c.args.from c.args.to g.row.F (g.M.Memory.lawful c.args.memory.now) c.in_ok-word.word c.in_ok-word.ensures in
    cc
