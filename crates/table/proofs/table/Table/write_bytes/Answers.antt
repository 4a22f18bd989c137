use Rattle.std.proofs.Common.{ℕ, ◌+◌, List, get_or, ap, ◌∙◌, arith}
use Rattle.table.specs.Registers.{with_config_at}
use Rattle.table.specs.RegisterCalls.{kept_byte}
use Rattle.table.specs.Tables.{regs}
use Rattle.table.proofs.RegisterBytes.{one_more, byte_at}
use Rattle.table.proofs.table.Table.write_bytes.Goals as goal

pub loop-k-preserved : goal.loop-k-preserved
loop-k-preserved g c =
    let m = g.B.RuleBook.meaning in
    let s = c.args.start in
    let k = c.loop-k.k in
    let i = c.loop-k.invariant in
    let e = ap (λ (l : List ℕ). get_or l k 0) c.to_le_bytes-bytes.ensures ∙ byte_at c.args.word k (omega arith) in
    c.write_byte.ensures
    ∙ (λ j. with_config_at (i j) (s + k) (kept_byte m ((i j).config (s + k)) (e j)))
    ∙ one_more m (regs c.args.self.now) s c.args.word k
