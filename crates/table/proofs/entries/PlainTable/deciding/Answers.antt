use Rattle.std.proofs.Common.{ℕ, sym, ◌∙◌, subst, arith, below_more}
use Rattle.std.proofs.lemmas.Bool.{both_ways}
use Rattle.table.specs.Checks.{AnyByte}
use Rattle.table.proofs.entries.PlainTable.deciding.Goals as goal
use Rattle.table.proofs.entries.PlainTable.deciding.Goals.{else-is_active-via-then-is_active+else-meets, else-is_active-via-else-is_active}

pub loop-i-preserved : goal.loop-i-preserved
loop-i-preserved g c =
    let s = c.args.span in
    below_more _ _ c.loop-i.invariant (elim c.else-is_active.branch [
      | else-is_active-via-then-is_active+else-meets w ↦ λ h.
          let kept = c.args.self.now.kept c.loop-i.i (omega arith) in
          both_ways w.meets.result w.if-meets.false (w.meets.ensures.1 (subst (λ (b : ℕ × ℕ). AnyByte b s.address s.width) (sym kept) h.1))
      | else-is_active-via-else-is_active w ↦ λ h. both_ways c.is_active.result w.if-is_active.false (c.is_active.ensures ∙ h.0)
    ])
