use Rattle.std.proofs.Common.{ℕ, [], ◌∷◌, Some, sym, refl, ap, ◌∙◌, subst, subst₂}
use Rattle.std.proofs.lemmas.Result.{err_from_is_err_and}
use Rattle.std.proofs.lemmas.Bool.{both_ways}
use Rattle.access.specs.Formed.{ill_formed}
use Rattle.access.specs.Refusals.{report_of}
use Rattle.access.specs.declared.access.Mode.{Mode}
use Rattle.access.specs.declared.refusal.Refusal.{Refusal}
use Rattle.access.specs.Cases.{refused}
use Rattle.table.specs.Checks.{Checked, Passes, PassesWith, RefusedAs, entry_number}
use Rattle.table.specs.Tables.{regs}
use Rattle.table.proofs.Permits.{passes_with, refused_as, stopped_as, decided_pass, decided_stop}
use Rattle.table.proofs.Verdicts.{one_answer}
use Rattle.table.proofs.table.Table.check.Goals as goal

pub returns-in_err-well_formed : goal.returns-in_err-well_formed
returns-in_err-well_formed g c =
    let a = c.args.request in
    let b = g.B.RuleBook.meaning in
    let r = regs c.args.self.now in
    let v = ill_formed g.row.F a.kind a.address a.width in
    let p = err_from_is_err_and c.from_residual.result c.from_residual.ensures.1 in
    let e = c.in_err-well_formed.ensures.answer ∙ ap (λ (x : Refusal). Some (report_of x)) (sym p.2) in
    record {
      answer = subst (Checked g.row.F b r a.mode a.sum a.kind a.address a.width) (sym p.1)
          (refused_as b r a.mode a.sum a.kind a.address a.width v (report_of p.0) e);
      one = one_answer g.row.F b;
    }

pub returns-in-Machine : goal.returns-in-Machine
returns-in-Machine g c =
    let a = c.args.request in
    let b = g.B.RuleBook.meaning in
    let r = regs c.args.self.now in
    record {
      answer = passes_with b r a.mode a.sum a.kind a.address a.width
          (ill_formed g.row.F a.kind a.address a.width) 64 c.in_ok-well_formed.ensures.answer.0
          (subst (λ (m : Mode). Passes b r m a.sum a.kind a.address a.width 64) (sym c.in-Machine.is) refl);
      one = one_answer g.row.F b;
    }

pub returns-then-permitted : goal.returns-then-permitted
returns-then-permitted g c =
    let a = c.args.request in
    let b = g.B.RuleBook.meaning in
    let r = regs c.args.self.now in
    let d = entry_number c.deciding-deciding.result in
    record {
      answer = subst (PassesWith b r a.mode a.sum a.kind a.address a.width (ill_formed g.row.F a.kind a.address a.width)) (sym c.number_of-entry.ensures)
          (passes_with b r a.mode a.sum a.kind a.address a.width
          (ill_formed g.row.F a.kind a.address a.width) d c.in_ok-well_formed.ensures.answer.0
          (decided_pass b r a.mode a.sum a.kind a.address a.width d c.in_default.not-Machine c.deciding-deciding.ensures.lowest
          (c.permitted.ensures.0 c.if-permitted.true)));
      one = one_answer g.row.F b;
    }

pub returns-else-permitted : goal.returns-else-permitted
returns-else-permitted g c =
    let a = c.args.request in
    let b = g.B.RuleBook.meaning in
    let r = regs c.args.self.now in
    let d = entry_number c.deciding-deciding.result in
    let v = ill_formed g.row.F a.kind a.address a.width in
    let s = decided_stop b r a.mode a.sum a.kind a.address a.width d c.in_default.not-Machine c.deciding-deciding.ensures.lowest
    (λ p. both_ways c.permitted.result c.if-permitted.false (c.permitted.ensures.1 p)) in
    record {
      answer = subst₂ (λ (n e : ℕ). RefusedAs b r a.mode a.sum a.kind a.address a.width v (refused 51 (n ∷ a.address ∷ e ∷ [])))
          (sym c.table_cause.ensures) (sym c.number_of-entry.ensures)
          (stopped_as b r a.mode a.sum a.kind a.address a.width v d c.in_ok-well_formed.ensures.answer.0 s);
      one = one_answer g.row.F b;
    }
