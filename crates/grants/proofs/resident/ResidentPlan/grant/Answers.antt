use Rattle.std.proofs.Common.{◌≡◌, Some, None, sym, refl, ap, ◌∙◌, subst, lit<, arith, rules}
use Rattle.std.proofs.lemmas.Result.{err_from_is_err_and}
use Rattle.table.specs.Tables.{regs}
use Rattle.grants.specs.Regions.{form_of}
use Rattle.grants.specs.Owners.{held, room_for}
use Rattle.grants.specs.Refusals.{grant_report, Answered}
use Rattle.grants.specs.Residence.{has_room, grant_answer}
use Rattle.grants.specs.Resolving.{Placed}
use Rattle.grants.specs.declared.refusal.GrantRefusal.{GrantRefusal}
use Rattle.grants.proofs.Active.{selected_shown}
use Rattle.grants.proofs.Answering.{placeable, form_asked, after_refused, answer_full, grant_made}
use Rattle.grants.proofs.Deciding.{grant_early}
use Rattle.grants.proofs.Taking.{grant_placed}
use Rattle.grants.proofs.Walks.{is_room, room_below}
use Rattle.grants.proofs.resident.ResidentPlan.grant.Goals as goal

pub returns-in_err-region : goal.returns-in_err-region
returns-in_err-region g c =
    let f = g.row.F in
    let a = c.args in
    let p = a.self.now in
    let os = p.entries.owners.cells in
    let e = err_from_is_err_and c.from_residual.result c.from_residual.ensures.1 in
    let q = c.in_err-region.ensures ∙ ap (λ (x : GrantRefusal). Some (grant_report x)) (sym e.2) in
    let n = grant_early f 16 (held os a.task) a.task a.base a.length a.rights (has_room os) (grant_report e.0) q in
    record {
      answer = subst (Answered (grant_answer f os a.task a.base a.length a.rights) p p) (sym e.1) (n, refl);
      owners = sym (after_refused f os a.task a.base a.length a.rights (grant_report e.0) n);
      selected = refl;
      shown = selected_shown f g.B.RuleBook.meaning g.met.B.RuleBook.lawful _ _ _ p.stands;
    }

pub returns-in_default : goal.returns-in_default
returns-in_default g c =
    let f = g.row.F in
    let a = c.args in
    let p = a.self.now in
    let os = p.entries.owners.cells in
    let same : c.form-form.result ≡ form_of a.base a.length = grind (arith, c.form-form.ensures, form_asked f os a.task a.base a.length a.rights c.in_ok-region.region c.in_ok-region.ensures.1) in
    let n : room_for os (form_of a.base a.length) ≡ None = ap (room_for os) (sym same) ∙ sym c.room.ensures ∙ c.in_default.is in
    let x = answer_full f os a.task a.base a.length a.rights c.in_ok-region.ensures.0 n in
    record {
      answer = (x, refl);
      owners = sym (after_refused f os a.task a.base a.length a.rights _ x);
      selected = refl;
      shown = selected_shown f g.B.RuleBook.meaning g.met.B.RuleBook.lawful _ _ _ p.stands;
    }

pub occupy-requires : goal.occupy-requires
occupy-requires g c =
    let a = c.args in
    let os = a.self.now.entries.owners.cells in
    let q = c.in_ok-region.ensures in (
      lit< tt,
      (
        room_below os c.form-form.result c.in-Some.i (is_room os c.form-form.result (Some c.in-Some.i) (sym c.in-Some.is ∙ c.room.ensures)),
        placeable g.row.F os a.task a.base a.length a.rights c.in_ok-region.region q.1 q.0,
      ),
    )

pub invariant_of-self : goal.invariant_of-self
invariant_of-self g c =
    let f = g.row.F in
    let a = c.args in
    let p = a.self.now in
    let os = p.entries.owners.cells in
    let q = c.in_ok-region.ensures in
    let same : c.form-form.result ≡ form_of a.base a.length = grind (arith, c.form-form.ensures, form_asked f os a.task a.base a.length a.rights c.in_ok-region.region q.1) in
    let made = grant_made f os a.task a.base a.length a.rights q.0 c.switch_on.new.self.owners.cells _ _ _ _ same c.room.ensures c.in-Some.is q.1
    (c.switch_on.ensures.owners ∙ c.occupy.ensures) in
    record {
      stands = record {
        resident = c.switch_on.ensures.registers;
        placed = subst (Placed f) (sym made.1) (grant_placed f os a.task a.base a.length a.rights p.stands.placed);
      };
    }

pub returns : goal.returns
returns g c =
    let f = g.row.F in
    let a = c.args in
    let p = a.self.now in
    let os = p.entries.owners.cells in
    let q = c.in_ok-region.ensures in
    let last = c.switch_on.new.self in
    let same : c.form-form.result ≡ form_of a.base a.length = grind (arith, c.form-form.ensures, form_asked f os a.task a.base a.length a.rights c.in_ok-region.region q.1) in
    let made = grant_made f os a.task a.base a.length a.rights q.0 last.owners.cells _ _ _ _ same c.room.ensures c.in-Some.is q.1
    (c.switch_on.ensures.owners ∙ c.occupy.ensures) in
    record {
      answer = (made.0, tt);
      owners = made.1;
      selected = refl;
      shown = selected_shown f g.B.RuleBook.meaning g.met.B.RuleBook.lawful (regs last.table) last.owners.cells p.selected (search rules);
    }
