use Rattle.std.proofs.Common.{Some, sym, refl, ◌∙◌, subst, arith, lit<, rules}
use Rattle.std.proofs.lemmas.Bool.{lt-ltb, le-ltb}
use Rattle.table.specs.Tables.{regs}
use Rattle.grants.specs.Resolving.{Placed}
use Rattle.grants.proofs.Active.{selected_shown}
use Rattle.grants.proofs.Answering.{found_law, withdraw_missing, withdraw_none, withdraw_made, after_kept}
use Rattle.grants.proofs.Freeing.{withdraw_placed}
use Rattle.grants.proofs.resident.ResidentPlan.withdraw.Goals as goal

pub returns-then-task-ge-TASKS : goal.returns-then-task-ge-TASKS
returns-then-task-ge-TASKS g c =
    let p = c.args.self.now in
    let os = p.entries.owners.cells in
    let t = c.args.task in
    let x = withdraw_none os t c.args.base (le-ltb t 16 (omega arith)) in
    record {
      answer = (x, refl);
      owners = sym (after_kept os t c.args.base _ x);
      selected = refl;
      shown = selected_shown g.row.F g.B.RuleBook.meaning g.met.B.RuleBook.lawful _ _ _ p.stands;
    }

pub returns-in_default : goal.returns-in_default
returns-in_default g c =
    let p = c.args.self.now in
    let os = p.entries.owners.cells in
    let t = c.args.task in
    let b = c.args.base in
    let x = withdraw_missing os t b (lt-ltb t 16 (omega arith)) (sym c.find.ensures.value ∙ c.in_default.is) in
    record {
      answer = (x, refl);
      owners = sym (after_kept os t b _ x);
      selected = refl;
      shown = selected_shown g.row.F g.B.RuleBook.meaning g.met.B.RuleBook.lawful _ _ _ p.stands;
    }

pub vacate-requires : goal.vacate-requires
vacate-requires g c =
    let os = c.args.self.now.entries.owners.cells in
    (lit< tt, (found_law os c.args.task c.args.base (Some c.in-Some.i) (sym c.find.ensures.value ∙ c.in-Some.is)).0)

pub invariant_of-self : goal.invariant_of-self
invariant_of-self g c =
    let f = g.row.F in
    let p = c.args.self.now in
    let os = p.entries.owners.cells in
    let t = c.args.task in
    let b = c.args.base in
    let made = withdraw_made os t b c.switch_on.new.self.owners.cells _ _ (omega arith) c.find.ensures.value c.in-Some.is (c.switch_on.ensures.owners ∙ c.vacate.ensures) in
    record { stands = record { resident = c.switch_on.ensures.registers; placed = subst (Placed f) (sym made.1) (withdraw_placed f os t b p.stands.placed) } }

pub returns : goal.returns
returns g c =
    let p = c.args.self.now in
    let os = p.entries.owners.cells in
    let last = c.switch_on.new.self in
    let made = withdraw_made os c.args.task c.args.base last.owners.cells _ _ (omega arith) c.find.ensures.value c.in-Some.is (c.switch_on.ensures.owners ∙ c.vacate.ensures) in
    record {
      answer = (made.0, tt);
      owners = made.1;
      selected = refl;
      shown = selected_shown g.row.F g.B.RuleBook.meaning g.met.B.RuleBook.lawful (regs last.table) last.owners.cells p.selected (search rules);
    }
