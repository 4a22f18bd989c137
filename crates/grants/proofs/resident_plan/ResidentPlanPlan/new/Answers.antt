use Rattle.grants.specs.ResidentMeaning.{owners_after, selection_after}
use Rattle.grants.proofs.ResidentLaws.{resident_laws}
use Rattle.grants.proofs.resident_plan.ResidentPlanPlan.new.Goals as goal

pub returns : goal.returns
unfolding owners_after selection_after
returns g c =
    let l = g.met.B.RuleBook.lawful in
    record {
      book_laws = l;
      plan_laws = resident_laws g.row.F g.B.RuleBook.meaning l;
      owners = c.new.ensures.owners;
      selection = c.new.ensures.selected;
    }
