use Rattle.std.proofs.Common.{List, Option, ap, ◌∙◌, subst}
use Rattle.access.specs.Cases.{Report}
use Rattle.grants.specs.Refusals.{Answered}
use Rattle.grants.specs.Residence.{withdraw_answer, after_withdraw}
use Rattle.grants.specs.ResidentMeaning.{owners_after, selection_after}
use Rattle.grants.specs.declared.owner.Owner.{Owner}
use Rattle.grants.proofs.ResidentLaws.{withdraw_answers}
use Rattle.grants.proofs.resident_plan.ResidentPlanPlan.withdraw.Goals as goal

pub returns : goal.returns
unfolding owners_after selection_after
returns g c =
    let a = c.args in
    let e = c.withdraw.ensures in
    record {
      answer = λ cs st.
          subst (λ (x : Option Report). Answered x a.self.now c.withdraw.new.self c.withdraw.result)
          (ap (λ (os : List Owner). withdraw_answer os a.task a.base) st.owners ∙ withdraw_answers g.row.F cs a.task a.base)
          e.answer;
      after = λ cs st. record {
        book_laws = st.book_laws;
        plan_laws = st.plan_laws;
        owners = e.owners ∙ ap (λ (os : List Owner). after_withdraw os a.task a.base) st.owners;
        selection = e.selected ∙ st.selection;
      };
    }
