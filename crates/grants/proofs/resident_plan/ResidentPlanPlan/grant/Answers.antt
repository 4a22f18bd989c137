use Rattle.std.proofs.Common.{List, Option, ap, ◌∙◌, subst}
use Rattle.access.specs.Cases.{Report}
use Rattle.grants.specs.Refusals.{Answered}
use Rattle.grants.specs.Residence.{grant_answer, after_grant}
use Rattle.grants.specs.ResidentMeaning.{owners_after, selection_after}
use Rattle.grants.specs.declared.owner.Owner.{Owner}
use Rattle.grants.proofs.ResidentLaws.{grant_answers}
use Rattle.grants.proofs.resident_plan.ResidentPlanPlan.grant.Goals as goal

pub returns : goal.returns
unfolding owners_after selection_after
returns g c =
    let f = g.row.F in
    let a = c.args in
    let e = c.grant.ensures in
    record {
      answer = λ cs st.
          subst (λ (x : Option Report). Answered x a.self.now c.grant.new.self c.grant.result)
          (ap (λ (os : List Owner). grant_answer f os a.task a.base a.length a.rights) st.owners ∙ grant_answers f cs a.task a.base a.length a.rights)
          e.answer;
      after = λ cs st. record {
        book_laws = st.book_laws;
        plan_laws = st.plan_laws;
        owners = e.owners ∙ ap (λ (os : List Owner). after_grant f os a.task a.base a.length a.rights) st.owners;
        selection = e.selected ∙ st.selection;
      };
    }
