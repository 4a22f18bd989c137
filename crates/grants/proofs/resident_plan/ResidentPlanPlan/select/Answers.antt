use Rattle.std.proofs.Common.{ℕ, Option, ap, ◌∙◌}
use Rattle.grants.specs.Residence.{after_select}
use Rattle.grants.specs.ResidentMeaning.{owners_after, selection_after}
use Rattle.grants.proofs.resident_plan.ResidentPlanPlan.select.Goals as goal

pub returns : goal.returns
unfolding owners_after selection_after
returns g c =
    let e = c.select.ensures in
    record {
      answer = λ cs st. e.answer;
      after = λ cs st. record {
        book_laws = st.book_laws;
        plan_laws = st.plan_laws;
        owners = e.owners ∙ st.owners;
        selection = e.selected ∙ ap (λ (s : Option ℕ). after_select s c.args.task) st.selection;
      };
    }
