use Rattle.std.proofs.Common.{List, None, sym, ap, ◌∙◌, subst}
use Rattle.std.proofs.lemmas.Result.{err_from_is_err_and}
use Rattle.grants.specs.declared.call.PlanCall.{PlanCall}
use Rattle.loading.specs.Played.{Outcome}
use Rattle.loading.proofs.Steps.{task_step, task_end}
use Rattle.loading.proofs.load.load_task.Goals as goal

pub loop-i-preserved : goal.loop-i-preserved
loop-i-preserved g c =
    λ cs st.
    let s = c.loop-i.invariant cs st in (
      _,
      c.grant_region.ensures.calls s.0 s.1,
      s.2
          ∙ task_step g.row.F g.P.Plan.plan.terms s.0 c.args.task c.args.first c.loop-i.i _ c.args.regions.now c.loop-i-test.true None
          (c.in_ok-grant_region.ensures.answer s.0 s.1),
    )

pub returns-in_err-grant_region : goal.returns-in_err-grant_region
returns-in_err-grant_region g c =
    let p = err_from_is_err_and c.from_residual.result c.from_residual.ensures.1 in
    let ended = λ (cs : List PlanCall) (st : g.P.Plan.stands c.args.plan.now cs).
    let s = c.loop-i.invariant cs st in
    s.2
    ∙ task_step g.row.F g.P.Plan.plan.terms s.0 c.args.task c.args.first c.loop-i.i _ c.args.regions.now c.loop-i-test.true _
    (c.in_err-grant_region.ensures.answer s.0 s.1) in
    record {
      calls = λ cs st.
          let s = c.loop-i.invariant cs st in
          subst (λ (x : Outcome). g.P.Plan.stands c.grant_region.new.plan x.calls) (sym (ended cs st)) (c.grant_region.ensures.calls s.0 s.1);
      answer = λ cs st. rw (p.1, p.2) (ap (λ (x : Outcome). x.refusal) (ended cs st));
    }

pub returns : goal.returns
returns g c =
    let ended = λ (cs : List PlanCall) (st : g.P.Plan.stands c.args.plan.now cs).
    let s = c.loop-i.invariant cs st in
    s.2 ∙ task_end g.row.F g.P.Plan.plan.terms s.0 c.args.task _ c.loop-i.i c.args.regions.now c.loop-i-test.false in
    record {
      calls = λ cs st. subst (λ (x : Outcome). g.P.Plan.stands c.loop-i.plan x.calls) (sym (ended cs st)) (c.loop-i.invariant cs st).1;
      answer = λ cs st. ap (λ (x : Outcome). x.refusal) (ended cs st);
    }
