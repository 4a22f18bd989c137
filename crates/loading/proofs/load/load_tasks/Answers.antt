use Rattle.std.proofs.Common.{List, None, sym, ap, ◌∙◌, subst, arith}
use Rattle.std.proofs.lemmas.Result.{err_from_is_err_and}
use Rattle.grants.specs.declared.call.PlanCall.{PlanCall}
use Rattle.loading.specs.Played.{Outcome}
use Rattle.loading.proofs.Parts.{within}
use Rattle.loading.proofs.Steps.{tasks_step, tasks_end}
use Rattle.loading.proofs.load.load_tasks.Goals as goal

pub slice_bounds-load_task-end : goal.slice_bounds-load_task-end
slice_bounds-load_task-end g c =
    let h = within c.args.tasks.now c.loop-task.task (record { first = 0; count = 0 }) c.requires.0 c.loop-task-test.true in omega (arith, c.requires.1)

pub loop-task-preserved : goal.loop-task-preserved
loop-task-preserved g c =
    λ cs st.
    let s = c.loop-task.invariant cs st in (
      _,
      c.load_task.ensures.calls s.0 s.1,
      s.2
          ∙ tasks_step g.row.F g.P.Plan.plan.terms s.0 c.loop-task.task (record { first = 0; count = 0 }) c.args.tasks.now c.args.regions.now _ c.loop-task-test.true (omega arith) None
          (c.in_ok-load_task.ensures.answer s.0 s.1),
    )

pub returns-in_err-load_task : goal.returns-in_err-load_task
returns-in_err-load_task g c =
    let p = err_from_is_err_and c.from_residual.result c.from_residual.ensures.1 in
    let ended = λ (cs : List PlanCall) (st : g.P.Plan.stands c.args.plan.now cs).
    let s = c.loop-task.invariant cs st in
    s.2
    ∙ tasks_step g.row.F g.P.Plan.plan.terms s.0 c.loop-task.task (record { first = 0; count = 0 }) c.args.tasks.now c.args.regions.now _ c.loop-task-test.true (omega arith) _
    (c.in_err-load_task.ensures.answer s.0 s.1) in
    record {
      calls = λ cs st.
          let s = c.loop-task.invariant cs st in
          subst (λ (x : Outcome). g.P.Plan.stands c.load_task.new.plan x.calls) (sym (ended cs st)) (c.load_task.ensures.calls s.0 s.1);
      answer = λ cs st. rw (p.1, p.2) (ap (λ (x : Outcome). x.refusal) (ended cs st));
    }

pub returns : goal.returns
returns g c =
    let ended = λ (cs : List PlanCall) (st : g.P.Plan.stands c.args.plan.now cs).
    let s = c.loop-task.invariant cs st in
    s.2 ∙ tasks_end g.row.F g.P.Plan.plan.terms s.0 c.loop-task.task c.args.tasks.now c.args.regions.now c.loop-task-test.false in
    record {
      calls = λ cs st. subst (λ (x : Outcome). g.P.Plan.stands c.loop-task.plan x.calls) (sym (ended cs st)) (c.loop-task.invariant cs st).1;
      answer = λ cs st. ap (λ (x : Outcome). x.refusal) (ended cs st);
    }
