use Rattle.std.proofs.Common.{◌≡◌, ◌<◌, ◌≤◌, List, ◌∷◌, reverse, length, get_or, vec_items, sym, ap, ◌∙◌, subst, arith, take_all}
use Rattle.grants.specs.declared.call.PlanCall.{PlanCall}
use Rattle.history.specs.Histories.{allowed}
use Rattle.history.specs.declared.call.Call.{Call}
use Rattle.history.proofs.Isolation.{isolated}
use Rattle.run.specs.declared.turn.Turn.{Turn}
use Rattle.run.specs.Standing.{At, plan_of, is_user}
use Rattle.run.specs.Turns.{history_of, MadeWhereAllowed}
use Rattle.run.proofs.Stepping.{calls_taken, newest}
use Rattle.run.proofs.runs.run.Goals as goal

pub loop-call-preserved : goal.loop-call-preserved
loop-call-preserved g c =
    let inv = c.loop-call.invariant in
    let i = c.loop-call.call-index in
    let calls = c.args.calls.now in
    let none : Call = Call.Plan (PlanCall.Grant 0 0 0 0) in
    let turn : Turn = record { call = get_or calls i none; answer = c.play-next.result.1 } in
    let before = vec_items c.loop-call.turns in
    let after = vec_items c.push.new.self in
    let start = g.M.Memory.meaning c.args.memory.now in
    let pushed = c.in_ok-push.ensures in
    let lt : i < length calls = omega arith in
    let back : reverse after ≡ turn ∷ reverse before = newest before after turn pushed.items in (
      subst (λ (ts : List Turn). At g.row.F g.P.Plan.book g.P.Plan.plan g.P.Plan.stands start (plan_of c.play-next.result.0) (is_user c.play-next.result.0) (g.M.Memory.meaning c.play-next.new.memory) (history_of ts))
          (sym back) (c.play-next.ensures.follows start (history_of (reverse before)) inv.0),
      subst MadeWhereAllowed (sym back) (c.play-next.ensures.made ∙ ap (λ s. allowed s turn.call) inv.0.state, inv.1),
      calls_taken before after calls i none turn.answer lt pushed.items inv.2,
      omega (arith, pushed.len, inv.3),
      omega (arith, pushed.capacity, inv.4),
      c.play-next.ensures.borrows ∙ inv.5,
    )

pub returns : goal.returns
returns g c =
    let inv = c.loop-call.invariant in
    let calls = c.args.calls.now in
    let le : length calls ≤ c.loop-call.call-index = omega arith in
    let laws = g.P.Plan.lawful _ _ inv.0.plans in
    record {
      ran = record {
        all = inv.2 ∙ take_all c.loop-call.call-index calls le;
        made = inv.1;
        run = inv.0.run;
        memory = inv.0.bytes;
        isolated = isolated _ _ _ _ laws.0 laws.1 (g.M.Memory.lawful c.args.memory.now) _ inv.0.run;
      };
      borrows = inv.5;
    }
