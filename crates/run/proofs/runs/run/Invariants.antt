use Rattle.std.proofs.Common.{◌≡◌, ◌≤◌, reverse, length, take, vec_items, vec_len, vec_capacity}
use Rattle.run.specs.Standing.{At, plan_of, is_user}
use Rattle.run.specs.Turns.{calls_of, MadeWhereAllowed}
use Rattle.run.specs.Ran.{history_in}
use Rattle.run.proofs.runs.run.Given as goal

-- the hart and the memory stand where the turns so far lead, and there is room for the rest
abbrev pub invariant-loop-call : goal.invariant-loop-call
invariant-loop-call g l =
    At g.row.F g.P.Plan.book g.P.Plan.plan g.P.Plan.stands (g.M.Memory.meaning l.initial.memory) (plan_of l.hart) (is_user l.hart) (g.M.Memory.meaning l.memory) (history_in (vec_items l.turns))
    × MadeWhereAllowed (reverse (vec_items l.turns))
    × (calls_of (vec_items l.turns) ≡ take l.call-index l.calls)
    × (vec_len l.turns ≡ l.call-index)
    × (length l.calls ≤ vec_capacity l.turns)
    × (g.M.Memory.lenders l.memory ≡ g.M.Memory.lenders l.initial.memory)
