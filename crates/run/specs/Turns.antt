-- The turns of a run, and the history that they are. Assumes nothing.
use Rattle.std.specs.Prelude.{◌≡◌, Bool, true, false, List, [], ◌∷◌, Some, None, Option}
use Rattle.history.specs.Histories.{History, in_user, allowed}
use Rattle.history.specs.declared.call.Call.{Call}
use Rattle.history.specs.declared.call.Answer.{Answer}
use Rattle.run.specs.declared.turn.Turn.{Turn}

-- A call was made where it has an answer.
abbrev pub was_made : Option Answer → Bool
was_made None = false
was_made (Some a) = true

-- The history after a call.
abbrev pub with_call : Call → Option Answer → History → History
with_call c None h = h
with_call c (Some a) h = record { call = c; answer = a } ∷ h

-- A call that is not made leaves the hart's plan and state and the memory as they were.
abbrev pub NotMade : {P M : Type 0} → Option Answer → P → P → Bool → Bool → M → M → Type 0
NotMade None p q s t m n = (q ≡ p) × (t ≡ s) × (n ≡ m)
NotMade (Some a) p q s t m n = Unit {0}

-- The history of turns, the newest first.
abbrev pub history_of : List Turn → History
history_of [] = []
history_of (t ∷ ts) = with_call t.call t.answer (history_of ts)

-- Of the same turns: the calls that the state allowed were made, and no others.
abbrev pub MadeWhereAllowed : List Turn → Type 0
MadeWhereAllowed [] = Unit {0}
MadeWhereAllowed (t ∷ ts) = (was_made t.answer ≡ allowed (in_user (history_of ts)) t.call) × MadeWhereAllowed ts

abbrev pub calls_of : List Turn → List Call
calls_of [] = []
calls_of (t ∷ ts) = t.call ∷ calls_of ts
