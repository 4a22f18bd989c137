-- What an answer says: that the call passed, or the number of a refusal and the values that it carries; and which answer a call of a hart
-- has. Assumes nothing.
use Rattle.std.specs.Prelude.{ℕ, Bool, Some, None, Ok, Err, Option, Result, is_none}
use Rattle.access.specs.Cases.{Report}
use Rattle.access.specs.Refusals.{report_of}
use Rattle.access.specs.declared.refusal.Refusal.{Refusal}
use Rattle.grants.specs.Refusals.{grant_report}
use Rattle.grants.specs.declared.refusal.GrantRefusal.{GrantRefusal}
use Rattle.history.specs.declared.call.Answer.{Answer}
use Rattle.history.specs.declared.call.Answer.TheVariants.{Done, Value, Declined, Refused}

abbrev pub answer_report : Answer → Option Report
answer_report Done = None
answer_report (Value v) = None
answer_report (Declined x) = Some (grant_report x)
answer_report (Refused x) = Some (report_of x)

abbrev pub number_in : Option Report → Option ℕ
number_in None = None
number_in (Some x) = Some x.number

abbrev pub number_of : Answer → Option ℕ
number_of a = number_in (answer_report a)

-- An access passes, and any other call is accepted, if it gets no number.
abbrev pub passed : Answer → Bool
passed a = is_none (answer_report a)

-- The answer of a grant, a withdrawal or a selection.
abbrev pub accepted : Result (Unit {0}) GrantRefusal → Answer
accepted (Ok u) = Done
accepted (Err x) = Declined x

-- The answer of a load or a fetch.
abbrev pub valued : Result ℕ Refusal → Answer
valued (Ok v) = Value v
valued (Err x) = Refused x

-- The answer of a store.
abbrev pub stored : Result (Unit {0}) Refusal → Answer
stored (Ok u) = Done
stored (Err x) = Refused x
