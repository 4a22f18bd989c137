-- What is promised of a run. Assumes nothing.
use Rattle.std.specs.Prelude.{◌≡◌, ℕ, List, reverse}
use Rattle.book.specs.Books.{Book}
use Rattle.memory.specs.Meaning.{MemoryMeaning}
use Rattle.grants.specs.Plans.{PlanMeaning}
use Rattle.history.specs.Histories.{History}
use Rattle.history.specs.Runs.{Run, memory_after}
use Rattle.history.specs.Isolation.{Isolated}
use Rattle.history.specs.declared.call.Call.{Call}
use Rattle.run.specs.declared.turn.Turn.{Turn}
use Rattle.run.specs.Turns.{history_of, MadeWhereAllowed, calls_of}

-- The history of turns that stand in the order in which they came.
abbrev pub history_in : List Turn → History
history_in ts = history_of (reverse ts)

-- There is a turn for each call; the calls that the hart's state allowed were made, and answered as in a run; the memory is as the run leaves it;
-- and the run is isolated.
pub record Ran (f : ℕ) (b : Book) (p : PlanMeaning) (start end : MemoryMeaning) (calls : List Call) (turns : List Turn) : Type 0 where
  pub all : calls_of turns ≡ calls
  pub made : MadeWhereAllowed (reverse turns)
  pub run : Run f b p start (history_in turns)
  pub memory : end ≡ memory_after start (history_in turns)
  pub isolated : Isolated f b p start (history_in turns)
