-- Every run is isolated.
use Rattle.std.proofs.Common.{ℕ}
use Rattle.book.specs.Books.{Book, Laws}
use Rattle.memory.specs.Meaning.{MemoryMeaning, MemoryLaws}
use Rattle.grants.specs.Plans.{PlanMeaning, PlanLaws}
use Rattle.history.specs.Histories.{History}
use Rattle.history.specs.Runs.{Run}
use Rattle.history.specs.Isolation.{Isolated}
use Rattle.history.proofs.Passing.{pass_when_entitled}
use Rattle.history.proofs.Storing.{give_last_stored}
use Rattle.history.proofs.Separating.{separated}

pub isolated : (f : ℕ) (b : Book) (p : PlanMeaning) (m : MemoryMeaning) → Laws b → PlanLaws f b p → MemoryLaws f m → (h : History) → Run f b p m h → Isolated f b p m h
isolated f b p m bl pl ml h run = record {
  passes = pass_when_entitled f b p m bl pl h run;
  gives = give_last_stored f b p m ml h run;
  separated = separated f b p m bl pl ml h run;
}
