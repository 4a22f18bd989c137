-- How a call refuses: its cases in their order, and what its answer must then be. Assumes nothing.
use Rattle.std.specs.Prelude.{◌≡◌, ℕ, Bool, cond, List, [], ◌∷◌, Some, None, Ok, Err, Option, Result}

-- A refusal by its number and the values that it carries.
pub record Report : Type 0 where
  pub number : ℕ
  pub values : List ℕ

abbrev pub refused : ℕ → List ℕ → Report
refused n vs = record { number = n; values = vs }

-- The report of the first case whose condition holds.
abbrev pub first_of : List (Bool × Report) → Option Report
first_of [] = None
first_of (c ∷ rest) = cond c.0 (Some c.1) (first_of rest)

module _ {A E : Type 0} (report : E → Report) where
  -- A call that alters nothing: it refuses in its cases alone, with the first that holds, and otherwise gives a value that is as it should be.
  abbrev pub Gives : Option Report → (A → Type 0) → Result A E → Type 0
  Gives cases P (Ok v) = (cases ≡ None) × P v
  Gives cases P (Err e) = cases ≡ Some (report e)

  -- A call that alters something: the same, and a refusal leaves all as it was.
  abbrev pub Does : Option Report → (A → Type 0) → Type 0 → Result A E → Type 0
  Does cases done same (Ok v) = (cases ≡ None) × done v
  Does cases done same (Err e) = (cases ≡ Some (report e)) × same
