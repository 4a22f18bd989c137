-- The first case of one list of cases after another. Assumes nothing.
use Rattle.std.proofs.Common.{◌≡◌, Bool, true, false, List, [], ◌∷◌, ◌++◌, Some, None, Option}
use Rattle.access.specs.Cases.{Report, first_of}
use Rattle.layout.specs.Refusals.{Tells}

-- None of the cases before holds.
pub first_past : (xs ys : List (Bool × Report)) → first_of xs ≡ None → first_of (xs ++ ys) ≡ first_of ys
first_past [] ys e = λ i. first_of ys
first_past ((true, x) ∷ xs) ys e = cc
first_past ((false, x) ∷ xs) ys e = first_past xs ys e

-- One of them does.
first_found : (xs ys : List (Bool × Report)) (y : Report) → first_of xs ≡ Some y → first_of (xs ++ ys) ≡ Some y
first_found [] ys y e = cc
first_found ((true, x) ∷ xs) ys y e = e
first_found ((false, x) ∷ xs) ys y e = first_found xs ys y e

pub tells_first : (xs ys : List (Bool × Report)) (o : Option Report) → Tells (first_of xs) o → Tells (first_of (xs ++ ys)) o
tells_first xs ys None h = tt
tells_first xs ys (Some y) h = first_found xs ys y h
