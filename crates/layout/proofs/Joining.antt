-- Lines joined one after the other. Assumes nothing.
use Rattle.std.proofs.Common.{◌≡◌, ℕ, ◌+◌, ◌<◌, ◌≤◌, List, ◌++◌, length, get_or, take}
use Rattle.std.specs.List.{flat_map}
use Rattle.std.proofs.lemmas.List.{take_more, take_all, flat_map_more}

-- One line more, after the text `bs`.
pub lines_more : {X : Type 0} (f : X → List ℕ) (bs t u line : List ℕ) (xs : List X) (i : ℕ) (d : X) → i < length xs
    → t ≡ bs ++ flat_map f (take i xs) → u ≡ t ++ line → line ≡ f (get_or xs i d) → u ≡ bs ++ flat_map f (take (i + 1) xs)
lines_more f bs t u line xs i d h e p q = rw (p, e, q, take_more xs i d h) (flat_map_more f bs (take i xs) (get_or xs i d))

-- Every line.
pub lines_all : {X : Type 0} (f : X → List ℕ) (bs t : List ℕ) (xs : List X) (i : ℕ) → length xs ≤ i
    → t ≡ bs ++ flat_map f (take i xs) → t ≡ bs ++ flat_map f xs
lines_all f bs t xs i h e = rw (take_all i xs h) at e
