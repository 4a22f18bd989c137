-- The decisions on a configuration byte, in the order in which one number packs them. Assumes nothing.
use Rattle.std.specs.Prelude.{ℕ, ◌+◌, Bool, true, false, cond, List, [], ◌∷◌, ◌++◌}
use Rattle.access.specs.Rights.{Perms}
use Rattle.access.specs.declared.access.Kind.{Kind}
use Rattle.access.specs.declared.access.Kind.TheVariants.{Load, Store, Fetch}
use Rattle.book.specs.SpmpBook.{row_of, spmp_legal}

-- R, W and X.
abbrev pub letters : Perms → List Bool
letters p = p.read ∷ p.write ∷ p.exec ∷ []

-- The user's rights, the supervisor's with SUM clear, the supervisor's with SUM set, and whether the byte is legal.
abbrev pub decisions_on : ℕ → List Bool
decisions_on c = letters (row_of c).user ++ (letters ((row_of c).supervisor false) ++ (letters ((row_of c).supervisor true) ++ (spmp_legal c ∷ [])))

abbrev pub kind_place : Kind → ℕ
kind_place Load = 0
kind_place Store = 1
kind_place Fetch = 2

-- Where the decision for a mode, SUM and kind stands among them.
abbrev pub place : Bool → Bool → Kind → ℕ
place supervisor sum k = cond supervisor (cond sum 6 3) 0 + kind_place k
