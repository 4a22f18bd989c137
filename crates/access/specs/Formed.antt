-- When an access is well formed. Assumes nothing.
use Rattle.std.specs.Prelude.{◌≡◌, ℕ, ◌+◌, ◌^◌, ◌≤◌, Bool, true, not, ◌||◌, [], ◌∷◌, Option, ◌==◌, nat_lt}
use Rattle.access.specs.Cases.{Report, refused, first_of}
use Rattle.access.specs.declared.access.Kind.{Kind}
use Rattle.access.specs.declared.access.Kind.TheVariants.{Load, Store, Fetch}

-- The widths of each kind: 1, 2, 4 and 8 bytes for loads and stores, 2 and 4 for fetches.
abbrev pub width_of : Kind → ℕ → Bool
width_of Load w = w == 1 || w == 2 || w == 4 || w == 8
width_of Store w = w == 1 || w == 2 || w == 4 || w == 8
width_of Fetch w = w == 2 || w == 4

-- Addresses of fields of f bits end here.
abbrev pub limit : ℕ → ℕ
limit f = 2 ^ (f + 2)

-- An access of w bytes at the address a is well formed: its width is one of the kind's, and it ends at the limit or below.
abbrev pub WellFormed : ℕ → Kind → ℕ → ℕ → Type 0
WellFormed f k a w = (width_of k w ≡ true) × (a + w ≤ limit f)

-- What is wrong with an access: 41 for its width, else 42 for its range.
abbrev pub ill_formed : ℕ → Kind → ℕ → ℕ → Option Report
ill_formed f k a w = first_of ((not (width_of k w), refused 41 []) ∷ (nat_lt (limit f) (a + w), refused 42 []) ∷ [])
