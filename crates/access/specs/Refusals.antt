-- The refusals of an access: the number of each, and the values that it carries. Assumes nothing.
use Rattle.std.specs.Prelude.{ℕ, List, [], ◌∷◌}
use Rattle.access.specs.Cases.{Report, refused}
use Rattle.access.specs.declared.access.Kind.{Kind}
use Rattle.access.specs.declared.access.Kind.TheVariants.{Load, Store, Fetch}
use Rattle.access.specs.declared.refusal.Fault.{Fault}
use Rattle.access.specs.declared.refusal.Refusal.{Refusal}
use Rattle.access.specs.declared.refusal.Refusal.TheVariants.{Width, Range, Stopped, NotAdmitted}

-- The cause of an access that the table stopped.
abbrev pub table_cause : Kind → ℕ
table_cause Fetch = 12
table_cause Load = 13
table_cause Store = 15

-- The cause of an access that the memory did not admit.
abbrev pub memory_cause : Kind → ℕ
memory_cause Fetch = 1
memory_cause Load = 5
memory_cause Store = 7

-- A fault carries its cause, the address of the access and the deciding entry, 64 for none.
abbrev pub carried : Fault → List ℕ
carried x = x.cause ∷ x.address ∷ x.entry ∷ []

abbrev pub report_of : Refusal → Report
report_of Width = refused 41 []
report_of Range = refused 42 []
report_of (Stopped x) = refused 51 (carried x)
report_of (NotAdmitted x) = refused 52 (carried x)

-- An access of a kind at the address a that the table stopped by entry e.
abbrev pub stopped : Kind → ℕ → ℕ → Report
stopped k a e = refused 51 (table_cause k ∷ a ∷ e ∷ [])

-- The same of an access that the memory did not admit.
abbrev pub not_admitted : Kind → ℕ → ℕ → Report
not_admitted k a e = refused 52 (memory_cause k ∷ a ∷ e ∷ [])
