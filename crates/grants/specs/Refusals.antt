-- When a grant, a withdrawal or a selection is refused: the first case that holds gives its number. Assumes nothing.
use Rattle.std.specs.Prelude.{◌≡◌, ℕ, ◌+◌, Bool, true, false, not, ◌&&◌, List, [], ◌∷◌, length, Some, None, Option, is_none, Result, ◌==◌, nat_le, nat_lt}
use Rattle.std.specs.List.{list_any}
use Rattle.access.specs.Cases.{Report, refused, first_of, Does}
use Rattle.access.specs.Formed.{limit}
use Rattle.access.specs.Rights.{rights_of}
use Rattle.grants.specs.Regions.{fitting, form_of, overlapping}
use Rattle.grants.specs.declared.region.Region.{Region}
use Rattle.grants.specs.declared.region.Form.{Form}
use Rattle.grants.specs.declared.region.Form.TheVariants.{Na4, Napot, Pair}
use Rattle.grants.specs.declared.refusal.GrantRefusal.{GrantRefusal}
use Rattle.grants.specs.declared.refusal.GrantRefusal.TheVariants.{NoSuchTask, NotARegion, NotARightsSet, Overlap, NoForm, TooManyRegions, NoRoom, NotHeld}

-- The number of each refusal; none carries a value.
abbrev pub grant_report : GrantRefusal → Report
grant_report NoSuchTask = refused 21 []
grant_report NotARegion = refused 22 []
grant_report NotARightsSet = refused 23 []
grant_report Overlap = refused 24 []
grant_report NoForm = refused 25 []
grant_report TooManyRegions = refused 26 []
grant_report NoRoom = refused 27 []
grant_report NotHeld = refused 28 []

abbrev pub is_pair : Form → Bool
is_pair Na4 = false
is_pair Napot = false
is_pair Pair = true

-- One of the regions overlaps the l bytes from b.
abbrev pub any_overlaps : List Region → ℕ → ℕ → Bool
any_overlaps gs b l = list_any (λ g. overlapping g b l) gs

-- One of the regions begins at b.
abbrev pub any_begins : List Region → ℕ → Bool
any_begins gs b = list_any (λ g. g.base == b) gs

-- A region that takes a pair and ends at the limit, which the upper entry's register cannot hold.
abbrev pub formless : ℕ → ℕ → ℕ → Bool
formless f b l = b + l == limit f && is_pair (form_of b l)

-- Fields of f bits, the number of tasks, the regions that the task holds, and whether there is room for a form: then what the grant asks for.
abbrev pub grant_cases : ℕ → ℕ → List Region → (Form → Bool) → ℕ → ℕ → ℕ → ℕ → Option Report
grant_cases f tasks gs room t b l r = first_of (
    (not (nat_lt t tasks), refused 21 []) ∷ (not (fitting f b l), refused 22 []) ∷ (is_none (rights_of r), refused 23 [])
    ∷ (any_overlaps gs b l, refused 24 []) ∷ (formless f b l, refused 25 []) ∷ (nat_le 8 (length gs), refused 26 [])
    ∷ (not (room (form_of b l)), refused 27 []) ∷ [])

abbrev pub withdraw_cases : ℕ → List Region → ℕ → ℕ → Option Report
withdraw_cases tasks gs t b = first_of ((not (nat_lt t tasks), refused 21 []) ∷ (not (any_begins gs b), refused 28 []) ∷ [])

abbrev pub select_cases : ℕ → ℕ → Option Report
select_cases tasks t = first_of ((not (nat_lt t tasks), refused 21 []) ∷ [])

-- What is left after a call: something new, or the old where the call is refused.
abbrev pub unless_refused : {X : Type 0} → Option Report → X → X → X
unless_refused None new old = new
unless_refused (Some x) new old = old

-- The answer of a call on a plan: it refuses in its cases alone, with the first that holds, and then the plan is as it was.
abbrev pub Answered : {P : Type 0} → Option Report → P → P → Result (Unit {0}) GrantRefusal → Type 0
Answered cases before after r = Does grant_report cases (λ _. Unit {0}) (after ≡ before) r
