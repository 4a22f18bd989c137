-- Who uses each entry, what a task holds, and where there is room. Assumes nothing.
use Rattle.std.specs.Prelude.{◌≡◌, ℕ, zero, suc, ◌+◌, ◌-◌, ◌<◌, Bool, true, false, cond, ◌&&◌, List, [], ◌∷◌, Some, None, Option, ◌==◌, slice_index_or, slice_set}
use Rattle.grants.specs.Regions.{form_of, overlapping}
use Rattle.grants.specs.declared.region.Region.{Region}
use Rattle.grants.specs.declared.region.Form.{Form}
use Rattle.grants.specs.declared.region.Form.TheVariants.{Na4, Napot, Pair}
use Rattle.grants.specs.declared.owner.Owner.{Owner}
use Rattle.grants.specs.declared.owner.Owner.TheVariants.{Free, Lower, Upper}

-- The owner of entry i.
abbrev pub owner_at : List Owner → ℕ → Owner
owner_at os i = slice_index_or os i Free

abbrev pub is_free : Owner → Bool
is_free Free = true
is_free (Lower t g) = false
is_free (Upper t g) = false

-- The owner shows a region of the task.
abbrev pub holds : ℕ → Owner → Bool
holds t Free = false
holds t (Lower u g) = false
holds t (Upper u g) = u == t

-- The owner shows a region of the task that begins at b.
abbrev pub begins : ℕ → ℕ → Owner → Bool
begins t b Free = false
begins t b (Lower u g) = false
begins t b (Upper u g) = u == t && g.base == b

-- The owner shows a region of the task that overlaps the l bytes from b.
abbrev pub owner_overlaps : ℕ → ℕ → ℕ → Owner → Bool
owner_overlaps t b l Free = false
owner_overlaps t b l (Lower u g) = false
owner_overlaps t b l (Upper u g) = u == t && overlapping g b l

-- The regions, and that of the owner if it shows one of the task.
abbrev pub held_by : Owner → ℕ → List Region → List Region
held_by Free t gs = gs
held_by (Lower u g) t gs = gs
held_by (Upper u g) t gs = cond (u == t) (g ∷ gs) gs

unfoldable pub held_below : List Owner → ℕ → ℕ → List Region
held_below os t zero = []
held_below os t (suc n) = held_by (owner_at os n) t (held_below os t n)

-- The regions that a task holds: those that entries show for it.
abbrev pub held : List Owner → ℕ → List Region
held os t = held_below os t 64

abbrev pub or_else : Option ℕ → Option ℕ → Option ℕ
or_else None o = o
or_else (Some n) o = Some n

-- The lowest number below n that passes the test.
unfoldable pub lowest : (ℕ → Bool) → ℕ → Option ℕ
lowest p zero = None
lowest p (suc n) = or_else (lowest p n) (cond (p n) (Some n) None)

-- An outcome of a search below n is right: the number passes and no lower one does, or none passes.
abbrev pub IsLowest : (ℕ → Bool) → ℕ → Option ℕ → Type 0
IsLowest p n None = (k : ℕ) → k < n → p k ≡ false
IsLowest p n (Some i) = (i < n) × (p i ≡ true) × ((k : ℕ) → k < i → p k ≡ false)

-- Every search is right.
abbrev pub LowestFound : Type 0
LowestFound = (p : ℕ → Bool) (n : ℕ) → IsLowest p n (lowest p n)

abbrev pub free_at : List Owner → ℕ → Bool
free_at os i = is_free (owner_at os i)

-- Entries i and i + 1 are free.
abbrev pub free_pair_at : List Owner → ℕ → Bool
free_pair_at os i = free_at os i && free_at os (i + 1)

-- The lowest free entry for a form of one entry, and the lower of the lowest free neighbours for a pair.
abbrev pub room_for : List Owner → Form → Option ℕ
room_for os Na4 = lowest (free_at os) 64
room_for os Napot = lowest (free_at os) 64
room_for os Pair = lowest (free_pair_at os) 63

-- The entry that shows the task's region at b.
abbrev pub found_at : List Owner → ℕ → ℕ → Option ℕ
found_at os t b = lowest (λ i. begins t b (owner_at os i)) 64

-- How many neighbours a form takes.
abbrev pub entries_of : Form → ℕ
entries_of Na4 = 1
entries_of Napot = 1
entries_of Pair = 2

-- The owners with a task's region of a form from entry i on.
abbrev pub occupied : List Owner → Form → ℕ → Region → ℕ → List Owner
occupied os Na4 t g i = slice_set os i (Upper t g)
occupied os Napot t g i = slice_set os i (Upper t g)
occupied os Pair t g i = slice_set (slice_set os i (Lower t g)) (i + 1) (Upper t g)

abbrev pub vacated_form : Form → List Owner → ℕ → List Owner
vacated_form Na4 os i = slice_set os i Free
vacated_form Napot os i = slice_set os i Free
vacated_form Pair os i = slice_set (slice_set os (i - 1) Free) i Free

abbrev pub vacated_by : Owner → List Owner → ℕ → List Owner
vacated_by Free os i = os
vacated_by (Lower t g) os i = os
vacated_by (Upper t g) os i = vacated_form (form_of g.base g.length) os i

-- The owners without the region that entry i shows: a pair is freed whole.
abbrev pub vacated : List Owner → ℕ → List Owner
vacated os i = vacated_by (owner_at os i) os i
