-- What can be wrong with a layout file: the cases in their order, each with its number and its byte place. Assumes nothing.
use Rattle.std.specs.Prelude.{ℕ, ◌+◌, ◌*◌, Bool, not, List, [], ◌∷◌, ◌++◌, length, Option, ◌==◌, nat_lt}
use Rattle.access.specs.Cases.{Report, refused, first_of}
use Rattle.layout.specs.Words.{word}
use Rattle.layout.specs.Records.{file_tasks, region_part, fourths_of}
use Rattle.layout.specs.declared.records.TaskRecord.{TaskRecord}

-- A refusal by its number and the place of what is wrong.
abbrev pub at : ℕ → ℕ → Report
at number place = refused number (place ∷ [])

-- The length of a file with t tasks and n regions.
abbrev pub file_length : ℕ → ℕ → ℕ
file_length t n = 16 + 8 * t + 16 * n

-- The header of a file of `len` bytes: t tasks, at most 16, whose records begin at p, and n regions, at most 64, whose records begin at q.
abbrev pub shape_cases : ℕ → ℕ → ℕ → ℕ → ℕ → List (Bool × Report)
shape_cases len t n p q =
    (nat_lt 16 t, at 62 0)
    ∷ (nat_lt 64 n, at 62 4)
    ∷ (not (p == 16), at 63 8)
    ∷ (not (q == 16 + 8 * t), at 63 12)
    ∷ (not (len == file_length t n), at 63 (file_length t n))
    ∷ []

-- The task records from the place p on, where the tasks before them have `sum` of the n regions: each begins at the region after
-- those, none takes more than are left, and none is left at the end.
abbrev pub task_cases : ℕ → ℕ → ℕ → List TaskRecord → List (Bool × Report)
task_cases n p sum [] = (not (sum == n), at 64 4) ∷ []
task_cases n p sum (t ∷ ts) =
    (not (t.first == sum), at 64 p)
    ∷ (nat_lt n (sum + t.count), at 64 (p + 4))
    ∷ task_cases n (p + 8) (sum + t.count) ts

-- The fourth words of the region records, the next of which stands at p: each is zero.
abbrev pub region_cases : ℕ → List ℕ → List (Bool × Report)
region_cases p [] = []
region_cases p (w ∷ ws) = (not (w == 0), at 65 p) ∷ region_cases (p + 16) ws

-- All of a file: a header, then its shape, then the task records, then the region records.
abbrev pub layout_cases : List ℕ → List (Bool × Report)
layout_cases f =
    (nat_lt (length f) 16, at 61 0)
    ∷ (shape_cases (length f) (word f 0) (word f 4) (word f 8) (word f 12)
    ++ (task_cases (word f 4) 16 0 (file_tasks f)
    ++ region_cases (16 + 8 * word f 0 + 12) (fourths_of (region_part f))))

-- The first that holds.
abbrev pub layout_fault : List ℕ → Option Report
layout_fault f = first_of (layout_cases f)
