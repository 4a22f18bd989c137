-- The reports of refused layout files, and what an answer says. Assumes nothing.
use Rattle.std.specs.Prelude.{◌≡◌, ℕ, Some, None, Ok, Err, Option, Result, slice_index}
use Rattle.access.specs.Cases.{Report}
use Rattle.layout.specs.Faults.{at}
use Rattle.layout.specs.declared.refusal.LayoutRefusal.{LayoutRefusal}
use Rattle.layout.specs.declared.refusal.LayoutRefusal.TheVariants.{Short, TooMany, Shape, Partition, Reserved, OutOfMemory}

-- The report of each refusal. Want of memory has none: it is no refusal of the file.
abbrev pub layout_report : LayoutRefusal → Option Report
layout_report Short = Some (at 61 0)
layout_report (TooMany place) = Some (at 62 place)
layout_report (Shape place) = Some (at 63 place)
layout_report (Partition place) = Some (at 64 place)
layout_report (Reserved place) = Some (at 65 place)
layout_report OutOfMemory = None

-- The place of a report.
abbrev pub place_of : Report → ℕ
place_of x = slice_index x.values 0

-- A refusal with a report is that of the first case that holds. One without a report is free: it can come at any file.
abbrev pub Tells : Option Report → Option Report → Type 0
Tells cases None = Unit {0}
Tells cases (Some x) = cases ≡ Some x

-- An answer: a value as it should be where no case holds, or a refusal that tells the first case that does.
abbrev pub Answers : {A : Type 0} → Option Report → (A → Type 0) → Result A LayoutRefusal → Type 0
Answers cases P (Ok v) = (cases ≡ None) × P v
Answers cases P (Err e) = Tells cases (layout_report e)
