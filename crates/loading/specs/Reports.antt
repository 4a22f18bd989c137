-- What is printed of a layout file. Assumes nothing.
use Rattle.std.specs.Prelude.{◌≡◌, ℕ, ◌%◌, ◌≤◌, List, [], ◌++◌, length, take, Some, None, codes, Option}
use Rattle.access.specs.Cases.{Report}
use Rattle.book.specs.SpmpBook.{spmp_book}
use Rattle.grants.specs.ResidentMeaning.{owners_after, resident_terms}
use Rattle.layout.specs.Faults.{layout_fault}
use Rattle.layout.specs.Records.{file_tasks, file_regions}
use Rattle.layout.specs.Lines.{refusal_text, line_of}
use Rattle.layout.specs.declared.lines.RefusalLine.{RefusalLine}
use Rattle.layout.specs.declared.lines.RefusalLine.TheVariants.{OfRegion}
use Rattle.layout.specs.declared.records.TaskRecord.{TaskRecord}
use Rattle.layout.specs.declared.records.RegionRecord.{RegionRecord}
use Rattle.loading.specs.Grants.{grants_of}
use Rattle.loading.specs.Played.{RefusedGrant, Outcome, played}
use Rattle.loading.specs.Lines.{owners_text}

-- The line of a refused grant. (Tasks and regions of a file are numbered far below 256.)
abbrev pub region_line : RefusedGrant → RefusalLine
region_line x = OfRegion x.report.number (x.task % 256) (x.region % 256)

-- A refusal, and a line feed.
abbrev pub line_text : RefusalLine → List ℕ
line_text x = refusal_text x ++ codes "\n"

-- The refused grant, or else the listing of the plan for n tasks after these calls.
abbrev pub outcome_text : ℕ → Outcome → Option RefusedGrant → List ℕ
outcome_text n o (Some x) = line_text (region_line x)
outcome_text n o None = owners_text spmp_book (owners_after 32 o.calls) n

-- The outcome of a layout's grants on a new plan of the SPMP book.
abbrev pub granted_outcome : List TaskRecord → List RegionRecord → Outcome
granted_outcome ts rs = played 32 (resident_terms 32) [] (grants_of ts rs)

abbrev pub granted_text : List TaskRecord → List RegionRecord → List ℕ
granted_text ts rs = outcome_text (length ts) (granted_outcome ts rs) (granted_outcome ts rs).refusal

-- The fault of the file, or else what its grants lead to.
abbrev pub fault_text : Option Report → List ℕ → List ℕ
fault_text (Some x) text = line_text (line_of x)
fault_text None text = text

abbrev pub report_text : List ℕ → List ℕ
report_text f = fault_text (layout_fault f) (granted_text (file_tasks f) (file_regions f))

-- No layout has more than 1168 bytes, so of a file only the first 1169 matter.
abbrev pub LongFiles : Type 0
LongFiles = (f : List ℕ) → 1169 ≤ length f → report_text f ≡ report_text (take 1169 f)
