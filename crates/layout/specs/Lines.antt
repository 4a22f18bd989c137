-- The text of the lines that are printed of a layout. Assumes nothing.
use Rattle.std.specs.Prelude.{ℕ, List, ◌++◌, codes, decimal}
use Rattle.std.specs.List.{flat_map}
use Rattle.text.specs.Digits.{digits}
use Rattle.access.specs.Cases.{Report}
use Rattle.layout.specs.Refusals.{place_of}
use Rattle.layout.specs.declared.lines.EntryLine.{EntryLine}
use Rattle.layout.specs.declared.lines.SwitchLine.{SwitchLine}
use Rattle.layout.specs.declared.lines.RefusalLine.{RefusalLine}
use Rattle.layout.specs.declared.lines.RefusalLine.TheVariants.{AtPlace, OfRegion}

-- Two decimal digits, and k hexadecimal ones.
abbrev pub dec2 : ℕ → List ℕ
dec2 n = digits 10 2 n

abbrev pub hex : ℕ → ℕ → List ℕ
hex k n = digits 16 k n

-- An entry: its number, its configuration byte, its address register and its task.
abbrev pub entry_text : EntryLine → List ℕ
entry_text x =
    codes "entry " ++ (dec2 x.number ++ (codes " " ++ (hex 2 x.byte ++ (codes " " ++ (hex 8 x.address ++ (codes " " ++ dec2 x.task))))))

-- A task and its two switch words, the lower entries first.
abbrev pub switch_text : SwitchLine → List ℕ
switch_text x = codes "switch " ++ (dec2 x.task ++ (codes " " ++ (hex 8 x.low ++ (codes " " ++ hex 8 x.high))))

-- A refusal: its number, and the byte place in the file, in as many digits as it has, or the task and the region.
abbrev pub refusal_text : RefusalLine → List ℕ
refusal_text (AtPlace number place) = codes "refused " ++ (dec2 number ++ (codes " at " ++ decimal place))
refusal_text (OfRegion number task region) =
    codes "refused " ++ (dec2 number ++ (codes " task " ++ (dec2 task ++ (codes " region " ++ dec2 region))))

-- The line of a report that carries a place.
abbrev pub line_of : Report → RefusalLine
line_of x = AtPlace x.number (place_of x)

-- A line feed after each line; the entries first, then the tasks.
abbrev pub listing_text : List EntryLine → List SwitchLine → List ℕ
listing_text es ss = flat_map (λ e. entry_text e ++ codes "\n") es ++ flat_map (λ s. switch_text s ++ codes "\n") ss
