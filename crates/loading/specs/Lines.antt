-- The lines of a plan's owners. Assumes nothing.
use Rattle.std.specs.Prelude.{ℕ, ◌/◌, ◌%◌, ◌^◌, min, List, map, Some, None, Option}
use Rattle.std.specs.List.{filter_map, range_with_len}
use Rattle.book.specs.Books.{Book}
use Rattle.grants.specs.Owners.{owner_at}
use Rattle.grants.specs.Images.{byte_of, address_of, switch_bits}
use Rattle.grants.specs.declared.owner.Owner.{Owner}
use Rattle.grants.specs.declared.owner.Owner.TheVariants.{Free, Lower, Upper}
use Rattle.layout.specs.Lines.{listing_text}
use Rattle.layout.specs.declared.lines.EntryLine.{EntryLine}
use Rattle.layout.specs.declared.lines.SwitchLine.{SwitchLine}

-- The task of an owner.
abbrev pub owner_task : Owner → Option ℕ
owner_task Free = None
owner_task (Lower t g) = Some t
owner_task (Upper t g) = Some t

-- The line of entry n with an owner and its task: its number, its byte and its address register, and the task, which has one byte.
abbrev pub line_of_task : Book → ℕ → Owner → Option ℕ → Option EntryLine
line_of_task b n o None = None
line_of_task b n o (Some t) = Some (record { number = n; byte = byte_of b o; address = address_of o; task = t % 256 })

-- The line of entry n with an owner; a free one has none.
abbrev pub entry_line : Book → ℕ → Owner → Option EntryLine
entry_line b n o = line_of_task b n o (owner_task o)

-- The lines of all entries, rising by number.
abbrev pub entry_lines : Book → List Owner → List EntryLine
entry_lines b os = filter_map (λ n. entry_line b n (owner_at os n)) (range_with_len 0 64)

-- The line of a task: the switch bits of a selection of it, the 32 lower and the 32 higher ones.
abbrev pub switch_line : List Owner → ℕ → SwitchLine
switch_line os t = record { task = t; low = switch_bits os (Some t) % 2 ^ 32; high = switch_bits os (Some t) / 2 ^ 32 }

-- The lines of a file's tasks, rising by number; a plan has sixteen at most.
abbrev pub switch_lines : List Owner → ℕ → List SwitchLine
switch_lines os tasks = map (switch_line os) (range_with_len 0 (min tasks 16))

-- The text of all lines, for as many tasks.
abbrev pub owners_text : Book → List Owner → ℕ → List ℕ
owners_text b os tasks = listing_text (entry_lines b os) (switch_lines os tasks)
