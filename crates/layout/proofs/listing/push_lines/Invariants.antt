use Rattle.std.proofs.Common.{◌≡◌, ◌++◌, List, ℕ, Some, string_bytes, take}
use Rattle.std.specs.List.{flat_map}
use Rattle.layout.proofs.listing.push_lines.Given as goal

abbrev pub invariant-loop-line : goal.invariant-loop-line
invariant-loop-line g l =
    (shown : g.row.T.Denot → List ℕ) → ((x : g.row.T.Denot) → g.T.Display.output x ≡ Some (shown x))
    → string_bytes l.text ≡ string_bytes l.fn.text ++ flat_map (λ x. shown x ++ l.end) (take l.line-index l.lines)
