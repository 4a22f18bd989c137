use Rattle.std.proofs.Common.{refl}
use Rattle.layout.specs.Lines.{entry_text, switch_text}
use Rattle.layout.proofs.listing.listing_text.Goals as goal

pub returns : goal.returns
returns c =
    let entries = c.in_ok-push_lines.ensures entry_text (λ _. refl) in
    let switches = c.in_ok-push_lines-2.ensures switch_text (λ _. refl) in
    rw (switches, entries, c.new-text.ensures.bytes)
