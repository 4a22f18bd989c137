-- Lines of owners, one after the other.
use Rattle.std.proofs.Common.{◌≡◌, ℕ, ◌%◌, ◌^◌, ◌<◌, Some, Option, ap, ◌∙◌, mod-eq_of_lt}
use Rattle.book.specs.Books.{Book}
use Rattle.grants.specs.Images.{byte_of, address_of}
use Rattle.grants.specs.declared.owner.Owner.{Owner}
use Rattle.layout.specs.declared.lines.EntryLine.{EntryLine}
use Rattle.loading.specs.Lines.{owner_task, line_of_task, entry_line}

abbrev line : ℕ → ℕ → ℕ → ℕ → Option EntryLine
line n x a t = Some (record { number = n; byte = x; address = a; task = t % 256 })

-- A line with the byte and the address register of an owner is the line of its entry.
pub line_is : (b : Book) (n : ℕ) (o : Owner) (t x a : ℕ) → Some t ≡ owner_task o → x ≡ byte_of b o → a ≡ address_of o → address_of o < 2 ^ 32
    → line n x (a % 2 ^ 32) t ≡ entry_line b n o
line_is b n o t x a e p q h =
    ap (λ (y : ℕ). line n y (a % 2 ^ 32) t) p
    ∙ ap (λ (y : ℕ). line n (byte_of b o) y t) (ap (λ (y : ℕ). y % 2 ^ 32) q ∙ mod-eq_of_lt h)
    ∙ ap (λ (s : Option ℕ). line_of_task b n o s) e
