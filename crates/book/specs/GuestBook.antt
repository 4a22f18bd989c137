-- The rule book of guest protection: one set of rights for S and U, whatever SUM is. Assumes nothing.
use Rattle.std.specs.Prelude.{ℕ, Bool, true, false, not, ◌&&◌, ◌||◌}
use Rattle.access.specs.Rights.{Perms, perms, allows}
use Rattle.access.specs.declared.access.Kind.{Kind}
use Rattle.access.specs.declared.access.Mode.{Mode}
use Rattle.access.specs.declared.access.Mode.TheVariants.{Machine, Supervisor, User}
use Rattle.book.specs.Bits.{bit}
use Rattle.book.specs.Books.{Book}
use Rattle.book.specs.SpmpBook.{reserved_clear, plain_byte}

-- No byte with bit S, and none that allows writing but not reading, is legal.
abbrev pub guest_legal : ℕ → Bool
guest_legal c = (reserved_clear c && not (bit c 7)) && (bit c 0 || not (bit c 1))

-- The rights that the three low bits spell.
abbrev pub as_set : ℕ → Perms
as_set c = perms (bit c 0) (bit c 1) (bit c 2)

abbrev pub guest_permits : ℕ → Mode → Bool → Kind → Bool
guest_permits c Machine sum k = true
guest_permits c Supervisor sum k = allows (as_set c) k
guest_permits c User sum k = allows (as_set c) k

abbrev pub guest_unmatched : Mode → Bool
guest_unmatched Machine = true
guest_unmatched Supervisor = false
guest_unmatched User = false

abbrev pub guest_book : Book
guest_book = record { legal = guest_legal; permits = guest_permits; unmatched = guest_unmatched; byte_for = plain_byte }
