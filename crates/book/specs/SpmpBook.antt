-- The rule book of S-mode physical memory protection: a row for each value of S, R, W and X. Assumes nothing.
use Rattle.std.specs.Prelude.{ℕ, Bool, true, false, cond, not, ◌&&◌}
use Rattle.access.specs.Rights.{Perms, perms, allows, sum_of}
use Rattle.access.specs.declared.access.Kind.{Kind}
use Rattle.access.specs.declared.access.Mode.{Mode}
use Rattle.access.specs.declared.access.Mode.TheVariants.{Machine, Supervisor, User}
use Rattle.access.specs.declared.access.Rights.{Rights}
use Rattle.book.specs.Bits.{bit}
use Rattle.book.specs.Books.{Book}

-- A row of the permission table: whether its bytes are legal, and what they give the supervisor, by SUM, and the user.
pub record Row : Type 0 where
  pub allowed : Bool
  pub supervisor : Bool → Perms
  pub user : Perms

abbrev pub nothing : Perms
nothing = perms false false false

-- A rule for user memory: the bits are the user's rights. The supervisor shares them while SUM is set, but may never execute there.
abbrev pub user_rule : Bool → Bool → Bool → Row
user_rule r w x = record { allowed = true; supervisor = λ sum. cond sum (perms r w false) nothing; user = perms r w x }

-- A rule that gives the supervisor s and the user u, whatever SUM is.
abbrev pub gives : Perms → Perms → Row
gives s u = record { allowed = true; supervisor = λ _. s; user = u }

-- A rule for supervisor memory: the supervisor has R, W and X as set, the user nothing.
abbrev pub supervisor_rule : Bool → Bool → Bool → Row
supervisor_rule r w x = gives (perms r w x) nothing

abbrev pub not_legal : Row
not_legal = record { allowed = false; supervisor = λ _. nothing; user = nothing }

-- The row of S R W X.
abbrev pub spmp_row : Bool → Bool → Bool → Bool → Row
spmp_row false false false false = gives nothing nothing
spmp_row false false false true = user_rule false false true
spmp_row false true false false = user_rule true false false
spmp_row false true false true = user_rule true false true
spmp_row false true true false = user_rule true true false
spmp_row false true true true = user_rule true true true
spmp_row false false true false = gives (perms true true false) (perms true false false)
spmp_row false false true true = gives (perms true true false) (perms true true false)
spmp_row true false false false = not_legal
spmp_row true false false true = supervisor_rule false false true
spmp_row true true false false = supervisor_rule true false false
spmp_row true true false true = supervisor_rule true false true
spmp_row true true true false = supervisor_rule true true false
spmp_row true false true false = gives (perms false false true) (perms false false true)
spmp_row true false true true = gives (perms true false true) (perms false false true)
spmp_row true true true true = gives (perms true false false) (perms true false false)

abbrev pub row_of : ℕ → Row
row_of c = spmp_row (bit c 7) (bit c 0) (bit c 1) (bit c 2)

abbrev pub reserved_clear : ℕ → Bool
reserved_clear c = not (bit c 5) && not (bit c 6)

abbrev pub spmp_legal : ℕ → Bool
spmp_legal c = reserved_clear c && (row_of c).allowed

abbrev pub spmp_permits : ℕ → Mode → Bool → Kind → Bool
spmp_permits c Machine sum k = true
spmp_permits c Supervisor sum k = allows ((row_of c).supervisor sum) k
spmp_permits c User sum k = allows (row_of c).user k

abbrev pub spmp_unmatched : Mode → Bool
spmp_unmatched Machine = true
spmp_unmatched Supervisor = true
spmp_unmatched User = false

-- A rights set spelled in the three low bits, with S clear.
abbrev pub plain_byte : Rights → ℕ
plain_byte r = sum_of r

abbrev pub spmp_book : Book
spmp_book = record { legal = spmp_legal; permits = spmp_permits; unmatched = spmp_unmatched; byte_for = plain_byte }
