-- What a check of an access answers, from the registers as they stand. Assumes nothing.
use Rattle.std.specs.Prelude.{◌≡◌, ℕ, ◌+◌, ◌<◌, ◌≤◌, Bool, true, not, ◌&&◌, Some, None, Ok, Err, MatchBool, Option, Result, ◌==◌, nat_lt}
use Rattle.access.specs.Cases.{Report}
use Rattle.access.specs.Formed.{ill_formed}
use Rattle.access.specs.Refusals.{report_of, stopped}
use Rattle.access.specs.declared.access.Kind.{Kind}
use Rattle.access.specs.declared.access.Mode.{Mode}
use Rattle.access.specs.declared.access.Mode.TheVariants.{Machine, Supervisor, User}
use Rattle.access.specs.declared.refusal.Refusal.{Refusal}
use Rattle.book.specs.Bits.{bit, a_field}
use Rattle.book.specs.Books.{Book}
use Rattle.table.specs.Registers.{Registers, bounds_at}

-- Some byte of an access of w bytes at a lies within the bounds b.
abbrev pub AnyByte : ℕ × ℕ → ℕ → ℕ → Type 0
AnyByte b a w = (x : ℕ) × ((a ≤ x) × (x < a + w)) × ((b.0 ≤ x) × (x < b.1))

-- Every byte of the access does.
abbrev pub EveryByte : ℕ × ℕ → ℕ → ℕ → Type 0
EveryByte b a w = (x : ℕ) → a ≤ x → x < a + w → (b.0 ≤ x) × (x < b.1)

-- An active entry is switched on and not OFF.
abbrev pub active : Registers → ℕ → Bool
active r i = bit r.switch i && not (a_field (r.config i) == 0)

-- Entry i is active and holds some byte of the access.
abbrev pub Holds : Registers → ℕ → ℕ → ℕ → Type 0
Holds r i a w = (active r i ≡ true) × AnyByte (bounds_at r i) a w

-- The deciding entry: the lowest-numbered that is active and holds some byte, or 64 where none does.
abbrev pub Deciding : Registers → ℕ → ℕ → ℕ → Type 0
Deciding r a w e = (e ≤ 64) × ((i : ℕ) → i < e → Holds r i a w → ⊥) × (e < 64 → Holds r e a w)

-- The number of the deciding entry, 64 for none.
abbrev pub entry_number : Option ℕ → ℕ
entry_number (Some i) = i
entry_number None = 64

-- What the deciding entry permits: nothing unless it holds all of the access, and then what the book reads in its configuration. Where no
-- entry decides, the book has an answer of its own.
abbrev pub Permitted : Book → Registers → ℕ → Mode → Bool → Kind → ℕ → ℕ → Type 0
Permitted b r e m sum k a w = MatchBool (nat_lt e 64) (EveryByte (bounds_at r e) a w × (b.permits (r.config e) m sum k ≡ true)) (b.unmatched m ≡ true)

-- The table passes an access with entry e.
abbrev pub Passes : Book → Registers → Mode → Bool → Kind → ℕ → ℕ → ℕ → Type 0
Passes b r Machine sum k a w e = e ≡ 64
Passes b r Supervisor sum k a w e = Deciding r a w e × Permitted b r e Supervisor sum k a w
Passes b r User sum k a w e = Deciding r a w e × Permitted b r e User sum k a w

-- The table stops an access by entry e.
abbrev pub Stops : Book → Registers → Mode → Bool → Kind → ℕ → ℕ → ℕ → Type 0
Stops b r Machine sum k a w e = ⊥
Stops b r Supervisor sum k a w e = Deciding r a w e × (Permitted b r e Supervisor sum k a w → ⊥)
Stops b r User sum k a w e = Deciding r a w e × (Permitted b r e User sum k a w → ⊥)

module _ (b : Book) (r : Registers) (m : Mode) (sum : Bool) (k : Kind) (a w : ℕ) where
  -- After what is wrong with the access itself, if anything is: the table passes it with an entry.
  abbrev pub PassesWith : Option Report → ℕ → Type 0
  PassesWith (Some x) e = ⊥
  PassesWith None e = Passes b r m sum k a w e

  -- An access is refused for what is wrong with it; or else the table stops it, with 51, its cause, the address and the deciding entry.
  abbrev pub RefusedAs : Option Report → Report → Type 0
  RefusedAs (Some x) y = y ≡ x
  RefusedAs None y = (e : ℕ) × Stops b r m sum k a w e × (y ≡ stopped k a e)

-- The answer of a check: 41, 42, then the table.
abbrev pub Checked : ℕ → Book → Registers → Mode → Bool → Kind → ℕ → ℕ → Result ℕ Refusal → Type 0
Checked f b r m sum k a w (Ok e) = PassesWith b r m sum k a w (ill_formed f k a w) e
Checked f b r m sum k a w (Err x) = RefusedAs b r m sum k a w (ill_formed f k a w) (report_of x)

-- A check has one answer, so the verdict follows from the registers alone.
abbrev pub OneAnswer : ℕ → Book → Type 0
OneAnswer f b =
    (r : Registers) (m : Mode) (sum : Bool) (k : Kind) (a w : ℕ) (x y : Result ℕ Refusal)
    → Checked f b r m sum k a w x → Checked f b r m sum k a w y → x ≡ y
