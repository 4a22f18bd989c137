-- What a rule book means, and the laws that each one keeps. Assumes nothing.
use Rattle.std.specs.Prelude.{◌≡◌, ℕ, ◌/◌, ◌%◌, ◌<◌, Bool, true, false}
use Rattle.access.specs.Rights.{allows, perms_of}
use Rattle.access.specs.declared.access.Kind.{Kind}
use Rattle.access.specs.declared.access.Mode.{Mode}
use Rattle.access.specs.declared.access.Mode.TheVariants.{Machine, User}
use Rattle.access.specs.declared.access.Rights.{Rights}
use Rattle.book.specs.Bits.{without_a}

-- A rule book: the legal configuration bytes; what a legal byte permits, by mode, SUM and kind; what each mode may do where no entry
-- matches; and the byte for each set of rights.
pub record Book : Type 0 where
  pub legal : ℕ → Bool
  pub permits : ℕ → Mode → Bool → Kind → Bool
  pub unmatched : Mode → Bool
  pub byte_for : Rights → ℕ

-- A byte that a book holds for legal.
abbrev pub LegalByte : Book → ℕ → Type 0
LegalByte b c = (c < 256) × (b.legal c ≡ true)

pub record Laws (b : Book) : Type 0 where
  -- the A field has no say in what is legal or permitted
  pub legal_ignores_a : (c : ℕ) → c < 256 → b.legal c ≡ b.legal (without_a c)
  pub permits_ignores_a : (c : ℕ) (m : Mode) (sum : Bool) (k : Kind) → LegalByte b c → b.permits c m sum k ≡ b.permits (without_a c) m sum k
  -- zero can always be stored, and nothing can be stored in the reserved bits
  pub zero_legal : b.legal 0 ≡ true
  pub reserved_zero : (c : ℕ) → LegalByte b c → c / 32 % 4 ≡ 0
  -- machine mode is never held up; user mode needs an entry
  pub machine_permitted : (c : ℕ) (sum : Bool) (k : Kind) → LegalByte b c → b.permits c Machine sum k ≡ true
  pub machine_unmatched : b.unmatched Machine ≡ true
  pub user_unmatched : b.unmatched User ≡ false
  -- a rights set has a legal byte, its A and reserved fields clear, by which the user has those rights and no others, whatever SUM is
  pub byte_legal : (r : Rights) → LegalByte b (b.byte_for r)
  pub byte_fields_zero : (r : Rights) → b.byte_for r / 8 % 16 ≡ 0
  pub byte_permits : (r : Rights) (sum : Bool) (k : Kind) → b.permits (b.byte_for r) User sum k ≡ allows (perms_of r) k
