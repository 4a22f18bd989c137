-- The laws of the SPMP book: proofs. They stand here since a ghost member `lawful` cites each, and can cite `specs` alone. Assumes nothing.
use Rattle.std.specs.Prelude.{◌≡◌, ℕ, ◌/◌, ◌%◌, ◌^◌, Bool, ◌==◌, refl}
use Rattle.std.proofs.Common.{ap, arith, lit<}
use Rattle.access.specs.Rights.{allows, perms_of}
use Rattle.access.specs.declared.access.Kind.{Kind}
use Rattle.access.specs.declared.access.Mode.{Mode}
use Rattle.access.specs.declared.access.Mode.TheVariants.{Machine, Supervisor, User}
use Rattle.access.specs.declared.access.Rights.{Rights}
use Rattle.access.specs.declared.access.Rights.TheVariants.{R, RX, X, RW, RWX}
use Rattle.book.specs.Bits.{without_a}
use Rattle.book.specs.Books.{Laws, LegalByte}
use Rattle.book.specs.SpmpBook.{spmp_book, spmp_legal, spmp_permits, plain_byte, row_of, spmp_row, Row}
use Rattle.book.specs.LegalBytes.{ignores_a, reserved_zero_lem}

same_row : (c : ℕ) → row_of c ≡ row_of (without_a c)
same_row c =
    let b0 : c / 2 ^ 0 % 2 ≡ without_a c / 2 ^ 0 % 2 = omega arith in
    let b1 : c / 2 ^ 1 % 2 ≡ without_a c / 2 ^ 1 % 2 = omega arith in
    let b2 : c / 2 ^ 2 % 2 ≡ without_a c / 2 ^ 2 % 2 = omega arith in
    let b7 : c / 2 ^ 7 % 2 ≡ without_a c / 2 ^ 7 % 2 = omega arith in
    λ i. spmp_row (b7 i == 1) (b0 i == 1) (b1 i == 1) (b2 i == 1)

same_permits : (c : ℕ) (m : Mode) (sum : Bool) (k : Kind) → spmp_permits c m sum k ≡ spmp_permits (without_a c) m sum k
same_permits c Machine sum k = refl
same_permits c Supervisor sum k = ap (λ (r : Row). allows (r.supervisor sum) k) (same_row c)
same_permits c User sum k = ap (λ (r : Row). allows r.user k) (same_row c)

pub byte_fields : (r : Rights) → plain_byte r / 8 % 16 ≡ 0
byte_fields R = refl
byte_fields RX = refl
byte_fields X = refl
byte_fields RW = refl
byte_fields RWX = refl

byte_legal_lem : (r : Rights) → LegalByte spmp_book (plain_byte r)
byte_legal_lem R = (lit< tt, refl)
byte_legal_lem RX = (lit< tt, refl)
byte_legal_lem X = (lit< tt, refl)
byte_legal_lem RW = (lit< tt, refl)
byte_legal_lem RWX = (lit< tt, refl)

byte_permits_lem : (r : Rights) (sum : Bool) (k : Kind) → spmp_permits (plain_byte r) User sum k ≡ allows (perms_of r) k
byte_permits_lem R sum k = refl
byte_permits_lem RX sum k = refl
byte_permits_lem X sum k = refl
byte_permits_lem RW sum k = refl
byte_permits_lem RWX sum k = refl

pub spmp_laws : Laws spmp_book
spmp_laws = record {
  legal_ignores_a = ignores_a spmp_legal tt;
  permits_ignores_a = λ c m sum k _. same_permits c m sum k;
  zero_legal = refl;
  reserved_zero = λ c l. reserved_zero_lem spmp_legal tt c l.0 l.1;
  machine_permitted = λ c sum k _. refl;
  machine_unmatched = refl;
  user_unmatched = refl;
  byte_legal = byte_legal_lem;
  byte_fields_zero = byte_fields;
  byte_permits = byte_permits_lem;
}
