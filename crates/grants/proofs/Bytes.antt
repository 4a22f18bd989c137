-- The byte of a region's entry. Assumes nothing.
use Rattle.std.proofs.Common.{◌≡◌, ℕ, ◌+◌, ◌*◌, ◌<◌, Bool, true, ap, ◌∙◌, arith}
use Rattle.std.proofs.lemmas.Bool.{cond-true}
use Rattle.access.specs.Rights.{allows, perms_of}
use Rattle.book.specs.Books.{Book, Laws}
use Rattle.book.specs.Bits.{a_field, without_a, without_reserved}
use Rattle.table.specs.RegisterCalls.{kept_byte}
use Rattle.access.specs.declared.access.Kind.{Kind}
use Rattle.access.specs.declared.access.Mode.TheVariants.{User}
use Rattle.access.specs.declared.access.Rights.{Rights}

module _ (b : Book) (l : Laws b) (r : Rights) (a : ℕ) (h : a < 4) where
  byte_fits : b.byte_for r + 8 * a < 256
  byte_fits = let z = l.byte_fields_zero r in let f = (l.byte_legal r).0 in omega arith

  -- A is put in, and nothing else changes
  pub byte_field : a_field (b.byte_for r + 8 * a) ≡ a
  byte_field = let z = l.byte_fields_zero r in omega arith

  byte_rest : without_a (b.byte_for r + 8 * a) ≡ b.byte_for r
  byte_rest = let z = l.byte_fields_zero r in omega arith

  byte_legal_lem : b.legal (b.byte_for r + 8 * a) ≡ true
  byte_legal_lem = l.legal_ignores_a (b.byte_for r + 8 * a) byte_fits ∙ ap b.legal byte_rest ∙ (l.byte_legal r).1

  pub byte_permits_lem : (sum : Bool) (k : Kind) → b.permits (b.byte_for r + 8 * a) User sum k ≡ allows (perms_of r) k
  byte_permits_lem sum k =
      l.permits_ignores_a (b.byte_for r + 8 * a) User sum k (byte_fits, byte_legal_lem) ∙ ap (λ (x : ℕ). b.permits x User sum k) byte_rest ∙ l.byte_permits r sum k

  pub byte_kept : (old : ℕ) → kept_byte b old (b.byte_for r + 8 * a) ≡ b.byte_for r + 8 * a
  byte_kept old =
      let z = l.byte_fields_zero r in
      let e : without_reserved (b.byte_for r + 8 * a) ≡ b.byte_for r + 8 * a = omega arith in
      cond-true (b.legal (without_reserved (b.byte_for r + 8 * a))) _ old (ap b.legal e ∙ byte_legal_lem) ∙ e

pub zero_kept : (b : Book) → Laws b → (old : ℕ) → kept_byte b old 0 ≡ 0
zero_kept b l old = cond-true (b.legal 0) 0 old l.zero_legal
