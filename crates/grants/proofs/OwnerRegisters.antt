-- Registers written for an owner. Assumes nothing.
use Rattle.std.proofs.Common.{◌≡◌, ℕ, suc, ◌+◌, ◌^◌, ◌<◌, true, not, ◌&&◌, eqb, ltb, List, [], length, set, replicate, Some, None, Ok, Err, Option, Result, sym, refl, ap, ◌∙◌, ⊎_elim, mod-eq_of_lt, arith}
use mathlib.Core.Path.{fun_ext}
use Rattle.std.proofs.lemmas.Nat.{pow_pos}
use Rattle.std.proofs.lemmas.List.{get_or-set_same, get_or-set_other, get_or_past, get_or-replicate, length-replicate}
use Rattle.std.proofs.lemmas.Bool.{cases_eq, cases_lt, cases_Bool, cond-true, cond-false, eq-eqb, ne_eqb, lt-ltb, eqb-false, both_ways, and_from}
use Rattle.access.specs.Cases.{refused, Does}
use Rattle.access.specs.Formed.{limit}
use Rattle.book.specs.Books.{Book, Laws}
use Rattle.table.specs.Registers.{Registers, put, with_switch, zeros}
use Rattle.table.specs.RegisterCalls.{kept_byte, entry_written, register_report, no_register}
use Rattle.table.specs.declared.refusal.RegisterRefusal.{RegisterRefusal}
use Rattle.grants.specs.Regions.{form_of, a_of}
use Rattle.grants.specs.Owners.{owner_at}
use Rattle.grants.specs.Images.{byte_of, address_of, switched_on, switch_bits, image}
use Rattle.grants.specs.Refusals.{is_pair}
use Rattle.grants.specs.Residence.{Placeable, OwnerFits, EntriesShow}
use Rattle.grants.specs.Resolving.{Placed}
use Rattle.grants.specs.declared.region.Region.{Region}
use Rattle.grants.specs.declared.region.Form.TheVariants.{Pair}
use Rattle.grants.specs.declared.owner.Owner.{Owner}
use Rattle.grants.specs.declared.owner.Owner.TheVariants.{Free, Lower, Upper}
use Rattle.grants.proofs.Switches.{bits_none}
use Rattle.grants.proofs.Bytes.{byte_kept, zero_kept}
use Rattle.grants.proofs.Resolution.{fits_from, top_fits, base_fits}
use Rattle.grants.proofs.Showing.{a_below}

pub owner_kept : (b : Book) → Laws b → (o : Owner) (old : ℕ) → kept_byte b old (byte_of b o) ≡ byte_of b o
owner_kept b l Free old = zero_kept b l old
owner_kept b l (Lower t g) old = zero_kept b l old
owner_kept b l (Upper t g) old = byte_kept b l g.rights (a_of (form_of g.base g.length)) (a_below (form_of g.base g.length)) old

-- ---- the addresses fit their registers

pair_inside : (f : ℕ) (g : Region) → Placeable f g → form_of g.base g.length ≡ Pair → g.base + g.length < limit f
pair_inside f g p e =
    let fits = fits_from f g.base g.length p.0 in
    let k = fits.end in
    let ends = g.base + g.length in
    let pair : is_pair (form_of g.base g.length) ≡ true = ap is_pair e in
    ⊎_elim
    (λ t. absurd (both_ways (eqb ends (limit f) && is_pair (form_of g.base g.length)) p.1 (and_from (eqb ends (limit f)) (is_pair (form_of g.base g.length)) t pair)))
    (λ d. let n = eqb-false ends (limit f) d in ⊎_elim (λ h. h) (λ h. absurd (n (omega arith))) (cases_lt ends (limit f)))
    (cases_Bool (eqb ends (limit f)))

pub address_fits : (f : ℕ) (o : Owner) → OwnerFits f o → address_of o < 2 ^ f
address_fits f Free p = pow_pos f
address_fits f (Lower t g) p = base_fits f g.base g.length (fits_from f g.base g.length p.0)
address_fits f (Upper t g) p =
    top_fits f g.base g.length (fits_from f g.base g.length p.0) (form_of g.base g.length) refl (pair_inside f g p)

pub placed_fits : (f : ℕ) (os : List Owner) → Placed f os → (i : ℕ) → OwnerFits f (owner_at os i)
placed_fits f os p i = go (owner_at os i) refl
  where
    go : (o : Owner) → owner_at os i ≡ o → OwnerFits f o
    go Free e = tt
    go (Lower t g) e = (p.uppers (suc i) t g (p.lowers i t g e).0).0
    go (Upper t g) e = (p.uppers i t g e).0

-- ---- one entry

-- a function of the owners after one is set
put_owner : (h : Owner → ℕ) (os : List Owner) (i : ℕ) (o : Owner) → i < length os → (k : ℕ) → put (λ x. h (owner_at os x)) i (h o) k ≡ h (owner_at (set os i o) k)
put_owner h os i o l k = ⊎_elim
    (λ e. cond-true (eqb k i) (h o) (h (owner_at os k)) (eq-eqb k i e) ∙ sym (ap h (ap (λ (x : ℕ). owner_at (set os i o) x) e ∙ get_or-set_same os i o Free l)))
    (λ n. cond-false (eqb k i) (h o) (h (owner_at os k)) (ne_eqb k i n) ∙ sym (ap h (get_or-set_other os i k o Free n)))
    (cases_eq k i)

pub written_owner : (f : ℕ) (b : Book) → Laws b → (r r' : Registers) (os : List Owner) (i : ℕ) (o : Owner) → i < length os → OwnerFits f o
    → r' ≡ entry_written f b r i (byte_of b o) (address_of o) → EntriesShow b r os → EntriesShow b r' (set os i o)
written_owner f b l r r' os i o h fit e s = record {
  configs = ap (λ (x : Registers). x.config) e ∙ ap (λ (v : ℕ). put r.config i v) (owner_kept b l o (r.config i))
      ∙ ap (λ (c : ℕ → ℕ). put c i (byte_of b o)) s.configs ∙ fun_ext (put_owner (byte_of b) os i o h);
  addresses = ap (λ (x : Registers). x.address) e ∙ ap (put r.address i) (mod-eq_of_lt (address_fits f o fit))
      ∙ ap (λ (c : ℕ → ℕ). put c i (address_of o)) s.addresses ∙ fun_ext (put_owner address_of os i o h);
}

-- a write to a register that is there is made
pub write_made : (n i : ℕ) (P Q : Type 0) (r : Result (Unit {0}) RegisterRefusal) → i < n → Does register_report (no_register n i) (λ _. P) Q r → P
write_made n i P Q (Ok _) h w = w.1
write_made n i P Q (Err e) h w = let z = sym (cond-false (not (ltb i n)) (Some (refused 31 [])) None (ap not (lt-ltb i n h))) ∙ w.0 in cc

-- ---- the switch bits

module _ (os : List Owner) (s : Option ℕ) where
  pub switched : (b : Book) (r r' : Registers) → EntriesShow b r os → r' ≡ with_switch r (switch_bits os s) → r' ≡ image b os s
  switched b r r' e q = q ∙ (λ i. record { config = e.configs i; address = e.addresses i; switch = switch_bits os s })

  pub entries_of_image : (b : Book) (r : Registers) → r ≡ image b os s → EntriesShow b r os
  entries_of_image b r e = record { configs = ap (λ (x : Registers). x.config) e; addresses = ap (λ (x : Registers). x.address) e }

-- ---- no owners

pub all_free : (i : ℕ) → owner_at (replicate 64 Free) i ≡ Free
all_free i = ⊎_elim (λ q. get_or-replicate 64 i Free Free q) (λ q. get_or_past (replicate 64 Free) i Free (omega (arith, length-replicate 64 Free))) (cases_lt i 64)

pub zero_image : (b : Book) (s : Option ℕ) → zeros ≡ image b (replicate 64 Free) s
zero_image b s = λ j. record {
  config = fun_ext (λ i. sym (ap (byte_of b) (all_free i))) j;
  address = fun_ext (λ i. sym (ap address_of (all_free i))) j;
  switch = sym (bits_none (λ k. switched_on s (owner_at (replicate 64 Free) k)) 64 (λ k _. ap (switched_on s) (all_free k))) j;
}
