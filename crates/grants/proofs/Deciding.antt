-- The cases of a grant in their order. Assumes nothing.
use Rattle.std.proofs.Common.{◌≡◌, ℕ, Bool, true, false, cond, not, ltb, leb, List, [], ◌∷◌, length, Some, None, Option, is_none, refl, ap}
use Rattle.std.proofs.lemmas.Bool.{not-false}
use Rattle.access.specs.Cases.{Report, refused, first_of}
use Rattle.access.specs.declared.access.Rights.{Rights}
use Rattle.access.specs.Rights.{rights_of}
use Rattle.grants.specs.Regions.{fitting, with_rights, asked, form_of}
use Rattle.grants.specs.Refusals.{any_overlaps, formless, grant_cases}
use Rattle.grants.specs.declared.region.Region.{Region}
use Rattle.grants.specs.declared.region.Form.{Form}

-- the cases by their tests
abbrev chain : Bool → Bool → Option Rights → Bool → Bool → Bool → Bool → Option Report
chain a b o d e f x = first_of (
    (a, refused 21 []) ∷ (b, refused 22 []) ∷ (is_none o, refused 23 []) ∷ (d, refused 24 []) ∷ (e, refused 25 [])
    ∷ (f, refused 26 []) ∷ (x, refused 27 []) ∷ [])

-- a refusal that does not rest on room
early : (x : Bool) (q : Report) (a b : Bool) (o : Option Rights) (d e f : Bool) → chain a b o d e f false ≡ Some q → chain a b o d e f x ≡ Some q
early x q true b o d e f p = p
early x q false true o d e f p = p
early x q false false None d e f p = p
early x q false false (Some r) true e f p = p
early x q false false (Some r) false true f p = p
early x q false false (Some r) false false true p = p
early x q false false (Some r) false false false p = cc

-- what a grant has passed that is not refused
record Clear (a b : Bool) (o : Option Rights) (d e f x : Bool) : Type 0 where
  rights : Rights
  task : a ≡ false
  fits : b ≡ false
  set : o ≡ Some rights
  apart : d ≡ false
  form : e ≡ false
  few : f ≡ false
  room : x ≡ false

clear : (a b : Bool) (o : Option Rights) (d e f x : Bool) → chain a b o d e f x ≡ None → Clear a b o d e f x
clear true b o d e f x p = cc
clear false true o d e f x p = cc
clear false false None d e f x p = cc
clear false false (Some r) true e f x p = cc
clear false false (Some r) false true f x p = cc
clear false false (Some r) false false true x p = cc
clear false false (Some r) false false false true p = cc
clear false false (Some r) false false false false p = record { rights = r; task = refl; fits = refl; set = refl; apart = refl; form = refl; few = refl; room = refl }

module _ (f tasks : ℕ) (gs : List Region) (t b l r : ℕ) where
  -- a grant that is refused, whatever room there is
  pub grant_early : (room : Form → Bool) (q : Report) → grant_cases f tasks gs (λ _. true) t b l r ≡ Some q → grant_cases f tasks gs room t b l r ≡ Some q
  grant_early room q p =
      early (not (room (form_of b l))) q (not (ltb t tasks)) (not (fitting f b l)) (rights_of r) (any_overlaps gs b l) (formless f b l) (leb 8 (length gs)) p

  -- what an accepted grant is
  pub record Granted (room : Form → Bool) (g : Region) : Type 0 where
    pub region : asked b l r ≡ Some g
    pub base : g.base ≡ b
    pub len : g.length ≡ l
    pub fits : fitting f b l ≡ true
    pub apart : any_overlaps gs b l ≡ false
    pub form : formless f b l ≡ false
    pub has_room_lem : room (form_of b l) ≡ true

  pub granted : (room : Form → Bool) → grant_cases f tasks gs room t b l r ≡ None → (g : Region) × Granted room g
  granted room p =
      let h = clear (not (ltb t tasks)) (not (fitting f b l)) (rights_of r) (any_overlaps gs b l) (formless f b l) (leb 8 (length gs)) (not (room (form_of b l))) p in (
        record { base = b; length = l; rights = h.rights },
        record {
          region = ap (with_rights b l) h.set;
          base = refl;
          len = refl;
          fits = not-false (fitting f b l) h.fits;
          apart = h.apart;
          form = h.form;
          has_room_lem = not-false (room (form_of b l)) h.room;
        },
      )

  -- a grant that only room can refuse
  pub grant_room : (room : Form → Bool) → grant_cases f tasks gs (λ _. true) t b l r ≡ None
      → grant_cases f tasks gs room t b l r ≡ cond (not (room (form_of b l))) (Some (refused 27 [])) None
  grant_room room p =
      let h = clear (not (ltb t tasks)) (not (fitting f b l)) (rights_of r) (any_overlaps gs b l) (formless f b l) (leb 8 (length gs)) false p in
      λ i. chain (h.task i) (h.fits i) (h.set i) (h.apart i) (h.form i) (h.few i) (not (room (form_of b l)))
