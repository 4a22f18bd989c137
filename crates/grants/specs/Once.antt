-- That a plan stands has one proof at most. Assumes nothing.
use mathlib.Core.HLevel.{is_prop→PathP}
use native.Mathlib.Nat.{ℕ_set}
use Rattle.std.specs.Prelude.{◌≡◌, ℕ, suc, List, [], ◌∷◌, Some, Option}
use Rattle.std.proofs.Common.{sym, ap, ◌∙◌, arith}
use Rattle.std.specs.Coded.{Coded-set, coded_ℕ, coded_list}
use base.Stored.{coded_via}
use denote.Struct.Props.{props}
use Rattle.access.specs.Rights.{rights_of, sum_of}
use Rattle.access.specs.declared.access.Rights.{Rights}
use Rattle.access.specs.declared.access.Rights.TheVariants.{R, RX, X, RW, RWX}
use Rattle.book.specs.Books.{Book}
use Rattle.table.specs.Registers.{Registers}
use Rattle.grants.specs.Owners.{owner_at}
use Rattle.grants.specs.Resolving.{Standing}
use Rattle.grants.specs.declared.region.Region.{Region}
use Rattle.grants.specs.declared.owner.Owner.{Owner}
use Rattle.grants.specs.declared.owner.Owner.TheVariants.{Free, Lower, Upper}

rights_back : (r : Rights) → rights_of (sum_of r) ≡ Some r
rights_back R = cc
rights_back RX = cc
rights_back X = cc
rights_back RW = cc
rights_back RWX = cc

-- an owner in numbers
numbers : Owner → List ℕ
numbers Free = []
numbers (Lower t g) = 0 ∷ t ∷ g.base ∷ g.length ∷ sum_of g.rights ∷ []
numbers (Upper t g) = 1 ∷ t ∷ g.base ∷ g.length ∷ sum_of g.rights ∷ []

-- regions with the same numbers are one
pub region_one : (g k : Region) → g.base ≡ k.base → g.length ≡ k.length → sum_of g.rights ≡ sum_of k.rights → g ≡ k
region_one g k b l s =
    let e : Some g.rights ≡ Some k.rights = sym (rights_back g.rights) ∙ ap rights_of s ∙ rights_back k.rights in
    let r : g.rights ≡ k.rights = cc in
    λ i. record { base = b i; length = l i; rights = r i }

numbers_one : (o u : Owner) → numbers o ≡ numbers u → o ≡ u
unfolding numbers
numbers_one Free Free e = cc
numbers_one Free (Lower t g) e = cc
numbers_one Free (Upper t g) e = cc
numbers_one (Lower t g) Free e = cc
numbers_one (Lower t g) (Lower u k) e = let r : g ≡ k = region_one g k (cc) (cc) (cc) in let q : t ≡ u = cc in cc
numbers_one (Lower t g) (Upper u k) e = cc
numbers_one (Upper t g) Free e = cc
numbers_one (Upper t g) (Lower u k) e = cc
numbers_one (Upper t g) (Upper u k) e = let r : g ≡ k = region_one g k (cc) (cc) (cc) in let q : t ≡ u = cc in cc

owner_set : IsSet Owner
owner_set = Coded-set (coded_via (coded_list coded_ℕ) numbers numbers_one)

-- the lower entry of a pair is the one below
below_once : (os : List Owner) (i t : ℕ) (g : Region) → IsProp ((j : ℕ) × (i ≡ suc j) × (owner_at os j ≡ Lower t g))
below_once os i t g x y =
    let a = x.1 in
    let b = y.1 in
    let e : x.0 ≡ y.0 = omega arith in
    λ r. (
      e r,
      is_prop→PathP (λ q. i ≡ suc (e q)) (λ q. ℕ_set i (suc (e q))) x.1 y.1 r,
      is_prop→PathP (λ q. owner_at os (e q) ≡ Lower t g) (λ q. owner_set (owner_at os (e q)) (Lower t g)) x.2 y.2 r,
    )

pub Standing-once : (f : ℕ) (b : Book) (r : Registers) (os : List Owner) (s : Option ℕ) → IsProp (Standing f b r os s)
Standing-once f b r os s = hlevel (below_once, owner_set, props)
