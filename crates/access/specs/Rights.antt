-- Rights, and the accesses that they allow. Assumes nothing.
use Rattle.std.specs.Prelude.{◌≡◌, ℕ, Bool, true, false, cond, Option, Some, None, Result, Ok, Err, ◌==◌}
use Rattle.access.specs.declared.access.Kind.{Kind}
use Rattle.access.specs.declared.access.Kind.TheVariants.{Load, Store, Fetch}
use Rattle.access.specs.declared.access.NotASet.{NotASet}
use Rattle.access.specs.declared.access.Rights.{Rights}
use Rattle.access.specs.declared.access.Rights.TheVariants.{R, RX, X, RW, RWX}

-- Which of read, write and execute are given.
pub record Perms : Type 0 where
  pub read : Bool
  pub write : Bool
  pub exec : Bool

abbrev pub perms : Bool → Bool → Bool → Perms
perms r w x = record { read = r; write = w; exec = x }

-- A load needs read, a store write, a fetch execute.
abbrev pub allows : Perms → Kind → Bool
allows p Load = p.read
allows p Store = p.write
allows p Fetch = p.exec

-- The five sets of rights.
abbrev pub perms_of : Rights → Perms
perms_of R = perms true false false
perms_of RX = perms true false true
perms_of X = perms false false true
perms_of RW = perms true true false
perms_of RWX = perms true true true

-- The number of a set: R 1, W 2 and X 4, added.
abbrev pub sum_of : Rights → ℕ
sum_of R = 1
sum_of RX = 5
sum_of X = 4
sum_of RW = 3
sum_of RWX = 7

-- The set of rights that R 1, W 2 and X 4 add up to, if it is one of the five.
abbrev pub rights_of : ℕ → Option Rights
rights_of n = cond (n == 1) (Some R) (cond (n == 3) (Some RW) (cond (n == 4) (Some X) (cond (n == 5) (Some RX) (cond (n == 7) (Some RWX) None))))

-- What a number gives as rights.
abbrev pub RightsFrom : ℕ → Result Rights NotASet → Type 0
RightsFrom n (Ok r) = rights_of n ≡ Some r
RightsFrom n (Err _) = rights_of n ≡ None
