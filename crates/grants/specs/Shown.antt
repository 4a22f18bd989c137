-- The entries of a region resolve back to it. Assumes nothing.
use Rattle.std.specs.Prelude.{◌≡◌, ℕ, ◌+◌, Bool, true}
use Rattle.access.specs.Rights.{allows, perms_of}
use Rattle.access.specs.declared.access.Kind.{Kind}
use Rattle.access.specs.declared.access.Mode.TheVariants.{User}
use Rattle.book.specs.Books.{Book}
use Rattle.table.specs.Bounds.{resolved, matching_of}
use Rattle.grants.specs.Regions.{fitting, form_of}
use Rattle.grants.specs.Images.{byte_of, address_of}
use Rattle.grants.specs.declared.region.Region.{Region}
use Rattle.grants.specs.declared.region.Form.TheVariants.{Pair}
use Rattle.grants.specs.declared.owner.Owner.TheVariants.{Lower, Upper}

-- The entry that shows a region, over a register `below`, covers the region and nothing else, and gives user mode its rights and no others.
pub record RegionShown (b : Book) (t : ℕ) (g : Region) (below : ℕ) : Type 0 where
  pub bounds : resolved (matching_of (byte_of b (Upper t g))) (address_of (Upper t g)) below ≡ (g.base, g.base + g.length)
  pub rights : (sum : Bool) (k : Kind) → b.permits (byte_of b (Upper t g)) User sum k ≡ allows (perms_of g.rights) k

-- That is so of every region in range; that of a pair stands above the lower entry.
abbrev pub RegionsShown : ℕ → Book → Type 0
RegionsShown f b =
    (t : ℕ) (g : Region) (below : ℕ) → fitting f g.base g.length ≡ true
    → (form_of g.base g.length ≡ Pair → below ≡ address_of (Lower t g)) → RegionShown b t g below
