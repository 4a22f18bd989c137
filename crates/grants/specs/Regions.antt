-- Regions, and the form of the entries that show one. Assumes nothing.
use Rattle.std.specs.Prelude.{ℕ, zero, suc, ◌+◌, ◌-◌, ◌/◌, ◌%◌, ◌^◌, Bool, false, cond, not, ◌&&◌, ◌||◌, Some, None, Option, ◌==◌, nat_le, nat_lt}
use Rattle.access.specs.Formed.{limit}
use Rattle.access.specs.declared.access.Rights.{Rights}
use Rattle.access.specs.Rights.{rights_of}
use Rattle.grants.specs.declared.region.Region.{Region}
use Rattle.grants.specs.declared.region.Form.{Form}
use Rattle.grants.specs.declared.region.Form.TheVariants.{Na4, Napot, Pair}

-- The l bytes from b end at the limit of fields of f bits, or below.
abbrev pub in_range : ℕ → ℕ → ℕ → Bool
in_range f b l = nat_le (b + l) (limit f)

-- Base and length are multiples of 4, the length is not 0, and the end is in range.
abbrev pub fitting : ℕ → ℕ → ℕ → Bool
fitting f b l = (b % 4 == 0 && l % 4 == 0) && (not (l == 0) && in_range f b l)

abbrev pub with_rights : ℕ → ℕ → Option Rights → Option Region
with_rights b l None = None
with_rights b l (Some r) = Some (record { base = b; length = l; rights = r })

-- The region of a base, a length and the number of its rights.
abbrev pub asked : ℕ → ℕ → ℕ → Option Region
asked b l r = with_rights b l (rights_of r)

-- The number is 2 ^ k for some k below n.
unfoldable pub power_below : ℕ → ℕ → Bool
power_below zero l = false
power_below (suc n) l = l == 2 ^ n || power_below n l

abbrev pub power_of_two : ℕ → Bool
power_of_two l = power_below 64 l

-- A length of 4 takes NA4; a power of two from 8 on that divides the base takes NAPOT; any other takes a pair.
abbrev pub form_of : ℕ → ℕ → Form
form_of b l = cond (l == 4) Na4 (cond (power_of_two l && (nat_le 8 l && b % l == 0)) Napot Pair)

-- The region has a byte among the l bytes from b.
abbrev pub overlapping : Region → ℕ → ℕ → Bool
overlapping g b l = nat_lt g.base (b + l) && nat_lt b (g.base + g.length)

-- What the address register says in the entry that shows a region of a form.
abbrev pub top_address : Form → ℕ → ℕ → ℕ
top_address Na4 b l = b / 4
top_address Napot b l = b / 4 + l / 8 - 1
top_address Pair b l = (b + l) / 4

-- The A field of that entry.
abbrev pub a_of : Form → ℕ
a_of Na4 = 2
a_of Napot = 3
a_of Pair = 1
