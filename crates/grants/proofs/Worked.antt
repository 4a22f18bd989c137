-- The worked cases hold. Assumes nothing.
use Rattle.std.proofs.Common.{refl}
use Rattle.grants.specs.Regions.{power_below}
use Rattle.grants.specs.Owners.{held_below, lowest}
use Rattle.grants.specs.Images.{bits_below}
use Rattle.grants.specs.ResidentMeaning.{owners_after}
use Rattle.grants.specs.Worked.{WorkedGrants, WorkedLayout}

pub worked_grants : WorkedGrants
unfolding power_below
worked_grants = record { granted = refl; at_limit = refl }

pub worked_layout : WorkedLayout
unfolding power_below held_below lowest bits_below owners_after
worked_layout = record { entry0 = refl; entry1 = refl; entry2 = refl; entry3 = refl; free4 = refl; switches0 = refl; switches1 = refl }
