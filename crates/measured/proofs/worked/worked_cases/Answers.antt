use Rattle.std.proofs.Common.{refl, lit≤}
use Rattle.table.specs.Bounds.{resolved, trailing_ones}
use Rattle.grants.proofs.Worked.{worked_grants, worked_layout}
use Rattle.measured.proofs.worked.worked_cases.Goals as goal

pub returns : goal.returns
unfolding resolved trailing_ones
returns c = record {
  cases = record {
    page = refl;
    half = refl;
    all = refl;
    byte_stays = refl;
    user_store = refl;
    user_load = refl;
    supervisor_store = refl;
    last_load = (refl, lit≤ tt);
    last_accepted = refl;
    past_the_end = refl;
    grants = worked_grants;
    layout = worked_layout;
  };
  page = c.resolve.ensures.value;
}
