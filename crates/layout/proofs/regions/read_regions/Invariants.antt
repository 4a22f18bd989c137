use Rattle.std.proofs.Common.{◌≡◌, ◌+◌, ◌*◌, map, take, drop, vec_items}
use Rattle.access.specs.Cases.{first_of}
use Rattle.layout.specs.Records.{region_at, fourth_at}
use Rattle.layout.specs.Faults.{region_cases}
use Rattle.layout.proofs.regions.read_regions.Given as goal

abbrev pub invariant-loop-i : goal.invariant-loop-i
invariant-loop-i l = record {
  read : vec_items l.regions ≡ map region_at (take l.i l.records);
  left : first_of (region_cases (l.start + 16 * l.i + 12) (map fourth_at (drop l.i l.records))) ≡ first_of (region_cases (l.start + 12) (map fourth_at l.records));
}
