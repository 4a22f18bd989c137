use Rattle.std.proofs.Common.{◌≡◌, ◌+◌, ◌*◌, ◌≤◌, map, take, drop, vec_items}
use Rattle.access.specs.Cases.{first_of}
use Rattle.layout.specs.Records.{task_at}
use Rattle.layout.specs.Faults.{task_cases}
use Rattle.layout.proofs.tasks.read_tasks.Given as goal

abbrev pub invariant-loop-i : goal.invariant-loop-i
invariant-loop-i l = record {
  sum_fits : l.sum ≤ l.regions;
  read : vec_items l.tasks ≡ map task_at (take l.i l.records);
  left : first_of (task_cases l.regions (16 + 8 * l.i) l.sum (map task_at (drop l.i l.records))) ≡ first_of (task_cases l.regions 16 0 (map task_at l.records));
}
