use Rattle.std.proofs.Common.{length, sym, ap, ◌∙◌, arith}
use Rattle.std.proofs.lemmas.List.Elements.{All-from_get_or}
use Rattle.std.proofs.lemmas.Result.{err_from_is_err_and}
use Rattle.layout.specs.Records.{tasks_of, regions_of}
use Rattle.layout.specs.Encoding.{encoded}
use Rattle.layout.proofs.Fronts.{Byte, Bytes}
use Rattle.layout.proofs.Accepting.{accepted}
use Rattle.layout.proofs.Parting.{consecutive, all_shared}
use Rattle.layout.proofs.Whole.{headed, tells_shape, front, back, region_count_lem, tells_tasks, tells_regions, no_fault, encodes}
use Rattle.layout.proofs.layout.Layout.decode.Goals as goal

pub returns-in_err-header-clause-accepts : goal.returns-in_err-header-clause-accepts
returns-in_err-header-clause-accepts c = accepted

pub returns-in_err-check : goal.returns-in_err-check
returns-in_err-check c =
    let s = headed (rw c.in_ok-header.ensures.ok_part at c.split_first_chunk.ensures.cases) c.from-header.ensures in
    let p = err_from_is_err_and c.from_residual-in_err-check.result c.from_residual-in_err-check.ensures.1 in
    rw (p.1, p.2) (record { answer = tells_shape s _ c.in_err-check.ensures; encoding = tt; accepts = accepted })

pub returns-in_err-tasks : goal.returns-in_err-tasks
returns-in_err-tasks c =
    let s = headed (rw c.in_ok-header.ensures.ok_part at c.split_first_chunk.ensures.cases) c.from-header.ensures in
    let sound = c.in_ok-check.ensures.0 in
    let p = err_from_is_err_and c.from_residual-in_err-tasks.result c.from_residual-in_err-tasks.ensures.1 in
    rw (p.1, p.2) (record { answer = tells_tasks s sound _ _ (c.split_at.ensures.front ∙ front s sound) c.in_err-tasks.ensures; encoding = tt; accepts = accepted })

pub returns-in_err-regions : goal.returns-in_err-regions
returns-in_err-regions c =
    let s = headed (rw c.in_ok-header.ensures.ok_part at c.split_first_chunk.ensures.cases) c.from-header.ensures in
    let sound = c.in_ok-check.ensures.0 in
    let p = err_from_is_err_and c.from_residual-in_err-regions.result c.from_residual-in_err-regions.ensures.1 in
    rw (p.1, p.2) (record {
      answer = tells_regions s sound _ _ _ (c.split_at.ensures.front ∙ front s sound) (c.split_at.ensures.back ∙ back s sound) c.in_ok-tasks.ensures.0 c.in_err-regions.ensures;
      encoding = tt;
      accepts = accepted;
    })

pub invariant_of-result : goal.invariant_of-result
invariant_of-result c =
    let s = headed (rw c.in_ok-header.ensures.ok_part at c.split_first_chunk.ensures.cases) c.from-header.ensures in
    let sound = c.in_ok-check.ensures.0 in
    let T = c.in_ok-tasks.ensures in
    let R = c.in_ok-regions.ensures in
    let none = rw (← T.1) at T.0 in
    record { consecutive = consecutive _ _ none; shared = all_shared _ _ none ∙ sym (ap length (R.1 ∙ ap regions_of (c.split_at.ensures.back ∙ back s sound)) ∙ region_count_lem s sound) }

pub returns : goal.returns
returns c =
    let bytes : Bytes c.args.file.now = All-from_get_or Byte _ 0 (λ i _. omega (arith, c.type_inv.file i)) in
    let s = headed (rw c.in_ok-header.ensures.ok_part at c.split_first_chunk.ensures.cases) c.from-header.ensures in
    let sound = c.in_ok-check.ensures.0 in
    let tasks_cut = c.split_at.ensures.front ∙ front s sound in
    let regions_cut = c.split_at.ensures.back ∙ back s sound in
    let T = c.in_ok-tasks.ensures in
    let R = c.in_ok-regions.ensures in
    let tasks = T.1 ∙ ap tasks_of tasks_cut in
    let regions = R.1 ∙ ap regions_of regions_cut in
    record {
      answer = (no_fault s sound _ _ tasks_cut regions_cut T.0 R.0, (tasks, regions));
      encoding = (λ i. encoded (tasks i) (regions i)) ∙ encodes s sound _ _ bytes regions_cut R.0;
      accepts = accepted;
    }
