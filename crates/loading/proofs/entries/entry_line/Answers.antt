use Rattle.std.proofs.Common.{ap, ◌∙◌}
use Rattle.table.specs.Registers.{Registers}
use Rattle.grants.specs.Owners.{owner_at}
use Rattle.grants.specs.Standing.{owners_of}
use Rattle.grants.proofs.OwnerRegisters.{address_fits, placed_fits}
use Rattle.loading.specs.Lines.{owner_task}
use Rattle.loading.proofs.Listed.{line_is}
use Rattle.loading.proofs.entries.entry_line.Goals as goal

pub returns : goal.returns
returns g c =
    let p = c.args.plan.now in
    let os = owners_of p in
    let n = c.args.n in
    let e = c.registers_of-byte.ensures in
    line_is g.B.RuleBook.meaning n (owner_at os n) c.in_ok-task.task c.registers_of-byte.result.0 c.registers_of-byte.result.1
    (c.in_ok-task.ensures ∙ ap owner_task c.owner_of.ensures) e.byte (e.address ∙ ap (λ (r : Registers). r.address n) p.stands.resident)
    (address_fits 32 (owner_at os n) (placed_fits 32 os p.stands.placed n))
