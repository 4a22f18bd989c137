use Rattle.std.proofs.Common.{ap, ◌∙◌, arith}
use Rattle.table.specs.Registers.{with_config_at}
use Rattle.table.specs.Tables.{registers}
use Rattle.table.specs.declared.entries.Entry.{Entry}
use Rattle.table.proofs.EntryLists.{config_written}
use Rattle.table.proofs.entries.PlainTable.write_config.Goals as goal

pub returns : goal.returns
returns g c =
    let t = c.args.self.now in
    let x = c.set_config.ensures in
    config_written t.entries c.args.i _ (omega arith) t.switches (ap (λ (e : Entry). e.address) x)
    ∙ ap (λ (e : Entry). with_config_at (registers t) c.args.i e.config) x
