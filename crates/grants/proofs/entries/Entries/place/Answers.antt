use Rattle.std.proofs.Common.{◌∙◌, rules}
use Rattle.table.specs.Tables.{regs}
use Rattle.table.specs.RegisterCalls.{entry_written}
use Rattle.grants.proofs.OwnerRegisters.{written_owner, write_made}
use Rattle.grants.proofs.entries.Entries.place.Goals as goal

pub invariant_of-self : goal.invariant_of-self
invariant_of-self g c =
    let m = g.B.RuleBook.meaning in
    let f = g.row.F in
    let p = c.args.self.now in
    let i = c.args.i in
    let fits = c.requires.fits in
    let r = regs p.table in
    let w = write_made 64 i _ _ c.write_entry.result c.requires.entry c.write_entry.ensures
    ∙ (λ j. entry_written f m r i (c.byte_of-byte.ensures j) (c.address_of-address.ensures fits j)) in
    record { shown = written_owner f m g.met.B.RuleBook.lawful r _ p.owners.cells i c.args.owner (search rules) fits w p.shown }
