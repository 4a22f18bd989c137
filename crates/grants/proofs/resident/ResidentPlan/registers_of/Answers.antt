use Rattle.std.proofs.Common.{sym, ap, ◌∙◌, subst}
use Rattle.table.specs.Registers.{Registers}
use Rattle.grants.specs.Images.{byte_of, address_of}
use Rattle.grants.specs.Residence.{OwnerFits}
use Rattle.grants.proofs.Showing.{region_shown}
use Rattle.grants.proofs.OwnerRegisters.{placed_fits}
use Rattle.grants.proofs.resident.ResidentPlan.registers_of.Goals as goal

pub returns : goal.returns
returns g c =
    let m = g.B.RuleBook.meaning in
    let f = g.row.F in
    let n = c.args.n in
    let p = c.args.self.now in
    let os = p.entries.owners.cells in
    let o = c.owner_of-owner.ensures in
    let byte = c.byte_of.ensures ∙ ap (byte_of m) o in
    let fits = subst (OwnerFits f) (sym o) (placed_fits f os p.stands.placed n) in
    record {
      byte = byte;
      config = byte ∙ sym (ap (λ (r : Registers). r.config n) p.stands.resident);
      address = c.address_of.ensures fits ∙ ap address_of o ∙ sym (ap (λ (r : Registers). r.address n) p.stands.resident);
      regions = region_shown f m g.met.B.RuleBook.lawful;
    }
