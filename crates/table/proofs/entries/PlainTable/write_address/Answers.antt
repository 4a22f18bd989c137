use Rattle.std.proofs.Common.{ℕ, ◌+◌, ◌^◌, ◌<◌, sym, ap, ◌∙◌, subst, arith, rules}
use Rattle.table.specs.Registers.{with_address_at}
use Rattle.table.specs.Tables.{registers}
use Rattle.table.specs.declared.entries.Entry.{Entry}
use Rattle.table.proofs.EntryLists.{addresses_set, address_written, none_written, fresh_over, kept_last, kept_above}
use Rattle.table.proofs.entries.PlainTable.write_address.Goals as goal

pub returns-then-i-lt64 : goal.returns-then-i-lt64
returns-then-i-lt64 g c =
    let t = c.args.self.now in
    let x = c.set_address.ensures in
    let y = c.refresh.ensures in
    none_written _ _ _ (search rules) t.switches (ap (λ (e : Entry). e.config) y) (ap (λ (e : Entry). e.address) y)
    ∙ address_written t.entries c.args.i _ (omega arith) t.switches (ap (λ (e : Entry). e.config) x)
    ∙ ap (λ (e : Entry). with_address_at (registers t) c.args.i e.address) x

pub returns-else-i-lt64 : goal.returns-else-i-lt64
returns-else-i-lt64 g c =
    let t = c.args.self.now in
    let x = c.set_address.ensures in
    address_written t.entries c.args.i _ (omega arith) t.switches (ap (λ (e : Entry). e.config) x)
    ∙ ap (λ (e : Entry). with_address_at (registers t) c.args.i e.address) x

pub invariant_of-self-clause-kept : goal.invariant_of-self-clause-kept
invariant_of-self-clause-kept g c =
    let t = c.args.self.now in
    let i = c.args.i in
    let x = c.set_address.ensures in
    let y = c.refresh.ensures in
    kept_above t.entries i (i + 1) _ _ t.switches (omega arith) (search rules) (fresh_over _ _ _ _ _ x c.below-below.ensures)
    (ap (λ (e : Entry). e.address) y) (fresh_over _ _ _ _ _ y (sym (ap (λ (e : Entry). e.address) x))) t.kept

pub invariant_of-self-else-i-lt64-clause-kept : goal.invariant_of-self-else-i-lt64-clause-kept
invariant_of-self-else-i-lt64-clause-kept g c =
    let t = c.args.self.now in
    kept_last t.entries c.args.i _ t.switches (search rules) (omega arith) (fresh_over _ _ _ _ _ c.set_address.ensures c.below-below.ensures) t.kept

pub invariant_of-self-clause-below : goal.invariant_of-self-clause-below
invariant_of-self-clause-below g c =
    let t = c.args.self.now in
    let i = c.args.i in
    let x = ap (λ (e : Entry). e.address) c.set_address.ensures in
    let y = ap (λ (e : Entry). e.address) c.refresh.ensures in
    let one = addresses_set g.row.F t.entries i _ t.switches (omega arith) (subst (λ (n : ℕ). n < 2 ^ g.row.F) (sym x) c.args.value.fits) t.below in
    addresses_set g.row.F _ _ _ t.switches (search rules) (subst (λ (n : ℕ). n < 2 ^ g.row.F) (sym y) (one (i + 1) (omega arith))) one
