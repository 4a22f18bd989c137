use Rattle.std.proofs.Common.{List, ℕ, ◌+◌, ◌*◌, ◌^◌, get_or, ap, ◌∙◌}
use Rattle.std.proofs.lemmas.List.{get_or-take}
use Rattle.table.specs.Registers.{with_switch}
use Rattle.table.specs.Tables.{regs}
use Rattle.table.specs.Contexts.{words_of}
use Rattle.table.proofs.Contexts.{long_enough, restored_same}
use Rattle.table.proofs.Legality.{comes_back}
use Rattle.table.proofs.context.Table+B+32.restore.Goals as goal

pub returns-clause-written : goal.returns-clause-written
returns-clause-written g c =
    let buffer = c.args.buffer.now in
    let first = c.in-Some.ensures.cases in
    let r = regs c.args.self.now in
    let word = words_of c.in-Some.words.now in
    let e = c.restore_configs.ensures r 64 c.restore_addresses.ensures in (
      long_enough buffer first.enough,
      c.set_switches.ensures
          ∙ (λ i. with_switch (e i) (word 80 + word 81 * 2 ^ 32))
          ∙ restored_same g.B.RuleBook.meaning r word (words_of buffer) (λ k h. ap (λ (ws : List ℕ). get_or ws k 0) first.same ∙ get_or-take 82 buffer k 0 h),
    )

pub returns-clause-back : goal.returns-clause-back
returns-clause-back g c = comes_back g.B.RuleBook.meaning g.met.B.RuleBook.lawful

pub returns-in_default-clause-back : goal.returns-in_default-clause-back
returns-in_default-clause-back g c = comes_back g.B.RuleBook.meaning g.met.B.RuleBook.lawful
