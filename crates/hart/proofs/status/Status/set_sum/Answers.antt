use Rattle.std.proofs.Common.{◌≡◌, ℕ, ◌^◌, ◌<◌, Bool, sym, ap, ◌∙◌, subst₂, arith}
use Rattle.hart.specs.Status.{with_sum, SumAlone}
use Rattle.hart.proofs.SumBit.{set_word, cleared_word, set_alone, cleared_alone}
use Rattle.hart.proofs.status.Status.set_sum.Goals as goal
use Rattle.hart.proofs.status.Status.set_sum.Goals.{then-on, else-on}

-- the same of equal values and words
along : (word : ℕ) (on on' : Bool) (x y : ℕ) → on ≡ on' → x ≡ y → SumAlone word on' y → SumAlone word on x
along word on on' x y p q h = subst₂ (λ (s : Bool) (z : ℕ). SumAlone word s z) (sym p) (sym q) h

pub returns : goal.returns
returns c =
    let word = c.args.self.now.word in
    let fits : word < 2 ^ 32 = omega arith in
    elim c.if-on.branch [
      | then-on w ↦
          record {
            value = w.self-is ∙ set_word word ∙ ap (with_sum word) (sym w.if-on.true);
            alone = along word _ _ _ _ w.if-on.true w.self-is (set_alone word);
          }
      | else-on w ↦
          record {
            value = w.self-is ∙ cleared_word word fits ∙ ap (with_sum word) (sym w.if-on.false);
            alone = along word _ _ _ _ w.if-on.false w.self-is (cleared_alone word fits);
          }
    ]
