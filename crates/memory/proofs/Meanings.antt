-- Laws of what a memory means.
use Rattle.std.proofs.Common.{◌≡◌, ℕ, ◌+◌, ◌-◌, ◌%◌, ◌^◌, ◌<◌, false, refl, ap, ◌∙◌, div-one, arith}
use Rattle.access.specs.Formed.{width_of}
use Rattle.access.specs.declared.access.Kind.{Kind}
use Rattle.access.specs.declared.access.Kind.TheVariants.{Load, Store, Fetch}
use Rattle.memory.specs.Meaning.{MemoryMeaning, MemoryLaws}
use Rattle.memory.specs.Effects.{value_at, byte_of, stored}
use Rattle.memory.proofs.Values.{value_bytes}
use Rattle.memory.proofs.Parts.{replaced_inside}

-- the value after a store at the same place: the low bytes of what was stored
pub value_stored : (m : MemoryMeaning) (a w v : ℕ) → value_at (stored m a w v).byte a w ≡ v % 256 ^ w
value_stored m a w v =
    value_bytes (stored m a w v).byte v a w 0 (λ j h.
    replaced_inside m.byte a w v (a + j) (omega arith) (omega arith) ∙ ap (byte_of v) {x = a + j - a} {y = 0 + j} (omega arith))
    ∙ ap (λ (n : ℕ). n % 256 ^ w) (div-one v)

-- no kind has the width 0
no_width : (k : Kind) → width_of k 0 ≡ false
no_width Load = refl
no_width Store = refl
no_width Fetch = refl

module _ (f : ℕ) (m : MemoryMeaning) (law : MemoryLaws f m) (k : Kind) (a w : ℕ) where
  -- an access that passes the size is not admitted
  pub refused_beyond : m.size < a + w → m.admits k a w ≡ false
  refused_beyond past = grind (arith, law.within k a w)

  -- nor is one of no bytes
  pub refused_empty : w ≡ 0 → m.admits k a w ≡ false
  refused_empty none =
      let width : width_of k w ≡ false = ap (width_of k) none ∙ no_width k in
      grind (arith, law.formed k a w, width)
