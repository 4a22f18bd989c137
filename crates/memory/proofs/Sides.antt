-- An access to a pair of memories is one to its side.
use Rattle.std.proofs.Common.{◌≡◌, ℕ, ◌+◌, ◌-◌, ◌≤◌, Some, ap, arith}
use Rattle.std.proofs.lemmas.Bool.Decides.{nat_tests}
use Rattle.access.specs.declared.access.Kind.{Kind}
use Rattle.memory.specs.declared.side.Side.TheVariants.{First, Second}
use Rattle.memory.specs.Meaning.{MemoryMeaning}
use Rattle.memory.specs.Effects.{value_at, byte_of, stored, written, read_answer}
use Rattle.memory.specs.Pair.{pair_meaning}
use Rattle.memory.specs.Side.{Goes}
use Rattle.memory.proofs.Values.{value_same}

module _ (f : ℕ) (m n : MemoryMeaning) (a w : ℕ) where
  value_first : a + w ≤ m.size → value_at m.byte a w ≡ value_at (pair_meaning f m n).byte a w
  value_first inside = value_same m.byte (pair_meaning f m n).byte a a w (λ i l. grind (arith, nat_tests))

  pub read_first : Goes f m.size a w (Some First) → (k : Kind) → read_answer m k a w ≡ read_answer (pair_meaning f m n) k a w
  read_first goes k = grind (arith, nat_tests, value_first goes.1)

  module _ (b : ℕ) (goes : Goes f m.size a w (Some (Second b))) where
    value_second : value_at n.byte b w ≡ value_at (pair_meaning f m n).byte a w
    value_second = value_same n.byte (pair_meaning f m n).byte b a w (λ i l.
        let place : b + i ≡ a + i - m.size = omega arith in
        grind (arith, nat_tests, ap n.byte place))

    pub read_second : (k : Kind) → read_answer n k b w ≡ read_answer (pair_meaning f m n) k a w
    read_second k = grind (arith, nat_tests, value_second)

    byte_second : (v k : ℕ) → (pair_meaning f m (stored n b w v)).byte k ≡ (stored (pair_meaning f m n) a w v).byte k
    byte_second v k =
        let place : k - m.size - b ≡ k - a = omega arith in
        grind (arith, nat_tests, ap (byte_of v) place)

    pub written_second : (v : ℕ) → pair_meaning f m (written n b w v) ≡ written (pair_meaning f m n) a w v
    written_second v = grind (arith, nat_tests, byte_second v)
