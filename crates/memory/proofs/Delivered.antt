-- What the memories of this crate mean, in terms of their rules.
use Rattle.std.proofs.Common.{◌≡◌, ℕ, ◌+◌, ◌-◌, ◌%◌, ◌<◌, ◌≤◌, min, List, replicate, Decides, ap, arith, pow_mono}
use Rattle.std.proofs.lemmas.List.{get_or-replicate}
use Rattle.std.proofs.lemmas.Bool.{false≢true}
use Rattle.std.proofs.lemmas.Bool.Decides.{nat_tests}
use Rattle.access.specs.Formed.{limit, WellFormed}
use Rattle.access.specs.declared.access.Kind.{Kind}
use Rattle.access.specs.declared.access.Kind.TheVariants.{Load, Store, Fetch}
use Rattle.memory.specs.Meaning.{MemoryMeaning, MemoryLaws, memory_end}
use Rattle.memory.specs.Ram.{ram_size, ram_meaning}
use Rattle.memory.specs.Bank.{bank_size, of_register, bank_admits, bank_meaning, RegisterAccess, ZeroBank}
use Rattle.memory.specs.Pair.{pair_meaning, PairOf}
use Rattle.memory.specs.Lawful.{ram_lawful, pair_lawful}
use Rattle.memory.proofs.Meanings.{refused_beyond, refused_empty}

-- a field has at most 60 bits, so its addresses end at the limit
pub end_is : (f : ℕ) → f ≤ 60 → memory_end f ≡ limit f
end_is f fits = ap limit {x = min f 60} {y = f} (omega arith)

-- what a RAM admits
pub ram_decides : (f : ℕ) (bs : List ℕ) (k : Kind) (a w : ℕ) → Decides ((ram_meaning f bs).admits k a w) (WellFormed f k a w × (a + w ≤ ram_size f bs))
ram_decides f bs k a w = (λ h. ((ram_lawful f bs).formed k a w h, (ram_lawful f bs).within k a w h), λ h. grind (arith, nat_tests))

-- a bank has its 64 bytes
bank_size_lem : (f : ℕ) → 4 ≤ f → bank_size f ≡ 64
bank_size_lem f least = omega (arith, pow_mono {i = 6} {j = min f 60 + 2} (omega arith))

register_decides : (f : ℕ) → 4 ≤ f → (a w : ℕ) → Decides (of_register (bank_size f) a w) ((w ≡ 4) × (a % 4 ≡ 0) × (a < 64))
register_decides f least a w =
    let long = bank_size_lem f least in
    (λ h. grind (arith, nat_tests, long), λ h. grind (arith, nat_tests, long))

bank_decides : (f : ℕ) → 4 ≤ f → (k : Kind) (a w : ℕ) → Decides (bank_admits (bank_size f) k a w) (RegisterAccess k a w)
bank_decides f least Load a w = register_decides f least a w
bank_decides f least Store a w = register_decides f least a w
bank_decides f least Fetch a w = (false≢true, λ none. absurd none)

pub zero_bank : (f : ℕ) → 4 ≤ f → ZeroBank (bank_meaning f (replicate 64 0))
zero_bank f least = record {
  size = bank_size_lem f least;
  bytes = λ k h. ap (λ (n : ℕ). n % 256) (get_or-replicate 64 k 0 0 h);
  admits = bank_decides f least;
}

module _ (f : ℕ) (m n : MemoryMeaning) (fits : f ≤ 60) (lm : MemoryLaws f m) (ln : MemoryLaws f n) where
  pub pair_of : PairOf f m n (pair_meaning f m n)
  pair_of = record {
    size = ap (min (m.size + n.size)) (end_is f fits);
    first_bytes = λ k h. grind (arith, nat_tests);
    second_bytes = λ k. let place : m.size + k - m.size ≡ k = omega arith in grind (arith, nat_tests, ap n.byte place);
    first = λ k a w h. grind (arith, nat_tests, lm.size_fits, end_is f fits);
    second = λ k a w low high. grind (arith, nat_tests, end_is f fits, refused_empty f m lm k a w, refused_empty f n ln k (a - m.size) w);
    across = λ k a w low past. grind (arith, nat_tests);
    beyond = λ k a w past. refused_beyond f (pair_meaning f m n) (pair_lawful f m n lm ln) k a w past;
  }
