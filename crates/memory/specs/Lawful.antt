-- The memories of this crate are lawful: proofs. They stand here since a ghost member `lawful` cites each, and can cite `specs` alone.
use Rattle.std.specs.Prelude.{◌≡◌, ℕ, ◌+◌, ◌-◌, ◌≤◌, min, true, List}
use Rattle.std.proofs.Common.{arith, pow_mono}
use Rattle.std.proofs.lemmas.Bool.Decides.{nat_tests}
use Rattle.std.proofs.lemmas.Bool.{false≢true}
use Rattle.access.specs.Formed.{width_of, limit}
use Rattle.access.specs.declared.access.Kind.{Kind}
use Rattle.access.specs.declared.access.Kind.TheVariants.{Load, Store, Fetch}
use Rattle.memory.specs.Meaning.{MemoryMeaning, MemoryLaws, memory_end}
use Rattle.memory.specs.Ram.{ram_meaning}
use Rattle.memory.specs.Bank.{bank_size, bank_admits, bank_meaning}
use Rattle.memory.specs.Pair.{pair_meaning}

-- a memory ends within the addresses
end_fits : (f : ℕ) → memory_end f ≤ limit f
end_fits f = pow_mono {i = min f 60 + 2} {j = f + 2} (omega arith)

pub ram_lawful : (f : ℕ) (bs : List ℕ) → MemoryLaws f (ram_meaning f bs)
ram_lawful f bs = record {
  size_fits = omega (arith, end_fits f);
  bytes_fit = λ k h. omega arith;
  formed = λ k a w h. grind (arith, nat_tests, end_fits f);
  within = λ k a w h. grind (arith, nat_tests);
}

bank_formed : (n : ℕ) (k : Kind) (a w : ℕ) → bank_admits n k a w ≡ true → (width_of k w ≡ true) × (a + w ≤ n)
bank_formed n Load a w h = grind (arith, nat_tests)
bank_formed n Store a w h = grind (arith, nat_tests)
bank_formed n Fetch a w h = absurd (false≢true h)

pub bank_lawful : (f : ℕ) (bs : List ℕ) → MemoryLaws f (bank_meaning f bs)
bank_lawful f bs = record {
  size_fits = omega (arith, end_fits f);
  bytes_fit = λ k h. omega arith;
  formed = λ k a w h. ((bank_formed (bank_size f) k a w h).0, omega (arith, (bank_formed (bank_size f) k a w h).1, end_fits f));
  within = λ k a w h. (bank_formed (bank_size f) k a w h).1;
}

pub pair_lawful : (f : ℕ) (m n : MemoryMeaning) → MemoryLaws f m → MemoryLaws f n → MemoryLaws f (pair_meaning f m n)
pair_lawful f m n lm ln = record {
  size_fits = omega (arith, end_fits f);
  bytes_fit = λ k h. grind (arith, nat_tests, lm.bytes_fit k, ln.bytes_fit (k - m.size));
  formed = λ k a w h. grind (arith, nat_tests, end_fits f, lm.formed k a w, ln.formed k (a - m.size) w);
  within = λ k a w h. grind (arith, nat_tests, lm.within k a w, ln.within k (a - m.size) w);
}
