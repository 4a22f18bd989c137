-- A word that is loaded and stored is copied byte by byte.
use Rattle.std.proofs.Common.{◌≡◌, ℕ, ◌+◌, ◌-◌, ◌<◌, ◌≤◌, Bool, true, false, cond, Ok, Err, Result, arith}
use Rattle.std.proofs.lemmas.Bool.Decides.{nat_tests}
use Rattle.access.specs.declared.access.Kind.TheVariants.{Load}
use Rattle.memory.specs.declared.not_admitted.NotAdmitted.{NotAdmitted}
use Rattle.memory.specs.Meaning.{MemoryMeaning, MemoryLaws}
use Rattle.memory.specs.Effects.{byte_of, written, read_answer}
use Rattle.memory.specs.Transfers.{copied}
use Rattle.memory.proofs.Values.{byte_of_value}

-- what the answer of a read says
refused : (x : Bool) (u : ℕ) (e : NotAdmitted) → ◌≡◌ {A = Result ℕ NotAdmitted} (Err e) (cond x (Ok u) (Err (record {}))) → x ≡ false
refused x u e h = grind arith

admitted : (x : Bool) (u v : ℕ) → ◌≡◌ {A = Result ℕ NotAdmitted} (Ok v) (cond x (Ok u) (Err (record {}))) → (x ≡ true) × (v ≡ u)
admitted x u v h = grind arith

module _ (m : MemoryMeaning) (a b : ℕ) where
  kept : m.admits Load a 4 ≡ false → m ≡ copied m a b
  kept h = grind (arith, nat_tests)

  -- what is not loaded is not copied
  pub not_copied : (e : NotAdmitted) → Err e ≡ read_answer m Load a 4 → m ≡ copied m a b
  not_copied e h = kept (refused (m.admits Load a 4) _ e h)

  copied_by : (v : ℕ) → ((k : ℕ) → b ≤ k → k < b + 4 → byte_of v (k - b) ≡ m.byte (a + (k - b))) → m.admits Load a 4 ≡ true → written m b 4 v ≡ copied m a b
  copied_by v byte loaded = grind (arith, nat_tests, byte)

  -- a store of the loaded word copies it
  pub is_copied : (f : ℕ) → MemoryLaws f m → (v : ℕ) → Ok v ≡ read_answer m Load a 4 → written m b 4 v ≡ copied m a b
  is_copied f law v h =
      let loaded = admitted (m.admits Load a 4) _ v h in
      copied_by v
      (λ k low high. rw loaded.1 (byte_of_value m.byte a 4 (λ j l. law.bytes_fit (a + j) (omega (arith, law.within Load a 4 loaded.0))) (k - b) (omega arith)))
      loaded.0
