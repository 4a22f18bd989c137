-- A caller's buffer after a store to the RAM over it.
use Rattle.std.proofs.Common.{◌≡◌, ℕ, ◌+◌, ◌-◌, ◌<◌, ◌≤◌, false, List, length, get_or, Result, sym, ap, ◌∙◌, ⊎_elim, mod-eq_of_lt, arith}
use Rattle.std.proofs.lemmas.List.{ext_get_or}
use Rattle.std.proofs.lemmas.Bool.{cases_Bool, cond-true, cond-false}
use Rattle.access.specs.declared.access.Kind.TheVariants.{Store}
use Rattle.memory.specs.declared.not_admitted.NotAdmitted.{NotAdmitted}
use Rattle.memory.specs.Meaning.{MemoryMeaning}
use Rattle.memory.specs.Effects.{byte_of, stored, written, store_answer}
use Rattle.memory.specs.Bytes.{byte_in}
use Rattle.memory.specs.Ram.{ram_meaning}
use Rattle.memory.specs.Buffer.{Overwritten, StoredInto}
use Rattle.memory.proofs.Parts.{replaced_inside, replaced_before, replaced_behind}
use Rattle.memory.proofs.Delivered.{end_is, ram_decides}

-- the bytes of a buffer before and after, by the RAM over it
module _ (f : ℕ) (bs cs : List ℕ) (long : length cs ≡ length bs) (old : (k : ℕ) → get_or bs k 0 < 256) (new : (k : ℕ) → get_or cs k 0 < 256) where
  same : (k : ℕ) → byte_in cs k ≡ byte_in bs k → get_or cs k 0 ≡ get_or bs k 0
  same k e = sym (mod-eq_of_lt (new k)) ∙ e ∙ mod-eq_of_lt (old k)

  pub unchanged : ram_meaning f cs ≡ ram_meaning f bs → cs ≡ bs
  unchanged e = ext_get_or 0 cs bs long (λ k h. same k (ap (λ (m : MemoryMeaning). m.byte k) e))

  module _ (a w v : ℕ) where
    pub overwritten : ram_meaning f cs ≡ stored (ram_meaning f bs) a w v → Overwritten bs a w v cs
    overwritten e =
        let at : (k : ℕ) → byte_in cs k ≡ (stored (ram_meaning f bs) a w v).byte k = λ k. ap (λ (m : MemoryMeaning). m.byte k) e in
        record {
          long = long;
          before = λ k h. same k (at k ∙ replaced_before (byte_in bs) a w v k h);
          inside = λ i h. sym (mod-eq_of_lt (new (a + i))) ∙ at (a + i) ∙ replaced_inside (byte_in bs) a w v (a + i) (omega arith) (omega arith) ∙ ap (byte_of v) {x = a + i - a} {y = i} (omega arith);
          behind = λ k h. same k (at k ∙ replaced_behind (byte_in bs) a w v k h);
        }

    pub stored_into : f ≤ 60 → (r : Result (Unit {0}) NotAdmitted) → r ≡ store_answer (ram_meaning f bs) a w → ram_meaning f cs ≡ written (ram_meaning f bs) a w v → StoredInto f bs a w v r cs
    stored_into fits r answer after =
        let m = ram_meaning f bs in
        record {
          admitted = λ formed inside.
              let h = (ram_decides f bs Store a w).1 (formed, omega (arith, formed.1, end_is f fits)) in
              (answer ∙ cond-true (m.admits Store a w) _ _ h, overwritten (after ∙ cond-true (m.admits Store a w) _ _ h));
          refused = λ outside.
              let h : m.admits Store a w ≡ false = ⊎_elim
              (λ t. let p = (ram_decides f bs Store a w).0 t in absurd (outside p.0 (omega (arith, p.1))))
              (λ n. n)
              (cases_Bool (m.admits Store a w)) in
              (answer ∙ cond-false (m.admits Store a w) _ _ h, unchanged (after ∙ cond-false (m.admits Store a w) _ _ h));
        }
