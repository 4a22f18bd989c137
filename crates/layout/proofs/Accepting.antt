-- The bytes of a well-formed layout are accepted. Assumes nothing.
use Rattle.std.proofs.Common.{◌≡◌, ℕ, suc, ◌+◌, ◌*◌, ◌^◌, ◌<◌, ◌≤◌, List, [], ◌∷◌, ◌++◌, length, get_or, take, drop, None, sym, refl, ap, ◌∙◌, lit<, arith, length-append}
use Rattle.std.specs.List.{flat_map}
use Rattle.std.proofs.lemmas.List.{take_at, drop_at, drop-drop}
use Rattle.std.proofs.lemmas.Nat.{from_le_bytes-to_le_bytes_4}
use Rattle.std.proofs.lemmas.Bool.Decides.{nat_tests}
use Rattle.access.specs.Cases.{first_of}
use Rattle.layout.specs.Words.{word}
use Rattle.layout.specs.Records.{task_at, region_at, fourth_at, tasks_of, regions_of, fourths_of, task_part, region_part}
use Rattle.layout.specs.Encoding.{task_bytes, region_bytes, encoded}
use Rattle.layout.specs.Faults.{file_length, shape_cases, task_cases, region_cases}
use Rattle.layout.specs.Partition.{region_count}
use Rattle.layout.specs.Acceptance.{RegionsFit, WellFormed, Accepts}
use Rattle.layout.specs.declared.records.TaskRecord.{TaskRecord}
use Rattle.layout.specs.declared.records.RegionRecord.{RegionRecord}
use Rattle.layout.specs.declared.header.Header.{Header}
use Rattle.layout.proofs.Whole.{Headed, records_more, no_fault}

-- The tasks from some on, where those before have `sum` of the n regions.
record Share (n sum : ℕ) (ts : List TaskRecord) : Type 0 where
  firsts : (i : ℕ) (d : TaskRecord) → i < length ts → (get_or ts i d).first ≡ sum + region_count (take i ts)
  all : sum + region_count ts ≡ n

module _ (n sum : ℕ) (t : TaskRecord) (ts : List TaskRecord) (s : Share n sum (t ∷ ts)) where
  head : t.first ≡ sum
  head = omega (arith, s.firsts 0 t (omega arith))

  count : sum + t.count ≤ n
  count = let e = s.all in omega arith

  tail : Share n (sum + t.count) ts
  tail = record { firsts = λ i d h. omega (arith, s.firsts (suc i) d (omega arith)); all = let e = s.all in omega arith }

no_task_fault : (n p sum : ℕ) (ts : List TaskRecord) → Share n sum ts → first_of (task_cases n p sum ts) ≡ None
no_task_fault n p sum [] s = let e = s.all in grind (arith, nat_tests)
no_task_fault n p sum (t ∷ ts) s =
    let f = head n sum t ts s in
    let c = count n sum t ts s in
    let r = no_task_fault n (p + 8) (sum + t.count) ts (tail n sum t ts s) in
    grind (arith, nat_tests)

task_read : (n : ℕ) (t : TaskRecord) (b : List ℕ) → n < 2 ^ 32 → t.first ≤ n → t.count ≤ n → task_at (task_bytes t ++ b) ≡ t
task_read n t b h f c = λ i. record { first = from_le_bytes-to_le_bytes_4 t.first (omega arith) i; count = from_le_bytes-to_le_bytes_4 t.count (omega arith) i }

tasks_read : (n sum : ℕ) (ts : List TaskRecord) → n < 2 ^ 32 → Share n sum ts → tasks_of (flat_map task_bytes ts) ≡ ts
tasks_read n sum [] h s = refl
tasks_read n sum (t ∷ ts) h s =
    let f = head n sum t ts s in
    let c = count n sum t ts s in
    let b = flat_map task_bytes ts in
    records_more 8 task_at (task_bytes t ++ b) (lit< tt) (omega arith)
    ∙ (λ i. task_read n t b h (omega arith) (omega arith) i ∷ tasks_read n (sum + t.count) ts h (tail n sum t ts s) i)

region_read : (r : RegionRecord) (b : List ℕ) → r.base < 2 ^ 32 → r.length < 2 ^ 32 → r.rights < 2 ^ 32 → region_at (region_bytes r ++ b) ≡ r
region_read r b h k l = λ i. record { base = from_le_bytes-to_le_bytes_4 r.base h i; length = from_le_bytes-to_le_bytes_4 r.length k i; rights = from_le_bytes-to_le_bytes_4 r.rights l i }

regions_read : (rs : List RegionRecord) → RegionsFit rs → regions_of (flat_map region_bytes rs) ≡ rs
regions_read [] h = refl
regions_read (r ∷ rs) h =
    let b = flat_map region_bytes rs in
    records_more 16 region_at (region_bytes r ++ b) (lit< tt) (omega arith) ∙ (λ i. region_read r b h.0 h.1 h.2 i ∷ regions_read rs h.3 i)

no_region_fault : (p : ℕ) (rs : List RegionRecord) → first_of (region_cases p (fourths_of (flat_map region_bytes rs))) ≡ None
no_region_fault p [] = refl
no_region_fault p (r ∷ rs) =
    ap (λ l. first_of (region_cases p l)) (records_more 16 fourth_at (region_bytes r ++ flat_map region_bytes rs) (lit< tt) (omega arith)) ∙ no_region_fault (p + 16) rs

-- Records of k bytes each.
long_records : {R : Type 0} (k : ℕ) (bytes : R → List ℕ) → ((r : R) → length (bytes r) ≡ k) → (rs : List R) → length (flat_map bytes rs) ≡ k * length rs
long_records k bytes e [] = omega arith
long_records k bytes e (r ∷ rs) = omega (arith, e r, long_records k bytes e rs, length-append (bytes r) (flat_map bytes rs))

module _ (ts : List TaskRecord) (rs : List RegionRecord) (s : WellFormed ts rs) where
  abbrev a : List ℕ
  a = flat_map task_bytes ts

  abbrev b : List ℕ
  b = flat_map region_bytes rs

  share : Share (length rs) 0 ts
  share = record { firsts = λ i d h. omega (arith, s.consecutive i d h); all = let e = s.shared in omega arith }

  tasks_word : length ts ≡ word (encoded ts rs) 0
  tasks_word = let h = s.tasks in sym (from_le_bytes-to_le_bytes_4 (length ts) (omega arith))

  long : length a ≡ 8 * length ts
  long = long_records 8 task_bytes (λ _. refl) ts

  size : length (encoded ts rs) ≡ file_length (length ts) (length rs)
  size = let la = long in let lb = long_records 16 region_bytes (λ _. refl) rs in let l = length-append a b in omega arith

  abbrev written : Header
  written = record { tasks = length ts; regions = length rs; task_offset = 16; region_offset = 16 + 8 * length ts }

  header : Headed (encoded ts rs) (a ++ b) written
  header =
      let h = s.tasks in
      let k = s.regions in
      let l = size in
      record {
        long = omega arith;
        is = λ i. record { tasks = tasks_word i; regions = sym (from_le_bytes-to_le_bytes_4 (length rs) (omega arith)) i; task_offset = 16; region_offset = sym (from_le_bytes-to_le_bytes_4 (16 + 8 * length ts) (omega arith)) i };
        after = refl;
      }

  sound : first_of (shape_cases (length (encoded ts rs)) (length ts) (length rs) 16 (16 + 8 * length ts)) ≡ None
  sound = let h = s.tasks in let k = s.regions in let l = size in grind (arith, nat_tests)

  task_part_lem : task_part (encoded ts rs) ≡ a
  task_part_lem = ap (λ t. take (8 * t) (a ++ b)) (sym tasks_word) ∙ take_at a b (8 * length ts) long

  region_part_lem : region_part (encoded ts rs) ≡ b
  region_part_lem =
      ap (λ t. drop (16 + 8 * t) (encoded ts rs)) (sym tasks_word) ∙ sym (drop-drop (8 * length ts) 16 (encoded ts rs)) ∙ drop_at a b (8 * length ts) long

  held_tasks : tasks_of a ≡ ts
  held_tasks = let k = s.regions in tasks_read (length rs) 0 ts (omega arith) share

pub accepted : Accepts
accepted ts rs s =
    let ea = task_part_lem ts rs s in
    let eb = region_part_lem ts rs s in
    let held = held_tasks ts rs s in (
      no_fault (header ts rs s) (sound ts rs s) (flat_map task_bytes ts) (flat_map region_bytes rs) (sym ea) (sym eb)
          (ap (λ l. first_of (task_cases (length rs) 16 0 l)) held ∙ no_task_fault (length rs) 16 0 ts (share ts rs s)) (no_region_fault _ rs),
      ap tasks_of ea ∙ held,
      ap regions_of eb ∙ regions_read rs s.fit,
    )
