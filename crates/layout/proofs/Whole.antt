-- A file whose header is sound: its parts, its first fault, its bytes. Assumes nothing.
use Rattle.std.proofs.Common.{◌≡◌, ℕ, zero, suc, ◌+◌, ◌*◌, ◌/◌, ◌<◌, ◌≤◌, Bool, false, ltb, List, ◌∷◌, ◌++◌, length, get_or, map, take, drop, None, Option, sym, refl, ap, subst, ◌∙◌, arith, length-drop, length-take}
use native.Mathlib.Nat.{div-eq-sub-div}
use Rattle.std.specs.Simd.{first_chunks}
use Rattle.std.proofs.lemmas.List.{length-map, length-take-le, get_or-take, drop-drop, take-append-drop}
use Rattle.std.proofs.lemmas.List.Elements.{All-take, All-drop}
use Rattle.std.proofs.lemmas.Bool.Decides.{nat_tests}
use Rattle.access.specs.Cases.{Report, first_of}
use Rattle.layout.specs.Words.{le32, word, word_bytes}
use Rattle.layout.specs.Records.{header_at, task_at, region_at, records, task_part, region_part, tasks_of, fourths_of, file_tasks, file_regions}
use Rattle.layout.specs.Encoding.{header_bytes, encoded}
use Rattle.layout.specs.Faults.{file_length, shape_cases, task_cases, region_cases, layout_fault}
use Rattle.layout.specs.Refusals.{Tells}
use Rattle.layout.specs.declared.header.Header.{Header}
use Rattle.layout.proofs.Firsts.{first_past, tells_first}
use Rattle.layout.proofs.Fronts.{Byte, Bytes, four_words, tasks_back, regions_back}

length-first_chunks : {X : Type 0} (k n : ℕ) (xs : List X) → length (first_chunks k n xs) ≡ n
length-first_chunks k zero xs = refl
length-first_chunks k (suc n) xs = ap suc (length-first_chunks k n (drop k xs))

length-records : {R : Type 0} (k n : ℕ) (at : List ℕ → R) (b : List ℕ) → length b / k ≡ n → length (map at (records k b)) ≡ n
length-records k n at b e = length-map (records k b) at ∙ length-first_chunks k _ b ∙ e

-- The first record that some bytes hold, and those after it.
pub records_more : {R : Type 0} (k : ℕ) (at : List ℕ → R) (b : List ℕ) → 0 < k → k ≤ length b
    → map at (records k b) ≡ at (take k b) ∷ map at (records k (drop k b))
records_more k at b z h = let q : length b / k ≡ suc (length (drop k b) / k) = simp (length-drop, div-eq-sub-div z h) (omega arith) in rw q

-- A word within the first n bytes of a file is that word of the file.
pub word_take : (n : ℕ) (f : List ℕ) (p : ℕ) → p + 3 < n → word (take n f) p ≡ word f p
word_take n f p h =
    let e : (k : ℕ) → k < n → get_or (take n f) k 0 ≡ get_or f k 0 = λ k l. get_or-take n f k 0 l in
    λ i. le32 (e p (omega arith) i) (e (p + 1) (omega arith) i) (e (p + 2) (omega arith) i) (e (p + 3) (omega arith) i)

-- The header of a file, and what stands after it.
pub record Headed (f rest : List ℕ) (h : Header) : Type 0 where
  pub long : 16 ≤ length f
  pub is : h ≡ header_at (take 16 f)
  pub after : rest ≡ drop 16 f

pub headed : {f front rest : List ℕ} {h : Header} → (front ≡ take 16 f) × (rest ≡ drop 16 f) × (length rest + 16 ≡ length f) → h ≡ header_at front → Headed f rest h
headed cut e = let l = cut.2 in record { long = omega arith; is = e ∙ ap header_at cut.0; after = cut.1 }

-- The cases of the header and of the records of a file.
abbrev shape_of : List ℕ → List (Bool × Report)
shape_of f = shape_cases (length f) (word f 0) (word f 4) (word f 8) (word f 12)

abbrev record_cases : List ℕ → List (Bool × Report)
record_cases f = task_cases (word f 4) 16 0 (file_tasks f) ++ region_cases (16 + 8 * word f 0 + 12) (fourths_of (region_part f))

module _ {f rest : List ℕ} {h : Header} (s : Headed f rest h) where
  tasks : h.tasks ≡ word f 0
  tasks = ap (λ x. x.tasks) s.is ∙ word_take 16 f 0 (omega arith)

  regions : h.regions ≡ word f 4
  regions = ap (λ x. x.regions) s.is ∙ word_take 16 f 4 (omega arith)

  shape : first_of (shape_cases (length f) h.tasks h.regions h.task_offset h.region_offset) ≡ first_of (shape_of f)
  shape =
      let tasks_at : h.task_offset ≡ word f 8 = ap (λ x. x.task_offset) s.is ∙ word_take 16 f 8 (omega arith) in
      let regions_at : h.region_offset ≡ word f 12 = ap (λ x. x.region_offset) s.is ∙ word_take 16 f 12 (omega arith) in
      λ i. first_of (shape_cases (length f) (tasks i) (regions i) (tasks_at i) (regions_at i))

  no_short : ltb (length f) 16 ≡ false
  no_short = let l = s.long in grind (arith, nat_tests)

  pub tells_shape : (o : Option Report) → Tells (first_of (shape_cases (length f) h.tasks h.regions h.task_offset h.region_offset)) o → Tells (layout_fault f) o
  tells_shape o t = rw no_short (tells_first (shape_of f) (record_cases f) o (subst (λ x. Tells x o) shape t))

-- A sound header.
module _ {f rest : List ℕ} {h : Header} (s : Headed f rest h) (sound : first_of (shape_cases (length f) h.tasks h.regions h.task_offset h.region_offset) ≡ None) where
  size : length f ≡ file_length h.tasks h.regions
  size = grind (arith, nat_tests)

  tasks_begin : h.task_offset ≡ 16
  tasks_begin = grind (arith, nat_tests)

  regions_begin : h.region_offset ≡ 16 + 8 * h.tasks
  regions_begin = grind (arith, nat_tests)

  -- The parts, as the code cuts them.
  pub front : take (8 * h.tasks) rest ≡ task_part f
  front = rw (s.after, ← tasks s)

  pub back : drop (8 * h.tasks) rest ≡ region_part f
  back = rw (s.after, drop-drop, ← tasks s)

  long_tasks : length (task_part f) ≡ 8 * h.tasks
  long_tasks = let l = size in let k = tasks s in simp (length-take, length-drop) (omega arith)

  long_regions : length (region_part f) ≡ 16 * h.regions
  long_regions = let l = size in let k = tasks s in simp length-drop (omega arith)

  task_count : length (file_tasks f) ≡ h.tasks
  task_count = let l = long_tasks in length-records 8 _ task_at (task_part f) (omega arith)

  pub region_count_lem : length (file_regions f) ≡ h.regions
  region_count_lem = let l = long_regions in length-records 16 _ region_at (region_part f) (omega arith)

  -- The first fault stands in the records.
  past_header : layout_fault f ≡ first_of (record_cases f)
  past_header = rw (no_short s) (first_past (shape_of f) (record_cases f) (sym (shape s) ∙ sound))

  pub tells_tasks : (b : List ℕ) (o : Option Report) → b ≡ task_part f → Tells (first_of (task_cases h.regions 16 0 (tasks_of b))) o → Tells (layout_fault f) o
  tells_tasks b o e t = rw past_header (tells_first (task_cases (word f 4) 16 0 (file_tasks f)) _ o (rw (regions s, e) at t))

  past_tasks : (b : List ℕ) → b ≡ task_part f → first_of (task_cases h.regions 16 0 (tasks_of b)) ≡ None
      → layout_fault f ≡ first_of (region_cases (16 + 8 * h.tasks + 12) (fourths_of (region_part f)))
  past_tasks b e t = past_header ∙ first_past (task_cases (word f 4) 16 0 (file_tasks f)) _ (rw (regions s, e) at t) ∙ rw (tasks s)

  pub tells_regions : (a b : List ℕ) (o : Option Report) → a ≡ task_part f → b ≡ region_part f → first_of (task_cases h.regions 16 0 (tasks_of a)) ≡ None
      → Tells (first_of (region_cases (16 + 8 * h.tasks + 12) (fourths_of b))) o → Tells (layout_fault f) o
  tells_regions a b o ea eb t k = rw (past_tasks a ea t) (rw eb at k)

  pub no_fault : (a b : List ℕ) → a ≡ task_part f → b ≡ region_part f → first_of (task_cases h.regions 16 0 (tasks_of a)) ≡ None
      → first_of (region_cases (16 + 8 * h.tasks + 12) (fourths_of b)) ≡ None → layout_fault f ≡ None
  no_fault a b ea eb t k = past_tasks a ea t ∙ (rw eb at k)

  header_back : Bytes f → header_bytes h.tasks h.regions ≡ take 16 f
  header_back b =
      let words = ap (λ x. word_bytes x.tasks ++ (word_bytes x.regions ++ (word_bytes x.task_offset ++ word_bytes x.region_offset))) s.is
      ∙ four_words (take 16 f) (All-take Byte 16 f b) (length-take-le 16 f s.long) in
      rw (tasks_begin, regions_begin) at words

  parts : task_part f ++ region_part f ≡ drop 16 f
  parts = (λ i. (sym front) i ++ (sym back) i) ∙ take-append-drop (8 * h.tasks) rest ∙ s.after

  -- The file is the encoding of its records.
  pub encodes : (p : ℕ) (b : List ℕ) → Bytes f → b ≡ region_part f → first_of (region_cases p (fourths_of b)) ≡ None → encoded (file_tasks f) (file_regions f) ≡ f
  encodes p b bytes e none =
      let lt = long_tasks in
      let lr = long_regions in
      let ts = tasks_back (length (task_part f) / 8) (task_part f) (All-take Byte _ _ (All-drop Byte 16 f bytes)) (omega arith) in
      let rs = regions_back p (length (region_part f) / 16) (region_part f) (All-drop Byte _ f bytes) (omega arith) (rw e at none) in
      (λ i. header_bytes (task_count i) (region_count_lem i) ++ (ts i ++ rs i)) ∙ (λ i. header_back bytes i ++ parts i) ∙ take-append-drop 16 f
