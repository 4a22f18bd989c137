-- A file that is longer than any layout is refused by its header or its length, so what follows its first bytes does not matter. Assumes nothing.
use Rattle.std.proofs.Common.{◌≡◌, ℕ, ◌+◌, ◌*◌, ◌<◌, ◌≤◌, Bool, true, false, cond, not, eqb, ltb, List, ◌++◌, length, take, Some, Option, sym, refl, ap, ◌∙◌, arith, lit<}
use Rattle.std.proofs.lemmas.List.{length-take-le}
use Rattle.std.proofs.lemmas.Bool.{cond-true, cond-false, le-ltb, ltb-false, ne_eqb}
use Rattle.access.specs.Cases.{Report, first_of}
use Rattle.layout.specs.Words.{word}
use Rattle.layout.specs.Records.{file_tasks, file_regions, region_part, fourths_of}
use Rattle.layout.specs.Faults.{at, file_length, shape_cases, task_cases, region_cases, layout_fault}
use Rattle.layout.specs.Lines.{line_of}
use Rattle.layout.proofs.Whole.{word_take}
use Rattle.loading.specs.Reports.{line_text, fault_text, granted_text, LongFiles}

pull : (b : Bool) (x y : Report) (z : Option Report) → (b ≡ false → z ≡ Some y) → cond b (Some x) z ≡ Some (cond b x y)
pull true x y z h = refl
pull false x y z h = h refl

-- the fault of a header and a length above every layout's
shape_fault : ℕ → ℕ → ℕ → ℕ → Report
shape_fault t n p q =
    cond (ltb 16 t) (at 62 0)
    (cond (ltb 64 n) (at 62 4) (cond (not (eqb p 16)) (at 63 8) (cond (not (eqb q (16 + 8 * t))) (at 63 12) (at 63 (file_length t n)))))

shape_fault_lem : (len t n p q : ℕ) (xs : List (Bool × Report)) → 1169 ≤ len → first_of (shape_cases len t n p q ++ xs) ≡ Some (shape_fault t n p q)
unfolding shape_fault
shape_fault_lem len t n p q xs h =
    pull (ltb 16 t) _ _ _ (λ a. pull (ltb 64 n) _ _ _ (λ b. pull (not (eqb p 16)) _ _ _ (λ _. pull (not (eqb q (16 + 8 * t))) _ _ _ (λ _.
    let few : t ≤ 16 = ltb-false 16 t a in
    let some : n ≤ 64 = ltb-false 64 n b in
    cond-true (not (eqb len (file_length t n))) _ _ (ap not (ne_eqb len (file_length t n) (λ e. omega arith)))))))

long_fault : (f : List ℕ) → 1169 ≤ length f → layout_fault f ≡ Some (shape_fault (word f 0) (word f 4) (word f 8) (word f 12))
long_fault f h = cond-false (ltb (length f) 16) _ _ (le-ltb (length f) 16 (omega arith)) ∙ shape_fault_lem (length f) (word f 0) (word f 4) (word f 8) (word f 12)
    (task_cases (word f 4) 16 0 (file_tasks f) ++ region_cases (16 + 8 * word f 0 + 12) (fourths_of (region_part f)))
    h

pub long_files : LongFiles
long_files f h =
    let g = take 1169 f in
    let l : length g ≡ 1169 = length-take-le 1169 f h in
    let e : (p : ℕ) → p + 3 < 1169 → word f p ≡ word g p = λ p k. sym (word_take 1169 f p k) in
    let same : shape_fault (word f 0) (word f 4) (word f 8) (word f 12) ≡ shape_fault (word g 0) (word g 4) (word g 8) (word g 12) =
    λ i. shape_fault (e 0 (lit< tt) i) (e 4 (lit< tt) i) (e 8 (lit< tt) i) (e 12 (lit< tt) i) in
    ap (λ o. fault_text o (granted_text (file_tasks f) (file_regions f))) (long_fault f h)
    ∙ ap (λ x. line_text (line_of x)) same
    ∙ sym (ap (λ o. fault_text o (granted_text (file_tasks g) (file_regions g))) (long_fault g (omega arith)))
