-- Task records without a fault part the regions among them. Assumes nothing.
use Rattle.std.proofs.Common.{◌≡◌, ℕ, zero, suc, ◌+◌, ◌<◌, List, [], ◌∷◌, length, get_or, take, None, arith}
use Rattle.std.proofs.lemmas.Bool.Decides.{nat_tests}
use Rattle.access.specs.Cases.{first_of}
use Rattle.layout.specs.Faults.{task_cases}
use Rattle.layout.specs.Partition.{region_count, Consecutive}
use Rattle.layout.specs.declared.records.TaskRecord.{TaskRecord}

module _ (n p sum : ℕ) (t : TaskRecord) (ts : List TaskRecord) (e : first_of (task_cases n p sum (t ∷ ts)) ≡ None) where
  head : t.first ≡ sum
  head = grind (arith, nat_tests)

  tail : first_of (task_cases n (p + 8) (sum + t.count) ts) ≡ None
  tail = grind (arith, nat_tests)

after : (n p sum : ℕ) (ts : List TaskRecord) → first_of (task_cases n p sum ts) ≡ None → (i : ℕ) (d : TaskRecord) → i < length ts
    → (get_or ts i d).first ≡ sum + region_count (take i ts)
after n p sum [] e i d h = absurd (omega arith)
after n p sum (t ∷ ts) e zero d h = omega (arith, head n p sum t ts e)
after n p sum (t ∷ ts) e (suc i) d h = omega (arith, after n (p + 8) (sum + t.count) ts (tail n p sum t ts e) i d (omega arith))

whole : (n p sum : ℕ) (ts : List TaskRecord) → first_of (task_cases n p sum ts) ≡ None → sum + region_count ts ≡ n
whole n p sum [] e = let s : sum ≡ n = grind (arith, nat_tests) in omega arith
whole n p sum (t ∷ ts) e = omega (arith, whole n (p + 8) (sum + t.count) ts (tail n p sum t ts e))

pub consecutive : (n : ℕ) (ts : List TaskRecord) → first_of (task_cases n 16 0 ts) ≡ None → Consecutive ts
consecutive n ts e i d h = omega (arith, after n 16 0 ts e i d h)

pub all_shared : (n : ℕ) (ts : List TaskRecord) → first_of (task_cases n 16 0 ts) ≡ None → region_count ts ≡ n
all_shared n ts e = omega (arith, whole n 16 0 ts e)
