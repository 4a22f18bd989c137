-- A refusal is known by its report: no two refusals have one number and one list of values. Assumes nothing.
use Rattle.std.proofs.Common.{◌≡◌, ℕ, List, get_or, refl, ap, arith}
use Rattle.access.specs.Cases.{Report}
use Rattle.access.specs.Refusals.{report_of, carried}
use Rattle.access.specs.declared.refusal.Fault.{Fault}
use Rattle.access.specs.declared.refusal.Refusal.{Refusal}
use Rattle.access.specs.declared.refusal.Refusal.TheVariants.{Width, Range, Stopped, NotAdmitted}

fault_one : (x y : Fault) → carried x ≡ carried y → x ≡ y
fault_one x y e =
    let at : (k : ℕ) → get_or (carried x) k 0 ≡ get_or (carried y) k 0 = λ k. ap (λ (l : List ℕ). get_or l k 0) e in
    λ i. record { cause = at 0 i; address = at 1 i; entry = at 2 i }

numbers : (x y : Refusal) → report_of x ≡ report_of y → (report_of x).number ≡ (report_of y).number
numbers x y e = ap (λ (r : Report). r.number) e

values : (x y : Refusal) → report_of x ≡ report_of y → (report_of x).values ≡ (report_of y).values
values x y e = ap (λ (r : Report). r.values) e

pub report_one : (x y : Refusal) → report_of x ≡ report_of y → x ≡ y
report_one Width Width e = refl
report_one Width Range e = absurd (omega (arith, numbers Width Range e))
report_one Width (Stopped y) e = absurd (omega (arith, numbers Width (Stopped y) e))
report_one Width (NotAdmitted y) e = absurd (omega (arith, numbers Width (NotAdmitted y) e))
report_one Range Width e = absurd (omega (arith, numbers Range Width e))
report_one Range Range e = refl
report_one Range (Stopped y) e = absurd (omega (arith, numbers Range (Stopped y) e))
report_one Range (NotAdmitted y) e = absurd (omega (arith, numbers Range (NotAdmitted y) e))
report_one (Stopped x) Width e = absurd (omega (arith, numbers (Stopped x) Width e))
report_one (Stopped x) Range e = absurd (omega (arith, numbers (Stopped x) Range e))
report_one (Stopped x) (Stopped y) e = ap Stopped (fault_one x y (values (Stopped x) (Stopped y) e))
report_one (Stopped x) (NotAdmitted y) e = absurd (omega (arith, numbers (Stopped x) (NotAdmitted y) e))
report_one (NotAdmitted x) Width e = absurd (omega (arith, numbers (NotAdmitted x) Width e))
report_one (NotAdmitted x) Range e = absurd (omega (arith, numbers (NotAdmitted x) Range e))
report_one (NotAdmitted x) (Stopped y) e = absurd (omega (arith, numbers (NotAdmitted x) (Stopped y) e))
report_one (NotAdmitted x) (NotAdmitted y) e = ap NotAdmitted (fault_one x y (values (NotAdmitted x) (NotAdmitted y) e))
