-- A check has one answer. Assumes nothing.
use Rattle.std.proofs.Common.{◌≡◌, ℕ, Bool, Some, None, Ok, Err, Option, Result, sym, ap, ◌∙◌, subst, arith}
use Rattle.access.specs.Cases.{Report}
use Rattle.access.specs.Formed.{ill_formed}
use Rattle.access.specs.Refusals.{report_of, stopped}
use Rattle.access.specs.declared.access.Kind.{Kind}
use Rattle.access.specs.declared.access.Mode.{Mode}
use Rattle.access.specs.declared.access.Mode.TheVariants.{Machine, Supervisor, User}
use Rattle.access.specs.declared.refusal.Refusal.{Refusal}
use Rattle.access.proofs.OneReport.{report_one}
use Rattle.book.specs.Books.{Book}
use Rattle.table.specs.Registers.{Registers}
use Rattle.table.specs.Checks.{Deciding, Permitted, Passes, Stops, PassesWith, RefusedAs, Checked, OneAnswer}

pub deciding_one : (r : Registers) (a w e f : ℕ) → Deciding r a w e → Deciding r a w f → e ≡ f
deciding_one r a w e f p q = grind arith

module _ (b : Book) (r : Registers) (sum : Bool) (k : Kind) (a w : ℕ) where
  passes_one : (m : Mode) (e f : ℕ) → Passes b r m sum k a w e → Passes b r m sum k a w f → e ≡ f
  passes_one Machine e f p q = p ∙ sym q
  passes_one Supervisor e f p q = deciding_one r a w e f p.0 q.0
  passes_one User e f p q = deciding_one r a w e f p.0 q.0

  stops_one : (m : Mode) (e f : ℕ) → Stops b r m sum k a w e → Stops b r m sum k a w f → e ≡ f
  stops_one Machine e f p q = absurd p
  stops_one Supervisor e f p q = deciding_one r a w e f p.0 q.0
  stops_one User e f p q = deciding_one r a w e f p.0 q.0

  not_both : (m : Mode) (e f : ℕ) → Passes b r m sum k a w e → Stops b r m sum k a w f → ⊥
  not_both Machine e f p q = q
  not_both Supervisor e f p q = q.1 (subst (λ (x : ℕ). Permitted b r x Supervisor sum k a w) (deciding_one r a w e f p.0 q.0) p.1)
  not_both User e f p q = q.1 (subst (λ (x : ℕ). Permitted b r x User sum k a w) (deciding_one r a w e f p.0 q.0) p.1)

  module _ (m : Mode) where
    -- the same of the two halves, whatever is wrong with the access itself
    one_pass : (v : Option Report) (e f : ℕ) → PassesWith b r m sum k a w v e → PassesWith b r m sum k a w v f → e ≡ f
    one_pass None e f p q = passes_one m e f p q
    one_pass (Some x) e f p q = absurd p

    one_refusal : (v : Option Report) (x y : Report) → RefusedAs b r m sum k a w v x → RefusedAs b r m sum k a w v y → x ≡ y
    one_refusal None x y p q = p.2 ∙ ap (stopped k a) (stops_one m p.0 q.0 p.1 q.1) ∙ sym q.2
    one_refusal (Some z) x y p q = p ∙ sym q

    no_two : (v : Option Report) (e : ℕ) (y : Report) → PassesWith b r m sum k a w v e → RefusedAs b r m sum k a w v y → ⊥
    no_two None e y p q = not_both m e q.0 p q.1
    no_two (Some z) e y p q = p

    checked_one : (f : ℕ) (x y : Result ℕ Refusal) → Checked f b r m sum k a w x → Checked f b r m sum k a w y → x ≡ y
    checked_one f (Ok e) (Ok g) p q = ap Ok (one_pass (ill_formed f k a w) e g p q)
    checked_one f (Ok e) (Err y) p q = absurd (no_two (ill_formed f k a w) e (report_of y) p q)
    checked_one f (Err x) (Ok g) p q = absurd (no_two (ill_formed f k a w) g (report_of x) q p)
    checked_one f (Err x) (Err y) p q = ap Err (report_one x y (one_refusal (ill_formed f k a w) (report_of x) (report_of y) p q))

pub one_answer : (f : ℕ) (b : Book) → OneAnswer f b
one_answer f b r m sum k a w x y p q = checked_one b r sum k a w m f x y p q
