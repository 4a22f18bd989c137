-- Writes to a list of entries. Assumes nothing.
use Rattle.std.proofs.Common.{◌≡◌, ℕ, zero, suc, ◌^◌, ◌<◌, ◌≤◌, List, length, set, replicate, sym, refl, ap, ◌∙◌, subst, subst₂, ⊎_elim, ◌≢◌, arith}
use mathlib.Core.Path.{fun_ext}
use Rattle.std.proofs.lemmas.List.{get_or-set_same, get_or-set_other, get_or_past, get_or-replicate, length-replicate, length-set}
use Rattle.std.proofs.lemmas.Bool.{cases_eq, cases_lt}
use Rattle.std.proofs.lemmas.Bool.Decides.{nat_tests}
use Rattle.table.specs.Bounds.{resolved, matching_of, pair_of}
use Rattle.table.specs.Registers.{AddressesBelow, zeros, put, with_address_at, with_config_at}
use Rattle.table.specs.Entries.{registers_of, blank, entry_at, below_of, entry_over, Kept}
use Rattle.table.specs.declared.entries.Entry.{Entry}

-- the value that a function has already, put at its place
pub put_self : (f : ℕ → ℕ) (i v : ℕ) → v ≡ f i → put f i v ≡ f
put_self f i v e = fun_ext each
  where
    each : (k : ℕ) → put f i v k ≡ f k
    each k = grind (arith, nat_tests)

-- ---- one entry set

module _ (es : List Entry) (i : ℕ) (x : Entry) (h : i < length es) where
  -- a register of each entry
  field_set : (field : Entry → ℕ) (k : ℕ) → field (entry_at (set es i x) k) ≡ put (λ j. field (entry_at es j)) i (field x) k
  field_set field k = grind (arith, nat_tests, get_or-set_same, get_or-set_other)

  module _ (w : ℕ) where
    pub written : registers_of (set es i x) w ≡ with_address_at (with_config_at (registers_of es w) i x.config) i x.address
    written = λ j. record { config = fun_ext (field_set (λ e. e.config)) j; address = fun_ext (field_set (λ e. e.address)) j; switch = w }

    pub config_written : x.address ≡ (entry_at es i).address → registers_of (set es i x) w ≡ with_config_at (registers_of es w) i x.config
    config_written a = written ∙ (λ j. record { config = put (registers_of es w).config i x.config; address = put_self (registers_of es w).address i x.address a j; switch = w })

    pub address_written : x.config ≡ (entry_at es i).config → registers_of (set es i x) w ≡ with_address_at (registers_of es w) i x.address
    address_written c = written ∙ (λ j. record { config = put_self (registers_of es w).config i x.config c j; address = put (registers_of es w).address i x.address; switch = w })

    pub none_written : x.config ≡ (entry_at es i).config → x.address ≡ (entry_at es i).address → registers_of (set es i x) w ≡ registers_of es w
    none_written c a = config_written a ∙ (λ j. record { config = put_self (registers_of es w).config i x.config c j; address = (registers_of es w).address; switch = w })

-- an entry set whose address is a field
pub addresses_set : (f : ℕ) (es : List Entry) (i : ℕ) (x : Entry) (w : ℕ) → i < length es → x.address < 2 ^ f → AddressesBelow f (registers_of es w)
    → AddressesBelow f (registers_of (set es i x) w)
addresses_set f es i x w h a b k l = ⊎_elim
    (λ e. subst (λ (y : Entry). y.address < 2 ^ f) (sym (ap (entry_at (set es i x)) e ∙ get_or-set_same es i x blank h)) a)
    (λ n. subst (λ (y : Entry). y.address < 2 ^ f) (sym (get_or-set_other es i k x blank n)) (b k l))
    (cases_eq k i)

-- ---- the kept bounds

-- the bounds of an entry are those of its registers over the address register below it
abbrev pub Fresh : Entry → ℕ → Type 0
Fresh e below = pair_of e.bounds ≡ resolved (matching_of e.config) e.address below

pub fresh_over : (x : Entry) (over under config address : ℕ) → x ≡ entry_over over config address → over ≡ under → Fresh x under
fresh_over x over under config address e q = subst₂ Fresh (sym e) q refl

module _ (es : List Entry) (i : ℕ) (x : Entry) (h : i < length es) where
  -- an entry that is set changes the register below the next one alone
  below_other : (k : ℕ) → (k ≡ suc i → x.address ≡ (entry_at es i).address) → below_of (set es i x) k ≡ below_of es k
  below_other zero a = refl
  below_other (suc k) a = grind (arith, get_or-set_same, get_or-set_other)

  fresh_set : Fresh x (below_of es i) → (k : ℕ) → (k ≢ i → Fresh (entry_at es k) (below_of es k))
      → (k ≡ suc i → x.address ≡ (entry_at es i).address) → Fresh (entry_at (set es i x) k) (below_of (set es i x) k)
  fresh_set f k old a =
      let b = below_other k a in
      ⊎_elim
      (λ e. subst₂ Fresh (sym (ap (entry_at (set es i x)) e ∙ get_or-set_same es i x blank h)) (sym (b ∙ ap (below_of es) e)) f)
      (λ n. subst₂ Fresh (sym (get_or-set_other es i k x blank n)) (sym b) (old n))
      (cases_eq k i)

-- an address register written, and its entry resolved, which is the last
pub kept_last : (es : List Entry) (i : ℕ) (x : Entry) (w : ℕ) → i < length es → 64 ≤ suc i → Fresh x (below_of es i) → Kept es w → Kept (set es i x) w
kept_last es i x w h last f old k l = fresh_set es i x h f k (λ _. old k l) (λ q. absurd (omega arith))

-- an address register written, and its entry and the one above resolved
pub kept_above : (es : List Entry) (i j : ℕ) (x y : Entry) (w : ℕ) → j ≡ suc i → j < length es → Fresh x (below_of es i)
    → y.address ≡ (entry_at (set es i x) j).address → Fresh y x.address → Kept es w → Kept (set (set es i x) j y) w
kept_above es i j x y w next h f a g old k l =
    let one = set es i x in
    let hi : i < length es = omega arith in
    let hj : j < length one = simp length-set h in
    let under : below_of one j ≡ x.address = ap (below_of one) next ∙ ap (λ (e : Entry). e.address) (get_or-set_same es i x blank hi) in
    fresh_set one j y hj (subst (Fresh y) (sym under) g) k (λ m. fresh_set es i x hi f k (λ _. old k l) (λ q. absurd (m (q ∙ sym next)))) (λ _. a)

-- ---- all zero

entries_zero : (k : ℕ) → entry_at (replicate 64 blank) k ≡ blank
entries_zero k = ⊎_elim (λ q. get_or-replicate 64 k blank blank q) (λ q. get_or_past (replicate 64 blank) k blank (omega (arith, length-replicate 64 blank))) (cases_lt k 64)

below_zero : (k : ℕ) → below_of (replicate 64 blank) k ≡ 0
below_zero zero = refl
below_zero (suc k) = ap (λ (e : Entry). e.address) (entries_zero k)

pub kept_zero : Kept (replicate 64 blank) 0
unfolding resolved
kept_zero = λ k _. subst₂ Fresh (sym (entries_zero k)) (sym (below_zero k)) refl

pub registers_zero : registers_of (replicate 64 blank) 0 ≡ zeros
registers_zero = λ j. record {
  config = fun_ext (λ k. ap (λ (e : Entry). e.config) (entries_zero k)) j;
  address = fun_ext (λ k. ap (λ (e : Entry). e.address) (entries_zero k)) j;
  switch = 0;
}
