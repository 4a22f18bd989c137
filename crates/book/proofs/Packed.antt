-- The bits of a packed list of decisions are the decisions. Assumes nothing.
use Rattle.std.proofs.Common.{◌≡◌, ℕ, ◌+◌, ◌*◌, Bool, true, false, cond, eqb, List, [], ◌∷◌, get_or, refl, ap, ◌∙◌}
use lib.Lanes.{mask_l}
use Rattle.std.proofs.lemmas.Simd.{bit_mask_l}
use Rattle.book.specs.Bits.{bit, bits_of}

as_mask : (bs : List Bool) → bits_of bs ≡ mask_l bs
unfolding bits_of
as_mask [] = refl
as_mask (b ∷ bs) = ap (λ (m : ℕ). cond b 1 0 + 2 * m) (as_mask bs)

is_one : (b : Bool) → eqb (cond b 1 0) 1 ≡ b
is_one true = refl
is_one false = refl

pub bit_of : (bs : List Bool) (k : ℕ) → bit (bits_of bs) k ≡ get_or bs k false
bit_of bs k = ap (λ (n : ℕ). bit n k) (as_mask bs) ∙ ap (λ (n : ℕ). eqb n 1) (bit_mask_l bs k) ∙ is_one (get_or bs k false)
