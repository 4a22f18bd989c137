-- The turns of a run's loop over the calls.
use Rattle.std.proofs.Common.{◌≡◌, ℕ, ◌+◌, ◌<◌, List, [], ◌∷◌, ◌++◌, reverse, length, get_or, take, Option, sym, refl, ap, ◌∙◌}
use mathlib.Core.List.{reverse-append}
use Rattle.std.proofs.lemmas.List.{take_more}
use Rattle.history.specs.declared.call.Call.{Call}
use Rattle.history.specs.declared.call.Answer.{Answer}
use Rattle.run.specs.declared.turn.Turn.{Turn}
use Rattle.run.specs.Turns.{calls_of}

pub calls_more : (l : List Turn) (t : Turn) → calls_of (l ++ (t ∷ [])) ≡ calls_of l ++ (t.call ∷ [])
calls_more [] t = refl
calls_more (x ∷ l) t = ap (λ (r : List Call). x.call ∷ r) (calls_more l t)

-- one more turn of the loop over the calls
pub calls_taken : (l l' : List Turn) (cs : List Call) (i : ℕ) (d : Call) (o : Option Answer) → i < length cs → l' ≡ l ++ (record { call = get_or cs i d; answer = o } ∷ []) → calls_of l ≡ take i cs → calls_of l' ≡ take (i + 1) cs
calls_taken l l' cs i d o lt e inv =
    ap calls_of e ∙ calls_more l (record { call = get_or cs i d; answer = o }) ∙ ap (λ (r : List Call). r ++ (get_or cs i d ∷ [])) inv ∙ sym (take_more cs i d lt)

pub newest : (l l' : List Turn) (t : Turn) → l' ≡ l ++ (t ∷ []) → reverse l' ≡ t ∷ reverse l
newest l l' t e = ap reverse e ∙ reverse-append l (t ∷ [])
