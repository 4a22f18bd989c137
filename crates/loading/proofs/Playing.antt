-- Grants made one after the other, step by step.
use Rattle.std.proofs.Common.{◌≡◌, ℕ, List, [], ◌∷◌, ◌++◌, Some, None, Option, refl, ap, ◌∙◌}
use Rattle.grants.specs.Plans.{PlanTerms, answer_after}
use Rattle.grants.specs.declared.call.PlanCall.{PlanCall}
use Rattle.loading.specs.Grants.{LayoutGrant}
use Rattle.loading.specs.Played.{Outcome, RefusedGrant, refused_by, gone_on, played}

module _ (f : ℕ) (p : PlanTerms) where
  -- A plan stands after calls from which the grants that are left come to the outcome of all.
  abbrev pub Reached : (List PlanCall → Type 0) → Outcome → List LayoutGrant → Type 0
  Reached S o gs = (cs : List PlanCall) × S cs × (o ≡ played f p cs gs)

  abbrev pub refused_at : List PlanCall → LayoutGrant → Option RefusedGrant
  refused_at cs g = refused_by g (answer_after f p cs g.call)

  pub played_none : (cs : List PlanCall) → played f p cs [] ≡ record { calls = cs; refusal = None }
  unfolding played
  played_none cs = refl

  pub played_step : (cs : List PlanCall) (g : LayoutGrant) (gs : List LayoutGrant) → played f p cs (g ∷ gs) ≡ gone_on (refused_at cs g) (g.call ∷ cs) (played f p (g.call ∷ cs) gs)
  unfolding played
  played_step cs g gs = refl

  -- what is left once it is known whether the first grant is refused
  pub played_by : (cs : List PlanCall) (g : LayoutGrant) (gs : List LayoutGrant) (o : Option RefusedGrant) → refused_at cs g ≡ o → played f p cs (g ∷ gs) ≡ gone_on o (g.call ∷ cs) (played f p (g.call ∷ cs) gs)
  played_by cs g gs o e = played_step cs g gs ∙ ap (λ (x : Option RefusedGrant). gone_on x (g.call ∷ cs) (played f p (g.call ∷ cs) gs)) e

  -- Grants after other grants begin where those ended, if none was refused.
  abbrev pub Appended : List PlanCall → List LayoutGrant → List LayoutGrant → Type 0
  Appended cs us vs = played f p cs (us ++ vs) ≡ gone_on (played f p cs us).refusal (played f p cs us).calls (played f p (played f p cs us).calls vs)

  abbrev stepped : List PlanCall → LayoutGrant → List LayoutGrant → List LayoutGrant → Option RefusedGrant → Type 0
  stepped cs g us vs o =
      gone_on o (g.call ∷ cs) (played f p (g.call ∷ cs) (us ++ vs))
      ≡ gone_on (gone_on o (g.call ∷ cs) (played f p (g.call ∷ cs) us)).refusal (gone_on o (g.call ∷ cs) (played f p (g.call ∷ cs) us)).calls
      (played f p (gone_on o (g.call ∷ cs) (played f p (g.call ∷ cs) us)).calls vs)

  pub played_append : (cs : List PlanCall) (us vs : List LayoutGrant) → Appended cs us vs
  unfolding played
  played_append cs [] vs = refl
  played_append cs (g ∷ us) vs =
      elim (refused_at cs g) as (λ o. stepped cs g us vs o) [ None ↦ played_append (g.call ∷ cs) us vs | Some x ↦ refl ]

  -- what is left once it is known whether one of the first grants is refused
  pub append_by : (cs : List PlanCall) (us vs : List LayoutGrant) (o : Option RefusedGrant) → (played f p cs us).refusal ≡ o → played f p cs (us ++ vs) ≡ gone_on o (played f p cs us).calls (played f p (played f p cs us).calls vs)
  append_by cs us vs o e =
      played_append cs us vs ∙ ap (λ (x : Option RefusedGrant). gone_on x (played f p cs us).calls (played f p (played f p cs us).calls vs)) e
