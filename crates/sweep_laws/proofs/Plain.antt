-- Heights along which nothing leads from place to place.
use Rattle.std.proofs.Common.{◌≡◌, Bool, false, List, [], ◌∷◌, ◌++◌, length, refl, sym, ap, ◌∙◌, subst, arith}
use Rattle.sweep_laws.specs.Ways.{Way}
use Rattle.sweep_laws.specs.Visits.{Pass}
use Rattle.sweep_laws.specs.Fronts.{Strand, value_before, ways_up, ways_from}
use Rattle.sweep_laws.specs.Crossing.{all_below, all_above, ArePassed}
use Rattle.sweep_laws.specs.Plain.{PlainHeightsPass, LastHeightsPass}
use Rattle.sweep_laws.proofs.Staying.{no_flat_way, plain_places_pass}

pub plain_heights_pass : PlainHeightsPass
plain_heights_pass es l u [] c same pass = refl
plain_heights_pass es l u (p ∷ ps) c same pass = (
  plain_places_pass es l u p ps c.0
      (subst (λ (r : Bool). Pass (ways_up es l (value_before (all_below ps) false) p.below)
      (ways_from es l u r p.above) (ways_up es u r p.above) p.closed) (same.0 c.0) pass.0),
  subst (λ (flat : List Way). ArePassed es l u flat ps) (sym (no_flat_way es p.start p ps c.0))
      (plain_heights_pass es l u ps c.1 same.1 pass.1),
)

-- ---- nothing above
nothing_both : (xs ys : List Strand) → xs ++ ys ≡ [] → (xs ≡ []) × (ys ≡ [])
nothing_both [] ys h = (refl, h)
nothing_both (x ∷ xs) ys h = let l = ap length h in absurd (omega arith)

pub last_heights_pass : LastHeightsPass
last_heights_pass es m [] e c pass = refl
last_heights_pass es m (p ∷ ps) e c pass =
    let none = nothing_both p.above (all_above ps) e in
    let v : Bool = value_before (all_below ps) false in
    let w : Bool = value_before (all_above ps) false in
    let outs : ways_from es m m v p.above ≡ ways_from es m m w p.above =
    ap (ways_from es m m v) none.0 ∙ sym (ap (ways_from es m m w) none.0) in
    let after : ways_up es m v p.above ≡ ways_up es m w p.above =
    ap (ways_up es m v) none.0 ∙ sym (ap (ways_up es m w) none.0) in (
      plain_places_pass es m m p ps c.0
          (subst (λ (os : List Way). Pass (ways_up es m v p.below) os (ways_up es m w p.above) p.closed) outs
          (subst (λ (as' : List Way). Pass (ways_up es m v p.below)
          (ways_from es m m v p.above) as' p.closed) after pass.0)),
      subst (λ (flat : List Way). ArePassed es m m flat ps) (sym (no_flat_way es p.start p ps c.0))
          (last_heights_pass es m ps none.1 c.1 pass.1),
    )
