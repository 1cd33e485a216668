-- The strands and closed ways of places, one list of places behind another.
use Rattle.std.proofs.Common.{◌≡◌, List, [], ◌∷◌, ◌++◌, refl, sym, ap, ◌∙◌, append_assoc}
use Rattle.sweep_laws.specs.Ways.{Way}
use Rattle.sweep_laws.specs.Fronts.{Strand}
use Rattle.sweep_laws.specs.Crossing.{Place, all_below, all_above, all_closed}

pub below-append : (ps qs : List Place) → all_below (ps ++ qs) ≡ all_below ps ++ all_below qs
below-append [] qs = refl
below-append (p ∷ ps) qs = ap (λ (ss : List Strand). p.below ++ ss) (below-append ps qs)
    ∙ sym (append_assoc p.below (all_below ps) (all_below qs))

pub above-append : (ps qs : List Place) → all_above (ps ++ qs) ≡ all_above ps ++ all_above qs
above-append [] qs = refl
above-append (p ∷ ps) qs = ap (λ (ss : List Strand). p.above ++ ss) (above-append ps qs)
    ∙ sym (append_assoc p.above (all_above ps) (all_above qs))

pub closed-append : (ps qs : List Place) → all_closed (ps ++ qs) ≡ all_closed ps ++ all_closed qs
closed-append [] qs = refl
closed-append (p ∷ ps) qs = ap (λ (ws : List Way). p.closed ++ ws) (closed-append ps qs)
    ∙ sym (append_assoc p.closed (all_closed ps) (all_closed qs))
