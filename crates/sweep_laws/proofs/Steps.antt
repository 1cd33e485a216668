-- One step of a sweep.
use Rattle.std.proofs.Common.{◌≡◌, ℕ, Bool, false, not, List, [], ◌∷◌, refl, sym, ap, ◌∙◌, subst}
use mathlib.Core.Path.{fun_ext}
use lib.IntN.{ℤ}
use Rattle.std.specs.List.{AllByRecursion, concat}
use Rattle.std.proofs.lemmas.List.Elements.{recursion_from_All}
use Rattle.scad_geom.specs.declared.level.LeafEdge.{LeafEdge}
use Rattle.scad_geom.specs.declared.shape.Shape.{Shape}
use Rattle.scad_geom.specs.Level.{IsAtMost}
use Rattle.scad_geom.specs.Heights.{heights}
use Rattle.scad_geom.specs.Shape.{shape_holds}
use Rattle.scad_geom.specs.Sign.{is_zero}
use Rattle.slice_bundles.proofs.Live.{live_bundles}
use Rattle.slice_border.specs.Beside.{left_value, RisesFirst}
use Rattle.slice_border.specs.Tally.{headings}
use Rattle.sweep_laws.specs.Fronts.{Strand, bundles_of, AreValued}
use Rattle.sweep_laws.specs.Crossing.{Place, all_below, all_above}
use Rattle.sweep_laws.specs.Balance.{AreBoundariesBalanced}
use Rattle.sweep_laws.specs.Steps.{AreAlikeBeside, StepsLift}
use Rattle.sweep_laws.proofs.Balance.{CountsBeside, counts_first, counts_above}
use Rattle.sweep_laws.proofs.Boundaries.{boundaries_by, boundaries_are_balanced}
use Rattle.sweep_laws.proofs.LevelPieces.{first_is, later_valued}
use Rattle.sweep_laws.proofs.Lifting.{firsts}
use Rattle.sweep_laws.proofs.Stops.{places_are_stops}
use Rattle.sweep_laws.proofs.Values.{values_go_on}

-- what sums up alike holds alike
held_alike : (es : List LeafEdge) (shape : Shape) (below above : List (List ℕ))
    → ((leaf : ℕ) → headings es leaf (concat below) ≡ headings es leaf (concat above))
    → left_value es shape below ≡ left_value es shape above
held_alike es shape below above h = ap (λ (f : ℕ → Bool). shape_holds f shape)
    (fun_ext (λ leaf. ap (λ (z : ℤ). not (is_zero z)) (h leaf)))

alike_beside : (es : List LeafEdge) (shape : Shape) (ps : List Place) → AreBoundariesBalanced es ps
    → AreValued es shape (all_below ps) → AreValued es shape (all_above ps) → AreAlikeBeside es ps
alike_beside es shape [] b v w = tt
alike_beside es shape (p ∷ ps) b v w =
    let v' = later_valued es shape p.below (all_below ps) v in
    let w' = later_valued es shape p.above (all_above ps) w in (
      λ c. first_is es shape (all_below ps) v'
          ∙ held_alike es shape (bundles_of (all_below ps)) (bundles_of (all_above ps)) (b.0 c)
          ∙ sym (first_is es shape (all_above ps) w'),
      alike_beside es shape ps b.1 v' w',
    )

pub steps_lift : StepsLift
steps_lift = record {
  first = λ es shape balanced m u h mu places none a met new pass.
      let stops = places_are_stops.first es m u places h mu a met in
      let under : AreValued es shape (all_below places) = subst (AreValued es shape) (sym none) tt in
      let boundaries = boundaries_by es balanced m mu.lower_divisor places
      (subst (AllByRecursion (λ s. RisesFirst es s.bundle)) (sym none) tt)
      (firsts es m u (all_above places) (live_bundles es m u (bundles_of (all_above places)) a))
      (subst (λ (ss : List Strand). CountsBeside false es m (bundles_of ss)) (sym none)
      (counts_first es m mu.lower_divisor (recursion_from_All (IsAtMost m) (heights es) h)))
      (counts_above es m u mu (bundles_of (all_above places)) a) met stops in
      let values = values_go_on es shape places boundaries under new in (
        record {
          stops = stops;
          below_is = sym none;
          above_is = refl;
          meet_below = met.below;
          meet_above = met.above;
          passed = pass (alike_beside es shape places boundaries under values);
        },
        record { bundles = a; values = values },
      );
  between = λ es shape balanced l m u lm mu places f a met new pass.
      let stops = places_are_stops.between es l m u places lm mu f.bundles a met in
      let boundaries = boundaries_are_balanced es balanced l m u lm mu places f.bundles a met stops in
      let values = values_go_on es shape places boundaries f.values new in (
        record {
          stops = stops;
          below_is = refl;
          above_is = refl;
          meet_below = met.below;
          meet_above = met.above;
          passed = pass (alike_beside es shape places boundaries f.values values);
        },
        record { bundles = a; values = values },
      );
  last = λ es l m lm h places b none met pass. record {
    stops = places_are_stops.last es l m places lm h b met;
    below_is = refl;
    above_is = sym none;
    meet_below = met.below;
    meet_above = met.above;
    passed = pass;
  };
  only = λ es m dm a b places none nothing met pass. record {
    stops = places_are_stops.only es m places dm a b met;
    below_is = sym none;
    above_is = sym nothing;
    meet_below = met.below;
    meet_above = met.above;
    passed = pass;
  };
}
