-- A stop that stays is kept.
use Rattle.std.proofs.Common.{◌≤◌, ◌++◌, ◌∷◌, ◌+◌, ℕ, drop, refl, sym, ap, subst, ◌∙◌, List}
use Rattle.std.proofs.lemmas.List.{length-map}
use Rattle.slice_pieces.specs.declared.piece.Spot.{Spot}
use Rattle.slice_border.specs.declared.stop.Stop.{Stop}
use Rattle.slice_border.specs.Stops.{spots_in, is_left}
use Rattle.slice_events.specs.Distinct.{distinct_by}
use Rattle.slice_border.proofs.Stopping.{kept_step}
use Rattle.slice_events.proofs.Loops.{last_step}
use Rattle.slice_events.proofs.Repeats.{distinct_kept, distinct_left}
use Rattle.slice_border.proofs.stops.distinct.Goals as goal
use Rattle.slice_border.proofs.stops.distinct.Goals.{then-stays+in_ok-push, else-stays}

pub stops-preserved : goal.stops-preserved
stops-preserved c = elim c.if-stays.branch [
  | then-stays+in_ok-push w ↦
      let d : Stop = w.index-stops-i.result in
      let rest : List Spot = distinct_by is_left (drop (c.stops.i + 1) (spots_in c.args.stops.now)) in
      let items = ap (λ v. v.items) w.out-is ∙ w.in_ok-push.ensures.items in
      let step = distinct_kept is_left (λ (s : Stop). s.spot) c.args.stops.now c.stops.i d c.stops-test.true
      (sym c.stays.ensures ∙ w.if-stays.true) ∙ ap (λ (s : Stop). s.spot ∷ rest) (sym w.index-stops-i.is) in
      ap (λ (xs : List Stop). spots_in xs ++ rest) items
      ∙ kept_step c.stops.out.items d rest _
      (ap (λ (xs : List Spot). spots_in c.stops.out.items ++ xs) (sym step) ∙
      c.stops.invariant)
  | else-stays w ↦
      let rest : List Spot = distinct_by is_left (drop (c.stops.i + 1) (spots_in c.args.stops.now)) in
      let items = ap (λ v. v.items) w.out-is in
      let step = distinct_left is_left (λ (s : Stop). s.spot) c.args.stops.now c.stops.i c.stops-test.true
      (sym c.stays.ensures ∙ w.if-stays.false) in
      ap (λ (xs : List Stop). spots_in xs ++ rest) items ∙ ap (λ (xs : List Spot). spots_in c.stops.out.items ++ xs)
      (sym step) ∙ c.stops.invariant
]

pub returns : goal.returns
returns c =
    last_step (distinct_by is_left) (spots_in c.stops.out.items) (distinct_by is_left (spots_in c.args.stops.now))
    (spots_in c.args.stops.now) c.stops.i refl
    (subst (λ (n : ℕ). n ≤ c.stops.i) (sym (length-map c.args.stops.now (λ (s : Stop). s.spot))) c.stops-test.false)
    c.stops.invariant
