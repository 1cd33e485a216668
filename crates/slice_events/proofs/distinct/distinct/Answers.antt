-- A height that stays is kept.
use Rattle.std.proofs.Common.{◌++◌, ◌+◌, drop, get_or, sym, ap, ◌∙◌, subst, List}
use Rattle.std.specs.List.{All}
use Rattle.std.proofs.lemmas.List.Elements.{All-push}
use Rattle.scad_geom.specs.Limits.{coordinate_limit}
use Rattle.scad_geom.specs.declared.level.Level.{Level}
use Rattle.scad_geom.specs.Level.{IsLevelWithin}
use Rattle.slice_events.specs.declared.height.Height.{Height}
use Rattle.slice_events.specs.Collection.{levels_in, is_lower}
use Rattle.slice_events.specs.Distinct.{distinct_by}
use Rattle.slice_events.proofs.Steps.{pushed}
use Rattle.slice_events.proofs.Repeats.{distinct_kept, distinct_left}
use Rattle.slice_events.proofs.distinct.distinct.Goals as goal
use Rattle.slice_events.proofs.distinct.distinct.Goals.{then-stays+in_ok-push, else-stays}

pub heights-preserved : goal.heights-preserved
heights-preserved c = elim c.if-stays.branch [
  | then-stays+in_ok-push w ↦
      let d : Height = w.index-heights-i.result in
      let l : Level = (get_or c.args.heights.now c.heights.i d).level in
      let items = ap (λ v. v.items) w.out-is ∙ w.in_ok-push.ensures.items in
      let step = distinct_kept is_lower (λ (h : Height). h.level) c.args.heights.now c.heights.i d c.heights-test.true (sym c.stays.ensures ∙ w.if-stays.true) in
      record {
        kept = ap (λ (xs : List Level). xs ++ distinct_by is_lower
            (drop (c.heights.i + 1) (levels_in c.args.heights.now))) items
            ∙ pushed c.heights.out.items (distinct_by is_lower
            (drop (c.heights.i + 1) (levels_in c.args.heights.now))) _ l
            (ap (λ (xs : List Level). c.heights.out.items ++ xs) (sym step) ∙ c.heights.invariant.kept);
        within = subst (All (IsLevelWithin coordinate_limit)) (sym items)
            (All-push (IsLevelWithin coordinate_limit) c.heights.out.items l c.heights.invariant.within
            (get_or c.args.heights.now c.heights.i d).within);
      }
  | else-stays w ↦
      let items = ap (λ v. v.items) w.out-is in
      let step = distinct_left is_lower (λ (h : Height). h.level) c.args.heights.now c.heights.i c.heights-test.true (sym c.stays.ensures ∙ w.if-stays.false) in
      record {
        kept = ap (λ (xs : List Level). xs ++ distinct_by is_lower
            (drop (c.heights.i + 1) (levels_in c.args.heights.now))) items
            ∙ ap (λ (xs : List Level). c.heights.out.items ++ xs) (sym step) ∙ c.heights.invariant.kept;
        within = subst (All (IsLevelWithin coordinate_limit)) (sym items) c.heights.invariant.within;
      }
]
