-- A vertex that isn't strictly between its neighbours is a corner.
use Rattle.std.proofs.Common.{◌∷◌, [], ◌++◌, ◌+◌, Bool, cond, drop, get_or, pos, sym, ap, ◌∙◌, List, append_assoc}
use Rattle.std.proofs.lemmas.List.{append-nil, at_drop_more, drop_all}
use Rattle.scad_geom.specs.declared.point.Pt.{Pt}
use Rattle.slice_loops.specs.Corners.{corners_between}
use Rattle.slice_loops.proofs.corners.corners_round.Goals as goal
use Rattle.slice_loops.proofs.corners.corners_round.Goals.{then-not-is_between+in_ok-push, else-not-is_between, then-not-is_between-2+in_ok-push-2, else-not-is_between-2}

pub vertices-preserved : goal.vertices-preserved
vertices-preserved c =
    let first = c.args.first in
    let rest : List Pt = c.args.rest.now in
    let i = c.vertices.next-index in
    let none : Pt = record { x = pos 0; y = pos 0 } in
    let next : Pt = get_or rest i none in
    let before = c.vertices.before in
    let at = c.vertices.at in
    let corners : List Pt = c.vertices.corners.items in
    let more : List Pt = corners_between at next (drop (i + 1) rest) first in
    let whole = c.vertices.invariant
    ∙ ap (λ (xs : List Pt). corners ++ xs)
    (at_drop_more (λ (xs : List Pt). corners_between before at xs first) rest i none c.vertices-test.true) in
    let value = sym c.is_between.ensures in
    elim c.if-not-is_between.branch [
      | then-not-is_between+in_ok-push w ↦
          whole ∙ ap (λ (t : Bool). corners ++ cond t more (at ∷ more)) (value ∙ w.if-not-is_between.true)
          ∙ sym (append_assoc corners (at ∷ []) more)
          ∙ ap (λ (xs : List Pt). xs ++ more) (sym (ap (λ v. v.items) w.corners-is ∙ w.in_ok-push.ensures.items))
      | else-not-is_between w ↦
          whole ∙ ap (λ (t : Bool). corners ++ cond t more (at ∷ more)) (value ∙ w.if-not-is_between.false)
          ∙ ap (λ v. v.items ++ more) (sym w.corners-is)
    ]

pub returns : goal.returns
returns c =
    let first = c.args.first in
    let before = c.vertices.before in
    let at = c.vertices.at in
    let corners : List Pt = c.vertices.corners.items in
    let whole = c.vertices.invariant
    ∙ ap (λ (xs : List Pt). corners ++ corners_between before at xs first)
    (drop_all c.vertices.next-index c.args.rest.now c.vertices-test.false) in
    let value = sym c.is_between-2.ensures in
    elim c.if-not-is_between-2.branch [
      | then-not-is_between-2+in_ok-push-2 w ↦
          ap (λ v. v.items) w.corners-is ∙ w.in_ok-push-2.ensures.items
          ∙ ap (λ (t : Bool). corners ++ cond t [] (at ∷ [])) (sym (value ∙ w.if-not-is_between-2.true))
          ∙ sym whole
      | else-not-is_between-2 w ↦
          ap (λ v. v.items) w.corners-is ∙ sym (append-nil corners)
          ∙ ap (λ (t : Bool). corners ++ cond t [] (at ∷ [])) (sym (value ∙ w.if-not-is_between-2.false))
          ∙ sym whole
    ]
