-- A face in the plane that was found, unless all points lie in it.
use Rattle.std.proofs.Common.{◌≡◌, true, length, sym, ◌∙◌, arith}
use Rattle.std.proofs.lemmas.Bool.Decides.{nat_tests}
use Rattle.scad_hull.specs.Space.{IsNarrow}
use Rattle.scad_hull.specs.Faces.{are_flat, IsFacePlane}
use Rattle.scad_hull.proofs.FirstFaces.{no_inner, some_inner}
use Rattle.scad_hull.proofs.FirstSteps.{face_of, none_flat}
use Rattle.scad_hull.proofs.Options.{at_some, at_none}
use Rattle.scad_hull.proofs.first.first_face.Goals as goal

pub returns-then-is_empty : goal.returns-then-is_empty
returns-then-is_empty c =
    let none : length c.args.cloud.now.points.now ≡ 0 = grind (arith, nat_tests) in
    record { some = tt; spread = tt; none = none_flat c.args.cloud.now.points.now none }

pub returns-in_default : goal.returns-in_default
returns-in_default c = record {
  some = tt;
  spread = tt;
  none = at_none (are_flat c.args.cloud.now.points.now ≡ true) c.in_ok-normal.field-0
      (λ x e. c.in_default.not-Some x e)
      c.in_ok-normal.ensures.none;
}

pub has_inner-requires-clause-normal : goal.has_inner-requires-clause-normal
has_inner-requires-clause-normal c =
    at_some IsNarrow c.in_ok-normal.field-0 c.in-Some.normal c.in-Some.is c.in_ok-normal.ensures.narrow

pub face_in-requires-clause-normal : goal.face_in-requires-clause-normal
face_in-requires-clause-normal c =
    at_some IsNarrow c.in_ok-normal.field-0 c.in-Some.normal c.in-Some.is c.in_ok-normal.ensures.narrow

pub returns-then-not-has_inner : goal.returns-then-not-has_inner
returns-then-not-has_inner c = record {
  some = tt;
  spread = tt;
  none = no_inner c.args.cloud.now.points.now _ c.in-Some.normal
      (at_some (IsFacePlane c.args.cloud.now.points.now _) c.in_ok-normal.field-0 c.in-Some.normal c.in-Some.is
      c.in_ok-normal.ensures.plane)
      (sym c.has_inner.ensures ∙ c.if-not-has_inner.true);
}

pub returns : goal.returns
returns c = record {
  some = face_of c.args.cloud.now.points.now _ c.in-Some.normal c.in_ok-face.face
      (at_some (IsFacePlane c.args.cloud.now.points.now _) c.in_ok-normal.field-0 c.in-Some.normal c.in-Some.is
      c.in_ok-normal.ensures.plane)
      c.in_ok-face.ensures.normal c.in_ok-face.ensures.ring;
  spread = some_inner c.args.cloud.now.points.now _ c.in-Some.normal
      (at_some (IsFacePlane c.args.cloud.now.points.now _) c.in_ok-normal.field-0 c.in-Some.normal c.in-Some.is
      c.in_ok-normal.ensures.plane)
      (sym c.has_inner.ensures ∙ c.if-not-has_inner.false);
  none = tt;
}
