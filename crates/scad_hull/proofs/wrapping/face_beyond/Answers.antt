-- The plane that turning finds is a face's, and the face has the side turned round.
use Rattle.std.proofs.Common.{◌≡◌}
use Rattle.scad_hull.specs.Faces.{IsFaceOf, GoesOn, face_in}
use Rattle.scad_hull.proofs.Beyond.{both_ok, small_a, small_b, small_c, turned_beyond, face_beyond}
use Rattle.scad_hull.proofs.NextSides.{back_there}
use Rattle.scad_hull.proofs.wrapping.face_beyond.Goals as goal

pub returns-clause-face : goal.returns-clause-face
returns-clause-face c =
    both_ok (λ f. f.normal ≡ c.outermost-normal.result)
    (λ f. f.ring.items ≡ face_in c.args.cloud.now.points.now c.args.b c.outermost-normal.result)
    (IsFaceOf c.args.cloud.now.points.now) c.face_in.result
    (λ f. face_beyond c.args.cloud.now.points.now c.args.a c.args.b c.args.c c.requires.side c.outermost-normal.result
    f
    c.outermost-normal.ensures.turned)
    c.face_in.ensures.normal c.face_in.ensures.ring

pub returns-clause-back : goal.returns-clause-back
returns-clause-back c =
    both_ok (λ f. f.normal ≡ c.outermost-normal.result)
    (λ f. f.ring.items ≡ face_in c.args.cloud.now.points.now c.args.b c.outermost-normal.result)
    (λ f. GoesOn f.ring.items c.args.b c.args.a) c.face_in.result
    (λ f e. back_there c.args.cloud.now.points.now c.requires.sorted c.args.a c.args.b c.args.c c.requires.side
    c.outermost-normal.result
    c.outermost-normal.ensures.turned f)
    c.face_in.ensures.normal c.face_in.ensures.ring

pub outermost-normal-requires : goal.outermost-normal-requires
outermost-normal-requires c =
    let a = c.args.a in
    let b = c.args.b in
    let ps = c.args.cloud.now.points.now in
    record {
      points = c.requires.points;
      a = small_b ps a b c.args.c c.requires.side c.requires.points;
      b = small_a ps a b c.args.c c.requires.side c.requires.points;
      first = small_c ps a b c.args.c c.requires.side c.requires.points;
      turned = turned_beyond ps a b c.args.c c.requires.side;
    }

pub face_in-requires : goal.face_in-requires
face_in-requires c = record {
  points = c.requires.points;
  a = small_b c.args.cloud.now.points.now c.args.a c.args.b c.args.c c.requires.side c.requires.points;
  normal = c.outermost-normal.ensures.narrow;
}
