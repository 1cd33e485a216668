-- The face behind a bend's side was there, or is found and put to the others.
use Rattle.std.proofs.Common.{sym, ◌∙◌}
use Rattle.std.proofs.lemmas.Result.{on_ok_weaker}
use Rattle.scad_hull.specs.Wrapping.{rings_of, HasSide}
use Rattle.scad_hull.proofs.MoreFaces.{key_had, extends_itself, added, extended, back_added, three_ok}
use Rattle.scad_hull.proofs.wrapping.close.Goals as goal

pub returns-then-contains : goal.returns-then-contains
returns-then-contains c = record {
  found = c.requires.found;
  faces = extends_itself (rings_of c.args.faces.now.items);
  bends = extends_itself c.args.bends.now.items;
  back = key_had c.args.sides.now.keys (record { from = c.args.bend.at; to = c.args.bend.from })
      (λ s. HasSide (rings_of c.args.faces.now.items) s.from s.to) c.requires.found.sides
      (sym c.contains.ensures ∙ c.if-contains.true);
}

pub returns : goal.returns
returns c = record {
  found = three_ok c.add.result
      (λ f b s. added c.args.cloud.now.points.now c.args.faces.now.items c.add.new.faces.items c.args.bends.now.items
      c.add.new.bends.items
      c.args.sides.now.keys c.add.new.sides.keys c.in_ok-face.face c.requires.found c.in_ok-face.ensures.face f b s)
      c.add.ensures.faces c.add.ensures.bends c.add.ensures.sides;
  faces = on_ok_weaker c.add.result (λ e. extended c.args.faces.now.items c.add.new.faces.items c.in_ok-face.face e)
      c.add.ensures.faces;
  bends = on_ok_weaker c.add.result (λ e. (_, e)) c.add.ensures.bends;
  back = on_ok_weaker c.add.result
      (λ e. back_added c.args.faces.now.items c.add.new.faces.items c.in_ok-face.face c.args.bend.at c.args.bend.from e
      c.in_ok-face.ensures.back) c.add.ensures.faces;
}
