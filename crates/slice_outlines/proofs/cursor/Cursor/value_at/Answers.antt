-- The cursor goes to the place, and the shape's leaves are in by the headings from there on.
use Rattle.std.proofs.Common.{ℕ, List, drop, ap, ◌∙◌}
use Rattle.std.specs.List.{concat}
use Rattle.scad_geom.specs.declared.shape.Shape.{Shape}
use Rattle.slice_sweep.specs.Front.{bundles_in}
use Rattle.slice_border.specs.Beside.{left_value}
use Rattle.slice_outlines.proofs.Standing.{arrives}
use Rattle.slice_outlines.proofs.cursor.Cursor.value_at.Goals as goal

pub go_right-requires-clause-stands : goal.go_right-requires-clause-stands
go_right-requires-clause-stands c = record {
  shape = c.requires.stands.shape;
  on = c.go_left.ensures.stands c.requires.stands.shape c.requires.stands.on;
}

pub value-requires : goal.value-requires
value-requires c =
    let shape : Shape = c.requires.stands.shape in
    (c.go_right.ensures.stands shape (c.go_left.ensures.stands shape c.requires.stands.on)).tells.ready

pub returns-clause-value : goal.returns-clause-value
returns-clause-value c = λ shape s.
    let es = c.args.edges.now in
    let bs : List (List ℕ) = bundles_in c.args.front.now in
    let t = c.go_right.ensures.stands shape (c.go_left.ensures.stands shape s) in
    let at = arrives c.args.place c.args.self.now.at c.go_left.new.self.at c.go_right.new.self.at
    c.go_left.ensures.stays c.go_left.ensures.goes c.go_right.ensures.stays c.go_right.ensures.goes in
    c.value.ensures es shape (concat (drop c.go_right.new.self.at bs)) t.tells
    ∙ ap (λ (n : ℕ). left_value es shape (drop n bs)) at

pub returns-clause-place : goal.returns-clause-place
returns-clause-place c = arrives c.args.place c.args.self.now.at c.go_left.new.self.at c.go_right.new.self.at
    c.go_left.ensures.stays c.go_left.ensures.goes c.go_right.ensures.stays c.go_right.ensures.goes
