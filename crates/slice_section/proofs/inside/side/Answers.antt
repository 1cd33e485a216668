-- The sizes of what is handed on, and the difference of both parts.
use Rattle.std.proofs.Common.{ℤ, ◌*ℤ◌, ◌^◌, refl, ap₂, ◌∙◌, arith}
use Rattle.std.proofs.lemmas.Int.{to_z-of_z}
use mir.Syntax.{w128}
use Rattle.scad_geom.specs.Winding.{side_by}
use Rattle.scad_geom.proofs.Casts.{sizes, by_cast, difference_by, handed}
use Rattle.slice_section.proofs.Differences.{crossed_by, kept_size}
use Rattle.slice_section.proofs.inside.side.Goals as goal

pub aside-left-requires : goal.aside-left-requires
aside-left-requires c = record {
  to = kept_size c.args.b.now.x (2 ^ 43) c.requires.b.x (omega arith);
  from_divisor = kept_size c.args.a.now.d (2 ^ 22) c.requires.a.d (omega arith);
  from = kept_size c.args.a.now.x (2 ^ 43) c.requires.a.x (omega arith);
  to_divisor = kept_size c.args.b.now.d (2 ^ 22) c.requires.b.d (omega arith);
  point = kept_size c.args.y (2 ^ 33) c.requires.y (omega arith);
  end = kept_size c.args.a.now.y (2 ^ 43) c.requires.a.y (omega arith);
}

pub aside-right-requires : goal.aside-right-requires
aside-right-requires c = record {
  to = kept_size c.args.b.now.y (2 ^ 43) c.requires.b.y (omega arith);
  from_divisor = kept_size c.args.a.now.d (2 ^ 22) c.requires.a.d (omega arith);
  from = kept_size c.args.a.now.y (2 ^ 43) c.requires.a.y (omega arith);
  to_divisor = kept_size c.args.b.now.d (2 ^ 22) c.requires.b.d (omega arith);
  point = kept_size c.args.x (2 ^ 33) c.requires.x (omega arith);
  end = kept_size c.args.a.now.x (2 ^ 43) c.requires.a.x (omega arith);
}

pub minus-requires : goal.minus-requires
minus-requires c = record { fits = omega (arith, sizes) }

pub returns-clause-value : goal.returns-clause-value
unfolding side_by
returns-clause-value c =
    let times : ℤ → ℤ → ℤ = λ s t. s *ℤ t in
    let a = c.args.a.now in
    let b = c.args.b.now in
    let ax = handed w128 a.x (omega (arith, c.requires.a.x)) refl in
    let ay = handed w128 a.y (omega (arith, c.requires.a.y)) refl in
    let ad = handed w128 a.d (omega (arith, c.requires.a.d)) refl in
    let bx = handed w128 b.x (omega (arith, c.requires.b.x)) refl in
    let by = handed w128 b.y (omega (arith, c.requires.b.y)) refl in
    let bd = handed w128 b.d (omega (arith, c.requires.b.d)) refl in
    let x = to_z-of_z w128 c.args.x c.ranges.x in
    let y = to_z-of_z w128 c.args.y c.ranges.y in
    difference_by w128 c.minus.type_inv c.minus.ensures.difference
    (by_cast w128 c.aside-left.type_inv
    (c.aside-left.ensures.value ∙ ap₂ times (crossed_by bx ad ax bd) (crossed_by y ad ay refl)))
    (by_cast w128 c.aside-right.type_inv
    (c.aside-right.ensures.value ∙ ap₂ times (crossed_by by ad ay bd) (crossed_by x ad ax refl)))

pub returns-clause-size : goal.returns-clause-size
returns-clause-size c = omega (arith, sizes)
