-- One more that is joined.
use Rattle.std.proofs.Common.{◌≡◌, ◌-◌, ◌≤◌, List, ◌++◌, ◌∷◌, [], take, drop, get_or, sym, ap₂, ◌∙◌, subst, arith}
use lib.IntN.{ℤ}
use lib.Signed.{◌≤ℤ◌}
use mir.Syntax.{w32}
use mir.Val.{to_z, of_z}
use Rattle.std.specs.Prelude.{unsigned_abs}
use Rattle.std.specs.Int.{int_max}
use Rattle.scad_geom.specs.Limits.{coordinate_limit}
use Rattle.slice_outlines.specs.declared.flat.Flat.{Flat}
use Rattle.slice_outlines.specs.Flats.{AreJoined, StartsBehind}
use Rattle.slice_outlines.proofs.Parts.{part_one, part_more}
use Rattle.slice_outlines.proofs.Joining.{joined_more, whole_cast, max_size}
use Rattle.slice_outlines.proofs.flats.joined_from.Goals as goal

pub flats-init : goal.flats-init
flats-init c =
    let fs : List Flat = c.args.flats.now in
    let f : Flat = get_or fs c.args.from c.index-flats-from.result in
    let same : to_z w32 (of_z w32 f.right) ≡ f.right = whole_cast f.right f.right_size in
    record {
      from = omega arith;
      to = omega (arith, c.requires);
      joined = subst (λ (gs : List Flat). AreJoined gs (to_z w32 (of_z w32 f.right)))
          (sym (part_one fs c.args.from c.index-flats-from.result c.requires)) (sym same);
      size = subst (λ (z : ℤ). unsigned_abs z ≤ coordinate_limit) (sym same) f.right_size;
    }

pub flats-preserved : goal.flats-preserved
flats-preserved c =
    let fs : List Flat = c.args.flats.now in
    let right : ℤ = c.flats.joined.right in
    let e : Flat = c.index-flats-joined.result in
    let f : Flat = get_or fs c.flats.joined.to e in
    let there = c.is_joined.ensures.there c.flats-test.true in
    let by : f.left ≤ℤ right = subst (λ (z : ℤ). f.left ≤ℤ z) (whole_cast right c.flats.invariant.size)
    (c.is_joined.ensures.by c.flats-test.true e) in
    let most : c.max.result ≡ int_max right f.right = c.max.ensures.value
    ∙ ap₂ int_max (whole_cast right c.flats.invariant.size) (whole_cast f.right f.right_size) in
    let size : unsigned_abs c.max.result ≤ coordinate_limit = subst (λ (z : ℤ). unsigned_abs z ≤ coordinate_limit)
    (sym most) (max_size right f.right coordinate_limit c.flats.invariant.size f.right_size) in
    let same : to_z w32 (of_z w32 c.max.result) ≡ int_max right f.right = whole_cast c.max.result size ∙ most in
    record {
      from = omega (arith, c.flats.invariant.from);
      to = omega (arith, there);
      joined = subst (λ (gs : List Flat). AreJoined gs (to_z w32 (of_z w32 c.max.result)))
          (sym (part_more fs c.args.from c.flats.joined.to e (omega (arith, c.flats.invariant.from)) there))
          (subst (AreJoined (take (c.flats.joined.to - c.args.from) (drop c.args.from fs) ++ (f ∷ []))) (sym same)
          (joined_more (take (c.flats.joined.to - c.args.from) (drop c.args.from fs)) right f
          c.flats.invariant.joined by));
      size = subst (λ (z : ℤ). unsigned_abs z ≤ coordinate_limit) (sym (whole_cast c.max.result size)) size;
    }

pub flats-smaller : goal.flats-smaller
flats-smaller c = let there = c.is_joined.ensures.there c.flats-test.true in omega (arith, there)

pub returns-clause-next : goal.returns-clause-next
returns-clause-next c = subst (λ (z : ℤ). StartsBehind z (drop c.flats.joined.to c.args.flats.now))
    (whole_cast c.flats.joined.right c.flats.invariant.size) (c.is_joined.ensures.behind c.flats-test.false)
