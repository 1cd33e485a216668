-- The vertices so far are those of a circle, and at the end all of them.
use Rattle.std.proofs.Common.{◌≡◌, ◌++◌, [], ◌∷◌, length, map, ap, ap₂, sym, ◌∙◌, arith}
use Rattle.std.proofs.lemmas.List.FromFn.{map-range_with_len_more, length-map-range_with_len}
use Rattle.std.specs.List.{range_with_len}
use Rattle.scad_shapes.specs.Outline.{vertex}
use Rattle.scad_shapes.proofs.outline.circle.Goals as goal

pub loop-i-preserved : goal.loop-i-preserved
loop-i-preserved c =
    c.in_ok-push.ensures.items
    ∙ ap₂ (λ xs x. xs ++ x ∷ []) c.loop-i.invariant c.vertex.ensures
    ∙ sym (map-range_with_len_more (vertex c.args.r c.args.n) 0 c.loop-i.i c.loop-i.i (omega arith))

pub returns-clause-count : goal.returns-clause-count
returns-clause-count c =
    let all : c.loop-i.i ≡ c.args.n = omega arith in
    ap length c.loop-i.invariant ∙ length-map-range_with_len (vertex c.args.r c.args.n) 0 c.loop-i.i ∙ all

pub returns-clause-vertices : goal.returns-clause-vertices
returns-clause-vertices c =
    let all : c.loop-i.i ≡ c.args.n = omega arith in
    c.loop-i.invariant ∙ ap (λ n. map (vertex c.args.r c.args.n) (range_with_len 0 n)) all
