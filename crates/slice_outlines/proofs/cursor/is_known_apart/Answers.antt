-- Where the first of two strands is known to lie to the left of the other, they don't meet.
use Rattle.std.proofs.Common.{◌≡◌, ◌+◌, ◌-◌, [], ℕ, get_or, subst, arith}
use lib.IntN.{ℤ, ◌*ℤ◌}
use lib.Signed.{◌<ℤ◌}
use Rattle.std.proofs.lemmas.Int.{ints}
use Rattle.scad_geom.specs.declared.point.Edge.{Edge}
use Rattle.scad_geom.specs.Line.{rise, x_at}
use Rattle.slice_bundles.specs.Bundles.{edge_at}
use Rattle.slice_bundles.specs.KeptOrder.{IsLeftAt}
use Rattle.slice_sweep.specs.Strands.{head}
use Rattle.slice_sweep.specs.Front.{bundles_in}
use Rattle.slice_outlines.specs.Marks.{mark_at}
use Rattle.slice_outlines.proofs.Fitting.{head_at}
use Rattle.slice_outlines.proofs.cursor.is_known_apart.Goals as goal

unequal : (a b : ℤ) → a <ℤ b → a ≡ b → ⊥
unequal a b o e = grind (arith, ints)

pub returns : goal.returns
returns c known es ms ready named i e o same =
    let at = c.args.at.now in
    let bs = bundles_in c.args.front.now in
    let place : ℕ = c.args.place in
    let some = c.requires.some in
    let first : place - 1 ≡ i = omega (arith, e) in
    let second : place - 1 + 1 ≡ place = omega (arith, some) in
    let left : IsLeftAt at (head es (get_or bs i [])) (head es (get_or bs place [])) =
    subst (λ (j : ℕ). IsLeftAt at (head es (get_or bs j [])) (head es (get_or bs place []))) first
    (subst (λ (j : ℕ). IsLeftAt at (head es (get_or bs (place - 1) [])) (head es (get_or bs j []))) second
    (c.is_known_left.ensures known es ready)) in
    let marked : IsLeftAt at (edge_at es (mark_at ms i).name) (edge_at es (mark_at ms place).name) =
    subst (λ (a : Edge). IsLeftAt at a (edge_at es (mark_at ms place).name)) (head_at es ms bs i named (omega (arith, e, o)))
    (subst (IsLeftAt at (head es (get_or bs i []))) (head_at es ms bs place named o) left) in
    let e : Edge = edge_at es (mark_at ms i).name in
    let f : Edge = edge_at es (mark_at ms place).name in
    unequal (x_at e at.n at.d *ℤ rise f) (x_at f at.n at.d *ℤ rise e) marked same
