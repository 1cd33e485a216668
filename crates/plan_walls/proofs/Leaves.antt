-- The leaves of a wall's shape: the outlines and the ring of each side, each of them closed.
use Rattle.std.proofs.Common.{◌≡◌, ℕ, ◌+◌, ◌<◌, Bool, true, false, cond, ◌==◌, List, [], ◌∷◌, ◌++◌, map}
use Rattle.std.proofs.Common.{refl, sym, ap, ap₂, ◌∙◌, subst, arith}
use Rattle.std.specs.Prelude.{filter}
use Rattle.std.proofs.lemmas.Bool.{eq-eqb, eqb-true}
use Rattle.std.proofs.lemmas.List.{map-append, append-nil}
use Rattle.scad_geom.specs.declared.point.Pt.{Pt}
use Rattle.scad_geom.specs.declared.point.Edge.{Edge}
use Rattle.scad_geom.specs.declared.level.LeafEdge.{LeafEdge}
use Rattle.scad_geom.specs.Segment.{segment_of, segments}
use Rattle.scad_geom.specs.Loop.{sides}
use Rattle.scad_geom.specs.Balance.{IsBalanced}
use Rattle.scad_geom.specs.Leaves.{edges_of, AreLeavesBalanced}
use Rattle.scad_geom.proofs.LeafEdges.{edges_of-append, both_balanced, none_balanced, chosen_balanced}
use Rattle.scad_ring.specs.Corners.{corners_of}
use Rattle.plan_sides.proofs.Closure.{sides_balanced}
use Rattle.plan_walls.specs.Walls.{of_leaf, rings_from, with_rings}

-- ---- which edges are a leaf's
-- the edges of one leaf are another's only where they are the same leaf
edges_of-leaf : (leaf k : ℕ) (es : List Edge) (b : Bool) → (k == leaf) ≡ b → edges_of leaf (of_leaf k es) ≡ cond b es []
edges_of-leaf leaf k [] true is = refl
edges_of-leaf leaf k [] false is = refl
edges_of-leaf leaf k (e ∷ es) true is =
    let rest : List LeafEdge = filter (λ x. x.leaf == leaf) (of_leaf k es) in
    ap (λ t. map (λ x. x.edge) (cond t (record { leaf = k; edge = e } ∷ rest) rest)) is
    ∙ ap (λ r. e ∷ r) (edges_of-leaf leaf k es true is)
edges_of-leaf leaf k (e ∷ es) false is =
    let rest : List LeafEdge = filter (λ x. x.leaf == leaf) (of_leaf k es) in
    ap (λ t. map (λ x. x.edge) (cond t (record { leaf = k; edge = e } ∷ rest) rest)) is
    ∙ edges_of-leaf leaf k es false is

same_number : (k : ℕ) → (k == k) ≡ true
same_number k = eq-eqb k k refl

other_number : (k leaf : ℕ) → (k ≡ leaf → ⊥) → (k == leaf) ≡ false
other_number k leaf other = by_test (k == leaf) refl
  where
    by_test : (t : Bool) → (k == leaf) ≡ t → (k == leaf) ≡ false
    by_test true q = absurd (other (eqb-true k leaf q))
    by_test false q = q

module _ (c : ℕ) where
  abbrev ring_of : Edge → List Edge
  ring_of e = sides (corners_of c e)

  -- the leaves of rings are numbered upwards
  no_ring : (leaf k : ℕ) (es : List Edge) → leaf < k → edges_of leaf (rings_from c k es) ≡ []
  no_ring leaf k [] h = refl
  no_ring leaf k (e ∷ es) h =
      edges_of-append leaf (of_leaf k (ring_of e)) (rings_from c (k + 1) es)
      ∙ ap₂ (λ fs gs. fs ++ gs)
      (edges_of-leaf leaf k (ring_of e) false (other_number k leaf (λ e. omega (arith, h, e))))
      (no_ring leaf (k + 1) es (omega (arith, h)))

  pub first_ring : (k : ℕ) (e : Edge) (es : List Edge) → edges_of k (rings_from c k (e ∷ es)) ≡ sides (corners_of c e)
  first_ring k e es =
      edges_of-append k (of_leaf k (ring_of e)) (rings_from c (k + 1) es)
      ∙ ap₂ (λ fs gs. fs ++ gs) (edges_of-leaf k k (ring_of e) true (same_number k))
      (no_ring k (k + 1) es (omega arith))
      ∙ append-nil (ring_of e)

  pub later_ring : (leaf k : ℕ) (e : Edge) (es : List Edge) → k < leaf
      → edges_of leaf (rings_from c k (e ∷ es)) ≡ edges_of leaf (rings_from c (k + 1) es)
  later_ring leaf k e es h =
      edges_of-append leaf (of_leaf k (ring_of e)) (rings_from c (k + 1) es)
      ∙ ap (λ fs. fs ++ edges_of leaf (rings_from c (k + 1) es))
      (edges_of-leaf leaf k (ring_of e) false (other_number k leaf (λ e. omega (arith, h, e))))

  pub outline_leaf : (es : List Edge) → edges_of 0 (with_rings c es) ≡ es
  outline_leaf es =
      edges_of-append 0 (of_leaf 0 es) (rings_from c 1 es)
      ∙ ap₂ (λ fs gs. fs ++ gs) (edges_of-leaf 0 0 es true refl) (no_ring 0 1 es (omega arith))
      ∙ append-nil es

  pub ring_leaf : (leaf : ℕ) (es : List Edge) → 0 < leaf
      → edges_of leaf (with_rings c es) ≡ edges_of leaf (rings_from c 1 es)
  ring_leaf leaf es h =
      edges_of-append leaf (of_leaf 0 es) (rings_from c 1 es)
      ∙ ap (λ fs. fs ++ edges_of leaf (rings_from c 1 es))
      (edges_of-leaf leaf 0 es false (other_number 0 leaf (λ e. omega (arith, h, e))))

-- ---- they are closed
-- before a list whose leaf is balanced
more_balanced : (leaf k : ℕ) (es : List Edge) (rest : List LeafEdge) → IsBalanced (segments es)
    → IsBalanced (segments (edges_of leaf rest))
    → IsBalanced (segments (edges_of leaf (of_leaf k es ++ rest)))
more_balanced leaf k es rest balanced b =
    let apart : edges_of leaf (of_leaf k es ++ rest) ≡ cond (k == leaf) es [] ++ edges_of leaf rest =
    edges_of-append leaf (of_leaf k es) rest
    ∙ ap (λ fs. fs ++ edges_of leaf rest) (edges_of-leaf leaf k es (k == leaf) refl) in
    subst IsBalanced (sym (ap segments apart ∙ map-append segment_of (cond (k == leaf) es []) (edges_of leaf rest)))
    (both_balanced (segments (cond (k == leaf) es [])) (segments (edges_of leaf rest)) (chosen_balanced (k == leaf) es balanced) b)

way_balanced : (l : List Pt) → IsBalanced (segments (sides l))
way_balanced l = subst (λ (es : List Edge). IsBalanced (segments es)) (append-nil (sides l)) (sides_balanced (l ∷ []))

rings_balanced : (c leaf k : ℕ) (es : List Edge) → IsBalanced (segments (edges_of leaf (rings_from c k es)))
rings_balanced c leaf k [] = none_balanced
rings_balanced c leaf k (e ∷ es) = more_balanced leaf k (sides (corners_of c e)) (rings_from c (k + 1) es)
    (way_balanced (corners_of c e)) (rings_balanced c leaf (k + 1) es)

pub leaves_balanced : (c : ℕ) (es : List Edge) → IsBalanced (segments es) → AreLeavesBalanced (with_rings c es)
leaves_balanced c es b =
    record { each = λ leaf. more_balanced leaf 0 es (rings_from c 1 es) b (rings_balanced c leaf 1 es) }
