-- The sections of surfaces, one after another, and the balance of each leaf's edges.
use Rattle.std.proofs.Common.{◌≡◌, ℕ, ◌+◌, ◌<◌, ◌≤◌, Bool, true, false, cond, ◌==◌, List, [], ◌∷◌, ◌++◌, map, length, drop, get_or, arith, refl, ap, ap₂, sym, ◌∙◌, subst, append_assoc}
use Rattle.std.proofs.lemmas.List.{append-nil, map-append}
use Rattle.std.specs.Prelude.{filter}
use Rattle.scad_geom.specs.declared.point.Edge.{Edge}
use Rattle.scad_geom.specs.declared.level.LeafEdge.{LeafEdge}
use Rattle.scad_geom.specs.Segment.{segment_of, segments}
use Rattle.scad_geom.specs.Balance.{IsBalanced}
use Rattle.scad_geom.specs.Leaves.{edges_of, AreLeavesBalanced}
use Rattle.scad_geom.proofs.LeafEdges.{edges_of-append, both_balanced, none_balanced, chosen_balanced}
use Rattle.scad_solid.specs.declared.triangle.Triangle.{Triangle}
use Rattle.scad_tree.specs.declared.node.Node.{Node}
use Rattle.scad_tree.specs.Order.{surfaces, all_surfaces, leaves}
use Rattle.scad_tree.specs.Sections.{leaf_edge, leaf_section, sections_from}
use Rattle.scad_tree.specs.Solid.{members}
use Rattle.scad_tree.specs.View.{solid_of, solids}
use Rattle.scad_tree.proofs.Rows.{left-more, left-none}

-- the surfaces behind others have higher numbers
pub sections_append : (layer h leaf : ℕ) (us vs : List (List Triangle)) → sections_from layer h leaf (us ++ vs)
    ≡ sections_from layer h leaf us ++ sections_from layer h (leaf + length us) vs
sections_append layer h leaf [] vs = ap (λ k. sections_from layer h k vs) (omega arith)
sections_append layer h leaf (ts ∷ us) vs =
    ap (λ es. leaf_section layer h leaf ts ++ es) (sections_append layer h (leaf + 1) us vs ∙ ap
    (λ k. sections_from layer h (leaf + 1) us ++ sections_from layer h k vs) (omega arith))
    ∙ sym (append_assoc (leaf_section layer h leaf ts) (sections_from layer h (leaf + 1) us)
    (sections_from layer h (leaf + length (ts ∷ us)) vs))

-- the edges of one leaf are another's only where they are the same leaf
pub of_leaf : (leaf k : ℕ) (es : List Edge) (b : Bool) → (k == leaf) ≡ b → edges_of leaf (map (leaf_edge k) es)
    ≡ cond b es []
of_leaf leaf k [] true is = refl
of_leaf leaf k [] false is = refl
of_leaf leaf k (e ∷ es) true is =
    let rest : List LeafEdge = filter (λ x. x.leaf == leaf) (map (leaf_edge k) es) in
    ap (λ t. map (λ x. x.edge) (cond t (leaf_edge k e ∷ rest) rest)) is ∙ ap (λ r. e ∷ r) (of_leaf leaf k es true is)
of_leaf leaf k (e ∷ es) false is =
    let rest : List LeafEdge = filter (λ x. x.leaf == leaf) (map (leaf_edge k) es) in
    ap (λ t. map (λ x. x.edge) (cond t (leaf_edge k e ∷ rest) rest)) is ∙ of_leaf leaf k es false is

-- one more leaf's balanced edges
pub balanced_more : (old new : List LeafEdge) (k : ℕ) (es : List Edge) → IsBalanced (segments es)
    → new ≡ old ++ map (leaf_edge k) es → AreLeavesBalanced old → AreLeavesBalanced new
balanced_more old new k es balanced is so_far = record {
  each = λ leaf.
      let apart : edges_of leaf new ≡ edges_of leaf old ++ cond (k == leaf) es [] =
      ap (edges_of leaf) is ∙ edges_of-append leaf old (map (leaf_edge k) es) ∙ ap (λ fs. edges_of leaf old ++ fs)
      (of_leaf leaf k es (k == leaf) refl) in
      subst IsBalanced (sym (ap segments apart ∙ map-append segment_of (edges_of leaf old) (cond (k == leaf) es [])))
      (both_balanced (segments (edges_of leaf old)) (segments (cond (k == leaf) es [])) (so_far.each leaf)
      (chosen_balanced (k == leaf) es balanced));
}

pub none_leaf : AreLeavesBalanced []
none_leaf = record { each = λ leaf. none_balanced }

-- the edges of one more node
pub cut_more : (layer h leaf after : ℕ) (old new whole : List LeafEdge) (nodes : List Node) (i : ℕ) (n : Node)
    → i < length nodes → n ≡ get_or nodes i n →
    new ≡ old ++ sections_from layer h leaf (surfaces (solid_of n)) → after ≡ leaf + leaves (solid_of n) →
    old ++ sections_from layer h leaf (all_surfaces (members (solids (drop i nodes)))) ≡ whole →
    new ++ sections_from layer h after (all_surfaces (members (solids (drop (i + 1) nodes)))) ≡ whole
cut_more layer h leaf after old new whole nodes i n below is more next so_far =
    let rest = all_surfaces (members (solids (drop (i + 1) nodes))) in
    ap₂ (λ es k. es ++ sections_from layer h k rest) more next
    ∙ append_assoc old (sections_from layer h leaf (surfaces (solid_of n)))
    (sections_from layer h (leaf + leaves (solid_of n)) rest)
    ∙ ap (λ es. old ++ es) (sym (sections_append layer h leaf (surfaces (solid_of n)) rest) ∙ ap
    (λ ms. sections_from layer h leaf (all_surfaces ms)) (sym (left-more nodes i n below is)))
    ∙ so_far

pub cut_end : (layer h leaf : ℕ) (out whole : List LeafEdge) (nodes : List Node) (i : ℕ) → length nodes ≤ i
    → out ++ sections_from layer h leaf (all_surfaces (members (solids (drop i nodes)))) ≡ whole → out ≡ whole
cut_end layer h leaf out whole nodes i past so_far =
    sym (append-nil out)
    ∙ ap (λ ms. out ++ sections_from layer h leaf (all_surfaces ms)) (sym (left-none nodes i past)) ∙ so_far
