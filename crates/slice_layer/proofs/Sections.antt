-- The edges of a tree's section: of each leaf, and of all.
use Rattle.std.proofs.Common.{◌≡◌, ℕ, zero, suc, ◌+◌, ◌<◌, Bool, true, false, cond, ◌==◌, List, [], ◌∷◌, ◌++◌, map, arith, refl, ap, sym, ◌∙◌, subst}
use Rattle.std.proofs.lemmas.Bool.Decides.{nat_tests}
use Rattle.std.proofs.lemmas.List.{append-nil}
use Rattle.std.specs.Prelude.{filter}
use Rattle.std.specs.List.{AllByRecursion}
use Rattle.scad_base.proofs.Lists.{AllByRecursion-append}
use Rattle.scad_geom.specs.declared.point.Edge.{Edge}
use Rattle.scad_geom.specs.Segment.{Segment, segments}
use Rattle.scad_geom.specs.Balance.{IsBalanced}
use Rattle.scad_geom.specs.Leaves.{edges_of, AreLeavesBalanced}
use Rattle.scad_solid.specs.declared.triangle.Triangle.{Triangle}
use Rattle.scad_solid.specs.Surface.{is_closed}
use Rattle.scad_solid.specs.Cut.{cuts_of, plane_of}
use Rattle.winding_laws.specs.Edges.{rounded_edge, has_length}
use Rattle.slice_section.specs.Section.{section_of}
use Rattle.slice_section.proofs.Balance.{IsBalanced-section_of}
use Rattle.scad_tree.specs.Solid.{Solid}
use Rattle.scad_tree.specs.Order.{surfaces}
use Rattle.scad_tree.specs.LeafNumbers.{surface_at}
use Rattle.scad_geom.proofs.LeafEdges.{edges_of-append}
use Rattle.scad_tree.proofs.LeafSections.{of_leaf}
use Rattle.scad_tree.specs.Sections.{leaf_edge, leaf_section, sections_from, tree_section}

-- ---- the edges of one leaf
module _ (layer h : ℕ) where
  -- those of the first surface, then those of the others
  parted : (leaf n : ℕ) (ts : List Triangle) (rest : List (List Triangle)) (b : Bool) → (n == leaf) ≡ b
      → edges_of leaf (sections_from layer h n (ts ∷ rest)) ≡ cond b (section_of ts layer h) [] ++ edges_of leaf
      (sections_from layer h (n + 1) rest)
  parted leaf n ts rest b is =
      edges_of-append leaf (leaf_section layer h n ts) (sections_from layer h (n + 1) rest)
      ∙ ap (λ es. es ++ edges_of leaf (sections_from layer h (n + 1) rest)) (of_leaf leaf n (section_of ts layer h) b
      is)

  -- no surface has a number below that of the first
  none_below : (all : List (List Triangle)) (leaf n : ℕ) → leaf < n → edges_of leaf (sections_from layer h n all) ≡ []
  none_below [] leaf n low = refl
  none_below (ts ∷ rest) leaf n low = parted leaf n ts rest false (grind (arith, nat_tests)) ∙ none_below rest leaf
      (n + 1) (omega arith)

  edges_from : (all : List (List Triangle)) (leaf n k : ℕ) → leaf ≡ n + k → edges_of leaf (sections_from layer h n all)
      ≡ section_of (surface_at all k) layer h
  edges_from [] leaf n k is = refl
  edges_from (ts ∷ rest) leaf n zero is =
      parted leaf n ts rest true (grind (arith, nat_tests))
      ∙ ap (λ es. section_of ts layer h ++ es) (none_below rest leaf (n + 1) (omega arith))
      ∙ append-nil (section_of ts layer h)
  edges_from (ts ∷ rest) leaf n (suc k) is = parted leaf n ts rest false (grind (arith, nat_tests)) ∙ edges_from rest
      leaf (n + 1) k (omega arith)

  -- the edges of a leaf are the section of its surface
  pub leaf_edges : (s : Solid) (leaf : ℕ) → edges_of leaf (tree_section layer h s)
      ≡ section_of (surface_at (surfaces s) leaf) layer h
  leaf_edges s leaf = edges_from (surfaces s) leaf 0 leaf (omega arith)

  -- ---- balance
  pub surface_closed : (all : List (List Triangle)) (k : ℕ) → AllByRecursion (λ ts. is_closed ts ≡ true) all
      → is_closed (surface_at all k) ≡ true
  unfolding is_closed
  surface_closed [] k c = refl
  surface_closed (ts ∷ rest) zero c = c.0
  surface_closed (ts ∷ rest) (suc k) c = surface_closed rest k c.1

  pub leaves_balanced : (s : Solid) → AllByRecursion (λ ts. is_closed ts ≡ true) (surfaces s)
      → AreLeavesBalanced (tree_section layer h s)
  leaves_balanced s c = record {
    each = λ leaf.
        subst (λ es. IsBalanced (segments es)) (sym (leaf_edges s leaf))
        (IsBalanced-section_of (surface_at (surfaces s) leaf) layer h (surface_closed (surfaces s) leaf c));
  }

  -- ---- what holds of each rounded cut holds of each edge
  module _ (P : Edge → Type 0) where
    kept : (b : Bool) (e : Edge) (es : List Edge) → P e → AllByRecursion P es → AllByRecursion P (cond b (e ∷ es) es)
    kept true e es p h = (p, h)
    kept false e es p h = h

    with_length : (cs : List Segment) → AllByRecursion (λ c. P (rounded_edge c)) cs
        → AllByRecursion P (filter has_length (map rounded_edge cs))
    with_length [] h = tt
    with_length (c ∷ cs) h = kept (has_length (rounded_edge c)) (rounded_edge c) (filter has_length (map rounded_edge cs)) h.0
        (with_length cs h.1)

    numbered : (n : ℕ) (es : List Edge) → AllByRecursion P es → AllByRecursion (λ e. P e.edge) (map (leaf_edge n) es)
    numbered n [] h = tt
    numbered n (e ∷ es) h = (h.0, numbered n es h.1)

    abbrev HaveCuts : List (List Triangle) → Type 0
    HaveCuts all = AllByRecursion (λ ts. AllByRecursion (λ c. P (rounded_edge c)) (cuts_of (plane_of layer h) ts)) all

    pub sections_have : (n : ℕ) (all : List (List Triangle)) → HaveCuts all → AllByRecursion (λ e. P e.edge)
        (sections_from layer h n all)
    sections_have n [] c = tt
    sections_have n (ts ∷ rest) c =
        AllByRecursion-append (λ e. P e.edge) (leaf_section layer h n ts) (sections_from layer h (n + 1) rest)
        (numbered n (section_of ts layer h) (with_length (cuts_of (plane_of layer h) ts) c.0))
        (sections_have (n + 1) rest c.1)
