-- The edges of a leaf, pushed one by one: those that are there, with those of the rest, are all.
use Rattle.std.proofs.Common.{◌≡◌, ℕ, ◌+◌, ◌<◌, ◌≤◌, List, [], ◌∷◌, ◌++◌, length, get_or, drop, sym, ap, ◌∙◌}
use Rattle.std.proofs.lemmas.List.{append_assoc, append-nil, at_drop_more, at_drop_all}
use Rattle.scad_geom.specs.declared.point.Pt.{Pt}
use Rattle.scad_geom.specs.declared.point.Edge.{Edge}
use Rattle.scad_geom.specs.declared.level.LeafEdge.{LeafEdge}
use Rattle.scad_geom.specs.Loop.{sides, path}
use Rattle.scad_ring.specs.Corners.{corners_of}
use Rattle.plan_walls.specs.Walls.{of_leaf, rings_from}

-- what was pushed is the first part of what was to come
pushed_on : (out part items after before whole : List LeafEdge) → items ≡ out ++ part → part ++ after ≡ before
    → out ++ before ≡ whole → items ++ after ≡ whole
pushed_on out part items after before whole pushed first all =
    ap (λ (es : List LeafEdge). es ++ after) pushed ∙ append_assoc out part after
    ∙ ap (λ (es : List LeafEdge). out ++ es) first ∙ all

-- ---- edges
module _ (leaf : ℕ) (es : List Edge) (i : ℕ) (out whole : List LeafEdge) where
  -- the next
  pub edge_more : (d : Edge) (items : List LeafEdge) → i < length es
      → items ≡ out ++ (record { leaf = leaf; edge = get_or es i d } ∷ [])
      → out ++ of_leaf leaf (drop i es) ≡ whole → items ++ of_leaf leaf (drop (i + 1) es) ≡ whole
  edge_more d items here pushed before =
      pushed_on out (record { leaf = leaf; edge = get_or es i d } ∷ []) items (of_leaf leaf (drop (i + 1) es))
      (of_leaf leaf (drop i es)) whole pushed (sym (at_drop_more (of_leaf leaf) es i d here)) before

  -- none
  pub edge_end : length es ≤ i → out ++ of_leaf leaf (drop i es) ≡ whole → out ≡ whole
  edge_end past before =
      sym (append-nil out) ∙ ap (λ (rest : List LeafEdge). out ++ rest) (sym (at_drop_all (of_leaf leaf) es i past))
      ∙ before

-- ---- the edges of a way
module _ (leaf : ℕ) (rest : List Pt) (i : ℕ) (at last : Pt) (out items whole : List LeafEdge) where
  -- to the next point
  pub path_more : (d : Pt) → i < length rest
      → items ≡ out ++ (record { leaf = leaf; edge = record { a = at; b = get_or rest i d } } ∷ [])
      → out ++ of_leaf leaf (path at (drop i rest) last) ≡ whole
      → items ++ of_leaf leaf (path (get_or rest i d) (drop (i + 1) rest) last) ≡ whole
  path_more d here pushed before =
      pushed_on out (record { leaf = leaf; edge = record { a = at; b = get_or rest i d } } ∷ []) items
      (of_leaf leaf (path (get_or rest i d) (drop (i + 1) rest) last)) (of_leaf leaf (path at (drop i rest) last))
      whole pushed (sym (at_drop_more (λ (ps : List Pt). of_leaf leaf (path at ps last)) rest i d here)) before

  -- to the last point
  pub path_end : length rest ≤ i
      → items ≡ out ++ (record { leaf = leaf; edge = record { a = at; b = last } } ∷ [])
      → out ++ of_leaf leaf (path at (drop i rest) last) ≡ whole → items ≡ whole
  path_end past pushed before =
      pushed ∙ ap (λ (es : List LeafEdge). out ++ es)
      (sym (at_drop_all (λ (ps : List Pt). of_leaf leaf (path at ps last)) rest i past)) ∙ before

-- ---- the sides of rings
module _ (c : ℕ) (es : List Edge) (i : ℕ) (out whole : List LeafEdge) where
  -- of the next
  pub ring_more : (d : Edge) (points : List Pt) (items : List LeafEdge) → i < length es
      → points ≡ corners_of c (get_or es i d) → items ≡ out ++ of_leaf (i + 1) (sides points)
      → out ++ rings_from c (i + 1) (drop i es) ≡ whole
      → items ++ rings_from c (i + 1 + 1) (drop (i + 1) es) ≡ whole
  ring_more d points items here is pushed before =
      pushed_on out (of_leaf (i + 1) (sides points)) items (rings_from c (i + 1 + 1) (drop (i + 1) es))
      (rings_from c (i + 1) (drop i es)) whole pushed
      (ap (λ (ps : List Pt). of_leaf (i + 1) (sides ps) ++ rings_from c (i + 1 + 1) (drop (i + 1) es)) is
      ∙ sym (at_drop_more (rings_from c (i + 1)) es i d here))
      before

  -- of none
  pub ring_end : length es ≤ i → out ++ rings_from c (i + 1) (drop i es) ≡ whole → out ≡ whole
  ring_end past before =
      sym (append-nil out) ∙ ap (λ (rest : List LeafEdge). out ++ rest)
      (sym (at_drop_all (rings_from c (i + 1)) es i past)) ∙ before
