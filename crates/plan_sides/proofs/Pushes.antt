-- The sides of a list of outlines, pushed one by one: those that are there, with those of the rest, are all.
use Rattle.std.proofs.Common.{◌≡◌, ℕ, ◌+◌, ◌<◌, ◌≤◌, List, [], ◌∷◌, ◌++◌, length, get_or, drop, flat_map, sym, ap, ◌∙◌}
use Rattle.std.proofs.lemmas.List.{append_assoc, append-nil, at_drop_more, at_drop_all, get_or_read}
use Rattle.scad_geom.specs.declared.point.Pt.{Pt}
use Rattle.scad_geom.specs.declared.point.Edge.{Edge}
use Rattle.scad_geom.specs.Loop.{sides, path}

-- ---- the edges of a way
module _ (rest : List Pt) (i : ℕ) (at last : Pt) (out items whole : List Edge) where
  -- to the next point
  pub path_more : (d : Pt) → i < length rest → items ≡ out ++ (record { a = at; b = get_or rest i d } ∷ [])
      → out ++ path at (drop i rest) last ≡ whole
      → items ++ path (get_or rest i d) (drop (i + 1) rest) last ≡ whole
  path_more d here pushed before =
      ap (λ (es : List Edge). es ++ path (get_or rest i d) (drop (i + 1) rest) last) pushed
      ∙ append_assoc out (record { a = at; b = get_or rest i d } ∷ []) (path (get_or rest i d) (drop (i + 1) rest) last)
      ∙ ap (λ (es : List Edge). out ++ es) (sym (at_drop_more (λ (ps : List Pt). path at ps last) rest i d here))
      ∙ before

  -- to the last point
  pub path_end : length rest ≤ i → items ≡ out ++ (record { a = at; b = last } ∷ [])
      → out ++ path at (drop i rest) last ≡ whole → items ≡ whole
  path_end past pushed before =
      pushed ∙ ap (λ (es : List Edge). out ++ es) (sym (at_drop_all (λ (ps : List Pt). path at ps last) rest i past))
      ∙ before

-- ---- the sides of outlines
module _ (outlines : List (List Pt)) (i : ℕ) (out whole : List Edge) where
  -- of the next
  pub sides_more : (points : List Pt) (items : List Edge) → i < length outlines → points ≡ get_or outlines i points
      → items ≡ out ++ sides points → out ++ flat_map sides (drop i outlines) ≡ whole
      → items ++ flat_map sides (drop (i + 1) outlines) ≡ whole
  sides_more points items here is pushed before =
      let rest : List Edge = flat_map sides (drop (i + 1) outlines) in
      ap (λ (es : List Edge). es ++ rest) pushed ∙ append_assoc out (sides points) rest
      ∙ ap (λ (ps : List Pt). out ++ (sides ps ++ rest)) (get_or_read outlines i points here is [])
      ∙ ap (λ (es : List Edge). out ++ es) (sym (at_drop_more (flat_map sides) outlines i [] here)) ∙ before

  -- of none
  pub sides_end : length outlines ≤ i → out ++ flat_map sides (drop i outlines) ≡ whole → out ≡ whole
  sides_end past before =
      sym (append-nil out) ∙ ap (λ (es : List Edge). out ++ es) (sym (at_drop_all (flat_map sides) outlines i past))
      ∙ before
