-- The rounded edges of one piece more.
use Rattle.std.proofs.Common.{◌≡◌, ℕ, ◌+◌, ◌<◌, Bool, true, false, cond, List, [], ◌∷◌, ◌++◌, length, get_or, take, filter, map, sym, ap, ◌∙◌}
use Rattle.std.proofs.lemmas.List.{append-nil, take_more, map-append}
use Rattle.std.proofs.lemmas.List.Elements.{filter-append}
use Rattle.scad_geom.specs.declared.point.Edge.{Edge}
use Rattle.scad_geom.specs.Segment.{Segment}
use Rattle.winding_laws.specs.Edges.{rounded_edge, has_length}
use Rattle.slice_pieces.specs.declared.piece.Piece.{Piece}
use Rattle.slice_pieces.specs.Pieces.{way_of, ways_of}
use Rattle.slice_pieces.specs.Rounding.{rounded_edges}

rounded_append : (qs rs : List Piece) → rounded_edges (qs ++ rs) ≡ rounded_edges qs ++ rounded_edges rs
rounded_append qs rs =
    ap (λ (ss : List Segment). filter has_length (map rounded_edge ss)) (map-append way_of qs rs)
    ∙ ap (filter has_length) (map-append rounded_edge (ways_of qs) (ways_of rs))
    ∙ filter-append has_length (map rounded_edge (ways_of qs)) (map rounded_edge (ways_of rs))

module _ (qs : List Piece) (i : ℕ) (d : Piece) (e : Edge) (there : i < length qs) (made : e ≡ rounded_edge (way_of (get_or qs i d))) (edges : List Edge) (so_far : edges ≡ rounded_edges (take i qs)) where
  one_more : (t : Bool) → has_length e ≡ t → edges ++ cond t (e ∷ []) [] ≡ rounded_edges (take (i + 1) qs)
  one_more t long =
      ap (λ (es : List Edge). es ++ cond t (e ∷ []) []) so_far
      ∙ ap (λ (s : Bool). rounded_edges (take i qs) ++ cond s (e ∷ []) []) (sym long)
      ∙ ap (λ (f : Edge). rounded_edges (take i qs) ++ filter has_length (f ∷ [])) made
      ∙ sym (ap rounded_edges (take_more qs i d there) ∙ rounded_append (take i qs) (get_or qs i d ∷ []))

  -- an edge with length is put behind those before
  pub with_length : has_length e ≡ true → edges ++ (e ∷ []) ≡ rounded_edges (take (i + 1) qs)
  with_length long = one_more true long

  -- one without isn't
  pub without_length : has_length e ≡ false → edges ≡ rounded_edges (take (i + 1) qs)
  without_length short = sym (append-nil edges) ∙ one_more false short
