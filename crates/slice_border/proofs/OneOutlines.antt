-- The outlines that pieces make are one list of outlines.
use Rattle.std.proofs.Common.{◌≡◌, ℕ, ◌+◌, Bool, true, false, cond, true≢false, List, [], ◌∷◌, refl, sym, ap, ap₂, ◌∙◌}
use Rattle.std.specs.Prelude.{IsPermutation, map, filter}
use Rattle.std.proofs.lemmas.List.Sorted.{IsPermutation-refl, IsPermutation-map}
use Rattle.scad_geom.specs.declared.point.Edge.{Edge}
use Rattle.scad_geom.proofs.Balance.{once}
use Rattle.scad_geom.proofs.Places.{same_edge, same_edge_then_equal, same_edge_itself}
use Rattle.winding_laws.specs.Edges.{rounded_edge, has_length}
use Rattle.slice_pieces.specs.declared.piece.Piece.{Piece}
use Rattle.slice_pieces.specs.Pieces.{way_of, ways_of}
use Rattle.slice_pieces.specs.Rounding.{rounded_edges}
use Rattle.slice_pieces.proofs.Counts.{times_permuted, from_times}
use Rattle.slice_pieces.proofs.OneMerging.{merged_are_one}
use Rattle.slice_pieces.proofs.OneRest.{many, many-cons, cancelled_are_one}
use Rattle.slice_loops.proofs.Unique.{outlines_are_one}
use Rattle.slice_border.specs.NothingOpen.{MadeAreOne}
use Rattle.std.proofs.Common.{zero-add}

-- how often an edge is kept
kept : (p : Edge → Bool) (e : Edge) → p e ≡ true → (es : List Edge) → many e (filter p es) ≡ many e es
kept p e t [] = refl
kept p e t (f ∷ fs) = by_tests (kept p e t fs) (p f) (same_edge e f) refl refl
  where
    by_tests : many e (filter p fs) ≡ many e fs → (b c : Bool) → p f ≡ b → same_edge e f ≡ c
        → many e (cond b (f ∷ filter p fs) (filter p fs)) ≡ many e (f ∷ fs)
    by_tests h true c k l = many-cons e f (filter p fs) ∙ ap (λ (n : ℕ). once (same_edge e f) + n) h ∙ sym
        (many-cons e f fs)
    by_tests h false true k l = absurd (true≢false (sym t ∙ ap p (same_edge_then_equal e f l) ∙ k))
    by_tests h false false k l = h ∙ sym (many-cons e f fs ∙ ap (λ (d : Bool). once d + many e fs) l ∙ zero-add
        (many e fs))

dropped : (p : Edge → Bool) (e : Edge) → p e ≡ false → (es : List Edge) → many e (filter p es) ≡ 0
dropped p e t [] = refl
dropped p e t (f ∷ fs) = by_tests (dropped p e t fs) (p f) (same_edge e f) refl refl
  where
    by_tests : many e (filter p fs) ≡ 0 → (b c : Bool) → p f ≡ b → same_edge e f ≡ c
        → many e (cond b (f ∷ filter p fs) (filter p fs)) ≡ 0
    by_tests h true true k l = absurd (true≢false (sym k ∙ sym (ap p (same_edge_then_equal e f l)) ∙ t))
    by_tests h true false k l = many-cons e f (filter p fs) ∙ ap₂ (λ (d : Bool) (n : ℕ). once d + n) l h
    by_tests h false c k l = h

filter_permuted : (p : Edge → Bool) (es fs : List Edge) → IsPermutation es fs
    → IsPermutation (filter p es) (filter p fs)
filter_permuted p es fs m = from_times same_edge same_edge_itself same_edge_then_equal (filter p es) (filter p fs) alike
  where
    by_test : (e : Edge) (b : Bool) → p e ≡ b → many e (filter p es) ≡ many e (filter p fs)
    by_test e true t = kept p e t es ∙ times_permuted same_edge same_edge_itself same_edge_then_equal e es fs m
        ∙ sym
        (kept p e t fs)
    by_test e false t = dropped p e t es ∙ sym (dropped p e t fs)

    alike : (e : Edge) → many e (filter p es) ≡ many e (filter p fs)
    alike e = by_test e (p e) refl

rounded_permuted : (qs rs : List Piece) → IsPermutation qs rs → IsPermutation (rounded_edges qs) (rounded_edges rs)
rounded_permuted qs rs m =
    filter_permuted has_length (map rounded_edge (ways_of qs)) (map rounded_edge (ways_of rs))
    (IsPermutation-map rounded_edge (ways_of qs) (ways_of rs) (IsPermutation-map way_of qs rs m))

pub made_are_one : MadeAreOne
made_are_one limit count edge pieces outlines more within named a b =
    let merged : IsPermutation a.merged b.merged =
    merged_are_one limit count edge pieces pieces a.merged b.merged within named (IsPermutation-refl pieces)
    a.are_merged b.are_merged in
    let left : IsPermutation a.left b.left =
    cancelled_are_one (rounded_edges a.merged) (rounded_edges b.merged) a.left b.left
    (rounded_permuted a.merged b.merged merged) a.are_left b.are_left in
    outlines_are_one a.left b.left outlines more left a.are_outlines b.are_outlines
