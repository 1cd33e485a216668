-- The edges of a section, triangle by triangle.
use Rattle.std.proofs.Common.{◌≡◌, ℕ, ◌+◌, ◌<◌, true, false, cond, List, [], ◌∷◌, ◌++◌, length, get_or, drop, map, Some, None, Option, ℤ, pos, refl, ap, sym, ◌∙◌, append_assoc}
use Rattle.std.proofs.lemmas.Bool.{and_parts}
use Rattle.std.specs.Prelude.{filter}
use Rattle.std.specs.List.{cons_option, list_all}
use Rattle.std.specs.Option.{option_map}
use Rattle.std.proofs.lemmas.List.{at_drop_more}
use Rattle.scad_geom.specs.declared.point.Edge.{Edge}
use Rattle.scad_solid.specs.declared.triangle.Triangle.{Triangle}
use Rattle.scad_geom.specs.declared.point3.Pt3.{Pt3}
use Rattle.scad_solid.specs.Range.{is_triangle_in_range}
use Rattle.scad_geom.specs.Segment.{Segment}
use Rattle.scad_solid.specs.Cut.{cut_of, cuts_of}
use Rattle.winding_laws.specs.Edges.{rounded_edge, has_length}
use Rattle.slice_section.specs.Section.{edges_at}

-- the edges of one cut, where there is one
abbrev edge_list : Option Segment → List Edge
edge_list o = filter has_length (map rounded_edge (cons_option o []))

edge_list-cons : (o : Option Segment) (cs : List Segment) → filter has_length (map rounded_edge (cons_option o cs))
    ≡ edge_list o ++ filter has_length (map rounded_edge cs)
edge_list-cons None cs = refl
edge_list-cons (Some c) cs =
    elim (has_length (rounded_edge c)) as (λ b. cond b (rounded_edge c ∷ filter has_length (map rounded_edge cs))
    (filter has_length (map rounded_edge cs))
    ≡ cond b (rounded_edge c ∷ []) [] ++ filter has_length (map rounded_edge cs))
    [ true ↦ refl | false ↦ refl ]

pub edges_at-cons : (plane : ℤ) (t : Triangle) (ts : List Triangle) → edges_at plane (t ∷ ts) ≡ edges_at plane (t ∷ [])
    ++ edges_at plane ts
edges_at-cons plane t ts = edge_list-cons (cut_of plane t) (cuts_of plane ts)

-- what one triangle adds
some_edge : (o : Option Segment) (e : Edge) → Some e ≡ option_map rounded_edge o → has_length e ≡ true
    → edge_list o ≡ e ∷ []
some_edge None e is long = absurd (cc)
some_edge (Some c) e is long =
    let same : e ≡ rounded_edge c = cc in
    ap (λ b. cond b (rounded_edge c ∷ []) []) (ap has_length (sym same) ∙ long) ∙ ap (λ x. x ∷ []) (sym same)

flat_edge : (o : Option Segment) (e : Edge) → Some e ≡ option_map rounded_edge o → has_length e ≡ false
    → edge_list o ≡ []
flat_edge None e is short = absurd (cc)
flat_edge (Some c) e is short =
    let same : e ≡ rounded_edge c = cc in
    ap (λ b. cond b (rounded_edge c ∷ []) []) (ap has_length (sym same) ∙ short)

no_edge : (o : Option Segment) → None ≡ option_map rounded_edge o → edge_list o ≡ []
no_edge None is = refl
no_edge (Some c) is = absurd (cc)

pub edges_at-some : (plane : ℤ) (t : Triangle) (e : Edge) → Some e ≡ option_map rounded_edge (cut_of plane t)
    → has_length e ≡ true → edges_at plane (t ∷ []) ≡ e ∷ []
edges_at-some plane t e is long = some_edge (cut_of plane t) e is long

pub edges_at-flat : (plane : ℤ) (t : Triangle) (e : Edge) → Some e ≡ option_map rounded_edge (cut_of plane t)
    → has_length e ≡ false → edges_at plane (t ∷ []) ≡ []
edges_at-flat plane t e is short = flat_edge (cut_of plane t) e is short

pub edges_at-none : (plane : ℤ) (t : Triangle) → None ≡ option_map rounded_edge (cut_of plane t)
    → edges_at plane (t ∷ []) ≡ []
edges_at-none plane t is = no_edge (cut_of plane t) is

-- a loop's step
pub edges_at-more : (plane : ℤ) (ts : List Triangle) (i : ℕ) (d : Triangle) (made new all : List Edge) → i < length ts
    → made ++ edges_at plane (drop i ts) ≡ all → new ≡ made ++ edges_at plane (get_or ts i d ∷ [])
    → new ++ edges_at plane (drop (i + 1) ts) ≡ all
edges_at-more plane ts i d made new all inside so_far more =
    let t = get_or ts i d in
    let rest = edges_at plane (drop (i + 1) ts) in
    ap (λ es. es ++ rest) more ∙ append_assoc made (edges_at plane (t ∷ [])) rest
    ∙ ap (λ es. made ++ es) (sym (edges_at-cons plane t (drop (i + 1) ts)) ∙ sym (at_drop_more (edges_at plane) ts i d
    inside)) ∙ so_far

-- where all triangles from one on are in range, it is, and so are those behind it
pub in_range-here : (ts : List Triangle) (i : ℕ) (d : Triangle) → i < length ts → list_all is_triangle_in_range
    (drop i ts) ≡ true → is_triangle_in_range (get_or ts i d) ≡ true
in_range-here ts i d inside all = (and_parts (is_triangle_in_range (get_or ts i d))
    (list_all is_triangle_in_range (drop (i + 1) ts)) (sym (at_drop_more (list_all is_triangle_in_range) ts i d inside)
    ∙ all)).0

pub in_range-later : (ts : List Triangle) (i : ℕ) → i < length ts → list_all is_triangle_in_range (drop i ts) ≡ true
    → list_all is_triangle_in_range (drop (i + 1) ts) ≡ true
in_range-later ts i inside all = (and_parts (is_triangle_in_range (get_or ts i origin))
    (list_all is_triangle_in_range (drop (i + 1) ts)) (sym (at_drop_more (list_all is_triangle_in_range) ts i origin
    inside) ∙ all)).1
  where
    nil : Pt3
    nil = record { x = pos 0; y = pos 0; z = pos 0 }

    origin : Triangle
    origin = record { a = nil; b = nil; c = nil }
