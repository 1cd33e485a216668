-- The section of a closed surface is balanced.
use Rattle.std.proofs.Common.{◌≡◌, ℕ, ◌+◌, true, false, cond, List, [], ◌∷◌, map, pos, ◌<ℤ◌, refl, ap, sym, ◌∙◌, arith}
use Rattle.std.proofs.lemmas.Bool.{not-false}
use Rattle.std.specs.Prelude.{filter}
use Rattle.std.specs.List.{sum_by}
use Rattle.std.proofs.lemmas.List.Sums.{sum_by-cons}
use Rattle.scad_geom.specs.declared.point.Edge.{Edge}
use Rattle.scad_geom.specs.Point.{Point, whole, is_same_point}
use Rattle.scad_geom.specs.Segment.{Segment, segment_of, segments}
use Rattle.scad_geom.specs.Balance.{starts_at, ends_at, IsBalanced}
use Rattle.scad_geom.proofs.Balance.{once, same_place, same_whole, same_place-is}
use Rattle.scad_geom.proofs.Balance as balance
use Rattle.scad_solid.specs.declared.triangle.Triangle.{Triangle}
use Rattle.scad_solid.specs.Surface.{is_closed}
use Rattle.scad_solid.specs.Cut.{cuts_of, plane_of}
use Rattle.slice_section.proofs.CutBalance.{marks_balanced}
use Rattle.winding_laws.specs.Edges.{rounded, rounded_edge, has_length}
use Rattle.slice_section.specs.Section.{section_of}

-- how many edges start at a point, and how many end there
abbrev starts : Point → List Edge → ℕ
starts p es = starts_at p (segments es)

abbrev ends : Point → List Edge → ℕ
ends p es = ends_at p (segments es)

starts-cons : (p : Point) (e : Edge) (es : List Edge) → starts p (e ∷ es) ≡ once (is_same_point p (whole e.a)) + starts
    p es
starts-cons p e es = balance.starts-cons p (segment_of e) (segments es)

ends-cons : (p : Point) (e : Edge) (es : List Edge) → ends p (e ∷ es) ≡ once (is_same_point p (whole e.b)) + ends p es
ends-cons p e es = balance.ends-cons p (segment_of e) (segments es)

-- edges whose ends coincide start and end alike, so that leaving them out changes no balance
left_out : (p : Point) (es : List Edge) → starts p (filter has_length es) + ends p es ≡ ends p (filter has_length es) +
    starts p es
left_out p [] = refl
left_out p (e ∷ es) =
    let rest = left_out p es in
    elim (has_length e) as (λ b. has_length e ≡ b → starts p (cond b (e ∷ filter has_length es) (filter has_length es))
    + ends p (e ∷ es) ≡ ends p (cond b (e ∷ filter has_length es) (filter has_length es)) + starts p (e ∷ es)) [
      | true ↦ (λ t. omega (
        arith,
        starts-cons p e es,
        ends-cons p e es,
        starts-cons p e (filter has_length es),
        ends-cons p e (filter has_length es),
      ))
      | false ↦ (λ t.
          let ends_meet : once (is_same_point p (whole e.a)) ≡ once (is_same_point p (whole e.b)) =
          ap {B = ℕ} (λ q. once (is_same_point p (whole q)))
          (same_place-is e.a e.b (sym (same_whole e.a e.b) ∙ not-false (is_same_point (whole e.a) (whole e.b))
          t)) in
          omega (arith, starts-cons p e es, ends-cons p e es))
    ] refl

-- where the rounded cuts start and end, counted among the cuts
module _ (p : Point) where
  abbrev mark : Point → ℕ
  mark q = once (is_same_point p (whole (rounded q)))

  rounded_starts : (cs : List Segment) → starts p (map rounded_edge cs) ≡ sum_by (λ c. mark c.from) cs
  rounded_starts [] = refl
  rounded_starts (c ∷ cs) = omega (
    arith,
    starts-cons p (rounded_edge c) (map rounded_edge cs),
    sum_by-cons
        (λ (x : Segment). mark x.from) c cs,
    rounded_starts cs,
  )

  rounded_ends : (cs : List Segment) → ends p (map rounded_edge cs) ≡ sum_by (λ c. mark c.to) cs
  rounded_ends [] = refl
  rounded_ends (c ∷ cs) = omega (
    arith,
    ends-cons p (rounded_edge c) (map rounded_edge cs),
    sum_by-cons
        (λ (x : Segment). mark x.to) c cs,
    rounded_ends cs,
  )

pub IsBalanced-section_of : (ts : List Triangle) (layer h : ℕ) → is_closed ts ≡ true
    → IsBalanced (segments (section_of ts layer h))
IsBalanced-section_of ts layer h closed = record { each = each }
  where
    each : (p : Point) → pos 0 <ℤ p.d → starts p (section_of ts layer h) ≡ ends p (section_of ts layer h)
    each p some =
        let cuts = cuts_of (plane_of layer h) ts in
        omega (
          arith,
          left_out p (map rounded_edge cuts),
          rounded_starts p cuts,
          rounded_ends p cuts,
          marks_balanced (mark p)
              layer h ts closed,
        )
