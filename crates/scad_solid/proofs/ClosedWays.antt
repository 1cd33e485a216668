-- Solids of rings on a way that comes back to its start are closed and in range.
use Rattle.std.proofs.Common.{◌≡◌, ℕ, true, ◌==◌, List, [], ◌∷◌, ◌++◌, length, ℤ, pos, neg_ℤ, ◌-ℤ◌, arith, refl, ap, sym, ◌∙◌}
use Rattle.std.proofs.lemmas.Bool.{and_parts, and_from}
use Rattle.std.proofs.lemmas.Int.{ints}
use Rattle.std.proofs.lemmas.Grind.{flat_map-append}
use Rattle.std.proofs.lemmas.List.Folds.{list_all-append}
use Rattle.std.specs.List.{list_all}
use Rattle.scad_geom.specs.declared.point3.Pt3.{Pt3}
use Rattle.scad_geom.specs.PointRange.{is_in_range}
use Rattle.scad_solid.specs.declared.side.Side.{Side}
use Rattle.scad_solid.specs.Range.{is_triangle_in_range}
use Rattle.scad_solid.specs.Side.{reversed}
use Rattle.scad_solid.specs.Surface.{sides, is_closed}
use Rattle.scad_solid.specs.Solid.{fan, fans}
use Rattle.scad_solid.specs.Stack.{ring_sides, band, are_alike, rings_in_range}
use Rattle.scad_solid.specs.Wrap.{bands, wrap_faces, wrapped}
use Rattle.scad_solid.proofs.ClosedSides.{is_closed-IsClosed}
use Rattle.scad_solid.proofs.Flow.{flow, flow_round, flow_round-append, band-flow, turn_of, turn_of-reversed, turn_of-flow}
use Rattle.scad_solid.proofs.InRange.{faces_in_range, sides_in_range, quads_in_range}
use borrow.Author.Tests.{eqb-true}

module _ (T : Side → ℤ) (turns : (s : Side) → T (reversed s) ≡ neg_ℤ (T s)) where
  -- round the bands it flows along the first ring and back along the last
  bands-flow : (m : ℕ) (ring last : List Pt3) (rings : List (List Pt3)) → length ring ≡ m → length last ≡ m
      → list_all (λ r. length r == m) rings ≡ true → flow_round T turns (fans (bands ring (rings ++ last ∷ [])))
      ≡ flow T turns (ring_sides ring) -ℤ flow T turns (ring_sides last)
  bands-flow m ring last [] long last_long all =
      ap (flow_round T turns) (flat_map-append fan (band ring last) [])
      ∙ omega (
        arith,
        ints,
        flow_round-append T turns (fans (band ring last)) [],
        band-flow T turns ring last
            (long ∙ sym last_long),
      )
  bands-flow m ring last (next ∷ rings) long last_long all =
      let one = and_parts (length next == m) (list_all (λ r. length r == m) rings) all in
      let next_long = eqb-true (length next) m one.0 in
      ap (flow_round T turns) (flat_map-append fan (band ring next) (bands next (rings ++ last ∷ [])))
      ∙ omega (
        arith,
        ints,
        flow_round-append T turns (fans (band ring next)) (fans (bands next (rings ++ last ∷ []))),
        band-flow T turns ring next (long ∙ sym next_long),
        bands-flow m next last rings next_long last_long one.1,
      )

  wrapped-flow : (rings : List (List Pt3)) → are_alike rings ≡ true → flow_round T turns (wrapped rings) ≡ pos 0
  unfolding wrapped
  wrapped-flow [] all = refl
  wrapped-flow (first ∷ rings) all = omega (arith, ints, bands-flow (length first) first first rings refl refl all)

pub is_closed-wrapped : (rings : List (List Pt3)) → are_alike rings ≡ true → is_closed (wrapped rings) ≡ true
is_closed-wrapped rings all =
    is_closed-IsClosed (wrapped rings) (record {
      each = λ s. omega (
        arith,
        ints,
        wrapped-flow (turn_of s) (turn_of-reversed s) rings all,
        turn_of-flow s
            (sides (wrapped rings)),
      );
    })

bands_in_range : (ring : List Pt3) (rings : List (List Pt3)) → list_all is_in_range ring ≡ true → rings_in_range rings
    ≡ true → list_all (λ face. list_all is_in_range face) (bands ring rings) ≡ true
bands_in_range ring [] at all = refl
bands_in_range ring (next ∷ rings) at all =
    let one = and_parts (list_all is_in_range next) (rings_in_range rings) all in
    list_all-append (λ face. list_all is_in_range face) (band ring next) (bands next rings)
    ∙ and_from _ _ (quads_in_range (ring_sides ring) (ring_sides next) (sides_in_range ring at)
    (sides_in_range next one.0)) (bands_in_range next rings one.0 one.1)

pub wrapped_in_range : (rings : List (List Pt3)) → rings_in_range rings ≡ true → list_all is_triangle_in_range
    (wrapped rings) ≡ true
unfolding wrapped
wrapped_in_range [] all = refl
wrapped_in_range (first ∷ rings) all =
    let one = and_parts (list_all is_in_range first) (rings_in_range rings) all in
    let round = list_all-append (λ ring. list_all is_in_range ring) rings (first ∷ []) ∙ and_from _ _ one.1
    (and_from _ _ one.0 refl) in
    faces_in_range (wrap_faces (first ∷ rings)) (bands_in_range first (rings ++ first ∷ []) one.0 round)
