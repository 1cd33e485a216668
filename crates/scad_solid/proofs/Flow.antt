-- What flows along directed sides, once one way and once the other: round each triangle of a stack of rings it comes to
-- nothing.
use Rattle.std.proofs.Common.{◌≡◌, ℕ, Bool, true, false, cond, List, [], ◌∷◌, ◌++◌, length, map, reverse, ℤ, pos, neg_ℤ, ◌+ℤ◌, ◌-ℤ◌, arith, refl, ap, ap₂, sym, ◌∙◌, append_assoc, ◌&&◌, ◌==◌}
use Rattle.std.proofs.Math.Bool.{and_comm}
use Rattle.std.proofs.lemmas.Bool.{and_parts}
use Rattle.std.specs.List.{zip, list_all}
use Rattle.std.proofs.lemmas.Int.{ints}
use Rattle.std.proofs.lemmas.Grind.{flat_map-append, reverse_onto}
use Rattle.scad_geom.specs.declared.point3.Pt3.{Pt3}
use Rattle.scad_solid.specs.declared.side.Side.{Side}
use Rattle.scad_solid.specs.declared.triangle.Triangle.{Triangle}
use Rattle.scad_solid.specs.Side.{reversed, same_point, same_side}
use Rattle.scad_solid.specs.Surface.{sides_of, sides, occurrences, is_closed}
use Rattle.scad_solid.specs.Solid.{fan, fan_around, fans}
use Rattle.scad_solid.specs.Stack.{path, ring_sides, quad, band, faces_below, stacked, are_alike}
use Rattle.scad_solid.proofs.Multiset.{times_in-cons}
use Rattle.scad_solid.proofs.SideOrder.{side_Decides}
use Rattle.scad_solid.proofs.ClosedSides.{is_closed-IsClosed}
use borrow.Author.Tests.{eqb-true, eq-eqb}

abbrev to : Pt3 → Pt3 → Side
to p q = record { from = p; to = q }

module _ (T : Side → ℤ) (turns : (s : Side) → T (reversed s) ≡ neg_ℤ (T s)) where
  -- what flows along the sides together
  abbrev pub flow : List Side → ℤ
  flow [] = pos 0
  flow (s ∷ ss) = T s +ℤ flow ss

  pub flow-append : (ss ts : List Side) → flow (ss ++ ts) ≡ flow ss +ℤ flow ts
  flow-append [] ts = omega (arith, ints)
  flow-append (s ∷ ss) ts = omega (arith, ints, flow-append ss ts)

  abbrev pub flow_round : List Triangle → ℤ
  flow_round ts = flow (sides ts)

  pub flow_round-append : (ts us : List Triangle) → flow_round (ts ++ us) ≡ flow_round ts +ℤ flow_round us
  flow_round-append ts us = ap flow (flat_map-append sides_of ts us) ∙ flow-append (sides ts) (sides us)

  -- there and back again
  back : (p q : Pt3) → T (to q p) ≡ neg_ℤ (T (to p q))
  back p q = turns (to p q)

  fan_around-flow : (p q : Pt3) (rs : List Pt3) → flow_round (fan_around p q rs) ≡ T (to p q) +ℤ flow (path q rs p)
  fan_around-flow p q [] = omega (arith, ints, back p q)
  fan_around-flow p q (r ∷ rs) = omega (arith, ints, back p r, fan_around-flow p r rs)

  -- round a face it flows as round its triangles
  pub fan-flow : (ps : List Pt3) → flow_round (fan ps) ≡ flow (ring_sides ps)
  fan-flow [] = refl
  fan-flow (p ∷ []) = omega (arith, ints, back p p)
  fan-flow (p ∷ q ∷ rs) = fan_around-flow p q rs

  -- along the points, one after another
  abbrev along : List Pt3 → ℤ
  along [] = pos 0
  along (p ∷ []) = pos 0
  along (p ∷ q ∷ qs) = T (to p q) +ℤ along (q ∷ qs)

  path-along : (p : Pt3) (ps : List Pt3) (last : Pt3) → flow (path p ps last) ≡ along (p ∷ (ps ++ last ∷ []))
  path-along p [] last = omega (arith, ints)
  path-along p (q ∷ qs) last = ap (λ z. T (to p q) +ℤ z) (path-along q qs last)

  -- the first and the last of points
  abbrev head_of : Pt3 → List Pt3 → Pt3
  head_of d [] = d
  head_of d (p ∷ ps) = p

  abbrev last_of : Pt3 → List Pt3 → Pt3
  last_of d [] = d
  last_of d (p ∷ ps) = last_of p ps

  last_of-append : (d : Pt3) (ps : List Pt3) (q : Pt3) (qs : List Pt3) → last_of d (ps ++ q ∷ qs) ≡ last_of q qs
  last_of-append d [] q qs = refl
  last_of-append d (p ∷ ps) q qs = last_of-append p ps q qs

  along-append : (p : Pt3) (ps : List Pt3) (q : Pt3) → along (p ∷ (ps ++ q ∷ [])) ≡ along (p ∷ ps) +ℤ T
      (to (last_of p ps) q)
  along-append p [] q = omega (arith, ints)
  along-append p (r ∷ rs) q = omega (arith, ints, along-append r rs q)

  ring-flow : (d : Pt3) (ps : List Pt3) → flow (ring_sides ps) ≡ along ps +ℤ T (to (last_of d ps) (head_of d ps))
  ring-flow d [] = omega (arith, ints, back d d)
  ring-flow d (p ∷ ps) = path-along p ps p ∙ along-append p ps p

  -- a list turned round, put before others
  turned_onto : (p : Pt3) (ps : List Pt3) (qs : List Pt3) → reverse (p ∷ ps) ++ qs ≡ reverse ps ++ p ∷ qs
  turned_onto p ps qs = ap (λ rs. rs ++ qs) (reverse_onto ps p []) ∙ append_assoc (reverse ps) (p ∷ []) qs

  along-reverse : (ps : List Pt3) (q : Pt3) (qs : List Pt3) → along (reverse ps ++ q ∷ qs) ≡ along (q ∷ qs) -ℤ along
      (q ∷ ps)
  along-reverse [] q qs = omega (arith, ints)
  along-reverse (p ∷ ps) q qs = ap along (turned_onto p ps (q ∷ qs)) ∙ omega (
    arith,
    ints,
    along-reverse ps p (q ∷ qs),
    back p q,
  )

  head_of-reverse : (d : Pt3) (ps : List Pt3) (q : Pt3) (qs : List Pt3) → head_of d (reverse ps ++ q ∷ qs)
      ≡ last_of q ps
  head_of-reverse d [] q qs = refl
  head_of-reverse d (p ∷ ps) q qs = ap (head_of d) (turned_onto p ps (q ∷ qs)) ∙ head_of-reverse d ps p (q ∷ qs)

  -- a ring run backwards flows the other way
  pub reverse-flow : (ps : List Pt3) → flow (ring_sides (reverse ps)) ≡ neg_ℤ (flow (ring_sides ps))
  reverse-flow [] = refl
  reverse-flow (p ∷ ps) =
      let back_ring : flow (ring_sides (reverse ps ++ p ∷ [])) ≡ along (reverse ps ++ p ∷ []) +ℤ T
      (to (last_of p (reverse ps ++ p ∷ [])) (head_of p (reverse ps ++ p ∷ []))) =
      ring-flow p (reverse ps ++ p ∷ []) in
      let ends : T (to (last_of p (reverse ps ++ p ∷ [])) (head_of p (reverse ps ++ p ∷ [])))
      ≡ T (to p (last_of p ps)) = ap₂ (λ a b. T (to a b)) (last_of-append p (reverse ps) p [])
      (head_of-reverse p ps p []) in
      ap (λ rs. flow (ring_sides rs)) (reverse_onto ps p []) ∙ omega (
        arith,
        ints,
        back_ring,
        ends,
        along-reverse ps p
            [],
        ring-flow p (p ∷ ps),
        back (last_of p ps) p,
      )

  -- round the quads between two paths it flows along the upper one and back along the lower one
  paths-flow : (p : Pt3) (ps : List Pt3) (p' q : Pt3) (qs : List Pt3) (q' : Pt3) → length ps ≡ length qs
      → flow_round (fans (map quad (zip (path p ps p') (path q qs q')))) +ℤ T (to p q) ≡ flow (path p ps p') -ℤ flow
      (path q qs q') +ℤ T (to p' q')
  paths-flow p [] p' q [] q' same = omega (
    arith,
    ints,
    fan-flow (p ∷ p' ∷ q' ∷ q ∷ []),
    flow_round-append
        (fan (p ∷ p' ∷ q' ∷ q ∷ [])) [],
    back q q',
    back p q,
  )
  paths-flow p (r ∷ rs) p' q (t ∷ ts) q' same =
      let rest = fans (map quad (zip (path r rs p') (path t ts q'))) in
      omega (
        arith,
        ints,
        flow_round-append (fan (p ∷ r ∷ t ∷ q ∷ [])) rest,
        fan-flow (p ∷ r ∷ t ∷ q ∷ []),
        paths-flow r
            rs p' t ts q' (omega arith),
        back q t,
        back p q,
      )
  paths-flow p [] p' q (t ∷ ts) q' same = absurd (omega arith)
  paths-flow p (r ∷ rs) p' q [] q' same = absurd (omega arith)

  pub band-flow : (ps qs : List Pt3) → length ps ≡ length qs → flow_round (fans (band ps qs)) ≡ flow (ring_sides ps) -ℤ
      flow (ring_sides qs)
  band-flow [] [] same = refl
  band-flow (p ∷ ps) (q ∷ qs) same = omega (arith, ints, paths-flow p ps p q qs q (omega arith))
  band-flow [] (q ∷ qs) same = absurd (omega arith)
  band-flow (p ∷ ps) [] same = absurd (omega arith)

  faces_below-flow : (m : ℕ) (ring : List Pt3) (rings : List (List Pt3)) → length ring ≡ m
      → list_all (λ r. length r == m) rings ≡ true → flow_round (fans (faces_below ring rings)) ≡ flow (ring_sides ring)
  faces_below-flow m ring [] long all = omega (arith, ints, flow_round-append (fan ring) [], fan-flow ring)
  faces_below-flow m ring (next ∷ rings) long all =
      let one = and_parts (length next == m) (list_all (λ r. length r == m) rings) all in
      let next_long = eqb-true (length next) m one.0 in
      ap flow_round (flat_map-append fan (band ring next) (faces_below next rings))
      ∙ omega (
        arith,
        ints,
        flow_round-append (fans (band ring next)) (fans (faces_below next rings)),
        band-flow ring
            next (long ∙ sym next_long),
        faces_below-flow m next rings next_long one.1,
      )

  -- round all triangles of a stack together, nothing flows
  pub stacked-flow : (m : ℕ) (rings : List (List Pt3)) → list_all (λ r. length r == m) rings ≡ true
      → flow_round (stacked rings) ≡ pos 0
  unfolding stacked
  stacked-flow m [] all = refl
  stacked-flow m (top ∷ rings) all =
      let one = and_parts (length top == m) (list_all (λ r. length r == m) rings) all in
      omega (
        arith,
        ints,
        flow_round-append (fan (reverse top)) (fans (faces_below top rings)),
        fan-flow (reverse top),
        reverse-flow top,
        faces_below-flow m top rings (eqb-true (length top) m one.0) one.1,
      )

-- a side counts once where it is s, and once less where it is the reverse of s
abbrev once : Bool → ℤ
once b = cond b (pos 1) (pos 0)

abbrev pub turn_of : Side → Side → ℤ
turn_of s t = once (same_side s t) -ℤ once (same_side (reversed s) t)

pub turn_of-reversed : (s t : Side) → turn_of s (reversed t) ≡ neg_ℤ (turn_of s t)
turn_of-reversed s t =
    ap₂ (λ a b. once a -ℤ once b) (and_comm (same_point s.from t.to) (same_point s.to t.from))
    (and_comm (same_point s.to t.to) (same_point s.from t.from))
    ∙ omega (arith, ints)

pub turn_of-flow : (s : Side) (ss : List Side) → flow (turn_of s) (turn_of-reversed s) ss +ℤ pos
    (occurrences (reversed s) ss) ≡ pos (occurrences s ss)
turn_of-flow s [] = refl
turn_of-flow s (t ∷ ss) =
    let rest = turn_of-flow s ss in
    let here : once (same_side s t) ≡ pos (cond (same_side s t) 1 0) = of_cond (same_side s t) in
    let back : once (same_side (reversed s) t) ≡ pos (cond (same_side (reversed s) t) 1 0) =
    of_cond (same_side (reversed s) t) in
    omega (
      arith,
      ints,
      times_in-cons same_side side_Decides s t ss,
      times_in-cons same_side side_Decides (reversed s) t
          ss,
    )
  where
    of_cond : (b : Bool) → once b ≡ pos (cond b 1 0)
    of_cond true = refl
    of_cond false = refl

-- the triangles of rings of one length are closed
pub is_closed-stacked : (m : ℕ) (rings : List (List Pt3)) → list_all (λ r. length r == m) rings ≡ true
    → is_closed (stacked rings) ≡ true
is_closed-stacked m rings all =
    is_closed-IsClosed (stacked rings) (record {
      each = λ s. omega (
        arith,
        ints,
        stacked-flow (turn_of s) (turn_of-reversed s) m rings all,
        turn_of-flow s
            (sides (stacked rings)),
      );
    })

pub is_closed-alike : (rings : List (List Pt3)) → are_alike rings ≡ true → is_closed (stacked rings) ≡ true
is_closed-alike [] all = is_closed-stacked 0 [] refl
is_closed-alike (top ∷ rings) all = is_closed-stacked (length top) (top ∷ rings)
    (ap₂ (λ a b. a && b) (eq-eqb (length top) (length top) refl) all)
