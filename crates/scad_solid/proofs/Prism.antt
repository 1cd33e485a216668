-- The cuts of a prism wind round a point as its ring does.
use Rattle.std.proofs.Common.{◌≡◌, zero, suc, Bool, true, false, cond, ◌&&◌, not, List, [], ◌∷◌, ◌++◌, map, reverse, Some, None, Option, ℤ, pos, negsuc, neg_ℤ, ◌+ℤ◌, ◌-ℤ◌, ◌*ℤ◌, ◌<ℤ◌, arith, refl, ap, ap₂, sym, ◌∙◌}
use Rattle.scad_base.proofs.Tests.{int_lt-true}
use Rattle.scad_base.proofs.Integers.{zero_minus}
use Rattle.std.specs.Prelude.{int_lt}
use Rattle.std.specs.List.{cons_option, zip}
use Rattle.std.proofs.lemmas.Int.{ints}
use Rattle.std.proofs.lemmas.List.{append-nil}
use Rattle.std.proofs.lemmas.Grind.{flat_map-append, reverse_onto}
use Rattle.scad_geom.specs.declared.point3.Pt3.{Pt3}
use Rattle.scad_geom.specs.declared.point.Pt.{Pt}
use Rattle.scad_geom.specs.declared.point.Edge.{Edge}
use Rattle.scad_geom.specs.Point.{Point, whole}
use Rattle.scad_geom.specs.Segment.{Segment, segments}
use Rattle.scad_geom.specs.Winding.{turn, wind}
use Rattle.scad_geom.proofs.Crossing.{side_of, crossing, scaled, times_point}
use Rattle.scad_geom.proofs.CommonDivisor.{turn_scaled}
use Rattle.scad_geom.proofs.Ring.{Term, ring, var, num, plus, less, times}
use Rattle.scad_solid.specs.declared.triangle.Triangle.{Triangle}
use Rattle.scad_solid.specs.Cut.{is_above, is_below, point_between, cut_between, cut_of, cuts_of}
use Rattle.scad_solid.specs.Solid.{fan, fan_around, fans}
use Rattle.scad_solid.specs.Stack.{quad, band, stacked}
use Rattle.scad_solid.specs.Stack as stack
use Rattle.scad_solid.specs.Laws.{at, prism}
use Rattle.scad_geom.specs.Loop.{path}
use Rattle.scad_geom.specs.Loop as loops
use Rattle.scad_solid.proofs.Parts.{told, crossing-told, crossing-parts, crossing-scaled, mixed}
use Rattle.scad_solid.proofs.Segments.{turn_common}

abbrev edge : Pt → Pt → Edge
edge p q = record { a = p; b = q }

-- an edge run backwards crosses the other way
told-turned : (a b l r : Bool) → told b a r l ≡ neg_ℤ (told a b l r)
told-turned false false l r = refl
told-turned true true l r = refl
told-turned false true true r = refl
told-turned false true false r = refl
told-turned true false l true = refl
told-turned true false l false = refl

flip_up : (s : ℤ) → int_lt (pos 0) (neg_ℤ s) ≡ int_lt s (pos 0)
flip_up s = grind (arith, ints)

flip_down : (s : ℤ) → int_lt (neg_ℤ s) (pos 0) ≡ int_lt (pos 0) s
flip_down s = grind (arith, ints)

pub crossing-turned : (p q : Pt) (x y : ℤ) → crossing (edge q p) x y ≡ neg_ℤ (crossing (edge p q) x y)
crossing-turned p q x y =
    let side : side_of (edge q p) x y ≡ pos 0 -ℤ side_of (edge p q) x y = ring (p.x ∷ p.y ∷ q.x ∷ q.y ∷ x ∷ y ∷ [])
    (less (times (less (var 0) (var 2)) (less (var 5) (var 3))) (times (less (var 1) (var 3)) (less (var 4) (var 2))))
    (less (num (pos 0)) (less (times (less (var 2) (var 0)) (less (var 5) (var 1)))
    (times (less (var 3) (var 1)) (less (var 4) (var 0))))) refl in
    let turned = side ∙ zero_minus (side_of (edge p q) x y) in
    crossing-told (edge q p) x y
    ∙ (λ i. told (int_lt y q.y) (int_lt y p.y) ((ap (int_lt (pos 0)) turned ∙ flip_up (side_of (edge p q) x y)) i)
    ((ap (λ s. int_lt s (pos 0)) turned ∙ flip_down (side_of (edge p q) x y)) i))
    ∙ told-turned (int_lt y p.y) (int_lt y q.y) (int_lt (pos 0) (side_of (edge p q) x y))
    (int_lt (side_of (edge p q) x y) (pos 0))
    ∙ ap neg_ℤ (sym (crossing-told (edge p q) x y))

crossing-scaled_by : (k : ℤ) (e : Edge) (x y : ℤ) → pos 0 <ℤ k → crossing (scaled k e) (k *ℤ x) (k *ℤ y) ≡ crossing e x
    y
crossing-scaled_by (pos zero) e x y some = absurd (omega (arith, ints))
crossing-scaled_by (pos (suc n)) e x y some = crossing-scaled n e x y
crossing-scaled_by (negsuc n) e x y some = absurd (omega (arith, ints))

turn_back : (o : Point) (p q : Pt) → pos 0 <ℤ o.d → turn true true o (whole q) (whole p)
    ≡ neg_ℤ (turn true true o (whole p) (whole q))
turn_back o p q some =
    turn_scaled o (edge q p) some
    ∙ crossing-turned (times_point o.d p) (times_point o.d q) o.x o.y
    ∙ ap neg_ℤ (sym (turn_scaled o (edge p q) some))

-- a plane between a lower and an upper height: the two cuts of a quad, whose lower corners are those of the side from p
-- to q, are the side's two parts
module _ (low high plane : ℤ) (above : (pos 2 *ℤ low) <ℤ plane) (below : plane <ℤ (pos 2 *ℤ high)) (p q : Pt) (o : Point) (some_o : pos 0 <ℤ o.d) where
  abbrev u : ℤ
  u = pos 2 *ℤ high -ℤ plane

  abbrev v : ℤ
  v = plane -ℤ pos 2 *ℤ low

  abbrev d : ℤ
  d = pos 2 *ℤ high -ℤ pos 2 *ℤ low

  -- the point on the upright side at p, and the point between the low p and the high q
  abbrev on : Pt → Point
  on r = point_between (at low r) (at high r) plane

  abbrev between : Point
  between = point_between (at low p) (at high q) plane

  weights : d ≡ u +ℤ v
  weights = ring (high ∷ low ∷ plane ∷ []) (less (times (num (pos 2)) (var 0)) (times (num (pos 2)) (var 1)))
      (plus (less (times (num (pos 2)) (var 0)) (var 2)) (less (var 2) (times (num (pos 2)) (var 1)))) refl

  some_u : pos 0 <ℤ u
  some_u = omega (arith, ints)

  some_v : pos 0 <ℤ v
  some_v = omega (arith, ints)

  some_d : pos 0 <ℤ d
  some_d = omega (arith, ints)

  upright : (c : ℤ) → o.d *ℤ d *ℤ (c *ℤ u +ℤ c *ℤ v) ≡ d *ℤ ((u +ℤ v) *ℤ (o.d *ℤ c))
  upright c = ring (high ∷ low ∷ plane ∷ c ∷ o.d ∷ [])
      (times (times (var 4) D) (plus (times (var 3) U) (times (var 3) V)))
      (times D (times (plus U V) (times (var 4) (var 3)))) refl
    where
      U : Term
      U = less (times (num (pos 2)) (var 0)) (var 2)

      V : Term
      V = less (var 2) (times (num (pos 2)) (var 1))

      D : Term
      D = less (times (num (pos 2)) (var 0)) (times (num (pos 2)) (var 1))

  slanted : (b c : ℤ) → o.d *ℤ d *ℤ (b *ℤ u +ℤ c *ℤ v) ≡ d *ℤ (u *ℤ (o.d *ℤ b) +ℤ v *ℤ (o.d *ℤ c))
  slanted b c = ring (high ∷ low ∷ plane ∷ b ∷ c ∷ o.d ∷ [])
      (times (times (var 5) D) (plus (times (var 3) U) (times (var 4) V)))
      (times D (plus (times U (times (var 5) (var 3))) (times V (times (var 5) (var 4))))) refl
    where
      U : Term
      U = less (times (num (pos 2)) (var 0)) (var 2)

      V : Term
      V = less (var 2) (times (num (pos 2)) (var 1))

      D : Term
      D = less (times (num (pos 2)) (var 0)) (times (num (pos 2)) (var 1))

  point : (c : ℤ) → d *ℤ d *ℤ c ≡ d *ℤ ((u +ℤ v) *ℤ c)
  point c = ring (high ∷ low ∷ plane ∷ c ∷ [])
      (times (times D D) (var 3)) (times D (times (plus U V) (var 3))) refl
    where
      U : Term
      U = less (times (num (pos 2)) (var 0)) (var 2)

      V : Term
      V = less (var 2) (times (num (pos 2)) (var 1))

      D : Term
      D = less (times (num (pos 2)) (var 0)) (times (num (pos 2)) (var 1))

  pub quad-turn : turn true true o (on p) between +ℤ turn true true o between (on q) ≡ turn true true o (whole p)
      (whole q)
  quad-turn =
      ap₂ (λ m n. m +ℤ n)
      (turn_common o (on p) between some_o some_d some_d
      ∙ (λ i. crossing (record {
        a = record { x = upright p.x i; y = upright p.y i };
        b =
            record { x = slanted p.x q.x i; y = slanted p.y q.y i };
      }) (point o.x i) (point o.y i))
      ∙ crossing-scaled_by d (record {
        a = times_point (u +ℤ v) (scaled o.d (edge p q)).a;
        b =
            mixed u v (scaled o.d (edge p q));
      }) ((u +ℤ v) *ℤ o.x) ((u +ℤ v) *ℤ o.y) some_d)
      (turn_common o between (on q) some_o some_d some_d
      ∙ (λ i. crossing (record {
        a = record { x = slanted p.x q.x i; y = slanted p.y q.y i };
        b =
            record { x = upright q.x i; y = upright q.y i };
      }) (point o.x i) (point o.y i))
      ∙ crossing-scaled_by d (record {
        a = mixed u v (scaled o.d (edge p q));
        b = times_point (u +ℤ v)
            (scaled o.d (edge p q)).b;
      }) ((u +ℤ v) *ℤ o.x) ((u +ℤ v) *ℤ o.y) some_d)
      ∙ crossing-parts u v some_u some_v (scaled o.d (edge p q)) o.x o.y
      ∙ sym (turn_scaled o (edge p q) some_o)

-- how cuts wind where the ring winds so: against it where its upper ring alone lies above, with it where its lower ring
-- does, not at all where both or none do
abbrev pub winds : Bool → Bool → ℤ → ℤ
winds true true c = pos 0
winds true false c = neg_ℤ c
winds false true c = c
winds false false c = pos 0

wind-append : (o : Point) (cs ds : List Segment) → wind o (cs ++ ds) ≡ wind o cs +ℤ wind o ds
wind-append o [] ds = omega (arith, ints)
wind-append o (c ∷ cs) ds = omega (arith, ints, wind-append o cs ds)

cons_option-append : {X : Type 0} (o : Option X) (xs ys : List X) → cons_option o (xs ++ ys) ≡ cons_option o xs ++ ys
cons_option-append None xs ys = refl
cons_option-append (Some x) xs ys = refl

cuts_of-append : (plane : ℤ) (ts us : List Triangle) → cuts_of plane (ts ++ us) ≡ cuts_of plane ts ++ cuts_of plane us
cuts_of-append plane [] us = refl
cuts_of-append plane (t ∷ ts) us = ap (cons_option (cut_of plane t)) (cuts_of-append plane ts us) ∙ cons_option-append
    (cut_of plane t) (cuts_of plane ts) (cuts_of plane us)

module _ (plane upper lower : ℤ) (upper_apart : is_below plane upper ≡ not (is_above plane upper)) (lower_apart : is_below plane lower ≡ not (is_above plane lower)) (o : Point) (some_o : pos 0 <ℤ o.d) where
  -- the cut of a triangle by which of its corners lie above and below the plane
  abbrev cut_by : Pt3 → Pt3 → Pt3 → Bool → Bool → Bool → Bool → Bool → Bool → Option Segment
  cut_by a b c up_a down_a up_b down_b up_c down_c = cut_between plane
      (cond (up_a && down_b) (Some (record { from = a; to = b }))
      (cond (up_b && down_c) (Some (record { from = b; to = c }))
      (cond (up_c && down_a) (Some (record { from = c; to = a })) None)))
      (cond (down_a && up_b) (Some (record { from = a; to = b }))
      (cond (down_b && up_c) (Some (record { from = b; to = c }))
      (cond (down_c && up_a) (Some (record { from = c; to = a })) None)))

  abbrev quad_by : Pt → Pt → Bool → Bool → Bool → Bool → List Segment
  quad_by p q up_u down_u up_l down_l =
      cons_option (cut_by (at upper p) (at upper q) (at lower q) up_u down_u up_u down_u up_l down_l)
      (cons_option (cut_by (at upper p) (at lower q) (at lower p) up_u down_u up_l down_l up_l down_l) [])

  quad_case : (p q : Pt) (up_u up_l : Bool) → is_above plane upper ≡ up_u → is_above plane lower ≡ up_l
      → is_below plane upper ≡ not up_u → is_below plane lower ≡ not up_l
      → wind o (quad_by p q up_u (not up_u) up_l (not up_l)) ≡ winds up_u up_l (turn true true o (whole p) (whole q))
  quad_case p q true true a b c d = refl
  quad_case p q false false a b c d = refl
  quad_case p q true false a b c d =
      let cuts = quad-turn lower upper plane (int_lt-true (pos 2 *ℤ lower) plane d) (int_lt-true plane (pos 2 *ℤ upper)
      a) q p o some_o in
      let turned = turn_back o p q some_o in
      omega (arith, ints, cuts, turned)
  quad_case p q false true a b c d =
      let cuts = quad-turn upper lower plane (int_lt-true (pos 2 *ℤ upper) plane c) (int_lt-true plane (pos 2 *ℤ lower)
      b) p q o some_o in
      omega (arith, ints, cuts)

  quad_wind : (p q : Pt) → wind o (cuts_of plane (fan (at upper p ∷ at upper q ∷ at lower q ∷ at lower p ∷ [])))
      ≡ winds (is_above plane upper) (is_above plane lower) (turn true true o (whole p) (whole q))
  quad_wind p q =
      ap₂ (λ d e. wind o (quad_by p q (is_above plane upper) d (is_above plane lower) e)) upper_apart lower_apart
      ∙ quad_case p q (is_above plane upper) (is_above plane lower) refl refl upper_apart lower_apart

  winds-sum : (a b : Bool) (m n : ℤ) → winds a b m +ℤ winds a b n ≡ winds a b (m +ℤ n)
  winds-sum true true m n = refl
  winds-sum true false m n = omega (arith, ints)
  winds-sum false true m n = refl
  winds-sum false false m n = refl

  winds-none : (a b : Bool) → winds a b (pos 0) ≡ pos 0
  winds-none true true = refl
  winds-none true false = refl
  winds-none false true = refl
  winds-none false false = refl

  paths_wind : (p : Pt) (ps : List Pt) (last : Pt)
      → wind o (cuts_of plane
      (fans (map quad (zip (stack.path (at upper p) (map (at upper) ps) (at upper last))
      (stack.path (at lower p) (map (at lower) ps) (at lower last)))))) ≡ winds (is_above plane upper)
      (is_above plane lower) (wind o (segments (path p ps last)))
  paths_wind p [] last =
      ap (wind o) (cuts_of-append plane (fan (at upper p ∷ at upper last ∷ at lower last ∷ at lower p ∷ [])) [])
      ∙ wind-append o (cuts_of plane (fan (at upper p ∷ at upper last ∷ at lower last ∷ at lower p ∷ []))) []
      ∙ ap₂ (λ m n. m +ℤ n) (quad_wind p last) (sym (winds-none (is_above plane upper) (is_above plane lower)))
      ∙ winds-sum (is_above plane upper) (is_above plane lower) (turn true true o (whole p) (whole last)) (pos 0)
  paths_wind p (q ∷ qs) last =
      let rest = fans (map quad (zip (stack.path (at upper q) (map (at upper) qs) (at upper last))
      (stack.path (at lower q) (map (at lower) qs) (at lower last)))) in
      let first = fan (at upper p ∷ at upper q ∷ at lower q ∷ at lower p ∷ []) in
      ap (wind o) (cuts_of-append plane first rest)
      ∙ wind-append o (cuts_of plane first) (cuts_of plane rest)
      ∙ ap₂ (λ m n. m +ℤ n) (quad_wind p q) (paths_wind q qs last)
      ∙ winds-sum (is_above plane upper) (is_above plane lower) (turn true true o (whole p) (whole q))
      (wind o (segments (path q qs last)))

  band_wind : (ring : List Pt) → wind o (cuts_of plane (fans (band (map (at upper) ring) (map (at lower) ring))))
      ≡ winds (is_above plane upper) (is_above plane lower) (wind o (segments (loops.sides ring)))
  band_wind [] = sym (winds-none (is_above plane upper) (is_above plane lower))
  band_wind (p ∷ ps) = paths_wind p ps p

-- a face at one height isn't cut
module _ (plane z : ℤ) (apart : is_below plane z ≡ not (is_above plane z)) where
  level_by : (a b c : Pt3) (up : Bool) → cut_between plane (cond (up && not up) (Some (record { from = a; to = b }))
      (cond (up && not up) (Some (record { from = b; to = c }))
      (cond (up && not up) (Some (record { from = c; to = a })) None)))
      (cond (not up && up) (Some (record { from = a; to = b }))
      (cond (not up && up) (Some (record { from = b; to = c }))
      (cond (not up && up) (Some (record { from = c; to = a })) None))) ≡ None
  level_by a b c true = refl
  level_by a b c false = refl

  level_uncut : (p q r : Pt) → cut_of plane (record { a = at z p; b = at z q; c = at z r }) ≡ None
  level_uncut p q r =
      ap (λ down. cut_between plane (cond (is_above plane z && down) (Some (record { from = at z p; to = at z q }))
      (cond (is_above plane z && down) (Some (record { from = at z q; to = at z r }))
      (cond (is_above plane z && down) (Some (record { from = at z r; to = at z p })) None)))
      (cond (down && is_above plane z) (Some (record { from = at z p; to = at z q }))
      (cond (down && is_above plane z) (Some (record { from = at z q; to = at z r }))
      (cond (down && is_above plane z) (Some (record { from = at z r; to = at z p })) None)))) apart
      ∙ level_by (at z p) (at z q) (at z r) (is_above plane z)

  fan_around_uncut : (p q : Pt) (rs : List Pt) → cuts_of plane (fan_around (at z p) (at z q) (map (at z) rs)) ≡ []
  fan_around_uncut p q [] = refl
  fan_around_uncut p q (r ∷ rs) = ap₂ cons_option (level_uncut p q r) (fan_around_uncut p r rs)

  cap_uncut : (ring : List Pt) → cuts_of plane (fan (map (at z) ring)) ≡ []
  cap_uncut [] = refl
  cap_uncut (p ∷ []) = refl
  cap_uncut (p ∷ q ∷ rs) = fan_around_uncut p q rs

reverse-map : (f : Pt → Pt3) (ps : List Pt) → reverse (map f ps) ≡ map f (reverse ps)
reverse-map f [] = refl
reverse-map f (p ∷ ps) = reverse_onto (map f ps) (f p) [] ∙ ap (λ qs. qs ++ f p ∷ []) (reverse-map f ps) ∙ sym
    (map-push f (reverse ps) p) ∙ ap (map f) (sym (reverse_onto ps p []))
  where
    map-push : (f : Pt → Pt3) (qs : List Pt) (q : Pt) → map f (qs ++ q ∷ []) ≡ map f qs ++ f q ∷ []
    map-push f [] q = refl
    map-push f (r ∷ rs) q = ap (λ ts. f r ∷ ts) (map-push f rs q)

-- the cuts of a prism wind round each point as its ring does, one way or the other, where the plane lies between its
-- two
-- ends, and not at all elsewhere
pub prism_wind : (plane upper lower : ℤ) → is_below plane upper ≡ not (is_above plane upper) → is_below plane lower
    ≡ not (is_above plane lower) → (ring : List Pt) (o : Point) → pos 0 <ℤ o.d →
    wind o (cuts_of plane (prism upper lower ring)) ≡ winds (is_above plane upper) (is_above plane lower)
    (wind o (segments (loops.sides ring)))
unfolding stacked
prism_wind plane upper lower upper_apart lower_apart ring o some_o =
    let top = map (at upper) ring in
    let bottom = map (at lower) ring in
    let quads = fans (band top bottom) in
    let top_uncut : cuts_of plane (fan (reverse top)) ≡ [] = ap (λ ps. cuts_of plane (fan ps))
    (reverse-map (at upper) ring) ∙ cap_uncut plane upper upper_apart (reverse ring) in
    let bottom_uncut : cuts_of plane (fan bottom ++ []) ≡ [] = ap (cuts_of plane) (append-nil (fan bottom)) ∙ cap_uncut
    plane lower lower_apart ring in
    ap (wind o)
    (cuts_of-append plane (fan (reverse top)) (fans (band top bottom ++ bottom ∷ []))
    ∙ ap₂ (λ cs ds. cs ++ ds) top_uncut
    (ap (cuts_of plane) (flat_map-append fan (band top bottom) (bottom ∷ []))
    ∙ cuts_of-append plane quads (fan bottom ++ [])
    ∙ ap (λ ds. cuts_of plane quads ++ ds) bottom_uncut
    ∙ append-nil (cuts_of plane quads)))
    ∙ band_wind plane upper lower upper_apart lower_apart o some_o ring
