-- How the cuts of triangles wind, one triangle after another.
use Rattle.std.proofs.Common.{◌≡◌, ℕ, ◌+◌, ◌<◌, true, List, [], ◌∷◌, length, drop, get_or, Option, Some, None, ℤ, pos, ◌+ℤ◌, arith, refl, ap, ap₂, sym, ◌∙◌}
use Rattle.std.proofs.lemmas.Int.{ints}
use Rattle.std.proofs.lemmas.List.{at_drop_more}
use Rattle.std.proofs.Math.IntN.{+ℤ_assoc}
use Rattle.std.specs.Prelude.{find}
use Rattle.std.specs.List.{cons_option}
use Rattle.scad_geom.specs.Point.{Point}
use Rattle.scad_geom.specs.Segment.{Segment}
use Rattle.scad_geom.specs.Winding.{turn, wind}
use Rattle.scad_solid.specs.declared.side.Side.{Side}
use Rattle.scad_solid.specs.declared.triangle.Triangle.{Triangle}
use Rattle.scad_solid.specs.Surface.{sides_of}
use Rattle.scad_solid.specs.Cut.{falls, rises, cut_of, cut_between, cuts_of, point_between}

one_more : (p : Point) (o : Option Segment) (ss : List Segment) → wind p (cons_option o ss) ≡ wind p (cons_option o [])
    +ℤ wind p ss
one_more p None ss = omega (arith, ints)
one_more p (Some s) ss = omega (arith, ints)

-- one more triangle's turn goes from what is left to the sum
pub wound_more : (plane : ℤ) (p : Point) (ts : List Triangle) (i : ℕ) (d : Triangle) (sum : ℤ) → i < length ts →
    sum +ℤ wind p (cuts_of plane (drop i ts))
    ≡ (sum +ℤ wind p (cuts_of plane (get_or ts i d ∷ []))) +ℤ wind p (cuts_of plane (drop (i + 1) ts))
wound_more plane p ts i d sum here =
    ap (λ rest. sum +ℤ rest) (at_drop_more (λ left. wind p (cuts_of plane left)) ts i d here ∙ one_more p
    (cut_of plane (get_or ts i d)) (cuts_of plane (drop (i + 1) ts)))
    ∙ sym (+ℤ_assoc sum _ _)

-- what one triangle adds, by its sides through the plane
pub turn-found : (plane : ℤ) (p : Point) (t : Triangle) (f r : Side) → Some f ≡ find (falls plane) (sides_of t)
    → Some r ≡ find (rises plane) (sides_of t) → turn true true p (point_between f.to f.from plane)
    (point_between r.from r.to plane) ≡ wind p (cuts_of plane (t ∷ []))
turn-found plane p t f r falling rising =
    let alone : turn true true p (point_between f.to f.from plane) (point_between r.from r.to plane)
    ≡ wind p (cons_option (cut_between plane (Some f) (Some r)) []) = omega (arith, ints) in
    alone ∙ ap₂ (λ a b. wind p (cons_option (cut_between plane a b) [])) falling rising

pub turn-not_falling : (plane : ℤ) (p : Point) (t : Triangle) → None ≡ find (falls plane) (sides_of t)
    → pos 0 ≡ wind p (cuts_of plane (t ∷ []))
turn-not_falling plane p t falling = none (find (rises plane) (sides_of t)) ∙ ap
    (λ a. wind p (cons_option (cut_between plane a (find (rises plane) (sides_of t))) [])) falling
  where
    none : (o : Option Side) → pos 0 ≡ wind p (cons_option (cut_between plane None o) [])
    none None = refl
    none (Some r) = refl

pub turn-not_rising : (plane : ℤ) (p : Point) (t : Triangle) (f : Side) → Some f ≡ find (falls plane) (sides_of t)
    → None ≡ find (rises plane) (sides_of t) → pos 0 ≡ wind p (cuts_of plane (t ∷ []))
turn-not_rising plane p t f falling rising = ap₂ (λ a b. wind p (cons_option (cut_between plane a b) [])) falling rising

pub ruleset turns = (turn-found, turn-not_falling, turn-not_rising)
