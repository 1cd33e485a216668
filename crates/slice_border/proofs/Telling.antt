-- The bundles on both sides of a level tell the shape's values hard by its spots.
use Rattle.std.proofs.Common.{◌≡◌, ℕ, zero, suc, ◌+◌, ◌<◌, ◌≤◌, true, false, List, [], ◌∷◌, length, get_or, sym, ◌∙◌, arith, subst}
use lib.IntN.{pos}
use lib.Signed.{◌<ℤ◌}
use Rattle.std.specs.List.{AllByRecursion}
use Rattle.std.proofs.lemmas.Int.{ints}
use Rattle.scad_base.proofs.Products.{positive_product}
use Rattle.scad_geom.specs.declared.level.Level.{Level}
use Rattle.scad_geom.specs.declared.level.LeafEdge.{LeafEdge}
use Rattle.scad_geom.specs.declared.shape.Shape.{Shape}
use Rattle.scad_geom.specs.Heights.{heights, AreNeighbours}
use Rattle.scad_geom.specs.Level.{IsLower, IsAtMost}
use Rattle.scad_geom.specs.Point.{Point}
use Rattle.scad_geom.proofs.Heights.{heights_positive}
use Rattle.slice_events.specs.Levels.{IsRising, AreLevels}
use Rattle.slice_bundles.specs.Bundles.{AreBundles}
use Rattle.slice_pieces.specs.declared.piece.Spot.{Spot}
use Rattle.slice_pieces.specs.Spots.{point_of}
use Rattle.slice_border.specs.Beside.{passing, TellBeside}
use Rattle.slice_border.proofs.BundleValues.{left_is, outside_right}
use Rattle.slice_border.proofs.Middle.{scaled, lower_scaled, at_most_scaled, scaled_below, scaled_at_most}
use Rattle.slice_border.proofs.Passing.{Around}
use Rattle.slice_border.proofs.Values.{is_in_passing}
use Rattle.slice_border.proofs.Walk.{UpTo, at_first, at_next, ended, over_all}
use Rattle.slice_border.proofs.Winding.{outside_below, outside_above}

runs_up : (n : ℕ) → 0 < n → pos 0 <ℤ pos n
runs_up n h = omega (arith, ints)

itself : (l : Level) → IsAtMost l l
itself l = omega (arith, ints)

divides : (s : Spot) (l : Level) → s.at ≡ l → 0 < s.run → pos 0 <ℤ l.d → pos 0 <ℤ (point_of s).d
divides s l e r d = positive_product s.at.d (pos s.run) (subst (λ (at : Level). pos 0 <ℤ at.d) (sym e) d)
    (runs_up s.run r)

-- ---- the slab above a level, and the one below it
pub tell_above : (es : List LeafEdge) (shape : Shape) (l u : Level) (bs : List (List ℕ)) → AreNeighbours es l u
    → AreBundles es l u bs → TellBeside true es shape l bs
tell_above es shape l u bs n b s e r =
    let from : IsAtMost l (scaled s.at (pos s.run)) = subst (λ (at : Level). IsAtMost l (scaled at (pos s.run))) (sym e)
    (at_most_scaled l l (pos s.run) (runs_up s.run r) (itself l)) in
    let to : IsLower (scaled s.at (pos s.run)) u = subst (λ (at : Level). IsLower (scaled at (pos s.run)) u) (sym e)
    (scaled_below u l (pos s.run) (runs_up s.run r) n.in_order) in
    let a : Around es true true (point_of s) l u = record { neighbours = n; divisor = divides s l e r n.lower_divisor; spans = (from, to) } in
    is_in_passing es shape true true (point_of s) l u a bs b
    ∙ sym (left_is es shape (passing es true (point_of s) bs))

pub tell_below : (es : List LeafEdge) (shape : Shape) (l u : Level) (bs : List (List ℕ)) → AreNeighbours es l u
    → AreBundles es l u bs → TellBeside false es shape u bs
tell_below es shape l u bs n b s e r =
    let from : IsLower l (scaled s.at (pos s.run)) = subst (λ (at : Level). IsLower l (scaled at (pos s.run))) (sym e)
    (lower_scaled l u (pos s.run) (runs_up s.run r) n.in_order) in
    let to : IsAtMost (scaled s.at (pos s.run)) u = subst (λ (at : Level). IsAtMost (scaled at (pos s.run)) u) (sym e)
    (scaled_at_most u u (pos s.run) (runs_up s.run r) (itself u)) in
    let a : Around es false true (point_of s) l u = record { neighbours = n; divisor = divides s u e r n.upper_divisor; spans = (from, to) } in
    is_in_passing es shape false true (point_of s) l u a bs b
    ∙ sym (left_is es shape (passing es true (point_of s) bs))

-- ---- nothing lies below the first level and above the last
none : Level
none = record { n = pos 0; d = pos 0 }

pub tell_first : (es : List LeafEdge) (shape : Shape) (ls : List Level) (d : Level) → AreLevels es ls
    → 0 < length ls → TellBeside false es shape (get_or ls 0 d) []
tell_first es shape [] d v h s e r = absurd (omega arith)
tell_first es shape (l ∷ ls) d v h s e r =
    let o : IsAtMost (scaled s.at (pos s.run)) l = subst (λ (at : Level). IsAtMost (scaled at (pos s.run)) l) (sym e)
    (scaled_at_most l l (pos s.run) (runs_up s.run r) (itself l)) in
    let p : Point = point_of s in
    outside_below es shape false true p (over_all es shape false true p (divides s l e r v.divisors.0) l ls (heights es)
    v.divisors
    (heights_positive es) v.rising o v.complete)
    ∙ sym (outside_right es shape)

last_up_to : (es : List LeafEdge) (ls : List Level) (l : Level) (i : ℕ) (d : Level) → i ≡ length ls
    → AllByRecursion (λ (l : Level). pos 0 <ℤ l.d) (l ∷ ls) → IsRising (l ∷ ls)
    → AllByRecursion (UpTo l ls) (heights es)
    → (pos 0 <ℤ (get_or (l ∷ ls) i d).d) × AllByRecursion (UpTo (get_or (l ∷ ls) i d) []) (heights es)
last_up_to es [] l zero d h p r t = (p.0, t)
last_up_to es [] l (suc i) d h p r t = absurd (omega arith)
last_up_to es (u ∷ ls) l zero d h p r t = absurd (omega arith)
last_up_to es (u ∷ ls) l (suc i) d h p r t = last_up_to es ls u i d (omega arith) p.1 r.1
    (at_next l u ls (heights es) p.0 p.1.0 (heights_positive es) r.0 t)

pub tell_last : (es : List LeafEdge) (shape : Shape) (ls : List Level) (i : ℕ) (d : Level) → AreLevels es ls
    → i < length ls → length ls ≤ i + 1 → TellBeside true es shape (get_or ls i d) []
tell_last es shape [] i d v h k s e r = absurd (omega arith)
tell_last es shape (l ∷ ls) i d v h k s e r =
    let m = last_up_to es ls l i d (omega arith) v.divisors v.rising (at_first l ls (heights es) v.complete) in
    let at : Level = get_or (l ∷ ls) i d in
    let o : IsAtMost at (scaled s.at (pos s.run)) = subst (λ (t : Level). IsAtMost at (scaled t (pos s.run))) (sym e)
    (at_most_scaled at at (pos s.run) (runs_up s.run r) (itself at)) in
    let p : Point = point_of s in
    outside_above es shape true true p (ended es shape true true p (divides s at e r m.0) at (heights es) m.0
    (heights_positive es) o m.1)
    ∙ sym (outside_right es shape)
