-- An edge that meets a height begins at or below it, and ends there or above.
use Rattle.std.proofs.Common.{◌≡◌, Bool, true, refl, sym, arith}
use lib.IntN.{pos, ◌*ℤ◌}
use lib.Signed.{◌<ℤ◌}
use Rattle.std.specs.Prelude.{int_lt, int_le, ◌&&◌}
use Rattle.std.proofs.lemmas.Bool.{and_parts}
use Rattle.std.proofs.lemmas.Int.{ints}
use Rattle.scad_geom.specs.declared.point.Edge.{Edge}
use Rattle.scad_geom.specs.declared.level.Level.{Level}
use Rattle.scad_geom.specs.Line.{low, high, rise}
use Rattle.scad_geom.specs.Level.{level_of, IsLower, IsAtMost}
use Rattle.scad_geom.proofs.Heights.{at_most_chain, lower_weak}
use Rattle.slice_bundles.specs.Bundles.{reaches}
use Rattle.slice_bundles.specs.Touching.{touches}

abbrev pub begins : Edge → Level → Bool
begins e at = int_le ((low e).y *ℤ at.d) at.n

abbrev pub goes_on : Edge → Level → Bool
goes_on e at = int_le at.n ((high e).y *ℤ at.d)

pub touch_parts : (e : Edge) (at : Level) → touches e at ≡ true
    → (begins e at ≡ true) × (goes_on e at ≡ true)
unfolding touches
touch_parts e at h = and_parts (begins e at) (goes_on e at) h

pub touch_both : (e : Edge) (at : Level) → begins e at ≡ true → goes_on e at ≡ true → touches e at ≡ true
unfolding touches
touch_both e at b g = rw (b, g) refl

one : pos 0 <ℤ pos 1
one = omega (arith, ints)

pub begins_later : (e : Edge) (at h : Level) → pos 0 <ℤ at.d → pos 0 <ℤ h.d → IsAtMost at h
    → begins e at ≡ true → begins e h ≡ true
begins_later e at h d dh o b =
    let from : IsAtMost (level_of (low e).y) at = omega (arith, ints) in
    let to : IsAtMost (level_of (low e).y) h = at_most_chain (level_of (low e).y) at h one d dh from o in
    sym (omega (arith, ints))

pub goes_on_before : (e : Edge) (at h : Level) → pos 0 <ℤ at.d → pos 0 <ℤ h.d → IsAtMost at h
    → goes_on e h ≡ true → goes_on e at ≡ true
goes_on_before e at h d dh o g =
    let from : IsAtMost h (level_of (high e).y) = omega (arith, ints) in
    let to : IsAtMost at (level_of (high e).y) = at_most_chain at h (level_of (high e).y) d dh one o from in
    sym (omega (arith, ints))

pub reaches_touches : (e : Edge) (l u : Level) → pos 0 <ℤ l.d → pos 0 <ℤ u.d → IsLower l u
    → reaches e l u ≡ true → touches e l ≡ true
unfolding reaches
reaches_touches e l u dl du o h =
    let p = and_parts (int_lt (pos 0) (rise e)) (begins e l && goes_on e u) h in
    let q = and_parts (begins e l) (goes_on e u) p.1 in
    touch_both e l q.0 (goes_on_before e l u dl du (lower_weak l u o) q.1)
