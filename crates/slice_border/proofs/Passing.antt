-- Between two neighbouring heights: the bundles that lie to the right of a point are the last ones, and a leaf's
-- winding number round the point is the sum of the headings of its edges in them.
use Rattle.std.proofs.Common.{◌≡◌, ℕ, Bool, true, false, List, [], ◌∷◌, sym, ap, ◌∙◌, arith}
use lib.IntN.{ℤ, pos, ◌*ℤ◌}
use lib.Signed.{◌<ℤ◌, ◌≤ℤ◌}
use Rattle.std.proofs.lemmas.Int.{ints}
use Rattle.scad_geom.specs.declared.point.Edge.{Edge}
use Rattle.scad_geom.specs.declared.level.Level.{Level}
use Rattle.scad_geom.specs.declared.level.LeafEdge.{LeafEdge}
use Rattle.scad_geom.specs.Line.{rise, x_at, left_of}
use Rattle.scad_geom.specs.Point.{Point}
use Rattle.scad_geom.specs.Winding.{is_beyond}
use Rattle.scad_geom.specs.Level.{IsAtMost}
use Rattle.scad_geom.specs.Heights.{AreNeighbours}
use Rattle.scad_geom.specs.EdgeOrder.{AreAligned}
use Rattle.scad_geom.proofs.Lines.{left_of_by}
use Rattle.scad_geom.proofs.Order.{aligned_all}
use Rattle.scad_geom.proofs.Turns.{level_at, Spans, beyond_mul}
pub use Rattle.slice_bundles.proofs.Live.{IsLive, live_bundles}
pub use Rattle.slice_border.specs.Beside.{passing}
use Rattle.slice_border.specs.Beside.{lies_left}

-- ---- edges of one bundle lie on one side of a point; a later one lies to the right where an earlier one does
pub same_side : (l : Level) → pos 0 <ℤ l.d → (right : Bool) (p : Point) (e f : Edge) → pos 0 <ℤ rise e
    → pos 0 <ℤ rise f → AreAligned l e f
    → is_beyond right (left_of f p.x p.y p.d) ≡ is_beyond right (left_of e p.x p.y p.d)
same_side l dl right p e f re rf a =
    let g = aligned_all l dl e f a p.y p.d in
    let t = left_of_by e f p.x p.y p.d in
    let s : left_of f p.x p.y p.d *ℤ rise e ≡ left_of e p.x p.y p.d *ℤ rise f = t ∙ omega (arith, ints) in
    sym (beyond_mul right (rise e) (left_of f p.x p.y p.d) re) ∙ ap (is_beyond right) s ∙ beyond_mul right (rise f)
    (left_of e p.x p.y p.d) rf

pub beyond_more : (right : Bool) (y z : ℤ) → y ≤ℤ z → is_beyond right y ≡ true
    → is_beyond right z ≡ true
unfolding is_beyond
beyond_more true y z h k = sym (omega (arith, ints))
beyond_more false y z h k = sym (omega (arith, ints))

pub later_side : (right : Bool) (p : Point) (e f : Edge) → pos 0 <ℤ rise e → pos 0 <ℤ rise f
    → (x_at e p.y p.d *ℤ rise f) ≤ℤ (x_at f p.y p.d *ℤ rise e)
    → is_beyond right (left_of e p.x p.y p.d) ≡ true → is_beyond right (left_of f p.x p.y p.d) ≡ true
later_side right p e f re rf g h =
    let t = left_of_by e f p.x p.y p.d in
    let s : (left_of e p.x p.y p.d *ℤ rise f) ≤ℤ (left_of f p.x p.y p.d *ℤ rise e) = omega (arith, ints) in
    sym (beyond_mul right (rise e) (left_of f p.x p.y p.d) re)
    ∙ beyond_more right (left_of e p.x p.y p.d *ℤ rise f) (left_of f p.x p.y p.d *ℤ rise e) s
    (beyond_mul right (rise f) (left_of e p.x p.y p.d) rf ∙ h)

-- ---- lists of bundles
abbrev pub HeadPasses : List LeafEdge → Bool → Point → List ℕ → Type 0
HeadPasses es right p [] = ⊥
HeadPasses es right p (k ∷ ks) = lies_left es right p k ≡ true

-- what a slab's bundles are for a point that lies between its heights
pub record Around (es : List LeafEdge) (above right : Bool) (p : Point) (l u : Level) : Type 0 where
  pub neighbours : AreNeighbours es l u
  pub divisor : pos 0 <ℤ p.d
  pub spans : Spans above (level_at p) l u

pub spans_from : (above : Bool) (y l u : Level) → Spans above y l u → IsAtMost l y
spans_from true y l u s = s.0
spans_from false y l u s = let t = s.0 in omega (arith, ints)

pub spans_to : (above : Bool) (y l u : Level) → Spans above y l u → IsAtMost y u
spans_to true y l u s = let t = s.1 in omega (arith, ints)
spans_to false y l u s = s.1
