-- The winding number of a leaf round a point between two neighbouring heights, by the edges that reach them.
use Rattle.std.proofs.Common.{◌≡◌, ℕ, zero, suc, ◌+◌, ◌<◌, ◌⊎◌, inl, inr, Bool, true, false, List, [], ◌∷◌, length, get_or, refl, sym, ap, ap₂, ◌∙◌, arith}
use lib.IntN.{ℤ, pos, ◌+ℤ◌, ◌-ℤ◌, ◌*ℤ◌, +ℤ_idl}
use lib.Signed.{◌<ℤ◌}
use Rattle.std.specs.Prelude.{int_lt, int_le, if◌then◌else◌, ◌==◌}
use Rattle.std.proofs.lemmas.Int.{ints}
use Rattle.std.proofs.lemmas.List.Elements.{recursion_from_All}
use Rattle.scad_geom.specs.declared.point.Edge.{Edge}
use Rattle.scad_geom.specs.declared.level.Level.{Level}
use Rattle.scad_geom.specs.declared.level.LeafEdge.{LeafEdge}
use Rattle.scad_geom.specs.Line.{low, high, rise, heading}
use Rattle.scad_geom.specs.Point.{Point, whole}
use Rattle.scad_geom.specs.Winding.{turn}
use Rattle.scad_geom.proofs.Leaves.{wind_leaf}
use Rattle.scad_geom.specs.Level.{level_of, IsLower, IsAtMost}
use Rattle.scad_geom.specs.Heights.{heights, AreNeighbours}
pub use Rattle.slice_border.specs.Beside.{lies_left}
use Rattle.slice_bundles.specs.Bundles.{no_edge, reaches, reaching}
use Rattle.scad_geom.proofs.Heights.{Reaches, lower_then_at_most, at_most_then_lower}
use Rattle.scad_geom.proofs.Order.{all_ends}
use Rattle.scad_geom.proofs.Turns.{level_at, Over, NotOver, Spans, over_up, not_over_down, reaching_turn, under_turn, over_turn}
use Rattle.slice_bundles.proofs.Live.{reaches_is}
use Rattle.scad_geom.proofs.Sums.{sum_z}
use Rattle.std.proofs.lemmas.Bool.{true≢false}
use Rattle.scad_base.proofs.Tests.{cond_same}

reaches_up : (e : Edge) (l u : Level) → pos 0 <ℤ l.d → pos 0 <ℤ u.d → IsLower l u
    → IsAtMost (level_of e.a.y) l → IsAtMost u (level_of e.b.y) → reaches e l u ≡ true
unfolding reaches low high rise
reaches_up e l u dl du o a b =
    let one : pos 0 <ℤ pos 1 = omega (arith, ints) in
    let c : IsLower (level_of e.a.y) u = at_most_then_lower (level_of e.a.y) l u one dl du a o in
    let d : IsLower (level_of e.a.y) (level_of e.b.y) = lower_then_at_most (level_of e.a.y) u (level_of e.b.y) one du
    one c b in
    let q : int_lt e.b.y e.a.y ≡ false = sym (omega (arith, ints)) in
    let x : int_lt (pos 0) (e.b.y -ℤ e.a.y) ≡ true = sym (omega (arith, ints)) in
    let y : int_le (e.a.y *ℤ l.d) l.n ≡ true = sym (omega (arith, ints)) in
    let z : int_le u.n (e.b.y *ℤ u.d) ≡ true = sym (omega (arith, ints)) in
    rw (q, x, y, z)

reaches_down : (e : Edge) (l u : Level) → pos 0 <ℤ l.d → pos 0 <ℤ u.d → IsLower l u
    → IsAtMost u (level_of e.a.y) → IsAtMost (level_of e.b.y) l → reaches e l u ≡ true
unfolding reaches low high rise
reaches_down e l u dl du o a b =
    let one : pos 0 <ℤ pos 1 = omega (arith, ints) in
    let c : IsLower (level_of e.b.y) u = at_most_then_lower (level_of e.b.y) l u one dl du b o in
    let d : IsLower (level_of e.b.y) (level_of e.a.y) = lower_then_at_most (level_of e.b.y) u (level_of e.a.y) one du
    one c a in
    let q : int_lt e.b.y e.a.y ≡ true = sym (omega (arith, ints)) in
    let x : int_lt (pos 0) (e.a.y -ℤ e.b.y) ≡ true = sym (omega (arith, ints)) in
    let y : int_le (e.b.y *ℤ l.d) l.n ≡ true = sym (omega (arith, ints)) in
    let z : int_le u.n (e.a.y *ℤ u.d) ≡ true = sym (omega (arith, ints)) in
    rw (q, x, y, z)

pub still_turn : (above right : Bool) (p : Point) (es : List LeafEdge) (l u : Level) → AreNeighbours es l u
    → pos 0 <ℤ p.d → Spans above (level_at p) l u
    → (i : ℕ) (d : LeafEdge) → i < length es → reaches (get_or es i d).edge l u ≡ false
    → turn above right p (whole (get_or es i d).edge.a) (whole (get_or es i d).edge.b) ≡ pos 0
still_turn above right p es l u n dp s i d li r =
    let e : Edge = (get_or es i d).edge in
    let P : Level → Type 0 = λ h. IsAtMost h l ⊎ IsAtMost u h in
    let ends = all_ends P es i d (recursion_from_All P (heights es) n.between) li in
    let one : pos 0 <ℤ pos 1 = omega (arith, ints) in
    let down : (y : ℤ) → IsAtMost (level_of y) l → NotOver above (level_at p) (level_of y) = λ y h. not_over_down above
    (level_at p) l (level_of y) dp n.lower_divisor one s.0 h in
    let top : (y : ℤ) → IsAtMost u (level_of y) → Over above (level_at p) (level_of y) = λ y h. over_up above
    (level_at p) u (level_of y) dp n.upper_divisor one s.1 h in
    elim ends.0 [
      | inl a ↦ elim ends.1 [
        | inl b ↦ under_turn above right p e (down e.a.y a) (down e.b.y b)
        | inr b ↦ absurd (true≢false (sym (reaches_up e l u n.lower_divisor n.upper_divisor n.in_order a b) ∙ r))
      ]
      | inr a ↦ elim ends.1 [
        | inl b ↦ absurd (true≢false (sym (reaches_down e l u n.lower_divisor n.upper_divisor n.in_order a b)
            ∙ r))
        | inr b ↦ over_turn above right p e (top e.a.y a) (top e.b.y b)
      ]
    ]

-- ---- the winding number as a sum over the numbers of the edges that reach the heights
pub leaf_edge_at : List LeafEdge → ℕ → LeafEdge
leaf_edge_at es k = get_or es k no_edge

-- what an edge adds to the winding number of a leaf, where a point lies to its left
abbrev pub heading_for : List LeafEdge → ℕ → ℕ → ℤ
heading_for es leaf k = if (get_or es k no_edge).leaf == leaf then heading (get_or es k no_edge).edge else pos 0

abbrev pub share : Bool → Bool → Point → ℕ → LeafEdge → ℤ
share above right p leaf e = if e.leaf == leaf then turn above right p (whole e.edge.a) (whole e.edge.b) else pos 0

reach_sum : (above right : Bool) (p : Point) (leaf : ℕ) (l u : Level) (F : ℕ → ℤ) (k : ℕ) (es : List LeafEdge)
    → ((i : ℕ) → i < length es → reaches (get_or es i no_edge).edge l u ≡ true
    → share above right p leaf (get_or es i no_edge) ≡ F (k + i))
    → ((i : ℕ) → i < length es → reaches (get_or es i no_edge).edge l u ≡ false
    → share above right p leaf (get_or es i no_edge) ≡ pos 0)
    → wind_leaf above right p leaf es ≡ sum_z F (reaching k es l u)
reach_sum above right p leaf l u F k [] h z = refl
reach_sum above right p leaf l u F k (e ∷ es) h z =
    let r : wind_leaf above right p leaf es ≡ sum_z F (reaching (k + 1) es l u) = reach_sum above right p leaf l u F
    (k + 1) es
    (λ i o t. h (suc i) (omega arith) t ∙ ap F (omega arith)) (λ i o t. z (suc i) (omega arith) t) in
    by_test (reaches e.edge l u) refl r
  where
    by_test : (t : Bool) → reaches e.edge l u ≡ t
        → wind_leaf above right p leaf es ≡ sum_z F (reaching (k + 1) es l u)
        → share above right p leaf e +ℤ wind_leaf above right p leaf es
        ≡ sum_z F (if t then k ∷ reaching (k + 1) es l u
        else reaching (k + 1) es l u)
    by_test true q r = ap₂ (λ (x y : ℤ). x +ℤ y) (h zero (omega arith) q ∙ ap F (omega arith)) r
    by_test false q r = ap₂ (λ (x y : ℤ). x +ℤ y) (z zero (omega arith) q) r ∙ +ℤ_idl
        (sum_z F (reaching (k + 1) es l u))

pub wind_reaching : (above right : Bool) (p : Point) (leaf : ℕ) (es : List LeafEdge) (l u : Level)
    → AreNeighbours es l u → pos 0 <ℤ p.d → Spans above (level_at p) l u
    → wind_leaf above right p leaf es ≡ sum_z
    (λ k. if lies_left es right p k then heading_for es leaf k else pos 0)
    (reaching 0 es l u)
wind_reaching above right p leaf es l u n dp s =
    reach_sum above right p leaf l u (λ k. if lies_left es right p k then heading_for es leaf k else pos 0) 0 es
    (λ i o t. given i (reaches_is _ l u t) ∙ ap
    (λ (k : ℕ). if lies_left es right p k then heading_for es leaf k else
    pos 0) (omega arith))
    (λ i o t. none i (still_turn above right p es l u n dp s i no_edge o t))
  where
    swap : (t b : Bool) (z : ℤ) → (if t then (if b then z else pos 0) else pos 0)
        ≡ (if b then (if t then z else pos 0) else pos 0)
    swap true true z = refl
    swap true false z = refl
    swap false true z = refl
    swap false false z = refl

    given : (i : ℕ) → Reaches (get_or es i no_edge).edge l u → share above right p leaf (get_or es i no_edge)
        ≡ (if lies_left es right p i then heading_for es leaf i else pos 0)
    given i r =
        ap (λ (z : ℤ). if (get_or es i no_edge).leaf == leaf then z else pos 0)
        (reaching_turn above right p (get_or es i no_edge).edge l u dp n.lower_divisor n.upper_divisor r s)
        ∙ swap ((get_or es i no_edge).leaf == leaf) (lies_left es right p i) (heading (get_or es i no_edge).edge)

    none : (i : ℕ) → turn above right p (whole (get_or es i no_edge).edge.a) (whole (get_or es i no_edge).edge.b)
        ≡ pos 0 → share above right p leaf (get_or es i no_edge) ≡ pos 0
    none i h = ap (λ (z : ℤ). if (get_or es i no_edge).leaf == leaf then z else pos 0) h ∙ cond_same
        ((get_or es i no_edge).leaf == leaf) (pos 0)
