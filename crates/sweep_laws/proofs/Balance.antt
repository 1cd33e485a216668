-- Balance at a height: where no flat edge leads to the right of a spot, what lies to its right sums
-- up alike below and above.
use Rattle.std.proofs.Common.{◌≡◌, ℕ, zero, suc, ◌<◌, Bool, true, false, not, cond, List, [], ◌∷◌, length, map, refl, sym, ap, ap₂, ◌∙◌, subst, arith}
use mathlib.Core.Path.{fun_ext}
use lib.IntN.{ℤ, pos, ◌+ℤ◌, ◌-ℤ◌, ◌*ℤ◌, zero-*ℤ}
use lib.Signed.{◌<ℤ◌}
use Rattle.std.specs.Prelude.{int_lt, ◌&&◌, ◌==◌, filter, if◌then◌else◌, slice_index_or}
use Rattle.std.specs.Ordering.{int_eq}
use Rattle.std.specs.List.{AllByRecursion, concat}
use Rattle.std.specs.Cmp.{signed_Decides, both_ways}
use Rattle.std.proofs.lemmas.Int.{ints, by_lt_z}
use Rattle.scad_base.proofs.Products.{positive_product}
use Rattle.scad_base.proofs.Tests.{int_eq-true}
use Rattle.scad_geom.specs.declared.point.Edge.{Edge}
use Rattle.scad_geom.specs.declared.level.Level.{Level}
use Rattle.scad_geom.specs.declared.level.LeafEdge.{LeafEdge}
use Rattle.scad_geom.specs.Level.{IsLower, IsAtMost}
use Rattle.scad_geom.specs.Leaves.{edges_of, AreLeavesBalanced}
use Rattle.scad_geom.specs.Point.{Point, whole, is_same_point}
use Rattle.scad_geom.specs.Segment.{segments}
use Rattle.scad_geom.specs.Shape.{shape_holds}
use Rattle.scad_geom.specs.Sign.{is_zero}
use Rattle.scad_geom.specs.Heights.{heights, AreNeighbours}
use Rattle.scad_geom.specs.Winding.{counted, is_beyond, turn, wind_by}
use Rattle.scad_geom.proofs.Leaves.{wind_leaf, wind_leaf-is}
use Rattle.scad_geom.proofs.Signs.{mul-one}
use Rattle.scad_geom.proofs.Sums.{sum_z}
use Rattle.scad_geom.proofs.Heights.{heights_positive, at_most_chain}
use Rattle.scad_geom.proofs.Order.{all_ends}
use Rattle.scad_geom.proofs.Turns.{beyond_mul, level_turn, level_at, Over, over_turn}
use Rattle.winding_laws.specs.Nearness.{IsPoint, IsProper}
use Rattle.winding_laws.proofs.Sameness.{AreSame, are_same, are_same_turned, cancel_mul, one_axis}
use Rattle.winding_laws.proofs.Totals.{starts, ends, sums_apart, equal_by_gaps, balanced_totals}
use Rattle.slice_bundles.specs.Bundles.{no_edge, AreBundles}
use Rattle.slice_pieces.specs.declared.piece.Spot.{Spot}
use Rattle.slice_pieces.specs.Spots.{point_of}
use Rattle.slice_border.specs.Beside.{passing}
use Rattle.slice_border.specs.Tally.{headings}
use Rattle.slice_border.proofs.BalanceEdges.{IsAside}
use Rattle.slice_border.proofs.BalanceTurns.{gap, is_right, is_level, ahead, step_up, step_down}
use Rattle.slice_border.proofs.Middle.{scaled, lower_scaled, at_most_scaled, scaled_below, scaled_at_most}
use Rattle.slice_border.proofs.Passing.{Around}
use Rattle.sweep_laws.specs.Balance.{StaysAside, HeadingsAreBalanced, ValuesAreKept}
use Rattle.sweep_laws.proofs.WindingCount.{counted_right}

-- ---- the same points lie ahead alike
gap_zero : (a b c d : ℤ) → a *ℤ b ≡ c *ℤ d → c *ℤ d -ℤ a *ℤ b ≡ pos 0
gap_zero a b c d h = omega (arith, ints)

zero_gap : (a b c d : ℤ) → c *ℤ d -ℤ a *ℤ b ≡ pos 0 → a *ℤ b ≡ c *ℤ d
zero_gap a b c d h = omega (arith, ints)

level_too : (p b c : Point) → IsPoint b → AreSame b c → p.y *ℤ b.d ≡ b.y *ℤ p.d → p.y *ℤ c.d ≡ c.y *ℤ p.d
level_too p b c db h e =
    let g = one_axis b.y b.d c.y c.d p.y p.d h.y in
    let z : (c.y *ℤ p.d -ℤ p.y *ℤ c.d) *ℤ b.d ≡ pos 0 *ℤ b.d =
    sym g ∙ ap (λ (z : ℤ). z *ℤ c.d) (gap_zero p.y b.d b.y p.d e) ∙ zero-*ℤ c.d ∙ sym (zero-*ℤ b.d) in
    zero_gap p.y c.d c.y p.d (cancel_mul (c.y *ℤ p.d -ℤ p.y *ℤ c.d) (pos 0) b.d db z)

level_alike : (p b c : Point) → IsPoint b → IsPoint c → AreSame b c → is_level p b ≡ is_level p c
level_alike p b c db dc h = both_ways (is_level p b) (is_level p c)
    (λ e. (signed_Decides (p.y *ℤ c.d) (c.y *ℤ p.d)).1
    (level_too p b c db h (int_eq-true (p.y *ℤ b.d) (b.y *ℤ p.d) e)))
    (λ e. (signed_Decides (p.y *ℤ b.d) (b.y *ℤ p.d)).1
    (level_too p c b dc (are_same_turned b c h) (int_eq-true (p.y *ℤ c.d) (c.y *ℤ p.d) e)))

right_alike : (right : Bool) (p b c : Point) → IsPoint b → IsPoint c → AreSame b c → is_right right p b
    ≡ is_right right p c
right_alike right p b c db dc h =
    sym (beyond_mul right c.d (gap p b) dc)
    ∙ ap (is_beyond right) (one_axis b.x b.d c.x c.d p.x p.d h.x)
    ∙ beyond_mul right b.d (gap p c) db

ahead_alike : (right : Bool) (p b c : Point) → IsPoint b → IsPoint c → is_same_point b c ≡ true
    → ahead right p b ≡ ahead right p c
ahead_alike right p b c db dc h =
    ap₂ (λ (s t : Bool). counted (s && t)) (level_alike p b c db dc (are_same b c h))
    (right_alike right p b c db dc (are_same b c h))

-- ---- one edge
one : IsPoint (record { x = pos 0; y = pos 0; d = pos 1 })
one = omega (arith, ints)

less_by_gap : (a b : ℤ) → int_lt a b ≡ int_lt (pos 0) (b -ℤ a)
less_by_gap a b = by_test (int_lt a b) refl
  where
    by_test : (t : Bool) → int_lt a b ≡ t → t ≡ int_lt (pos 0) (b -ℤ a)
    by_test true e = omega (arith, ints)
    by_test false e = omega (arith, ints)

-- whether a whole point lies to the right
right_is : (p : Point) (x y : ℤ) → int_lt p.x (x *ℤ p.d) ≡ is_right true p (record { x = x; y = y; d = pos 1 })
unfolding is_beyond
right_is p x y = less_by_gap p.x (x *ℤ p.d) ∙ ap (λ (z : ℤ). int_lt (pos 0) (x *ℤ p.d -ℤ z)) (sym (mul-one p.x))

both_ahead : (p : Point) (e : LeafEdge) → StaysAside p e → e.edge.a.y ≡ e.edge.b.y
    → ahead true p (whole e.edge.a) ≡ ahead true p (whole e.edge.b)
both_ahead p e h flat = by_level (is_level p (whole e.edge.a)) refl
  where
    same_level : is_level p (whole e.edge.b) ≡ is_level p (whole e.edge.a)
    same_level = ap (λ (y : ℤ). int_eq (p.y *ℤ pos 1) (y *ℤ p.d)) (sym flat)

    rights : is_level p (whole e.edge.a) ≡ true → is_right true p (whole e.edge.a) ≡ is_right true p (whole e.edge.b)
    rights t = sym (right_is p e.edge.a.x e.edge.a.y)
        ∙ h flat (sym (sym (mul-one p.y) ∙ int_eq-true (p.y *ℤ pos 1) (e.edge.a.y *ℤ p.d) t))
        ∙ right_is p e.edge.b.x e.edge.b.y

    by_level : (t : Bool) → is_level p (whole e.edge.a) ≡ t
        → ahead true p (whole e.edge.a) ≡ ahead true p (whole e.edge.b)
    by_level true t = ap₂ (λ (x y : Bool). counted (x && y)) (sym same_level) (rights t)
    by_level false t =
        ap (λ (x : Bool). counted (x && is_right true p (whole e.edge.a))) t
        ∙ ap (λ (x : Bool). counted (x && is_right true p (whole e.edge.b))) (sym (same_level ∙ t))

none : (x y : ℤ) → x ≡ y → pos 0 -ℤ pos 0 ≡ x -ℤ y
none x y h = omega (arith, ints)

-- hard above the point's height and hard below it an edge turns alike, but for its ends to the right
edge_step : (p : Point) → IsPoint p → (e : LeafEdge) → IsAside true p e
    → turn true true p (whole e.edge.a) (whole e.edge.b) -ℤ turn false true p (whole e.edge.a) (whole e.edge.b)
    ≡ ahead true p (whole e.edge.a) -ℤ ahead true p (whole e.edge.b)
edge_step p dp e h =
    by_lt_z e.edge.a.y e.edge.b.y
    (λ o. step_up true p (whole e.edge.a) (whole e.edge.b) dp one one (omega (arith, ints)))
    (λ n. by_lt_z e.edge.b.y e.edge.a.y
    (λ o. step_down true p (whole e.edge.a) (whole e.edge.b) dp one one (omega (arith, ints)))
    (λ m. let level : e.edge.a.y ≡ e.edge.b.y = omega (arith, ints) in flat level))
  where
    flat : e.edge.a.y ≡ e.edge.b.y
        → turn true true p (whole e.edge.a) (whole e.edge.b) -ℤ turn false true p (whole e.edge.a) (whole e.edge.b)
        ≡ ahead true p (whole e.edge.a) -ℤ ahead true p (whole e.edge.b)
    flat level = ap₂ (λ (y z : ℤ). y -ℤ z) (level_turn true true p e.edge level) (level_turn false true p e.edge level)
        ∙ none (ahead true p (whole e.edge.a)) (ahead true p (whole e.edge.b)) (h level)

-- ---- the edges of a leaf
abbrev Step : Point → Edge → Type 0
Step p e = turn true true p (whole e.a) (whole e.b) -ℤ turn false true p (whole e.a) (whole e.b)
    ≡ ahead true p (whole e.a) -ℤ ahead true p (whole e.b)

leaf_steps : (p : Point) → IsPoint p → (leaf : ℕ) (es : List LeafEdge) → AllByRecursion (IsAside true p) es
    → AllByRecursion (Step p) (edges_of leaf es)
leaf_steps p dp leaf [] h = tt
leaf_steps p dp leaf (e ∷ es) h = by_test (e.leaf == leaf) (leaf_steps p dp leaf es h.1)
  where
    by_test : (t : Bool) → AllByRecursion (Step p) (edges_of leaf es)
        → AllByRecursion (Step p) (map (λ d. d.edge) (cond t (e ∷ filter (λ d. d.leaf == leaf) es)
        (filter (λ d. d.leaf == leaf) es)))
    by_test true r = (edge_step p dp e h.0, r)
    by_test false r = r

all_steps : (p : Point) (fs : List Edge) → AllByRecursion (Step p) fs
    → wind_by true true p (segments fs) -ℤ wind_by false true p (segments fs)
    ≡ sum_z (ahead true p) (starts (segments fs)) -ℤ sum_z (ahead true p) (ends (segments fs))
all_steps p [] h = refl
all_steps p (f ∷ fs) h =
    sums_apart (turn true true p (whole f.a) (whole f.b)) (turn false true p (whole f.a) (whole f.b))
    (ahead true p (whole f.a)) (ahead true p (whole f.b)) (wind_by true true p (segments fs))
    (wind_by false true p (segments fs)) (sum_z (ahead true p) (starts (segments fs)))
    (sum_z (ahead true p) (ends (segments fs))) h.0 (all_steps p fs h.1)

whole_proper : (fs : List Edge) → AllByRecursion IsProper (segments fs)
whole_proper [] = tt
whole_proper (f ∷ fs) = (record { from = one; to = one }, whole_proper fs)

-- so its winding numbers hard above and hard below are one
leaf_alike : (p : Point) → IsPoint p → (es : List LeafEdge) → AreLeavesBalanced es → AllByRecursion (IsAside true p) es
    → (leaf : ℕ) → wind_leaf false true p leaf es ≡ wind_leaf true true p leaf es
leaf_alike p dp es balanced h leaf =
    let fs : List Edge = edges_of leaf es in
    sym (wind_leaf-is false true p leaf es)
    ∙ sym (equal_by_gaps (wind_by true true p (segments fs)) (wind_by false true p (segments fs))
    (sum_z (ahead true p) (starts (segments fs))) (sum_z (ahead true p) (ends (segments fs)))
    (all_steps p fs (leaf_steps p dp leaf es h))
    (balanced_totals (ahead true p) (ahead_alike true p) (segments fs) (whole_proper fs) (balanced.each leaf)))
    ∙ wind_leaf-is true true p leaf es

-- ---- a spot between two slabs
runs_up : (n : ℕ) → 0 < n → pos 0 <ℤ pos n
runs_up n h = omega (arith, ints)

itself : (l : Level) → IsAtMost l l
itself l = omega (arith, ints)

divides : (m : Level) (s : Spot) → pos 0 <ℤ m.d → s.at ≡ m → 0 < s.run → IsPoint (point_of s)
divides m s dm e r = positive_product s.at.d (pos s.run) (subst (λ (at : Level). pos 0 <ℤ at.d) (sym e) dm)
    (runs_up s.run r)

around_below : (es : List LeafEdge) (l m : Level) → AreNeighbours es l m → (s : Spot) → s.at ≡ m → 0 < s.run
    → Around es false true (point_of s) l m
around_below es l m lm s e r =
    let from : IsLower l (scaled s.at (pos s.run)) = subst (λ (at : Level). IsLower l (scaled at (pos s.run))) (sym e)
    (lower_scaled l m (pos s.run) (runs_up s.run r) lm.in_order) in
    let to : IsAtMost (scaled s.at (pos s.run)) m = subst (λ (at : Level). IsAtMost (scaled at (pos s.run)) m) (sym e)
    (scaled_at_most m m (pos s.run) (runs_up s.run r) (itself m)) in
    record { neighbours = lm; divisor = divides m s lm.upper_divisor e r; spans = (from, to) }

around_above : (es : List LeafEdge) (m u : Level) → AreNeighbours es m u → (s : Spot) → s.at ≡ m → 0 < s.run
    → Around es true true (point_of s) m u
around_above es m u mu s e r =
    let from : IsAtMost m (scaled s.at (pos s.run)) = subst (λ (at : Level). IsAtMost m (scaled at (pos s.run))) (sym e)
    (at_most_scaled m m (pos s.run) (runs_up s.run r) (itself m)) in
    let to : IsLower (scaled s.at (pos s.run)) u = subst (λ (at : Level). IsLower (scaled at (pos s.run)) u) (sym e)
    (scaled_below u m (pos s.run) (runs_up s.run r) mu.in_order) in
    record { neighbours = mu; divisor = divides m s mu.lower_divisor e r; spans = (from, to) }

-- on one side of a height, the winding number of each leaf hard by a spot is the sum of headings to its right
abbrev pub CountsBeside : Bool → List LeafEdge → Level → List (List ℕ) → Type 0
CountsBeside above es m bundles = (s : Spot) → s.at ≡ m → 0 < s.run → (leaf : ℕ)
    → wind_leaf above true (point_of s) leaf es ≡ headings es leaf (concat (passing es true (point_of s) bundles))

pub counts_below : (es : List LeafEdge) (l m : Level) → AreNeighbours es l m → (below : List (List ℕ))
    → AreBundles es l m below → CountsBeside false es m below
counts_below es l m lm below b s e r leaf = counted_right es false true (point_of s) l m
    (around_below es l m lm s e r) leaf below b

pub counts_above : (es : List LeafEdge) (m u : Level) → AreNeighbours es m u → (above : List (List ℕ))
    → AreBundles es m u above → CountsBeside true es m above
counts_above es m u mu above a s e r leaf = counted_right es true true (point_of s) m u
    (around_above es m u mu s e r) leaf above a

-- nothing lies below the first height
none_turns : (p : Point) (leaf : ℕ) (es : List LeafEdge)
    → ((i : ℕ) → i < length es → turn false true p (whole (slice_index_or es i no_edge).edge.a)
    (whole (slice_index_or es i no_edge).edge.b) ≡ pos 0) → wind_leaf false true p leaf es ≡ pos 0
none_turns p leaf [] h = refl
none_turns p leaf (e ∷ es) h =
    ap₂ (λ (y z : ℤ). (if e.leaf == leaf then y else pos 0) +ℤ z) (h zero (omega arith))
    (none_turns p leaf es (λ i o. h (suc i) (omega arith)))
    ∙ by_test (e.leaf == leaf)
  where
    by_test : (t : Bool) → (if t then pos 0 else pos 0) +ℤ pos 0 ≡ pos 0
    by_test true = refl
    by_test false = refl

over_all : (p m : Level) (hs : List Level) → pos 0 <ℤ p.d → pos 0 <ℤ m.d
    → AllByRecursion (λ (h : Level). pos 0 <ℤ h.d) hs
    → IsAtMost p m → AllByRecursion (IsAtMost m) hs → AllByRecursion (Over false p) hs
over_all p m [] dp dm d o h = tt
over_all p m (g ∷ hs) dp dm d o h = (at_most_chain p m g dp dm d.0 o h.0, over_all p m hs dp dm d.1 o h.1)

pub counts_first : (es : List LeafEdge) (m : Level) → pos 0 <ℤ m.d → AllByRecursion (IsAtMost m) (heights es)
    → CountsBeside false es m []
counts_first es m dm h s e r leaf =
    let p : Point = point_of s in
    let dp : IsPoint p = positive_product s.at.d (pos s.run) (subst (λ (at : Level). pos 0 <ℤ at.d) (sym e) dm)
    (runs_up s.run r) in
    let o : IsAtMost (scaled s.at (pos s.run)) m = subst (λ (at : Level). IsAtMost (scaled at (pos s.run)) m) (sym e)
    (scaled_at_most m m (pos s.run) (runs_up s.run r) (itself m)) in
    let all : AllByRecursion (Over false (level_at p)) (heights es) = over_all (level_at p) m (heights es) dp dm
    (heights_positive es) o h in
    none_turns p leaf es (λ i l. let t = all_ends (Over false (level_at p)) es i no_edge all l in
    over_turn false true p (slice_index_or es i no_edge).edge t.0 t.1)

pub headings_beside : (es : List LeafEdge) → AreLeavesBalanced es → (m : Level) → pos 0 <ℤ m.d
    → (below above : List (List ℕ)) → CountsBeside false es m below → CountsBeside true es m above
    → (s : Spot) → s.at ≡ m → 0 < s.run → AllByRecursion (IsAside true (point_of s)) es → (leaf : ℕ)
    → headings es leaf (concat (passing es true (point_of s) below))
    ≡ headings es leaf (concat (passing es true (point_of s) above))
headings_beside es balanced m dm below above b a s e r h leaf =
    sym (b s e r leaf)
    ∙ leaf_alike (point_of s) (divides m s dm e r) es balanced h leaf
    ∙ a s e r leaf

pub all_aside : (p : Point) (es : List LeafEdge) → AllByRecursion (StaysAside p) es → AllByRecursion (IsAside true p) es
all_aside p [] h = tt
all_aside p (e ∷ es) h = (both_ahead p e h.0, all_aside p es h.1)

pub headings_are_balanced : HeadingsAreBalanced
headings_are_balanced es balanced l m u lm mu below above b a s e r h leaf =
    headings_beside es balanced m mu.lower_divisor below above (counts_below es l m lm below b)
    (counts_above es m u mu above a) s e r (all_aside (point_of s) es h) leaf

pub values_are_kept : ValuesAreKept
values_are_kept es shape balanced l m u lm mu below above b a s e r h =
    ap (λ (f : ℕ → Bool). shape_holds f shape)
    (fun_ext (λ leaf. ap (λ (z : ℤ). not (is_zero z))
    (headings_are_balanced es balanced l m u lm mu below above b a s e r h leaf)))
