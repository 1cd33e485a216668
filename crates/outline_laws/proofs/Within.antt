-- The pieces of a border over edges in range can be written over divisors that are in range.
use Rattle.std.proofs.Common.{◌≡◌, ℕ, ◌+◌, ◌*◌, ◌<◌, ◌≤◌, inl, inr, Bool, true, false, List, [], ◌∷◌, ◌++◌, All, refl, sym, ap, ◌∙◌, subst, arith}
use lib.IntN.{ℤ, pos, negsuc, ◌-ℤ◌, ◌*ℤ◌}
use lib.Signed.{◌<ℤ◌}
use Rattle.std.specs.Prelude.{unsigned_abs, ◌^◌, if◌then◌else◌}
use Rattle.std.specs.List.{AllByRecursion, concat}
use Rattle.std.proofs.lemmas.Int.{ints, unsigned_abs-mul}
use Rattle.std.proofs.lemmas.Nat.{mul-le}
use Rattle.std.proofs.lemmas.List.Elements.{recursion_from_All}
use Rattle.scad_base.proofs.Lists.{AllByRecursion-append}
use Rattle.scad_geom.specs.declared.point.Edge.{Edge}
use Rattle.scad_geom.specs.declared.level.Level.{Level}
use Rattle.scad_geom.specs.declared.level.LeafEdge.{LeafEdge}
use Rattle.scad_geom.specs.declared.shape.Shape.{Shape}
use Rattle.scad_geom.specs.Limits.{coordinate_limit}
use Rattle.scad_geom.specs.Line.{rise, run, lean}
use Rattle.scad_geom.specs.Level.{level_of, IsSameHeight, IsLevelWithin}
use Rattle.scad_geom.specs.Meeting.{meets, meeting}
use Rattle.scad_geom.specs.Heights.{meetings, heights}
use Rattle.scad_geom.specs.Within.{IsEdgeWithin}
use Rattle.scad_geom.proofs.Bounds.{low_within, high_within, meeting_within}
use Rattle.scad_geom.proofs.Ring.{ring, ◌⊗◌, v0, v1, v2, v3}
use Rattle.slice_events.specs.Levels.{HasHeight}
use Rattle.slice_bundles.specs.Bundles.{edge_at}
use Rattle.slice_bundles.proofs.Live.{IsLive, live_bundles}
use Rattle.slice_pieces.specs.declared.piece.Spot.{Spot}
use Rattle.slice_pieces.specs.declared.piece.Piece.{Piece}
use Rattle.slice_pieces.specs.Spots.{IsSpotWithin}
use Rattle.slice_pieces.specs.Pieces.{ends_of, IsPieceWithin}
use Rattle.slice_pieces.proofs.Ends.{joined}
use Rattle.slice_border.specs.Pieces.{flat_pieces, slab_pieces, AreLevelPieces, ArePieces}
use Rattle.slice_border.proofs.Ends.{flat_ends, slab_ends, AtBoth, each_of}
use Rattle.outline_laws.specs.Sameness.{AreSameSpot, ArePiecesSame}
use Rattle.outline_laws.proofs.Rising.{HasDivisor}
use Rattle.outline_laws.proofs.Stops.{same_placed}
use Rattle.slice_border.proofs.Winding.{IsSpotAt, stops_at}
use Rattle.slice_border.proofs.Within.{size_above}
use Rattle.slice_pieces.proofs.SameSpots.{run_above}

-- ---- the heights of edges in range
times_within : (x y : ℤ) (m : ℕ) → unsigned_abs x ≤ m → unsigned_abs y ≤ m → unsigned_abs (x *ℤ y) ≤ m * m
times_within x y m h k = let t = mul-le (unsigned_abs x) (unsigned_abs y) m m h k in rw (unsigned_abs-mul x y) t

run_within : (e : Edge) → IsEdgeWithin coordinate_limit e → unsigned_abs (run e) ≤ 2200000
unfolding run
run_within e w =
    let h = (low_within coordinate_limit e w).x in
    let k = (high_within coordinate_limit e w).x in
    omega (arith, ints)

rise_within : (e : Edge) → IsEdgeWithin coordinate_limit e → unsigned_abs (rise e) ≤ 2200000
unfolding rise
rise_within e w =
    let h = (low_within coordinate_limit e w).y in
    let k = (high_within coordinate_limit e w).y in
    omega (arith, ints)

gap_within : (x y : ℤ) (m : ℕ) → unsigned_abs x ≤ m → unsigned_abs y ≤ m → unsigned_abs (x -ℤ y) ≤ m + m
gap_within x y m h k = omega (arith, ints)

lean_within : (e f : Edge) → IsEdgeWithin coordinate_limit e → IsEdgeWithin coordinate_limit f
    → unsigned_abs (lean e f) ≤ 10 ^ 13
unfolding lean
lean_within e f we wf =
    let a : unsigned_abs (run e *ℤ rise f) ≤ 2200000 * 2200000 = times_within (run e) (rise f) 2200000 (run_within e we)
    (rise_within f wf) in
    let b : unsigned_abs (run f *ℤ rise e) ≤ 2200000 * 2200000 = times_within (run f) (rise e) 2200000 (run_within f wf)
    (rise_within e we) in
    let c : unsigned_abs (run e *ℤ rise f -ℤ run f *ℤ rise e) ≤ 2200000 * 2200000 + 2200000 * 2200000 =
    gap_within (run e *ℤ rise f) (run f *ℤ rise e) (2200000 * 2200000) a b in
    let t : 10 ^ 13 ≡ 10000000000000 = refl in
    omega (arith, c, t)

whole_within : (y : ℤ) → unsigned_abs y ≤ coordinate_limit → IsLevelWithin coordinate_limit (level_of y)
whole_within y h = record { positive = omega (arith, ints); divisor = let t : 10 ^ 13 ≡ 10000000000000 = refl in omega (arith, ints, t); size = omega (arith, ints) }

abbrev InRange : Level → Type 0
InRange = IsLevelWithin coordinate_limit

meetings_within : (e : Edge) (fs : List LeafEdge) → IsEdgeWithin coordinate_limit e
    → AllByRecursion (λ f. IsEdgeWithin coordinate_limit f.edge) fs → AllByRecursion InRange (meetings e fs)
meetings_within e [] w ws = tt
meetings_within e (f ∷ fs) w ws = by_test (meetings_within e fs w ws.1) (meets e f.edge) refl
  where
    by_test : AllByRecursion InRange (meetings e fs) → (b : Bool) → meets e f.edge ≡ b
        → AllByRecursion InRange (if b then meeting e f.edge ∷ meetings e fs else meetings e fs)
    by_test rest true h = (meeting_within coordinate_limit e f.edge ws.0 (lean_within e f.edge w ws.0) h, rest)
    by_test rest false h = rest

heights_within : (es : List LeafEdge) → AllByRecursion (λ e. IsEdgeWithin coordinate_limit e.edge) es
    → AllByRecursion InRange (heights es)
heights_within [] ws = tt
heights_within (e ∷ es) ws = (
  whole_within e.edge.a.y ws.0.a.y,
  (
    whole_within e.edge.b.y ws.0.b.y,
    AllByRecursion-append InRange
        (meetings e.edge es) (heights es) (meetings_within e.edge es ws.0 ws.1) (heights_within es ws.1),
  ),
)

-- ---- levels with a height in range
pub record IsNearHeight (l : Level) : Type 0 where
  pub divisor : HasDivisor l
  pub near : Level
  pub within : InRange near
  pub same : IsSameHeight near l

near_height : (hs : List Level) (l : Level) → AllByRecursion InRange hs → HasDivisor l → HasHeight hs l → IsNearHeight l
near_height [] l ws d h = absurd h
near_height (u ∷ hs) l ws d (inl e) = record { divisor = d; near = u; within = ws.0; same = e }
near_height (u ∷ hs) l ws d (inr h) = near_height hs l ws.1 d h

all_near : (hs ls : List Level) → AllByRecursion InRange hs → AllByRecursion HasDivisor ls
    → AllByRecursion (HasHeight hs) ls → AllByRecursion IsNearHeight ls
all_near hs [] ws d h = tt
all_near hs (l ∷ ls) ws d h = (near_height hs l ws d.0 h.0, all_near hs ls ws d.1 h.1)

-- ---- ends on such levels
pub record IsNearSpot (s : Spot) : Type 0 where
  pub level : IsNearHeight s.at
  pub positive : 0 < s.run

near_spot : (l : Level) → IsNearHeight l → (s : Spot) → IsSpotAt l s → IsNearSpot s
near_spot l n s h =
    let r = h.runs in
    record { level = subst IsNearHeight (sym h.at) n; positive = omega (arith, ints) }

stops_near : (l : Level) → IsNearHeight l → (ss : List Spot) → AllByRecursion (IsSpotAt l) ss
    → AllByRecursion IsNearSpot ss
stops_near l n [] h = tt
stops_near l n (s ∷ ss) h = (near_spot l n s h.0, stops_near l n ss h.1)

ends_near : (es : List LeafEdge) (shape : Shape) (ls : List Level) (qs : List Piece) → AllByRecursion IsNearHeight ls
    → AreLevelPieces es shape ls qs → AllByRecursion IsNearSpot (ends_of qs)
ends_near es shape [] qs n h = subst (λ (ps : List Piece). AllByRecursion IsNearSpot (ends_of ps)) (sym h) tt
ends_near es shape (l ∷ []) qs n h =
    subst (λ (ps : List Piece). AllByRecursion IsNearSpot (ends_of ps)) (sym h.2)
    (flat_ends IsNearSpot es shape h.0 (stops_near l n.0 h.0 (stops_at es l h.0 h.1)))
ends_near es shape (l ∷ (u ∷ ls)) qs n h =
    subst (λ (ps : List Piece). AllByRecursion IsNearSpot (ends_of ps)) (sym h.6)
    (joined IsNearSpot (flat_pieces es shape h.0 ++ slab_pieces es shape l u h.1) h.2
    (joined IsNearSpot (flat_pieces es shape h.0) (slab_pieces es shape l u h.1)
    (flat_ends IsNearSpot es shape h.0 (stops_near l n.0 h.0 (stops_at es l h.0 h.3)))
    (slab_ends IsNearSpot es shape l u h.1
    (each_of (IsLive es l u) (AtBoth IsNearSpot es l u)
    (λ k r. (
      record { level = n.0; positive = size_above (rise (edge_at es k)) r.reaches.rises },
      record
          { level = n.1.0; positive = size_above (rise (edge_at es k)) r.reaches.rises },
    ))
    (concat h.1) (live_bundles es l u h.1 h.4))))
    (ends_near es shape (u ∷ ls) h.2 n.1 h.5))

-- ---- an end over a level in range
abbrev rewritten : (s : Spot) → Level → Spot
rewritten s h = record { at = h; x = s.x *ℤ h.d; run = unsigned_abs s.at.d * s.run }

above_run : (d : ℤ) (r : ℕ) → pos 0 <ℤ d → 0 < r → 0 < unsigned_abs d * r
above_run (pos d) r h k = let t = mul-le 1 1 d r (omega (arith, ints)) (omega (arith, k)) in omega (arith, t)
above_run (negsuc d) r h k = absurd (omega (arith, ints))

size_of : (d : ℤ) (r : ℕ) → pos 0 <ℤ d → pos (unsigned_abs d * r) ≡ d *ℤ pos r
size_of (pos d) r h = refl
size_of (negsuc d) r h = absurd (omega (arith, ints))

rewritten_same : (s : Spot) → (n : IsNearSpot s) → AreSameSpot s (rewritten s n.level.near)
rewritten_same s n =
    let h : Level = n.level.near in
    let run : ℕ = unsigned_abs s.at.d * s.run in
    same_placed s (rewritten s h) n.level.divisor (run_above s.run n.positive) n.level.within.positive
    (run_above _ (above_run s.at.d s.run n.level.divisor n.positive)) (sym n.level.same)
    (ap (λ (z : ℤ). s.x *ℤ (h.d *ℤ z)) (size_of s.at.d s.run n.level.divisor) ∙ ring (s.x ∷ h.d ∷ s.at.d ∷ pos s.run
    ∷ []) (v0 ⊗ (v1 ⊗ (v2 ⊗ v3))) ((v0 ⊗ v1) ⊗ (v2 ⊗ v3)) refl)

-- it is within any limit that is great enough
abbrev room : Spot → ℕ
room s = coordinate_limit + (unsigned_abs s.x + unsigned_abs s.at.d * s.run)

rewritten_within : (s : Spot) (n : IsNearSpot s) (limit : ℕ) → room s ≤ limit
    → IsSpotWithin limit (rewritten s n.level.near)
rewritten_within s n limit l =
    let h : Level = n.level.near in
    let w : InRange h = n.level.within in
    let run : ℕ = unsigned_abs s.at.d * s.run in
    let p : 0 < run = above_run s.at.d s.run n.level.divisor n.positive in
    let z = w.size in
    let wide : coordinate_limit * unsigned_abs h.d ≤ limit * unsigned_abs h.d = mul-le coordinate_limit
    (unsigned_abs h.d) limit (unsigned_abs h.d) (omega (arith, l)) (omega arith) in
    let one : 1 * unsigned_abs h.d ≤ run * unsigned_abs h.d = mul-le 1 (unsigned_abs h.d) run (unsigned_abs h.d)
    (omega (arith, p)) (omega arith) in
    let x : unsigned_abs s.x * unsigned_abs h.d ≤ limit * (run * unsigned_abs h.d) = mul-le (unsigned_abs s.x)
    (unsigned_abs h.d) limit (run * unsigned_abs h.d) (omega (arith, l)) (omega (arith, one)) in
    record {
      level = record { positive = w.positive; divisor = w.divisor; size = omega (arith, z, wide) };
      positive = p;
      run = omega (arith, l);
      size = rw (unsigned_abs-mul s.x h.d) x;
    }

spot_room : (s : Spot) (m n : ℕ) → m ≤ n → IsSpotWithin m s → IsSpotWithin n s
spot_room s m n l h =
    let z = h.level.size in
    let x = h.size in
    let r = h.run in
    let a = mul-le m (unsigned_abs s.at.d) n (unsigned_abs s.at.d) l (omega arith) in
    let b = mul-le m (s.run * unsigned_abs s.at.d) n (s.run * unsigned_abs s.at.d) l (omega arith) in
    record {
      level = record { positive = h.level.positive; divisor = h.level.divisor; size = omega (arith, z, a) };
      positive = h.positive;
      run = omega (arith, r);
      size = omega (arith, x, b);
    }

all_room : (qs : List Piece) (m n : ℕ) → m ≤ n → AllByRecursion (IsPieceWithin m) qs → AllByRecursion (IsPieceWithin n)
    qs
all_room [] m n l h = tt
all_room (q ∷ qs) m n l h = (
  record { from = spot_room q.from m n l h.0.from; to = spot_room q.to m n l h.0.to },
  all_room qs m n l h.1,
)

-- ---- pieces in range
pub record AreWritten (qs : List Piece) : Type 0 where
  pub pieces : List Piece
  pub same : ArePiecesSame qs pieces
  pub limit : ℕ
  pub within : AllByRecursion (IsPieceWithin limit) pieces

written : (qs : List Piece) → AllByRecursion IsNearSpot (ends_of qs) → AreWritten qs
written [] h = record { pieces = []; same = tt; limit = 0; within = tt }
written (q ∷ qs) h =
    let rest = written qs h.1.1 in
    let n : ℕ = room q.from + room q.to + rest.limit in
    record {
      pieces = record { from = rewritten q.from h.0.level.near; to = rewritten q.to h.1.0.level.near; edge = q.edge }
          ∷ rest.pieces;
      same = (record { name = refl; from = rewritten_same q.from h.0; to = rewritten_same q.to h.1.0 }, rest.same);
      limit = n;
      within = (
        record {
          from = rewritten_within q.from h.0 n (omega arith);
          to = rewritten_within q.to h.1.0 n
              (omega arith);
        },
        all_room rest.pieces rest.limit n (omega arith) rest.within,
      );
    }

pub pieces_written : (es : List LeafEdge) → All (λ e. IsEdgeWithin coordinate_limit e.edge) es
    → (shape : Shape) (qs : List Piece) → ArePieces es shape qs → AreWritten qs
pieces_written es w shape qs a =
    written qs (ends_near es shape a.levels qs
    (all_near (heights es) a.levels (heights_within es (recursion_from_All (λ e. IsEdgeWithin coordinate_limit e.edge)
    es w)) a.are_levels.divisors a.are_levels.sound) a.are_pieces)
