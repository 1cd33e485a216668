-- The sides of a ring, one after another: each stands at an end of the edge as a side of the octagon round it, or runs
-- along the edge.
use Rattle.std.proofs.Common.{◌≡◌, inl, inr, [], ◌∷◌, ◌++◌, List, refl, arith, ℤ, pos, ◌+ℤ◌, ◌-ℤ◌, ◌*ℤ◌, ◌<ℤ◌}
use lib.Signed.{◌≤ℤ◌}
use Rattle.std.specs.List.{AllByRecursion}
use Rattle.std.proofs.lemmas.Int.{ints}
use Rattle.std.proofs.lemmas.List.Elements.{All-from_recursion, recursion_from_All}
use Rattle.scad_geom.specs.declared.point.Pt.{Pt}
use Rattle.scad_geom.specs.Point.{Point}
use Rattle.scad_geom.specs.Segment.{Segment, segments}
use Rattle.scad_geom.specs.Loop.{sides}
use Rattle.scad_geom.proofs.Ring.{ring, ◌⊕◌, ◌⊗◌, v0, v1, v2}
use Rattle.scad_ring.specs.Ring.{IsLeftOf, AllTurnLeft, IsBefore}
use Rattle.scad_ring.proofs.Lines.{way}
use Rattle.scad_ring.proofs.Convex.{Lies}
use Rattle.scad_ring.proofs.Octants.{End, Ends, Corner, Approach, approach}
use Rattle.scad_ring.proofs.Approaches.{ApproachFrom, meets_if_approach, approach_if_meets}
use Rattle.scad_ring.proofs.Steps.{Step, Side, Beside, step, side, turns, side_gap, scaled, first_side, last_side}
use Rattle.scad_ring.proofs.Slants.{PassesFrom, LeastFrom, MostFrom, FirstBy, under, over, least_by, most_by}
use Rattle.scad_ring.proofs.Offsets.{IsNearWay, IsRingRound, IsOffset, near_first, near_last}

-- facts in a row
infixr 5 ◌&◌
abbrev pub ◌&◌ : {A B : Type 0} → A → B → A × B
◌&◌ a b = (a, b)

-- the way from P to Q is a side of the octagon round p, the one by n x + m y <= k
pub record OwnSide (c u n m k : ℤ) (p P Q : Pt) : Type 0 where
  pub side : Side n m k p P Q
  pub offset : IsOffset c u (P.x -ℤ p.x) (P.y -ℤ p.y)
  pub bound : (q : Point) (e f : Pt) (a : ApproachFrom c u q e f)
      → Lies n m (k *ℤ q.d) a.s a.t (e.x *ℤ q.d -ℤ q.x) (e.y *ℤ q.d -ℤ q.y) (f.x *ℤ q.d -ℤ q.x)
      (f.y *ℤ q.d -ℤ q.y)

-- the way from P to Q, towards (x, y), is a side of the ring: it begins near to the edge from p to r, what is near
-- doesn't lie to its right, and it says something of each point that doesn't
pub record RingSide (c u : ℤ) (p r : Pt) (x y : ℤ) (Says : Point → Type 0) (P Q : Pt) : Type 0 where
  pub step : Step x y P Q
  pub near : IsNearWay c u p r P
  pub left : (q : Point) → pos 0 <ℤ q.d → ApproachFrom c u q p r → IsLeftOf q (way P Q)
  pub says : (q : Point) (d : pos 0 <ℤ q.d) → IsLeftOf q (way P Q) → Says q

-- sides from corner to corner, the first from P to Q towards (x, y), each turning left to the next
pub record Row (c u : ℤ) (p r : Pt) (x y : ℤ) (Says : Point → Type 0) (corners : List Pt)
    (ways : List Segment) (P Q : Pt) (ps : List Pt) : Type 0 where
  pub step : Step x y P Q
  pub near : AllByRecursion (IsNearWay c u p r) corners
  pub left : (q : Point) → pos 0 <ℤ q.d → ApproachFrom c u q p r → AllByRecursion (IsLeftOf q) ways
  pub says : (q : Point) (d : pos 0 <ℤ q.d) → AllByRecursion (IsLeftOf q) ways → Says q
  pub turns : AllTurnLeft (P ∷ Q ∷ ps)

-- a side that goes on by l times its direction
pub longer : {c u n m k : ℤ} {p P Q R : Pt} (l : ℤ) → pos 0 ≤ℤ l → OwnSide c u n m k p P Q → R.x -ℤ Q.x ≡ l *ℤ m
    → R.y -ℤ Q.y ≡ l *ℤ (pos 0 -ℤ n) → OwnSide c u n m k p P R
longer {c} {u} {n} {m} l h s i j =
    let some = s.side.step.positive in
    let x = s.side.step.across in
    let y = s.side.step.upwards in
    let f = plus_times s.side.step.m l m in
    let g = plus_times s.side.step.m l (pos 0 -ℤ n) in
    record {
      side = side (s.side.step.m +ℤ l) (omega (arith, ints, some)) (omega (arith, ints, x, f))
          (omega (arith, ints, y, g)) s.side.at;
      offset = s.offset;
      bound = s.bound;
    }
  where
    plus_times : (a b z : ℤ) → (a +ℤ b) *ℤ z ≡ a *ℤ z +ℤ b *ℤ z
    plus_times a b z = ring (a ∷ b ∷ z ∷ []) ((v0 ⊕ v1) ⊗ v2) (v0 ⊗ v2 ⊕ v1 ⊗ v2) refl

-- some mean of the ends lies in the octagon where each half plane holds an end and the line passes by the corner v
pub approach_by : {S U vx vy ax ay bx by : ℤ} → Corner S U vx vy ax ay bx by → Ends S U ax ay bx by
    → Approach S U ax ay bx by
approach_by {S} {U} {vx} {vy} {ax} {ay} {bx} {by} k e = approach S U ax ay bx by vx vy k e

-- where the edge comes near, its line passes between the corner (x, y) of the octagon and its mirror image
abbrev pub PassesIfNear : ℤ → ℤ → Pt → Pt → ℤ → ℤ → Type 0
PassesIfNear c u p r x y = (q : Point) (d : pos 0 <ℤ q.d) → ApproachFrom c u q p r → PassesFrom p r q d x y

-- a half plane of the octagon holds an end of the edge
abbrev pub EndBy : Pt → Pt → ℤ → ℤ → ℤ → Point → Type 0
EndBy p r n m k q = End n m (k *ℤ q.d) (p.x *ℤ q.d -ℤ q.x) (p.y *ℤ q.d -ℤ q.y) (r.x *ℤ q.d -ℤ q.x)
    (r.y *ℤ q.d -ℤ q.y)

module _ {c u : ℤ} {p r : Pt} where
  -- ---- the octagon's sides round the edge's first end, where it runs inwards from them, and round its last
  pub at_first : {n m k : ℤ} {P Q : Pt} → OwnSide c u n m k p P Q
      → pos 0 ≤ℤ (n *ℤ (r.x -ℤ p.x) +ℤ m *ℤ (r.y -ℤ p.y)) → RingSide c u p r m (pos 0 -ℤ n) (EndBy p r n m k) P Q
  at_first {n} {m} {k} {P} {Q} s h = record {
    step = s.side.step;
    near = near_first c u p r P s.offset;
    left = λ q d a. first_side (c *ℤ q.d) (u *ℤ q.d) q d p r a n m k P Q s.side h (s.bound q p r a);
    says = λ q d i. inl (side_gap n m k q p P Q s.side i);
  }

  pub at_last : {n m k : ℤ} {P Q : Pt} → OwnSide c u n m k r P Q
      → pos 0 ≤ℤ (n *ℤ (p.x -ℤ r.x) +ℤ m *ℤ (p.y -ℤ r.y)) → RingSide c u p r m (pos 0 -ℤ n) (EndBy p r n m k) P Q
  at_last {n} {m} {k} {P} {Q} s h = record {
    step = s.side.step;
    near = near_last c u p r P s.offset;
    left = λ q d a. last_side (c *ℤ q.d) (u *ℤ q.d) q d p r a n m k P Q s.side h (s.bound q p r a);
    says = λ q d i. inr (side_gap n m k q r P Q s.side i);
  }

  -- those that the edge runs along: what they say of its ends they say of the first
  pub along_first : {n m k : ℤ} {P Q : Pt} → OwnSide c u n m k p P Q
      → pos 0 ≤ℤ (n *ℤ (r.x -ℤ p.x) +ℤ m *ℤ (r.y -ℤ p.y)) → RingSide c u p r m (pos 0 -ℤ n) (FirstBy p n m k) P Q
  along_first {n} {m} {k} {P} {Q} s h =
      let f = at_first s h in
      record {
        step = f.step;
        near = f.near;
        left = f.left;
        says = λ q d i. side_gap n m k q p P Q s.side i;
      }

  pub along_last : {n m k : ℤ} {P Q : Pt} → OwnSide c u n m k r P Q
      → n *ℤ (r.x -ℤ p.x) +ℤ m *ℤ (r.y -ℤ p.y) ≡ pos 0 → n *ℤ (p.x -ℤ r.x) +ℤ m *ℤ (p.y -ℤ r.y) ≡ pos 0
      → RingSide c u p r m (pos 0 -ℤ n) (FirstBy p n m k) P Q
  along_last {n} {m} {k} {P} {Q} s h j =
      let f = at_last s (omega (arith, ints, j)) in
      record {
        step = f.step;
        near = f.near;
        left = f.left;
        says = λ q d i.
            let e = scaled n m p.x p.y r.x r.y q.x q.y q.d (omega (arith, ints, h)) d in
            let g = side_gap n m k q r P Q s.side i in
            omega (arith, ints, e, g);
      }

  -- ---- the sides along the edge, from octagon to octagon and back
  pub forth : (x y : ℤ) {P Q : Pt} → Beside x y p r P Q → IsOffset c u (P.x -ℤ p.x) (P.y -ℤ p.y)
      → PassesIfNear c u p r x y → RingSide c u p r (r.x -ℤ p.x) (r.y -ℤ p.y) (LeastFrom p r x y) P Q
  forth x y {P} {Q} b o f =
      let i = b.first_x in
      let j = b.first_y in
      let k = b.last_x in
      let l = b.last_y in
      record {
        step = step (pos 1) (omega (arith, ints)) (omega (arith, ints, i, k)) (omega (arith, ints, j, l));
        near = near_first c u p r P o;
        left = λ q d a. under p r q d x y P Q b (f q d a);
        says = λ q d h. least_by p r q d b h;
      }

  pub back : (x y : ℤ) {P Q : Pt} → Beside (pos 0 -ℤ x) (pos 0 -ℤ y) r p P Q
      → IsOffset c u (P.x -ℤ r.x) (P.y -ℤ r.y)
      → PassesIfNear c u p r x y → RingSide c u p r (p.x -ℤ r.x) (p.y -ℤ r.y) (MostFrom p r x y) P Q
  back x y {P} {Q} b o f =
      let i = b.first_x in
      let j = b.first_y in
      let k = b.last_x in
      let l = b.last_y in
      record {
        step = step (pos 1) (omega (arith, ints)) (omega (arith, ints, i, k)) (omega (arith, ints, j, l));
        near = near_last c u p r P o;
        left = λ q d a. over p r q d x y P Q b (f q d a);
        says = λ q d h. most_by p r q d x y b h;
      }

  -- ---- rows of sides
  -- the first side once more
  pub again : {x y : ℤ} {Says : Point → Type 0} {P Q : Pt} → RingSide c u p r x y Says P Q
      → Row c u p r x y (λ q. Unit {0}) [] [] P Q []
  again s = record { step = s.step; near = tt; left = λ q d a. tt; says = λ q d h. tt; turns = tt }

  -- a side, its turn to the next, and the row from there
  infixr 5 ◌⟨◌⟩◌
  pub ◌⟨◌⟩◌ : {x y v w : ℤ} {This Those : Point → Type 0} {P Q R : Pt} {corners ps : List Pt}
      {ways : List Segment} → RingSide c u p r x y This P Q → pos 0 <ℤ (x *ℤ w -ℤ y *ℤ v)
      → Row c u p r v w Those corners ways Q R ps
      → Row c u p r x y (λ q. This q × Those q) (P ∷ corners) (way P Q ∷ ways) P Q (R ∷ ps)
  ◌⟨◌⟩◌ {x} {y} {v} {w} {P} {Q} {R} s h l = record {
    step = s.step;
    near = (s.near, l.near);
    left = λ q d a. (s.left q d a, l.left q d a);
    says = λ q d i. (s.says q d i.0, l.says q d i.1);
    turns = (turns x y v w P Q R s.step l.step h, l.turns);
  }

  -- a row that ends as it begins is a ring, where each point is near of which the sides say all that they do
  pub ring_of : {x y : ℤ} {Says : Point → Type 0} {P Q : Pt} {ks : List Pt}
      → AllByRecursion (IsBefore P) (Q ∷ ks)
      → Row c u p r x y Says (P ∷ Q ∷ ks) (segments (sides (P ∷ Q ∷ ks))) P Q (ks ++ P ∷ Q ∷ [])
      → ((q : Point) (d : pos 0 <ℤ q.d) → Says q → ApproachFrom c u q p r)
      → IsRingRound c u p r (P ∷ Q ∷ ks)
  ring_of {x} {y} {P} {Q} {ks} s l f = record {
    holds = λ q d. (
      (λ m. All-from_recursion (IsLeftOf q) (segments (sides (P ∷ Q ∷ ks)))
          (l.left q d (approach_if_meets q p r c u m))),
      (λ h. meets_if_approach q p r c u (f q d (l.says q d
          (recursion_from_All (IsLeftOf q) (segments (sides (P ∷ Q ∷ ks))) h)))),
    );
    near = All-from_recursion (IsNearWay c u p r) (P ∷ Q ∷ ks) l.near;
    turns = l.turns;
    starts = All-from_recursion (IsBefore P) (Q ∷ ks) s;
  }
