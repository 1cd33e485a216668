-- Edges and their opposites may be left out together.
use Rattle.std.proofs.Common.{◌≡◌, ℕ, ◌+◌, Bool, List, [], ◌∷◌, ◌++◌, map, refl, sym, ap, ◌∙◌, arith, zero-add}
use lib.IntN.{ℤ, pos, ◌+ℤ◌, ◌-ℤ◌}
use lib.Signed.{◌<ℤ◌}
use Rattle.std.proofs.lemmas.Int.{ints}
use Rattle.std.proofs.lemmas.List.Sorted.{IsPermutation-map}
use Rattle.scad_geom.specs.declared.point.Edge.{Edge}
use Rattle.scad_geom.specs.Point.{Point, whole, is_same_point}
use Rattle.scad_geom.specs.Segment.{Segment, segment_of, segments}
use Rattle.scad_geom.specs.Winding.{turn, wind_by}
use Rattle.scad_geom.specs.Balance.{starts_at, ends_at}
use Rattle.scad_geom.proofs.Balance.{once, starts-cons, ends-cons}
use Rattle.winding_laws.specs.Nearness.{seen_from}
use Rattle.winding_laws.specs.Joining.{CancellingKeepsBalance, CancellingKeepsWinding}
use Rattle.winding_laws.specs.Edges.{turned}
use Rattle.winding_laws.proofs.Views.{swing_turned, turn_seen}
use Rattle.winding_laws.proofs.Order.{order_keeps_balance, wind-permuted, wind-append}

segments-append : (es fs : List Edge) → segments (es ++ fs) ≡ segments es ++ segments fs
segments-append [] fs = refl
segments-append (e ∷ es) fs = ap (λ (ss : List Segment). segment_of e ∷ ss) (segments-append es fs)

parts : (left pairs : List Edge) → segments (left ++ (pairs ++ map turned pairs)) ≡ segments left ++
    (segments pairs ++ segments (map turned pairs))
parts left pairs = segments-append left (pairs ++ map turned pairs) ∙ ap (λ (ss : List Segment). segments left ++ ss)
    (segments-append pairs (map turned pairs))

-- ---- balance
module _ (p : Point) where
  assoc : (a x y : ℕ) → a + (x + y) ≡ (a + x) + y
  assoc a x y = omega arith

  starts-append : (ss ts : List Segment) → starts_at p (ss ++ ts) ≡ starts_at p ss + starts_at p ts
  starts-append [] ts = sym (zero-add (starts_at p ts))
  starts-append (s ∷ ss) ts =
      starts-cons p s (ss ++ ts)
      ∙ ap (λ (n : ℕ). once (is_same_point p s.from) + n) (starts-append ss ts)
      ∙ assoc (once (is_same_point p s.from)) (starts_at p ss) (starts_at p ts)
      ∙ ap (λ (n : ℕ). n + starts_at p ts) (sym (starts-cons p s ss))

  ends-append : (ss ts : List Segment) → ends_at p (ss ++ ts) ≡ ends_at p ss + ends_at p ts
  ends-append [] ts = sym (zero-add (ends_at p ts))
  ends-append (s ∷ ss) ts =
      ends-cons p s (ss ++ ts)
      ∙ ap (λ (n : ℕ). once (is_same_point p s.to) + n) (ends-append ss ts)
      ∙ assoc (once (is_same_point p s.to)) (ends_at p ss) (ends_at p ts)
      ∙ ap (λ (n : ℕ). n + ends_at p ts) (sym (ends-cons p s ss))

  starts-turned : (es : List Edge) → starts_at p (segments (map turned es)) ≡ ends_at p (segments es)
  starts-turned [] = refl
  starts-turned (e ∷ es) =
      starts-cons p (segment_of (turned e)) (segments (map turned es))
      ∙ ap (λ (n : ℕ). once (is_same_point p (whole e.b)) + n) (starts-turned es)
      ∙ sym (ends-cons p (segment_of e) (segments es))

  ends-turned : (es : List Edge) → ends_at p (segments (map turned es)) ≡ starts_at p (segments es)
  ends-turned [] = refl
  ends-turned (e ∷ es) =
      ends-cons p (segment_of (turned e)) (segments (map turned es))
      ∙ ap (λ (n : ℕ). once (is_same_point p (whole e.a)) + n) (ends-turned es)
      ∙ sym (starts-cons p (segment_of e) (segments es))

  all_starts : (left pairs : List Edge) → starts_at p (segments (left ++ (pairs ++ map turned pairs))) ≡ starts_at p
      (segments left) + (starts_at p (segments pairs) + ends_at p (segments pairs))
  all_starts left pairs =
      ap (starts_at p) (parts left pairs)
      ∙ starts-append (segments left) (segments pairs ++ segments (map turned pairs))
      ∙ ap (λ (n : ℕ). starts_at p (segments left) + n)
      (starts-append (segments pairs) (segments (map turned pairs))
      ∙ ap (λ (n : ℕ). starts_at p (segments pairs) + n)
      (starts-turned pairs))

  all_ends : (left pairs : List Edge) → ends_at p (segments (left ++ (pairs ++ map turned pairs)))
      ≡ ends_at p (segments left) + (ends_at p (segments pairs) + starts_at p (segments pairs))
  all_ends left pairs =
      ap (ends_at p) (parts left pairs)
      ∙ ends-append (segments left) (segments pairs ++ segments (map turned pairs))
      ∙ ap (λ (n : ℕ). ends_at p (segments left) + n)
      (ends-append (segments pairs) (segments (map turned pairs)) ∙ ap (λ (n : ℕ). ends_at p (segments pairs) + n)
      (ends-turned pairs))

rest : (s e a b x y : ℕ) → x ≡ s + (a + b) → y ≡ e + (b + a) → x ≡ y → s ≡ e
rest s e a b x y hx hy h = omega arith

pub cancelling_keeps_balance : CancellingKeepsBalance
cancelling_keeps_balance edges left pairs m b =
    let all = order_keeps_balance (segments edges) (segments (left ++ (pairs ++ map turned pairs)))
    (IsPermutation-map segment_of edges (left ++ (pairs ++ map turned pairs)) m) b in
    record {
      each = λ p d.
          rest (starts_at p (segments left)) (ends_at p (segments left)) (starts_at p (segments pairs))
          (ends_at p (segments pairs))
          (starts_at p (segments (left ++ (pairs ++ map turned pairs))))
          (ends_at p (segments (left ++ (pairs ++ map turned pairs))))
          (all_starts p left pairs) (all_ends p left pairs) (all.each p d);
    }

-- ---- winding
pub turn_turned : (above right : Bool) (q a b : Point) → pos 0 <ℤ q.d → pos 0 <ℤ a.d → pos 0 <ℤ b.d
    → turn above right q b a ≡ pos 0 -ℤ turn above right q a b
turn_turned above right q a b dq da db =
    turn_seen above right q b a dq db
    ∙ swing_turned above right (seen_from q a) (seen_from q b)
    ∙ ap (λ (z : ℤ). pos 0 -ℤ z) (sym (turn_seen above right q a b dq da))

module _ (above right : Bool) (q : Point) (d : pos 0 <ℤ q.d) where
  abbrev winding : List Edge → ℤ
  winding es = wind_by above right q (segments es)

  opposite : (t u w v : ℤ) → u ≡ pos 0 -ℤ t → w ≡ pos 0 -ℤ v → u +ℤ w ≡ pos 0 -ℤ (t +ℤ v)
  opposite t u w v h k = omega (arith, ints)

  wind-turned : (es : List Edge) → winding (map turned es) ≡ pos 0 -ℤ winding es
  wind-turned [] = refl
  wind-turned (e ∷ es) =
      opposite (turn above right q (whole e.a) (whole e.b)) (turn above right q (whole e.b) (whole e.a))
      (winding (map turned es)) (winding es)
      (turn_turned above right q (whole e.a) (whole e.b) d (omega (arith, ints)) (omega (arith, ints))) (wind-turned es)

  nothing_more : (w v u x : ℤ) → x ≡ w +ℤ (v +ℤ u) → u ≡ pos 0 -ℤ v → w ≡ x
  nothing_more w v u x h k = omega (arith, ints)

  cancelled : (left pairs : List Edge) → winding left ≡ winding (left ++ (pairs ++ map turned pairs))
  cancelled left pairs =
      nothing_more (winding left) (winding pairs) (winding (map turned pairs))
      (winding (left ++ (pairs ++ map turned pairs)))
      (ap (wind_by above right q) (parts left pairs)
      ∙ wind-append above right q (segments left) (segments pairs ++ segments (map turned pairs))
      ∙ ap (λ (z : ℤ). winding left +ℤ z)
      (wind-append above right q (segments pairs) (segments (map turned pairs))))
      (wind-turned pairs)

pub cancelling_keeps_winding : CancellingKeepsWinding
cancelling_keeps_winding edges left pairs m above right q d =
    cancelled above right q d left pairs
    ∙ wind-permuted above right q (segments edges) (segments (left ++ (pairs ++ map turned pairs)))
    (IsPermutation-map segment_of edges (left ++ (pairs ++ map turned pairs)) m)
