-- One place merged: where ways come in and others go out and no other piece has an end, one that comes in and one
-- that goes out of one name and direction meet alone; else no piece that ends there goes on.
use Rattle.std.proofs.Common.{◌≡◌, ℕ, suc, ◌+◌, Bool, true, false, not, cond, true≢false, List, [], ◌∷◌, ◌++◌, length, All, refl, sym, ap, ap₂, ◌∙◌, arith}
use Rattle.std.specs.List.{AllByRecursion}
use Rattle.std.specs.List.Sorted.{IsPermutation}
use Rattle.std.proofs.lemmas.List.Elements.{All-from_recursion}
use Rattle.std.proofs.lemmas.List.Sorted.{All-permutation, IsPermutation-sym}
use Rattle.scad_geom.specs.Point.{Point, is_same_point}
use Rattle.scad_geom.specs.Segment.{Segment}
use Rattle.scad_geom.specs.Balance.{starts_at, ends_at}
use Rattle.scad_geom.proofs.Balance.{once, starts-cons, ends-cons}
use Rattle.winding_laws.specs.Nearness.{IsPoint}
use Rattle.slice_pieces.specs.declared.piece.Spot.{Spot}
use Rattle.slice_pieces.specs.declared.piece.Piece.{Piece}
use Rattle.slice_pieces.specs.Spots.{point_of}
use Rattle.slice_pieces.specs.Pieces.{ways_of}
use Rattle.slice_pieces.specs.Merging.{joined}
use Rattle.slice_pieces.specs.Joining.{GoesOn, IsStuck}
use Rattle.slice_pieces.proofs.ChainEnds.{starts_permuted, ends_permuted, point_alike}
use Rattle.sweep_laws.specs.Ways.{Way, piece_of, pieces_of, IsAt, AreOfDifferentNames}
use Rattle.sweep_laws.specs.Visits.{grown, IsOneCourse, OneGoesOn}
use Rattle.sweep_laws.proofs.Touches.{ComesIn, GoesOut, LiesAway, forwards, backwards, at_to, at_from, ends_in, starts_in, ends_out, starts_out, no_ends, no_starts}

-- ---- counts at the same point
pub ends_alike : (p q : Point) → IsPoint p → IsPoint q → is_same_point p q ≡ true → (ss : List Segment)
    → ends_at p ss ≡ ends_at q ss
ends_alike p q dp dq h [] = refl
ends_alike p q dp dq h (x ∷ ss) =
    ends-cons p x ss
    ∙ ap₂ (λ (b : Bool) (n : ℕ). once b + n) (point_alike p q x.to dp dq h) (ends_alike p q dp dq h ss)
    ∙ sym (ends-cons q x ss)

pub starts_alike : (p q : Point) → IsPoint p → IsPoint q → is_same_point p q ≡ true → (ss : List Segment)
    → starts_at p ss ≡ starts_at q ss
starts_alike p q dp dq h [] = refl
starts_alike p q dp dq h (x ∷ ss) =
    starts-cons p x ss
    ∙ ap₂ (λ (b : Bool) (n : ℕ). once b + n) (point_alike p q x.from dp dq h) (starts_alike p q dp dq h ss)
    ∙ sym (starts-cons q x ss)

-- ---- two ways as one piece
pub is_joined : (v w : Way) → IsOneCourse v w → (b : Bool) → v.forward ≡ b
    → joined (cond b (piece_of v) (piece_of w)) (cond b (piece_of w) (piece_of v)) ≡ piece_of (grown v w)
is_joined v w c b h = by_flags v.near v.far w.near w.far v.edge w.edge v.forward w.forward b c.edge h
    (sym c.forward ∙ h)
  where
    by_flags : (s t x y : Spot) (m n : ℕ) (f g b : Bool) → m ≡ n → f ≡ b → g ≡ b
        → joined (cond b (record { from = cond f s t; to = cond f t s; edge = m })
        (record { from = cond g x y; to = cond g y x; edge = n }))
        (cond b (record { from = cond g x y; to = cond g y x; edge = n })
        (record { from = cond f s t; to = cond f t s; edge = m }))
        ≡ record { from = cond f s y; to = cond f y s; edge = m }
    by_flags s t x y m n true true true e h k = refl
    by_flags s t x y m n true true false e h k = absurd (true≢false h)
    by_flags s t x y m n true false b e h k = absurd (true≢false (h ∙ sym k))
    by_flags s t x y m n false true b e h k = absurd (true≢false (k ∙ sym h))
    by_flags s t x y m n false false true e h k = absurd (true≢false (sym h))
    by_flags s t x y m n false false false e h k =
        ap (λ (n : ℕ). record { from = y; to = s; edge = n }) (sym e)

-- ---- tests
one_of : (b : Bool) → once b + once (not b) ≡ 1
one_of true = refl
one_of false = refl

all_of : (a b f g : ℕ) → a + b ≡ 1 → (a + f) + (b + g) ≡ suc (f + g)
all_of a b f g h = omega arith

both_ways : (ws : List Way) → forwards ws + backwards ws ≡ length ws
both_ways [] = refl
both_ways (w ∷ ws) = all_of (once w.forward) (once (not w.forward)) (forwards ws) (backwards ws) (one_of w.forward)
    ∙ ap suc (both_ways ws)

two_in_all : (f b g c m n : ℕ) → f + (c + 0) ≡ 1 → b + (g + 0) ≡ 1 → f + b ≡ m → g + c ≡ n → m + n ≡ 2
two_in_all f b g c m n h k e o = omega arith

-- what holds under a condition of all holds of each under it
under : (Q : Type 0) (R : Piece → Type 0) (qs : List Piece) → (Q → AllByRecursion R qs)
    → AllByRecursion (λ q. Q → R q) qs
under Q R [] h = tt
under Q R (q ∷ qs) h = (λ x. (h x).0, under Q R qs (λ x. (h x).1))

weaker : (P R : Piece → Type 0) (qs : List Piece) → ((q : Piece) → P q → R q) → AllByRecursion P qs
    → AllByRecursion R qs
weaker P R [] f h = tt
weaker P R (q ∷ qs) f h = (f q h.0, weaker P R qs f h.1)

-- ---- the place
module _ (p : Point) (dp : IsPoint p) (all : List Piece) (ins outs : List Way) (others : List Piece)
    (is : IsPermutation all (pieces_of ins ++ (pieces_of outs ++ others)))
    (hi : AllByRecursion (ComesIn p) ins) (ho : AllByRecursion (GoesOut p) outs)
    (ha : AllByRecursion (LiesAway p) others) where
  pub ends_here : ends_at p (ways_of all) ≡ forwards ins + (backwards outs + 0)
  ends_here = ends_permuted p all (pieces_of ins ++ (pieces_of outs ++ others)) is
      ∙ ends_in p (pieces_of outs ++ others) ins hi
      ∙ ap (λ (n : ℕ). forwards ins + n)
      (ends_out p others outs ho ∙ ap (λ (n : ℕ). backwards outs + n) (no_ends p others ha))

  pub starts_here : starts_at p (ways_of all) ≡ backwards ins + (forwards outs + 0)
  starts_here = starts_permuted p all (pieces_of ins ++ (pieces_of outs ++ others)) is
      ∙ starts_in p (pieces_of outs ++ others) ins hi
      ∙ ap (λ (n : ℕ). backwards ins + n)
      (starts_out p others outs ho ∙ ap (λ (n : ℕ). forwards outs + n) (no_starts p others ha))

  -- a piece that ends there doesn't go on as one that starts there
  abbrev Clash : Piece → Piece → Type 0
  Clash x r = IsAt p x.to → IsAt p r.from → x.edge ≡ r.edge → ⊥

  in_itself : (v : Way) → ComesIn p v → Clash (piece_of v) (piece_of v)
  in_itself v h a b e = by_flag v.forward (sym (at_to p v.forward v.near v.far h.0 h.1) ∙ a)
      (sym (at_from p v.forward v.near v.far h.0 h.1) ∙ b)
    where
      by_flag : (f : Bool) → f ≡ true → not f ≡ true → ⊥
      by_flag true x y = true≢false (sym y)
      by_flag false x y = true≢false (sym x)

  out_itself : (w : Way) → GoesOut p w → Clash (piece_of w) (piece_of w)
  out_itself w h a b e = by_flag w.forward (sym (at_from p w.forward w.far w.near h.0 h.1) ∙ a)
      (sym (at_to p w.forward w.far w.near h.0 h.1) ∙ b)
    where
      by_flag : (f : Bool) → not f ≡ true → f ≡ true → ⊥
      by_flag true x y = true≢false (sym x)
      by_flag false x y = true≢false (sym y)

  in_and_out : (v w : Way) → ComesIn p v → GoesOut p w → (IsOneCourse v w → ⊥) → Clash (piece_of v) (piece_of w)
  in_and_out v w hv hw c a b e = c (record {
    edge = e;
    forward = sym (at_to p v.forward v.near v.far hv.0 hv.1) ∙ a ∙ sym b
        ∙ at_to p w.forward w.far w.near hw.0 hw.1;
  })

  out_and_in : (v w : Way) → ComesIn p v → GoesOut p w → (IsOneCourse v w → ⊥) → Clash (piece_of w) (piece_of v)
  out_and_in v w hv hw c a b e = c (record {
    edge = sym e;
    forward = by_flags v.forward w.forward (sym (at_from p v.forward v.near v.far hv.0 hv.1) ∙ b)
        (sym (at_from p w.forward w.far w.near hw.0 hw.1) ∙ a);
  })
    where
      by_flags : (f g : Bool) → not f ≡ true → not g ≡ true → f ≡ g
      by_flags true g x y = absurd (true≢false (sym x))
      by_flags false true x y = absurd (true≢false (sym y))
      by_flags false false x y = refl

  others_start_away : (x : Piece) (qs : List Piece) → AllByRecursion (LiesAway p) qs → AllByRecursion (Clash x) qs
  others_start_away x [] h = tt
  others_start_away x (q ∷ qs) h = (λ a b e. true≢false (sym b ∙ h.0.0), others_start_away x qs h.1)

  others_end_away : (rs qs : List Piece) → AllByRecursion (LiesAway p) qs
      → AllByRecursion (λ x. AllByRecursion (Clash x) rs) qs
  others_end_away rs [] h = tt
  others_end_away rs (q ∷ qs) h = (none rs, others_end_away rs qs h.1)
    where
      none : (rs : List Piece) → AllByRecursion (Clash q) rs
      none [] = tt
      none (r ∷ rs) = (λ a b e. true≢false (sym a ∙ h.0.1), none rs)

  abbrev AllClash : List Piece → Type 0
  AllClash qs = AllByRecursion (λ x. AllByRecursion (Clash x) qs) qs

  pair : (a b : Piece) → Clash a a → Clash a b → Clash b a → Clash b b → AllClash (a ∷ (b ∷ others))
  pair a b h k x y = (
    (h, (k, others_start_away a others ha)),
    ((x, (y, others_start_away b others ha)), others_end_away (a ∷ (b ∷ others)) others ha),
  )

  all_clash : (is os : List Way) → AllByRecursion (ComesIn p) is → AllByRecursion (GoesOut p) os
      → AreOfDifferentNames is
      → AreOfDifferentNames os → (OneGoesOn is os → ⊥) → length is + length os ≡ 2
      → AllClash (pieces_of is ++ (pieces_of os ++ others))
  all_clash [] [] hi ho di do' g l = absurd (omega arith)
  all_clash [] (a ∷ []) hi ho di do' g l = absurd (omega arith)
  all_clash [] (a ∷ (b ∷ [])) hi ho di do' g l =
      pair (piece_of a) (piece_of b) (out_itself a ho.0) (λ x y e. do'.0.0 e) (λ x y e. do'.0.0 (sym e))
      (out_itself b ho.1.0)
  all_clash [] (a ∷ (b ∷ (c ∷ os))) hi ho di do' g l = absurd (omega arith)
  all_clash (a ∷ []) [] hi ho di do' g l = absurd (omega arith)
  all_clash (a ∷ []) (b ∷ []) hi ho di do' g l =
      pair (piece_of a) (piece_of b) (in_itself a hi.0) (in_and_out a b hi.0 ho.0 g) (out_and_in a b hi.0 ho.0 g)
      (out_itself b ho.0)
  all_clash (a ∷ []) (b ∷ (c ∷ os)) hi ho di do' g l = absurd (omega arith)
  all_clash (a ∷ (b ∷ [])) [] hi ho di do' g l =
      pair (piece_of a) (piece_of b) (in_itself a hi.0) (λ x y e. di.0.0 e) (λ x y e. di.0.0 (sym e))
      (in_itself b hi.1.0)
  all_clash (a ∷ (b ∷ [])) (c ∷ os) hi ho di do' g l = absurd (omega arith)
  all_clash (a ∷ (b ∷ (c ∷ is))) os hi ho di do' g l = absurd (omega arith)

  abbrev Once : Type 0
  Once = (forwards ins + (backwards outs + 0) ≡ 1) × (backwards ins + (forwards outs + 0) ≡ 1)

  stuck_by : (x : Piece) → (Once → AllByRecursion (Clash x) (pieces_of ins ++ (pieces_of outs ++ others))) → IsAt p x.to
      → IsPoint (point_of x.to) → IsStuck all x
  stuck_by x h at d passed =
      let one : Once = (
        sym ends_here ∙ ends_alike p (point_of x.to) dp d at (ways_of all) ∙ passed.one_ends,
        sym starts_here ∙ starts_alike p (point_of x.to) dp d at (ways_of all) ∙ passed.one_starts,
      ) in
      All-permutation (λ r. GoesOn x r → ⊥) (pieces_of ins ++ (pieces_of outs ++ others)) all
      (IsPermutation-sym all (pieces_of ins ++ (pieces_of outs ++ others)) is)
      (All-from_recursion (λ r. GoesOn x r → ⊥) (pieces_of ins ++ (pieces_of outs ++ others))
      (weaker (Clash x) (λ r. GoesOn x r → ⊥) (pieces_of ins ++ (pieces_of outs ++ others))
      (λ r c g. c at (there r g) g.name) (h one)))
    where
      there : (r : Piece) → GoesOn x r → IsAt p r.from
      there r g = point_alike p (point_of x.to) (point_of r.from) dp d at ∙ g.meet

  -- none that ends there goes on
  pub stuck_here : AreOfDifferentNames ins → AreOfDifferentNames outs → (OneGoesOn ins outs → ⊥)
      → All (λ x. IsAt p x.to → IsPoint (point_of x.to) → IsStuck all x) all
  stuck_here di do' g =
      All-permutation (λ x. IsAt p x.to → IsPoint (point_of x.to) → IsStuck all x)
      (pieces_of ins ++ (pieces_of outs ++ others)) all
      (IsPermutation-sym all (pieces_of ins ++ (pieces_of outs ++ others)) is)
      (All-from_recursion (λ x. IsAt p x.to → IsPoint (point_of x.to) → IsStuck all x)
      (pieces_of ins ++ (pieces_of outs ++ others))
      (weaker (λ x. Once → AllByRecursion (Clash x) (pieces_of ins ++ (pieces_of outs ++ others)))
      (λ x. IsAt p x.to → IsPoint (point_of x.to) → IsStuck all x)
      (pieces_of ins ++ (pieces_of outs ++ others)) stuck_by
      (under Once (λ x. AllByRecursion (Clash x) (pieces_of ins ++ (pieces_of outs ++ others)))
      (pieces_of ins ++ (pieces_of outs ++ others))
      (λ o. all_clash ins outs hi ho di do' g
      (two_in_all (forwards ins) (backwards ins) (forwards outs) (backwards outs) (length ins) (length outs) o.0 o.1
      (both_ways ins) (both_ways outs))))))
