-- The shape's values along a level, at its stops.
use Rattle.std.proofs.Common.{◌≡◌, ℕ, zero, suc, ◌+◌, ◌<◌, ◌≤◌, inl, inr, Bool, true, false, List, [], ◌∷◌, ◌++◌, length, get_or, drop, refl, sym, ap, ap₂, ◌∙◌, arith, subst}
use lib.IntN.{ℤ, pos, ◌*ℤ◌}
use lib.Signed.{◌<ℤ◌, ◌≤ℤ◌}
use Rattle.std.specs.Prelude.{int_lt, Option, None, Some}
use Rattle.std.specs.List.{AllByRecursion}
use Rattle.std.proofs.lemmas.Bool.{cases_lt}
use Rattle.std.proofs.lemmas.Int.{ints}
use Rattle.scad_geom.specs.declared.point.Edge.{Edge}
use Rattle.scad_geom.specs.declared.level.Level.{Level}
use Rattle.scad_geom.specs.declared.level.LeafEdge.{LeafEdge}
use Rattle.scad_geom.specs.declared.shape.Shape.{Shape}
use Rattle.scad_geom.specs.Level.{IsLower, IsAtMost}
use Rattle.scad_geom.specs.Line.{rise, x_at}
use Rattle.scad_geom.specs.Point.{Point}
use Rattle.scad_geom.specs.Shape.{is_in_by}
use Rattle.scad_geom.proofs.Heights.{at_most_then_lower}
use Rattle.slice_bundles.specs.Bundles.{edge_at}
use Rattle.slice_pieces.specs.declared.piece.Spot.{Spot}
use Rattle.slice_pieces.specs.Spots.{point_of}
use Rattle.slice_border.specs.declared.stop.Stop.{Stop}
use Rattle.slice_border.specs.Pieces.{IsLeft, GoRight, across, piece_between, stretch_piece}
use Rattle.slice_border.specs.Stops.{spots_in}
use Rattle.slice_border.specs.Beside.{RisesFirst, passing, is_right_of, TellBeside}
use Rattle.slice_bool.specs.Along.{GoAlong, AreBeside, AreAlong, covered_piece}
use Rattle.slice_border.proofs.RightOf.{right_of}
use Rattle.slice_bool.proofs.BothSides.{pass_on, pass_here}
use Rattle.slice_border.proofs.Winding.{IsSpotAt}

-- ---- bundles that don't lie to the right of a spot
not_more : (x y : ℤ) → int_lt x y ≡ false → y ≤ℤ x
not_more x y h = omega (arith, ints)

not_less : (x y : ℤ) → y <ℤ x → int_lt x y ≡ false
not_less x y h = sym (omega (arith, ints))

runs_up : (n : ℕ) → 0 < n → pos 0 <ℤ pos n
runs_up n h = omega (arith, ints)

-- nor do they lie to the right of a spot further right
not_right_on : (es : List LeafEdge) (s t : Spot) (b : List ℕ) → 0 < s.run → 0 < t.run → s.at ≡ t.at
    → IsLeft s t → RisesFirst es b
    → is_right_of es (point_of s) b ≡ false → is_right_of es (point_of t) b ≡ false
not_right_on es s t [] rs rt q o r h = refl
not_right_on es s t (k ∷ ks) rs rt q o r h =
    let e : Edge = edge_at es k in
    let f : int_lt (s.x *ℤ rise e) (x_at e s.at.n s.at.d *ℤ pos s.run) ≡ false = right_of e s.x s.at.n s.at.d (pos s.run) ∙ h in
    let a : IsAtMost (record { n = x_at e s.at.n s.at.d; d = rise e }) (across s) = not_more _ _ f in
    let b : IsAtMost (record { n = x_at e t.at.n t.at.d; d = rise e }) (across s) =
    subst (λ (at : Level). IsAtMost (record { n = x_at e at.n at.d; d = rise e }) (across s)) q a in
    let l : IsLower (record { n = x_at e t.at.n t.at.d; d = rise e }) (across t) =
    at_most_then_lower (record { n = x_at e t.at.n t.at.d; d = rise e }) (across s) (across t) r.1 (runs_up s.run rs)
    (runs_up t.run rt) b o in
    sym (right_of e t.x t.at.n t.at.d (pos t.run)) ∙ not_less _ _ l

pub any_bundle : (bs : List (List ℕ)) (k : ℕ) (d e : List ℕ) → k < length bs → get_or bs k d ≡ get_or bs k e
any_bundle [] k d e h = absurd (omega arith)
any_bundle (b ∷ bs) zero d e h = refl
any_bundle (b ∷ bs) (suc k) d e h = any_bundle bs k d e (omega arith)

pub first_there : (es : List LeafEdge) (bs : List (List ℕ)) (k : ℕ) (d : List ℕ)
    → AllByRecursion (RisesFirst es) bs → k < length bs → RisesFirst es (get_or bs k d)
first_there es [] k d a h = absurd (omega arith)
first_there es (b ∷ bs) zero d a h = a.0
first_there es (b ∷ bs) (suc k) d a h = first_there es bs k d a.1 (omega arith)

pub passed_more : (es : List LeafEdge) (p : Point) (bs : List (List ℕ)) (from k : ℕ) (b : List ℕ)
    → b ≡ get_or bs k b → k < length bs → is_right_of es p b ≡ false
    → ((j : ℕ) (d : List ℕ) → from ≤ j → j < k → is_right_of es p (get_or bs j d) ≡ false)
    → (j : ℕ) (d : List ℕ) → from ≤ j → j < k + 1 → is_right_of es p (get_or bs j d) ≡ false
passed_more es p bs from k b q t h f j d o c = elim (cases_lt j k) [
  | inl a ↦ f j d o a
  | inr a ↦ let r : k ≡ j = omega arith in
      subst (λ (j : ℕ). is_right_of es p (get_or bs j d) ≡ false) r
      (ap (is_right_of es p) (any_bundle bs k d b t ∙ sym q) ∙ h)
]

skip_passed : (es : List LeafEdge) (p : Point) (bs : List (List ℕ)) (n : ℕ)
    → ((j : ℕ) (d : List ℕ) → j < n → is_right_of es p (get_or bs j d) ≡ false)
    → passing es true p bs ≡ passing es true p (drop n bs)
skip_passed es p bs zero h = refl
skip_passed es p [] (suc n) h = refl
skip_passed es p (b ∷ bs) (suc n) h = pass_on es p b bs (h 0 [] (omega arith)) ∙ skip_passed es p bs n
    (λ j d o. h (suc j) d (omega arith))

at_first : (es : List LeafEdge) (p : Point) (bs : List (List ℕ)) (n : ℕ) → n ≤ length bs
    → ((d : List ℕ) → n < length bs → is_right_of es p (get_or bs n d) ≡ true)
    → passing es true p (drop n bs) ≡ drop n bs
at_first es p [] zero b g = refl
at_first es p [] (suc n) b g = absurd (omega arith)
at_first es p (c ∷ bs) zero b g = pass_here es p c bs (g [] (omega arith))
at_first es p (c ∷ bs) (suc n) b g = at_first es p bs n (omega arith) (λ d o. g d (omega arith))

pub from_first : (es : List LeafEdge) (p : Point) (bs : List (List ℕ)) (n : ℕ) → n ≤ length bs
    → ((j : ℕ) (d : List ℕ) → j < n → is_right_of es p (get_or bs j d) ≡ false)
    → ((d : List ℕ) → n < length bs → is_right_of es p (get_or bs n d) ≡ true)
    → passing es true p bs ≡ drop n bs
from_first es p bs n b h g = skip_passed es p bs n h ∙ at_first es p bs n b g

-- ---- from stop to stop
pub any_stop : (ss : List Stop) (i : ℕ) (d e : Stop) → i < length ss → get_or ss i d ≡ get_or ss i e
any_stop [] i d e h = absurd (omega arith)
any_stop (s ∷ ss) zero d e h = refl
any_stop (s ∷ ss) (suc i) d e h = any_stop ss i d e (omega arith)

go_at : (ss : List Stop) (i : ℕ) (s t : Stop) → GoAlong (spots_in ss) → suc i < length ss
    → ((get_or ss i s).spot.at ≡ (get_or ss (suc i) t).spot.at)
    × IsLeft (get_or ss i s).spot (get_or ss (suc i) t).spot
go_at [] i s t g h = absurd (omega arith)
go_at (x ∷ []) i s t g h = absurd (omega arith)
go_at (x ∷ (y ∷ ss)) zero s t g h = (g.0, g.1)
go_at (x ∷ (y ∷ ss)) (suc i) s t g h = go_at (y ∷ ss) i s t g.2 (omega arith)

pub passed_both : (es : List LeafEdge) (bs : List (List ℕ)) (ss : List Stop) (i from k : ℕ) (s : Stop)
    → s ≡ get_or ss i s → i < length ss
    → ((j : ℕ) (d : List ℕ) (e : Stop) → j < from → i < length ss
    → is_right_of es (point_of (get_or ss i e).spot) (get_or bs j d) ≡ false)
    → ((j : ℕ) (d : List ℕ) → from ≤ j → j < k
    → is_right_of es (point_of s.spot) (get_or bs j d) ≡ false)
    → (j : ℕ) (d : List ℕ) → j < k → is_right_of es (point_of s.spot) (get_or bs j d) ≡ false
passed_both es bs ss i from k s q h f g j d o = elim (cases_lt j from) [
  | inl a ↦ ap (λ (s : Stop). is_right_of es (point_of s.spot) (get_or bs j d)) q ∙ f j d s a h
  | inr a ↦ g j d a o
]

pub passed_next : (es : List LeafEdge) (bs : List (List ℕ)) (ss : List Stop) (i k : ℕ) (s : Stop)
    → s ≡ get_or ss i s → GoAlong (spots_in ss) → AllByRecursion (RisesFirst es) bs → k ≤ length bs
    → ((j : ℕ) (d : List ℕ) → j < k → is_right_of es (point_of s.spot) (get_or bs j d) ≡ false)
    → (j : ℕ) (d : List ℕ) (e : Stop) → j < k → i + 1 < length ss
    → is_right_of es (point_of (get_or ss (i + 1) e).spot) (get_or bs j d) ≡ false
passed_next es bs ss i k s q g a b f j d e o h =
    let n : suc i ≡ i + 1 = omega arith in
    let r = go_at ss i s e g (omega arith) in
    let t : Stop = get_or ss (suc i) e in
    let at : s.spot.at ≡ t.spot.at = ap (λ (s : Stop). s.spot.at) q ∙ r.0 in
    let left : IsLeft s.spot t.spot = subst (λ (s : Stop). IsLeft s.spot t.spot) (sym q) r.1 in
    subst (λ (m : ℕ). is_right_of es (point_of (get_or ss m e).spot) (get_or bs j d) ≡ false) n
    (not_right_on es s.spot t.spot (get_or bs j d) s.runs t.runs at left (first_there es bs j d a (omega arith))
    (f j d o))

pub value_more : (P : ℕ → Bool) (vs : List Bool) (v : Bool) (i : ℕ) → length vs ≡ i
    → ((k : ℕ) → k < i → get_or vs k false ≡ P k) → v ≡ P i → (k : ℕ) → k < i + 1
    → get_or (vs ++ (v ∷ [])) k false ≡ P k
value_more P vs v i l h e k b = elim (cases_lt k i) [
  | inl q ↦ before vs k (omega arith) ∙ h k q
  | inr q ↦ let r : i ≡ k = omega arith in at_end vs k (l ∙ r) ∙ e ∙ ap P r
]
  where
    before : (vs : List Bool) (k : ℕ) → k < length vs → get_or (vs ++ (v ∷ [])) k false ≡ get_or vs k false
    before [] k l = absurd (omega arith)
    before (w ∷ vs) zero l = refl
    before (w ∷ vs) (suc k) l = before vs k (omega arith)

    at_end : (vs : List Bool) (k : ℕ) → length vs ≡ k → get_or (vs ++ (v ∷ [])) k false ≡ v
    at_end [] zero l = refl
    at_end [] (suc k) l = absurd (omega arith)
    at_end (w ∷ vs) zero l = absurd (omega arith)
    at_end (w ∷ vs) (suc k) l = at_end vs k (omega arith)

-- ---- the stops of a level
pub go_along : (at : Level) (ss : List Spot) → AllByRecursion (IsSpotAt at) ss → GoRight ss → GoAlong ss
go_along at [] a g = tt
go_along at (s ∷ []) a g = tt
go_along at (s ∷ (t ∷ ss)) a g = (a.0.at ∙ sym a.1.0.at, g.0, go_along at (t ∷ ss) a.1 g.1)

spot_at : (at : Level) (ss : List Stop) (k : ℕ) (d : Stop) → AllByRecursion (IsSpotAt at) (spots_in ss)
    → k < length ss → (get_or ss k d).spot.at ≡ at
spot_at at [] k d a h = absurd (omega arith)
spot_at at (s ∷ ss) zero d a h = a.0.at
spot_at at (s ∷ ss) (suc k) d a h = spot_at at ss k d a.1 (omega arith)

-- the values beside the bundles are what the shape holds
pub along_beside : (above : Bool) (es : List LeafEdge) (shape : Shape) (at : Level) (bs : List (List ℕ))
    (ss : List Stop) (vs : List Bool)
    → AllByRecursion (IsSpotAt at) (spots_in ss) → TellBeside above es shape at bs → AreBeside es shape bs ss vs
    → AreAlong above es shape ss vs
along_beside above es shape at bs ss vs a tell b = record {
  size = b.size;
  each = λ k d h. b.each k d h ∙ sym (tell (get_or ss k d).spot (spot_at at ss k d a h) (get_or ss k d).runs);
}

-- the piece by the values
pub covered_by : (es : List LeafEdge) (shape : Shape) (s t : Spot) (v w : Bool)
    → v ≡ is_in_by true true es shape (point_of s)
    → w ≡ is_in_by false true es shape (point_of s) → (name : Option ℕ)
    → covered_piece v w s t name ≡ stretch_piece es shape s t name
covered_by es shape s t v w a b None = refl
covered_by es shape s t v w a b (Some name) = ap₂ (λ (v w : Bool). piece_between v w s t name) a b
