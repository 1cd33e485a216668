-- What is asked of a point of a support line is decided.
use Rattle.std.proofs.Common.{◌≡◌, ◌⊎◌, inl, inr, ℕ, ◌*◌, Bool, true, false, List, [], ◌∷◌, refl, sym, ap, subst, ◌∙◌, flat_map, arith, ℤ, pos, ◌+ℤ◌, ◌-ℤ◌, ◌*ℤ◌, ◌<ℤ◌}
use lib.Signed.{◌≤ℤ◌}
use Rattle.std.specs.Int.{int_min, int_max}
use Rattle.std.specs.List.{AllByRecursion}
use Rattle.std.proofs.lemmas.Int.{ints}
use Rattle.std.proofs.lemmas.Bool.{false≢true}
use Rattle.std.proofs.lemmas.List.Elements.{recursion_from_All, All-from_recursion}
use Rattle.scad_geom.specs.declared.point.Pt.{Pt}
use Rattle.scad_geom.specs.declared.point.Edge.{Edge}
use Rattle.scad_geom.specs.Line.{low, high, rise, x_at}
use Rattle.scad_geom.specs.Loop.{sides}
use Rattle.scad_geom.specs.Near.{IsClear, MeetsBox}
use Rattle.scad_geom.specs.Point.{whole}
use Rattle.scad_geom.specs.Segment.{segments}
use Rattle.scad_geom.specs.Sign.{is_zero}
use Rattle.scad_geom.specs.Winding.{wind}
use Rattle.scad_geom.proofs.Rising.{order}
use Rattle.scad_geom.proofs.Signs.{zero_true}
use Rattle.plan_infill.specs.Multiple.{IsMultiple}
use Rattle.plan_support.specs.Near.{line_reach, IsBesideEnds, IsBesideLine}
use Rattle.plan_support.specs.Spans.{point_at, IsWound, IsSpanned}
use Rattle.plan_support.specs.Supports.{IsFree}
use Rattle.plan_support.proofs.NearRow.{FoundFor}
use Rattle.plan_support.proofs.NearEdge.{IsBesideRow, found_if_beside, row_if_found, ends_if_found, line_if_found, meets, clear}
use Rattle.plan_infill.proofs.Deciding.{IsDecided}
use Rattle.plan_infill.proofs.Elements.{first_in, other_in, first_or_other}
use Rattle.support_laws.specs.Supports.{IsBelow, IsOverhung, NeedsSupport}

both : (P Q R : Type 0) → (P → Q → R) → (R → P) → (R → Q) → IsDecided P → IsDecided Q → IsDecided R
both P Q R make first second (inl p) (inl q) = inl (make p q)
both P Q R make first second (inl p) (inr n) = inr (λ r. n (second r))
both P Q R make first second (inr n) q = inr (λ r. n (first r))

at_most : (a b : ℤ) → IsDecided (a ≤ℤ b)
at_most a b = elim (order a b) [
  | inl o ↦ inl o
  | inr o ↦ inr (λ p. let q : b <ℤ a = o in omega (arith, ints, p, q))
]

-- ---- near to a side
module _ (e : Edge) (gap : ℕ) (x y : ℤ) where
  beside_row : IsDecided (IsBesideRow e y gap)
  beside_row =
      both (((low e).y -ℤ pos gap) ≤ℤ y) (y ≤ℤ ((high e).y +ℤ pos gap)) (IsBesideRow e y gap)
      (λ a b. record { below = a; above = b }) (λ r. r.below) (λ r. r.above)
      (at_most ((low e).y -ℤ pos gap) y) (at_most y ((high e).y +ℤ pos gap))

  beside_ends : IsDecided (IsBesideEnds e gap x)
  beside_ends =
      both ((int_min (low e).x (high e).x -ℤ pos gap) ≤ℤ x) (x ≤ℤ (int_max (low e).x (high e).x +ℤ pos gap))
      (IsBesideEnds e gap x)
      (λ a b. record { from = a; to = b }) (λ r. r.from) (λ r. r.to)
      (at_most (int_min (low e).x (high e).x -ℤ pos gap) x) (at_most x (int_max (low e).x (high e).x +ℤ pos gap))

  beside_line : IsDecided (IsBesideLine e y gap x)
  beside_line =
      both ((x_at e y (pos 1) -ℤ line_reach e gap) ≤ℤ (x *ℤ rise e))
      ((x *ℤ rise e) ≤ℤ (x_at e y (pos 1) +ℤ line_reach e gap)) (IsBesideLine e y gap x)
      (λ a b. record { from = a; to = b }) (λ r. r.from) (λ r. r.to)
      (at_most (x_at e y (pos 1) -ℤ line_reach e gap) (x *ℤ rise e))
      (at_most (x *ℤ rise e) (x_at e y (pos 1) +ℤ line_reach e gap))

  -- a level side has no line
  on_line : IsDecided (pos 0 <ℤ rise e → IsBesideLine e y gap x)
  on_line = by_cases (order (rise e) (pos 0)) beside_line
    where
      by_cases : (rise e ≤ℤ pos 0) ⊎ (pos 0 <ℤ rise e) → IsDecided (IsBesideLine e y gap x)
          → IsDecided (pos 0 <ℤ rise e → IsBesideLine e y gap x)
      by_cases (inl flat) b = inl (λ rises. absurd (omega (arith, ints, flat, rises)))
      by_cases (inr rises) (inl b) = inl (λ r. b)
      by_cases (inr rises) (inr n) = inr (λ f. n (f rises))

  is_found : IsDecided (FoundFor gap x y (low e) (high e))
  is_found = by_cases beside_row beside_ends on_line
    where
      by_cases : IsDecided (IsBesideRow e y gap) → IsDecided (IsBesideEnds e gap x)
          → IsDecided (pos 0 <ℤ rise e → IsBesideLine e y gap x) → IsDecided (FoundFor gap x y (low e) (high e))
      by_cases (inl r) (inl b) (inl l) = inl (found_if_beside e gap x y r b l)
      by_cases (inr n) b l = inr (λ f. n (row_if_found e gap x y f))
      by_cases (inl r) (inr n) l = inr (λ f. n (ends_if_found e gap x y f))
      by_cases (inl r) (inl b) (inr n) = inr (λ f. n (λ rises. line_if_found e gap x y f rises))

  is_clear : IsDecided (IsClear (pos (2 * gap)) (whole (point_at x y)) (whole e.a) (whole e.b))
  is_clear = by_cases is_found
    where
      touches : MeetsBox (pos (2 * gap)) (whole (point_at x y)) (whole e.a) (whole e.b)
          → IsClear (pos (2 * gap)) (whole (point_at x y)) (whole e.a) (whole e.b) → ⊥
      touches m c = c m.s m.t m.from m.to m.some m.close

      by_cases : IsDecided (FoundFor gap x y (low e) (high e))
          → IsDecided (IsClear (pos (2 * gap)) (whole (point_at x y)) (whole e.a) (whole e.b))
      by_cases (inl f) = inr (λ c. touches (meets e gap x y f) c)
      by_cases (inr n) = inl (clear e gap x y n)

abbrev IsFarFrom : ℕ → ℤ → ℤ → Edge → Type 0
IsFarFrom gap x y e = IsClear (pos (2 * gap)) (whole (point_at x y)) (whole e.a) (whole e.b)

all_clear : (gap : ℕ) (x y : ℤ) (es : List Edge) → IsDecided (AllByRecursion (IsFarFrom gap x y) es)
all_clear gap x y [] = inl tt
all_clear gap x y (e ∷ es) =
    both (IsFarFrom gap x y e) (AllByRecursion (IsFarFrom gap x y) es) (AllByRecursion (IsFarFrom gap x y) (e ∷ es))
    (λ a b. (a, b)) (λ r. r.0) (λ r. r.1) (is_clear e gap x y) (all_clear gap x y es)

-- ---- wound round
is_zero_or_not : (z : ℤ) → IsDecided (z ≡ pos 0)
is_zero_or_not z = by_test (is_zero z) refl
  where
    by_test : (t : Bool) → is_zero z ≡ t → IsDecided (z ≡ pos 0)
    by_test true q = inl (zero_true z q)
    by_test false q = inr (λ e. false≢true (sym q ∙ ap is_zero e))

abbrev turns : List (List Pt) → Pt → ℤ
turns outlines q = wind (whole q) (segments (flat_map sides outlines))

pub wound_or_not : (outlines : List (List Pt)) (q : Pt) → IsDecided (IsWound outlines q)
wound_or_not outlines q = elim (is_zero_or_not (turns outlines q)) [
  | inl e ↦ inr (λ w. w e)
  | inr n ↦ inl n
]

free_or_not : (outlines : List (List Pt)) (gap : ℕ) (x y : ℤ) → IsDecided (IsFree outlines gap (point_at x y))
free_or_not outlines gap x y =
    both (turns outlines (point_at x y) ≡ pos 0) (AllByRecursion (IsFarFrom gap x y) (flat_map sides outlines))
    (IsFree outlines gap (point_at x y))
    (λ a b. record { outside = a; clear = All-from_recursion (IsFarFrom gap x y) (flat_map sides outlines) b })
    (λ r. r.outside) (λ r. recursion_from_All (IsFarFrom gap x y) (flat_map sides outlines) r.clear)
    (is_zero_or_not (turns outlines (point_at x y))) (all_clear gap x y (flat_map sides outlines))

below_or_not : (above : List (List (List Pt))) (q : Pt) → IsDecided (IsBelow above q)
below_or_not [] q = inr (λ b. let lt = b.there.1 in omega (arith, lt))
below_or_not (o ∷ os) q = by_cases (wound_or_not o q) (below_or_not os q)
  where
    by_cases : IsDecided (IsWound o q) → IsDecided (IsBelow os q) → IsDecided (IsBelow (o ∷ os) q)
    by_cases (inl w) b = inl (record { outlines = o; there = first_in o os; wound = w })
    by_cases (inr n) (inl b) =
        inl (record { outlines = b.outlines; there = other_in o os b.outlines b.there; wound = b.wound })
    by_cases (inr n) (inr m) = inr (λ b. elim (first_or_other o os b.outlines b.there) [
      | inl e ↦ n (subst (λ (z : List (List Pt)). IsWound z q) (sym e) b.wound)
      | inr c ↦ m (record { outlines = b.outlines; there = c; wound = b.wound })
    ])

-- ---- on a support line
pub spanned_or_not : (outlines : List (List Pt)) (spacing : ℕ) (y : ℤ) → IsMultiple spacing y → (x : ℤ)
    → IsDecided (IsSpanned outlines spacing x y)
spanned_or_not outlines spacing y m x = elim (wound_or_not outlines (point_at x y)) [
  | inl w ↦ inl (record { line = m; wound = w })
  | inr n ↦ inr (λ s. n s.wound)
]

pub overhung_or_not : (above : List (List (List Pt))) (spacing : ℕ) (y : ℤ) → IsMultiple spacing y → (x : ℤ)
    → IsDecided (IsOverhung above spacing x y)
overhung_or_not above spacing y m x = elim (below_or_not above (point_at x y)) [
  | inl b ↦ inl (record { line = m; below = b })
  | inr n ↦ inr (λ o. n o.below)
]

pub needed_or_not : (above : List (List (List Pt))) (outlines : List (List Pt)) (spacing gap : ℕ) (y : ℤ)
    → IsMultiple spacing y → (x : ℤ) → IsDecided (NeedsSupport above outlines spacing gap x y)
needed_or_not above outlines spacing gap y m x =
    both (IsOverhung above spacing x y) (IsFree outlines gap (point_at x y))
    (NeedsSupport above outlines spacing gap x y)
    (λ a b. record { overhung = a; free = b }) (λ r. r.overhung) (λ r. r.free)
    (overhung_or_not above spacing y m x) (free_or_not outlines gap x y)
