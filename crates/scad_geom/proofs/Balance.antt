-- How many segments start and end at a point, segment by segment, and of whole edges at whole points.
use Rattle.std.proofs.Common.{◌≡◌, ℕ, ◌+◌, Bool, true, cond, ◌&&◌, List, [], ◌∷◌, refl, sym, ap, ap₂, ◌∙◌, arith}
use Rattle.std.proofs.Math.Bool.{and_comm}
use Rattle.std.proofs.lemmas.Bool.{and_parts}
use Rattle.std.specs.Prelude.{count_by}
use Rattle.std.specs.Ordering.{int_eq}
use Rattle.std.specs.Cmp.{signed_Decides}
use Rattle.std.proofs.lemmas.Int.{ints}
use Rattle.std.proofs.lemmas.List.Sums.{sum_by-cons}
use Rattle.scad_geom.specs.declared.point.Pt.{Pt}
use Rattle.scad_geom.specs.declared.point.Edge.{Edge}
use Rattle.scad_geom.specs.Point.{Point, whole, is_same_point}
use Rattle.scad_geom.specs.Segment.{Segment, segments}
use Rattle.scad_geom.specs.Balance.{starts_at, ends_at, IsBalanced}
use Rattle.scad_geom.proofs.Signs.{mul-one}

-- once, where a test holds
abbrev pub once : Bool → ℕ
once b = cond b 1 0

pub starts-cons : (p : Point) (s : Segment) (ss : List Segment) → starts_at p (s ∷ ss) ≡ once (is_same_point p s.from) +
    starts_at p ss
starts-cons p s ss = sum_by-cons (λ x. once (is_same_point p x.from)) s ss

pub ends-cons : (p : Point) (s : Segment) (ss : List Segment) → ends_at p (s ∷ ss) ≡ once (is_same_point p s.to) +
    ends_at p ss
ends-cons p s ss = sum_by-cons (λ x. once (is_same_point p x.to)) s ss

-- two points in whole micrometres are the same
abbrev pub same_place : Pt → Pt → Bool
same_place p q = int_eq p.x q.x && int_eq p.y q.y

pub same_place-is : (p q : Pt) → same_place p q ≡ true → p ≡ q
same_place-is p q e =
    let both = and_parts (int_eq p.x q.x) (int_eq p.y q.y) e in
    let x = (signed_Decides p.x q.x).0 both.0 in
    let y = (signed_Decides p.y q.y).0 both.1 in
    λ i. record { x = x i; y = y i }

pub same_place-itself : (p : Pt) → same_place p p ≡ true
same_place-itself p = ap₂ (λ (a b : Bool). a && b) ((signed_Decides p.x p.x).1 refl) ((signed_Decides p.y p.y).1 refl)

pub same_whole : (p q : Pt) → is_same_point (whole p) (whole q) ≡ same_place p q
same_whole p q = rw (mul-one p.x, mul-one p.y, mul-one q.x, mul-one q.y) (and_comm (int_eq p.y q.y) (int_eq p.x q.x))

pub whole_starts : (p : Pt) (es : List Edge) → starts_at (whole p) (segments es) ≡ count_by (λ e. same_place p e.a) es
whole_starts p [] = refl
whole_starts p (e ∷ es) =
    starts-cons (whole p) (record { from = whole e.a; to = whole e.b }) (segments es)
    ∙ ap₂ (λ (m n : ℕ). m + n) (ap once (same_whole p e.a)) (whole_starts p es)
    ∙ sym (sum_by-cons (λ x. once (same_place p x.a)) e es)

pub whole_ends : (p : Pt) (es : List Edge) → ends_at (whole p) (segments es) ≡ count_by (λ e. same_place p e.b) es
whole_ends p [] = refl
whole_ends p (e ∷ es) =
    ends-cons (whole p) (record { from = whole e.a; to = whole e.b }) (segments es)
    ∙ ap₂ (λ (m n : ℕ). m + n) (ap once (same_whole p e.b)) (whole_ends p es)
    ∙ sym (sum_by-cons (λ x. once (same_place p x.b)) e es)

pub whole_balance : (es : List Edge) → IsBalanced (segments es) → (p : Pt) → count_by (λ e. same_place p e.a) es
    ≡ count_by (λ e. same_place p e.b) es
whole_balance es b p = sym (whole_starts p es) ∙ b.each (whole p) (omega (arith, ints)) ∙ whole_ends p es
