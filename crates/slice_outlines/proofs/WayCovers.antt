-- The flat edges that begin by a stop and go on from it are those that cover the way to the next.
use Rattle.std.proofs.Common.{◌≡◌, ℕ, zero, suc, ◌<◌, Bool, true, false, true≢false, cond, ◌&&◌, ◌||◌, List, [], ◌∷◌, ◌++◌, length, get_or, take, drop, refl, sym, ap, ap₂, ◌∙◌, subst, inl, inr, arith}
use lib.IntN.{ℤ, pos, ◌*ℤ◌, ◌-ℤ◌}
use lib.Signed.{◌<ℤ◌, ◌≤ℤ◌}
use Rattle.std.specs.Prelude.{◌⊎◌, filter, int_le, int_lt}
use Rattle.std.specs.List.{AllByRecursion}
use Rattle.std.specs.Ordering.{int_eq}
use Rattle.std.specs.Cmp.{signed_Decides}
use Rattle.std.proofs.lemmas.Int.{ints}
use Rattle.std.proofs.lemmas.Bool.{and_from, and_parts}
use Rattle.std.proofs.lemmas.List.{take-append-drop}
use Rattle.std.proofs.lemmas.List.Elements.{recursion_from_All}
use Rattle.scad_geom.specs.declared.point.Edge.{Edge}
use Rattle.scad_geom.specs.declared.level.Level.{Level}
use Rattle.scad_geom.specs.declared.level.LeafEdge.{LeafEdge}
use Rattle.scad_geom.specs.Line.{low, high, rise}
use Rattle.scad_geom.specs.Sign.{is_zero}
use Rattle.scad_geom.specs.Level.{IsAtMost}
use Rattle.scad_geom.proofs.Integers.{mul_assoc}
use Rattle.scad_geom.proofs.Heights.{lower_then_at_most}
use Rattle.scad_geom.proofs.Ring.{ring, num, ◌⊗◌, v0}
use Rattle.slice_bundles.specs.Bundles.{no_edge, edge_at}
use Rattle.slice_pieces.specs.declared.piece.Spot.{Spot}
use Rattle.slice_border.specs.Pieces.{across, whole_spot, is_flat_at, covers, IsLeft}
use Rattle.slice_outlines.specs.declared.flat.Flat.{Flat}
use Rattle.slice_border.specs.declared.stop.Stop.{Stop}
use Rattle.slice_outlines.specs.Flats.{IsFlatOf, LiesOn}
use Rattle.slice_outlines.specs.Along.{BeginsBy, StartsAfter, goes_on}
use Rattle.slice_outlines.specs.Stretch.{TellWay}
use Rattle.slice_outlines.specs.Level.{HasNumber}
use Rattle.slice_outlines.proofs.Covering.{least_passes}
use Rattle.slice_outlines.proofs.StrandSearch.{left_true, scaled_order}
use Rattle.slice_outlines.proofs.Waiting.{left_is}

-- ---- flat edges of a height
pub flat_rise : (e : Edge) → e.a.y ≡ e.b.y → rise e ≡ pos 0
unfolding rise low high
flat_rise e h = by_test (int_lt e.b.y e.a.y)
  where
    by_test : (t : Bool) → (cond t e.a e.b).y -ℤ (cond t e.b e.a).y ≡ pos 0
    by_test true = omega (arith, ints, h)
    by_test false = omega (arith, ints, h)

pub lies_flat : (es : List LeafEdge) (f : Flat) (l : Level) → IsFlatOf es f → LiesOn l f
    → is_flat_at (edge_at es f.number) l ≡ true
lies_flat es f l h on = and_from (is_zero (rise (edge_at es f.number))) (int_eq ((edge_at es f.number).a.y *ℤ l.d) l.n)
    (ap is_zero (flat_rise (edge_at es f.number) (h.height ∙ sym h.flat)))
    ((signed_Decides ((edge_at es f.number).a.y *ℤ l.d) l.n).1 (ap (λ (y : ℤ). y *ℤ l.d) h.height ∙ on))

-- ---- places of whole numbers
by_one : (z : ℤ) → z *ℤ pos 1 ≡ z
by_one z = ring (z ∷ []) (v0 ⊗ num (pos 1)) v0 refl

le_is : (a b : ℤ) → a ≤ℤ b → int_le a b ≡ true
le_is a b h = grind (arith, ints)

le_of : (a b : ℤ) → int_le a b ≡ true → a ≤ℤ b
le_of a b h = omega (arith, ints)

not_less : (a b : ℤ) → (a <ℤ b → ⊥) → b ≤ℤ a
not_less a b h = grind (arith, ints)

less_not : (a b : ℤ) → b ≤ℤ a → a <ℤ b → ⊥
less_not a b h k = omega (arith, ints)

-- a whole number doesn't lie to the right of a spot, or to its left
pub by_spot : (s : Spot) (x : ℤ) → (IsLeft s (whole_spot x s.at) → ⊥) → (x *ℤ (s.at.d *ℤ pos s.run)) ≤ℤ s.x
by_spot s x h = subst (λ (z : ℤ). z ≤ℤ s.x) (mul_assoc x s.at.d (pos s.run))
    (subst (λ (z : ℤ). ((x *ℤ s.at.d) *ℤ pos s.run) ≤ℤ z) (by_one s.x)
    (not_less (s.x *ℤ pos 1) ((x *ℤ s.at.d) *ℤ pos s.run) h))

pub past_spot : (s : Spot) (x : ℤ) → IsLeft s (whole_spot x s.at) → s.x <ℤ (x *ℤ (s.at.d *ℤ pos s.run))
past_spot s x h = subst (λ (z : ℤ). s.x <ℤ z) (mul_assoc x s.at.d (pos s.run))
    (subst (λ (z : ℤ). z <ℤ ((x *ℤ s.at.d) *ℤ pos s.run)) (by_one s.x) h)

spot_by : (s : Spot) (x : ℤ) → (x *ℤ (s.at.d *ℤ pos s.run)) ≤ℤ s.x → IsLeft s (whole_spot x s.at) → ⊥
spot_by s x h = less_not (s.x *ℤ pos 1) ((x *ℤ s.at.d) *ℤ pos s.run)
    (subst (λ (z : ℤ). z ≤ℤ (s.x *ℤ pos 1)) (sym (mul_assoc x s.at.d (pos s.run)))
    (subst (λ (z : ℤ). (x *ℤ (s.at.d *ℤ pos s.run)) ≤ℤ z) (sym (by_one s.x)) h))

from_spot : (t : Spot) (x : ℤ) → (IsLeft (whole_spot x t.at) t → ⊥) → t.x ≤ℤ (x *ℤ (t.at.d *ℤ pos t.run))
from_spot t x h = subst (λ (z : ℤ). t.x ≤ℤ z) (mul_assoc x t.at.d (pos t.run))
    (subst (λ (z : ℤ). z ≤ℤ ((x *ℤ t.at.d) *ℤ pos t.run)) (by_one t.x)
    (not_less ((x *ℤ t.at.d) *ℤ pos t.run) (t.x *ℤ pos 1) h))

spot_from : (t : Spot) (x : ℤ) → t.x ≤ℤ (x *ℤ (t.at.d *ℤ pos t.run)) → IsLeft (whole_spot x t.at) t → ⊥
spot_from t x h = less_not ((x *ℤ t.at.d) *ℤ pos t.run) (t.x *ℤ pos 1)
    (subst (λ (z : ℤ). (t.x *ℤ pos 1) ≤ℤ z) (sym (mul_assoc x t.at.d (pos t.run)))
    (subst (λ (z : ℤ). z ≤ℤ (x *ℤ (t.at.d *ℤ pos t.run))) (sym (by_one t.x)) h))

-- ---- what covers the way from a stop to the next
or_left : (a b : Bool) → a ≡ true → (a || b) ≡ true
or_left true b h = refl
or_left false b h = absurd cc

or_right : (a b : Bool) → b ≡ true → (a || b) ≡ true
or_right true b h = refl
or_right false b h = h

or_cases : (a b : Bool) → (a || b) ≡ true → (a ≡ true) ⊎ (b ≡ true)
or_cases true b h = inl refl
or_cases false b h = inr h

abbrev spans : Spot → Spot → ℤ → ℤ → Bool
spans s t a b = int_le (a *ℤ (s.at.d *ℤ pos s.run)) s.x && int_le t.x (b *ℤ (t.at.d *ℤ pos t.run))

spans_from : (s t : Spot) (a b : ℤ) → (IsLeft s (whole_spot a s.at) → ⊥) → (IsLeft (whole_spot b t.at) t → ⊥)
    → spans s t a b ≡ true
spans_from s t a b h k = and_from (int_le (a *ℤ (s.at.d *ℤ pos s.run)) s.x) (int_le t.x (b *ℤ (t.at.d *ℤ pos t.run)))
    (le_is (a *ℤ (s.at.d *ℤ pos s.run)) s.x (by_spot s a h)) (le_is t.x (b *ℤ (t.at.d *ℤ pos t.run)) (from_spot t b k))

spans_by : (s t : Spot) (a b : ℤ) → spans s t a b ≡ true
    → (IsLeft s (whole_spot a s.at) → ⊥) × (IsLeft (whole_spot b t.at) t → ⊥)
spans_by s t a b h =
    let p = and_parts (int_le (a *ℤ (s.at.d *ℤ pos s.run)) s.x) (int_le t.x (b *ℤ (t.at.d *ℤ pos t.run))) h in (
      spot_by s a (le_of (a *ℤ (s.at.d *ℤ pos s.run)) s.x p.0),
      spot_from t b (le_of t.x (b *ℤ (t.at.d *ℤ pos t.run)) p.1),
    )

covers_from : (es : List LeafEdge) (f : Flat) (s t : Spot) → IsFlatOf es f → LiesOn s.at f
    → (IsLeft s (whole_spot f.left s.at) → ⊥) → (IsLeft (whole_spot f.right t.at) t → ⊥)
    → covers s t (get_or es f.number no_edge) ≡ true
covers_from es f s t h on left right =
    let e : Edge = edge_at es f.number in
    and_from (is_flat_at e s.at) (spans s t e.a.x e.b.x || spans s t e.b.x e.a.x) (lies_flat es f s.at h on)
    (elim h.ends [
      | inl q ↦ or_left (spans s t e.a.x e.b.x) (spans s t e.b.x e.a.x)
          (ap₂ (λ (a b : ℤ). spans s t a b) q.0 q.1 ∙ spans_from s t f.left f.right left right)
      | inr q ↦ or_right (spans s t e.a.x e.b.x) (spans s t e.b.x e.a.x)
          (ap₂ (λ (b a : ℤ). spans s t b a) q.1 q.0 ∙ spans_from s t f.left f.right left right)
    ])

at_most_from : (t w : Spot) → (IsLeft w t → ⊥) → IsAtMost (across t) (across w)
at_most_from t w h = not_less ((across w).n *ℤ (across t).d) ((across t).n *ℤ (across w).d) h

whole_runs : (x : ℤ) (l : Level) → pos 0 <ℤ (across (whole_spot x l)).d
whole_runs x l = omega (arith, ints)

reaches_on : (s t : Spot) (x : ℤ) → pos 0 <ℤ pos s.run → pos 0 <ℤ pos t.run → IsLeft s t
    → (IsLeft (whole_spot x t.at) t → ⊥) → IsLeft s (whole_spot x t.at)
reaches_on s t x rs rt o h = lower_then_at_most (across s) (across t) (across (whole_spot x t.at)) rs rt
    (whole_runs x t.at) o (at_most_from t (whole_spot x t.at) h)

farther : (s : Spot) (l : Level) (x y : ℤ) → pos 0 <ℤ pos s.run → pos 0 <ℤ l.d → x ≤ℤ y → IsLeft s (whole_spot x l)
    → IsLeft s (whole_spot y l)
farther s l x y rs d o h =
    let less : (x *ℤ l.d) ≤ℤ (y *ℤ l.d) = scaled_order x y l.d o d in
    lower_then_at_most (across s) (across (whole_spot x l)) (across (whole_spot y l)) rs (whole_runs x l)
    (whole_runs y l) h
    (omega (arith, ints, less))

pub covers_by : (es : List LeafEdge) (f : Flat) (s t : Spot) → t.at ≡ s.at → pos 0 <ℤ s.at.d → pos 0 <ℤ pos s.run
    → pos 0 <ℤ pos t.run → IsFlatOf es f → IsLeft s t → covers s t (get_or es f.number no_edge) ≡ true
    → (IsLeft s (whole_spot f.left s.at) → ⊥) × IsLeft s (whole_spot f.right s.at)
covers_by es f s t same d rs rt h o c =
    let e : Edge = edge_at es f.number in
    let both = and_parts (is_flat_at e s.at) (spans s t e.a.x e.b.x || spans s t e.b.x e.a.x) c in
    elim (or_cases (spans s t e.a.x e.b.x) (spans s t e.b.x e.a.x) both.1) [
      | inl p ↦ by_ends e.a.x e.b.x (spans_by s t e.a.x e.b.x p) h.ends
      | inr p ↦ by_ends e.b.x e.a.x (spans_by s t e.b.x e.a.x p) (turned e.a.x e.b.x h.ends)
    ]
  where
    turned : (a b : ℤ) → ((a ≡ f.left × b ≡ f.right) ⊎ (a ≡ f.right × b ≡ f.left))
        → (b ≡ f.left × a ≡ f.right) ⊎ (b ≡ f.right × a ≡ f.left)
    turned a b (inl q) = inr (q.1, q.0)
    turned a b (inr q) = inl (q.1, q.0)

    right_of : (b : ℤ) → (IsLeft (whole_spot b t.at) t → ⊥) → IsLeft s (whole_spot b s.at)
    right_of b k = subst (λ (l : Level). IsLeft s (whole_spot b l)) same (reaches_on s t b rs rt o k)

    by_ends : (a b : ℤ) → ((IsLeft s (whole_spot a s.at) → ⊥) × (IsLeft (whole_spot b t.at) t → ⊥))
        → ((a ≡ f.left × b ≡ f.right) ⊎ (a ≡ f.right × b ≡ f.left))
        → (IsLeft s (whole_spot f.left s.at) → ⊥) × IsLeft s (whole_spot f.right s.at)
    by_ends a b k (inl q) = (
      subst (λ (x : ℤ). IsLeft s (whole_spot x s.at) → ⊥) q.0 k.0,
      subst (λ (x : ℤ). IsLeft s (whole_spot x s.at)) q.1 (right_of b k.1),
    )
    by_ends a b k (inr q) = absurd (k.0 (subst (λ (x : ℤ). IsLeft s (whole_spot x s.at)) (sym q.0)
        (farther s s.at f.left f.right rs d h.order (subst (λ (x : ℤ). IsLeft s (whole_spot x s.at)) q.1
        (right_of b k.1)))))

-- ---- those that are kept
-- a flat edge of a height that begins by a stop, and ends neither between it and the next
pub record MayLead (es : List LeafEdge) (s t : Stop) (f : Flat) : Type 0 where
  pub is : IsFlatOf es f
  pub on : LiesOn s.spot.at f
  pub aside : IsLeft s.spot (whole_spot f.right s.spot.at) → IsLeft (whole_spot f.right t.spot.at) t.spot → ⊥

each_covers : (es : List LeafEdge) (s t : Stop) (fs : List Flat) → AllByRecursion (MayLead es s t) fs
    → AllByRecursion (BeginsBy s) fs → (k : ℕ) → HasNumber (filter (goes_on s) fs) k
    → (k < length es) × (covers s.spot t.spot (get_or es k no_edge) ≡ true)
each_covers es s t [] m b k h = absurd h
each_covers es s t (f ∷ fs) m b k h = by_test (goes_on s f) refl h (each_covers es s t fs m.1 b.1 k)
  where
    by_test : (c : Bool) → goes_on s f ≡ c → HasNumber (cond c (f ∷ filter (goes_on s) fs) (filter (goes_on s) fs)) k
        → (HasNumber (filter (goes_on s) fs) k → (k < length es) × (covers s.spot t.spot (get_or es k no_edge) ≡ true))
        → (k < length es) × (covers s.spot t.spot (get_or es k no_edge) ≡ true)
    by_test true e (inl q) r = subst (λ (n : ℕ). (n < length es)
        × (covers s.spot t.spot (get_or es n no_edge) ≡ true)) q (
          m.0.is.there,
          covers_from es f s.spot t.spot m.0.is m.0.on b.0
              (m.0.aside (left_true s.spot (whole_spot f.right s.spot.at) e)),
        )
    by_test true e (inr q) r = r q
    by_test false e q r = r q

keeps_number : (es : List LeafEdge) (s t : Stop) (fs : List Flat) → t.spot.at ≡ s.spot.at → pos 0 <ℤ s.spot.at.d
    → pos 0 <ℤ pos s.spot.run → pos 0 <ℤ pos t.spot.run → IsLeft s.spot t.spot → AllByRecursion (MayLead es s t) fs
    → (k : ℕ) → covers s.spot t.spot (get_or es k no_edge) ≡ true → HasNumber fs k → HasNumber (filter (goes_on s) fs) k
keeps_number es s t [] e d rs rt o m k c h = h
keeps_number es s t (f ∷ fs) e d rs rt o m k c h = by_test (goes_on s f) refl h
    (keeps_number es s t fs e d rs rt o m.1 k c)
  where
    by_test : (b : Bool) → goes_on s f ≡ b → HasNumber (f ∷ fs) k → (HasNumber fs k
        → HasNumber (filter (goes_on s) fs) k)
        → HasNumber (cond b (f ∷ filter (goes_on s) fs) (filter (goes_on s) fs)) k
    by_test true g (inl q) r = inl q
    by_test true g (inr q) r = inr (r q)
    by_test false g (inl q) r =
        let on = (covers_by es f s.spot t.spot e d rs rt m.0.is o
        (subst (λ (n : ℕ). covers s.spot t.spot (get_or es n no_edge) ≡ true) (sym q) c)).1 in
        absurd (true≢false (sym (left_is s.spot (whole_spot f.right s.spot.at) on) ∙ g))
    by_test false g (inr q) r = r q

begins_not : (es : List LeafEdge) (s t : Stop) (fs : List Flat) → t.spot.at ≡ s.spot.at → pos 0 <ℤ s.spot.at.d
    → pos 0 <ℤ pos s.spot.run → pos 0 <ℤ pos t.spot.run → IsLeft s.spot t.spot → AllByRecursion (MayLead es s t) fs
    → AllByRecursion (λ f. IsLeft s.spot (whole_spot f.left s.spot.at)) fs → (k : ℕ)
    → covers s.spot t.spot (get_or es k no_edge) ≡ true → HasNumber fs k → ⊥
begins_not es s t [] e d rs rt o m b k c h = h
begins_not es s t (f ∷ fs) e d rs rt o m b k c (inl q) =
    (covers_by es f s.spot t.spot e d rs rt m.0.is o
    (subst (λ (n : ℕ). covers s.spot t.spot (get_or es n no_edge) ≡ true) (sym q) c)).0 b.0
begins_not es s t (f ∷ fs) e d rs rt o m b k c (inr q) = begins_not es s t fs e d rs rt o m.1 b.1 k c q

pub number_split : (fs gs : List Flat) (k : ℕ) → HasNumber (fs ++ gs) k → HasNumber fs k ⊎ HasNumber gs k
number_split [] gs k h = inr h
number_split (f ∷ fs) gs k (inl q) = inl (inl q)
number_split (f ∷ fs) gs k (inr q) = elim (number_split fs gs k q) [
  | inl a ↦ inl (inr a)
  | inr b ↦ inr b
]

pub all_take : (P : Flat → Type 0) (n : ℕ) (fs : List Flat) → AllByRecursion P fs → AllByRecursion P (take n fs)
all_take P zero fs a = tt
all_take P (suc n) [] a = tt
all_take P (suc n) (f ∷ fs) a = (a.0, all_take P n fs a.1)

pub all_drop : (P : Flat → Type 0) (n : ℕ) (fs : List Flat) → AllByRecursion P fs → AllByRecursion P (drop n fs)
all_drop P zero fs a = a
all_drop P (suc n) [] a = tt
all_drop P (suc n) (f ∷ fs) a = all_drop P n fs a.1

-- flat edges by their left ends
pub data GoOn : List Flat → Type 0 where
  none : GoOn []
  more : (f : Flat) (fs : List Flat) → AllByRecursion (λ g. f.left ≤ℤ g.left) fs → GoOn fs → GoOn (f ∷ fs)

go_drop : (n : ℕ) (fs : List Flat) → GoOn fs → GoOn (drop n fs)
go_drop zero fs g = g
go_drop (suc n) [] g = g
go_drop (suc n) (f ∷ fs) (more a b c g) = go_drop n fs g

all_after : (s : Stop) (fs : List Flat) → pos 0 <ℤ s.spot.at.d → pos 0 <ℤ pos s.spot.run → GoOn fs → StartsAfter s fs
    → AllByRecursion (λ f. IsLeft s.spot (whole_spot f.left s.spot.at)) fs
all_after s [] d r g a = tt
all_after s (f ∷ fs) d r (more x y c g) a = (a, behind fs c)
  where
    behind : (gs : List Flat) → AllByRecursion (λ g. f.left ≤ℤ g.left) gs
        → AllByRecursion (λ f. IsLeft s.spot (whole_spot f.left s.spot.at)) gs
    behind [] c = tt
    behind (g ∷ gs) c = (farther s.spot s.spot.at f.left g.left r d c.0 a, behind gs c.1)

-- where all that may lead are among flat edges by their left ends, the least of those kept covers the way first
pub way_told : (es : List LeafEdge) (fs : List Flat) (s t : Stop) → t.spot.at ≡ s.spot.at → pos 0 <ℤ s.spot.at.d
    → IsLeft s.spot t.spot → GoOn fs → AllByRecursion (MayLead es s t) fs
    → ((k : ℕ) → k < length es → covers s.spot t.spot (get_or es k no_edge) ≡ true → HasNumber fs k)
    → TellWay es fs s t
way_told es fs s t e d o g m all n begun later =
    let rs : pos 0 <ℤ pos s.spot.run = let r : 0 < s.spot.run = s.runs in omega (arith, ints) in
    let rt : pos 0 <ℤ pos t.spot.run = let r : 0 < t.spot.run = t.runs in omega (arith, ints) in
    least_passes (covers s.spot t.spot) es (filter (goes_on s) (take n fs)) (record {
      each = each_covers es s t (take n fs) (all_take (MayLead es s t) n fs m)
          (recursion_from_All (BeginsBy s) (take n fs) begun);
      all = λ k l c.
          elim (number_split (take n fs) (drop n fs) k
          (subst (λ (gs : List Flat). HasNumber gs k) (sym (take-append-drop n fs)) (all k l c))) [
            | inl a ↦ keeps_number es s t (take n fs) e d rs rt o (all_take (MayLead es s t) n fs m) k c a
            | inr b ↦ absurd (begins_not es s t (drop n fs) e d rs rt o (all_drop (MayLead es s t) n fs m)
                (all_after s (drop n fs) d rs (go_drop n fs g) later) k c b)
          ];
    })
