-- Between two neighbouring heights the order of edges stays as it is.
use Rattle.std.proofs.Common.{◌≡◌, ℕ, zero, suc, ◌<◌, ◌⊎◌, inl, inr, Bool, true, false, List, [], ◌∷◌, ◌++◌, length, get_or, refl, sym, ap, ◌∙◌, arith, subst}
use Rattle.scad_base.proofs.Products.{negative_factor}
use lib.IntN.{ℤ, pos, negsuc, ◌+ℤ◌, ◌-ℤ◌, ◌*ℤ◌, zero-*ℤ}
use lib.Signed.{◌<ℤ◌, ◌≤ℤ◌}
use Rattle.std.specs.Prelude.{if◌then◌else◌}
use Rattle.std.specs.List.{AllByRecursion}
use Rattle.std.proofs.lemmas.Int.{ints, by_lt_z}
use Rattle.std.proofs.lemmas.List.Elements.{recursion_from_All}
use Rattle.scad_geom.specs.declared.point.Edge.{Edge}
use Rattle.scad_geom.specs.declared.level.Level.{Level}
use Rattle.scad_geom.specs.declared.level.LeafEdge.{LeafEdge}
use Rattle.scad_geom.specs.Line.{rise, run, x_at, lean, apart}
use Rattle.scad_geom.specs.Level.{level_of, IsLower, IsAtMost}
use Rattle.scad_geom.specs.Meeting.{meets, meeting}
use Rattle.scad_geom.specs.Heights.{meetings, heights, AreNeighbours}
use Rattle.scad_geom.specs.EdgeOrder.{IsBefore, AreAligned}
use Rattle.scad_geom.proofs.Ring.{ring, ◌⊕◌, ◌⊖◌, ◌⊗◌, v0, v1, v2, v3, v4, v5}
use Rattle.scad_base.proofs.Products.{positive_product, negative_product, zero_factor}
use Rattle.scad_geom.proofs.Signs.{at_least_mul, pos_left, at_most_mul}
use Rattle.scad_geom.proofs.Integers.{neg_mul}
use Rattle.scad_geom.proofs.Lines.{gap_is}
use Rattle.scad_geom.proofs.Heights.{Reaches, meeting_up, meets_between, meets_turned, meeting_is, meeting_turned, lower_then_at_most, at_most_then_lower}
use Rattle.scad_base.proofs.Integers.{at_most_of_less}

-- ---- what holds of every height holds of each end and each meeting
pub front : {A : Type 0} (P : A → Type 0) (xs ys : List A) → AllByRecursion P (xs ++ ys) → AllByRecursion P xs
front P [] ys h = tt
front P (x ∷ xs) ys h = (h.0, front P xs ys h.1)

pub back : {A : Type 0} (P : A → Type 0) (xs ys : List A) → AllByRecursion P (xs ++ ys) → AllByRecursion P ys
back P [] ys h = h
back P (x ∷ xs) ys h = back P xs ys h.1

met : (P : Level → Type 0) (e : Edge) (f : LeafEdge) (fs : List LeafEdge) → AllByRecursion P (meetings e (f ∷ fs))
    → meets e f.edge ≡ true → P (meeting e f.edge)
met P e f fs h m = (rw m at h).0

unmet : (P : Level → Type 0) (e : Edge) (f : LeafEdge) (fs : List LeafEdge) → AllByRecursion P (meetings e (f ∷ fs))
    → AllByRecursion P (meetings e fs)
unmet P e f fs = by_test (meets e f.edge)
  where
    by_test : (b : Bool) → AllByRecursion P (if b then meeting e f.edge ∷ meetings e fs else meetings e fs)
        → AllByRecursion P (meetings e fs)
    by_test true h = h.1
    by_test false h = h

met_at : (P : Level → Type 0) (e : Edge) (fs : List LeafEdge) (j : ℕ) (d : LeafEdge) → AllByRecursion P (meetings e fs)
    → j < length fs → meets e (get_or fs j d).edge ≡ true → P (meeting e (get_or fs j d).edge)
met_at P e [] j d h l m = absurd (omega arith)
met_at P e (f ∷ fs) zero d h l m = met P e f fs h m
met_at P e (f ∷ fs) (suc j) d h l m = met_at P e fs j d (unmet P e f fs h) (omega arith) m

pub all_meet : (P : Level → Type 0) (es : List LeafEdge) (i j : ℕ) (d : LeafEdge) → AllByRecursion P (heights es)
    → i < j → j < length es → meets (get_or es i d).edge (get_or es j d).edge ≡ true
    → P (meeting (get_or es i d).edge (get_or es j d).edge)
all_meet P [] i j d h o l m = absurd (omega arith)
all_meet P (e ∷ es) i zero d h o l m = absurd (omega arith)
all_meet P (e ∷ es) zero (suc j) d h o l m = met_at P e.edge es j d (front P (meetings e.edge es) (heights es) h.1.1)
    (omega arith) m
all_meet P (e ∷ es) (suc i) (suc j) d h o l m = all_meet P es i j d (back P (meetings e.edge es) (heights es) h.1.1)
    (omega arith) (omega arith) m

pub all_ends : (P : Level → Type 0) (es : List LeafEdge) (i : ℕ) (d : LeafEdge) → AllByRecursion P (heights es)
    → i < length es → P (level_of (get_or es i d).edge.a.y) × P (level_of (get_or es i d).edge.b.y)
all_ends P [] i d h l = absurd (omega arith)
all_ends P (e ∷ es) zero d h l = (h.0, h.1.0)
all_ends P (e ∷ es) (suc i) d h l = all_ends P es i d (back P (meetings e.edge es) (heights es) h.1.1) (omega arith)

-- ---- no two edges meet between neighbouring heights
pub apart_levels : (p q : Level) → IsLower p q → IsAtMost q p → ⊥
apart_levels p q h k = omega (arith, ints)

lean_self : (e : Edge) → pos 0 <ℤ lean e e → ⊥
unfolding lean
lean_self e h = omega (arith, ints)

pub no_meeting : (es : List LeafEdge) (l u : Level) → AreNeighbours es l u → (i j : ℕ) (d : LeafEdge) → i < length es
    → j < length es
    → Reaches (get_or es i d).edge l u → Reaches (get_or es j d).edge l u → pos 0 <ℤ lean (get_or es i d).edge
    (get_or es j d).edge
    → IsLower l (meeting_up (get_or es i d).edge (get_or es j d).edge)
    → IsLower (meeting_up (get_or es i d).edge (get_or es j d).edge) u → ⊥
no_meeting es l u n i j d li lj ri rj a h k =
    let e : Edge = (get_or es i d).edge in
    let f : Edge = (get_or es j d).edge in
    let m : meets e f ≡ true = meets_between e f l u n.lower_divisor n.upper_divisor ri rj a h k in
    let P : Level → Type 0 = λ g. IsAtMost g l ⊎ IsAtMost u g in
    let all : AllByRecursion P (heights es) = recursion_from_All P (heights es) n.between in
    let one : i < j → P (meeting_up e f) = λ o. subst P (meeting_is e f a) (all_meet P es i j d all o lj m) in
    let other : j < i → P (meeting_up e f) = λ o. subst P (meeting_turned e f a)
    (all_meet P es j i d all o li (meets_turned e f ∙ m)) in
    let same : i ≡ j → P (meeting_up e f) =
    λ o. absurd (lean_self e (subst (λ (k : ℕ). pos 0 <ℤ lean e (get_or es k d).edge) (sym o) a)) in
    elim (three i j one other same) [
      | inl c ↦ apart_levels l (meeting_up e f) h c
      | inr c ↦ apart_levels
          (meeting_up e f) u k c
    ]
  where
    three : {A : Type 0} (i j : ℕ) → (i < j → A) → (j < i → A) → (i ≡ j → A) → A
    three zero zero p q r = r refl
    three zero (suc j) p q r = p (omega arith)
    three (suc i) zero p q r = q (omega arith)
    three (suc i) (suc j) p q r = three i j (λ o. p (omega arith)) (λ o. q (omega arith)) (λ o. r (ap suc o))

climb : (a b n d m c : ℤ) → (a *ℤ n +ℤ b *ℤ d) *ℤ c ≡ (a *ℤ m +ℤ b *ℤ c) *ℤ d +ℤ a *ℤ (n *ℤ c -ℤ m *ℤ d)
climb a b n d m c = ring (a ∷ b ∷ n ∷ d ∷ m ∷ c ∷ []) ((v0 ⊗ v2 ⊕ v1 ⊗ v3) ⊗ v5) ((v0 ⊗ v4 ⊕ v1 ⊗ v5) ⊗ v3 ⊕ v0 ⊗
    (v2 ⊗ v5 ⊖ v4 ⊗ v3)) refl

factor : (a g : ℤ) → pos 0 ≤ℤ g → pos 0 <ℤ (a *ℤ g) → pos 0 <ℤ a
factor a (pos zero) h k = absurd (omega (arith, ints))
factor a (pos (suc m)) h k = pos_left a (pos (suc m)) (omega (arith, ints)) k
factor a (negsuc m) h k = absurd (omega (arith, ints))

-- a line that isn't above 0 at one height and is above 0 at a later one rises, and passes 0 between them
rises_between : (a b : ℤ) (p q : Level) → pos 0 <ℤ p.d → pos 0 <ℤ q.d → (a *ℤ p.n +ℤ b *ℤ p.d) ≤ℤ pos 0
    → pos 0 <ℤ (a *ℤ q.n +ℤ b *ℤ q.d) → IsAtMost p q → pos 0 <ℤ a
rises_between a b p q dp dq h k o =
    let i = climb a b q.n q.d p.n p.d in
    let s : pos 0 <ℤ ((a *ℤ q.n +ℤ b *ℤ q.d) *ℤ p.d) = positive_product _ _ k dp in
    let t : ((a *ℤ p.n +ℤ b *ℤ p.d) *ℤ q.d) ≤ℤ pos 0 = at_most_mul (a *ℤ p.n +ℤ b *ℤ p.d) q.d h
    (at_most_of_less (pos 0) q.d dq) in
    let w : pos 0 <ℤ (a *ℤ (q.n *ℤ p.d -ℤ p.n *ℤ q.d)) = omega (arith, ints) in
    let g : pos 0 ≤ℤ (q.n *ℤ p.d -ℤ p.n *ℤ q.d) = omega (arith, ints) in
    factor a (q.n *ℤ p.d -ℤ p.n *ℤ q.d) g w

-- the same where it is below 0 first and isn't below 0 later
rises_later : (a b : ℤ) (p q : Level) → pos 0 <ℤ p.d → pos 0 <ℤ q.d → (a *ℤ p.n +ℤ b *ℤ p.d) <ℤ pos 0
    → pos 0 ≤ℤ (a *ℤ q.n +ℤ b *ℤ q.d) → IsAtMost p q → pos 0 <ℤ a
rises_later a b p q dp dq h k o =
    let i = climb a b q.n q.d p.n p.d in
    let s : pos 0 ≤ℤ ((a *ℤ q.n +ℤ b *ℤ q.d) *ℤ p.d) = at_least_mul _ _ k (at_most_of_less (pos 0) p.d dp) in
    let t : ((a *ℤ p.n +ℤ b *ℤ p.d) *ℤ q.d) <ℤ pos 0 = negative_product (a *ℤ p.n +ℤ b *ℤ p.d) q.d dq h in
    let w : pos 0 <ℤ (a *ℤ (q.n *ℤ p.d -ℤ p.n *ℤ q.d)) = omega (arith, ints) in
    let g : pos 0 ≤ℤ (q.n *ℤ p.d -ℤ p.n *ℤ q.d) = omega (arith, ints) in
    factor a (q.n *ℤ p.d -ℤ p.n *ℤ q.d) g w

-- a line that is 0 at one height and falls is below 0 later
falls_later : (a b : ℤ) (p q : Level) → pos 0 <ℤ p.d → pos 0 <ℤ q.d → a *ℤ p.n +ℤ b *ℤ p.d ≡ pos 0 → a <ℤ pos 0
    → IsLower p q → (a *ℤ q.n +ℤ b *ℤ q.d) <ℤ pos 0
falls_later a b p q dp dq h k o =
    let i = climb a b q.n q.d p.n p.d in
    let g : pos 0 <ℤ (q.n *ℤ p.d -ℤ p.n *ℤ q.d) = omega (arith, ints) in
    let w : (a *ℤ (q.n *ℤ p.d -ℤ p.n *ℤ q.d)) <ℤ pos 0 = negative_product a (q.n *ℤ p.d -ℤ p.n *ℤ q.d) g k in
    let z : (a *ℤ p.n +ℤ b *ℤ p.d) *ℤ q.d ≡ pos 0 = rw h (zero-*ℤ q.d) in
    let v : ((a *ℤ q.n +ℤ b *ℤ q.d) *ℤ p.d) <ℤ pos 0 = omega (arith, ints) in
    negative_factor (a *ℤ q.n +ℤ b *ℤ q.d) p.d dp v

-- ---- the order of two edges that reach two neighbouring heights
lower_meeting : (e f : Edge) (l : Level) → (lean e f *ℤ l.n +ℤ apart e f *ℤ l.d) <ℤ pos 0 → IsLower l (meeting_up e f)
lower_meeting e f l h = let k = neg_mul (apart e f) l.d in rw k (omega (arith, ints))

meeting_at_most : (e f : Edge) (y : Level) → pos 0 ≤ℤ (lean e f *ℤ y.n +ℤ apart e f *ℤ y.d)
    → IsAtMost (meeting_up e f) y
meeting_at_most e f y h = let k = neg_mul (apart e f) y.d in rw k (omega (arith, ints))

meeting_below : (e f : Edge) (y : Level) → pos 0 <ℤ (lean e f *ℤ y.n +ℤ apart e f *ℤ y.d) → IsLower (meeting_up e f) y
meeting_below e f y h = let k = neg_mul (apart e f) y.d in rw k (omega (arith, ints))

lean_below : (e f : Edge) → (run e *ℤ rise f) <ℤ (run f *ℤ rise e) → lean e f <ℤ pos 0
unfolding lean
lean_below e f h = omega (arith, ints)

-- strictly between the two heights the first lies to the left
pub before_inside : (es : List LeafEdge) (l u : Level) → AreNeighbours es l u → (i j : ℕ) (d : LeafEdge) → i < length es
    → j < length es
    → Reaches (get_or es i d).edge l u → Reaches (get_or es j d).edge l u → IsBefore l (get_or es i d).edge
    (get_or es j d).edge
    → (y : Level) → pos 0 <ℤ y.d → IsLower l y → IsLower y u
    → (x_at (get_or es i d).edge y.n y.d *ℤ rise (get_or es j d).edge) <ℤ (x_at (get_or es j d).edge y.n y.d *ℤ rise
    (get_or es i d).edge)
before_inside es l u n i j d li lj ri rj o y dy a b =
    let e : Edge = (get_or es i d).edge in
    let f : Edge = (get_or es j d).edge in
    let gy = gap_is e f y.n y.d in
    let gl = gap_is e f l.n l.d in
    by_lt_z (lean e f *ℤ y.n +ℤ apart e f *ℤ y.d) (pos 0) (λ h. omega (arith, ints)) (λ h.
    elim o [
      | inl c ↦
          let k : (lean e f *ℤ l.n +ℤ apart e f *ℤ l.d) <ℤ pos 0 = omega (arith, ints) in
          let p : pos 0 <ℤ lean e f = rises_later (lean e f) (apart e f) l y n.lower_divisor dy k h
          (omega (arith, ints)) in
          let m : IsLower (meeting_up e f) u = at_most_then_lower (meeting_up e f) y u p dy n.upper_divisor
          (meeting_at_most e f y h) b in
          absurd (no_meeting es l u n i j d li lj ri rj p (lower_meeting e f l k) m)
      | inr c ↦
          let c0 = c.0 in
          let k : lean e f *ℤ l.n +ℤ apart e f *ℤ l.d ≡ pos 0 = omega (arith, ints) in
          let v = falls_later (lean e f) (apart e f) l y n.lower_divisor dy k (lean_below e f c.1) a in
          absurd (omega (arith, ints))
    ])

-- at the two heights and between them the first doesn't lie to the right
pub before_between : (es : List LeafEdge) (l u : Level) → AreNeighbours es l u → (i j : ℕ) (d : LeafEdge)
    → i < length es → j < length es
    → Reaches (get_or es i d).edge l u → Reaches (get_or es j d).edge l u → IsBefore l (get_or es i d).edge
    (get_or es j d).edge
    → (y : Level) → pos 0 <ℤ y.d → IsAtMost l y → IsAtMost y u
    → (x_at (get_or es i d).edge y.n y.d *ℤ rise (get_or es j d).edge) ≤ℤ (x_at (get_or es j d).edge y.n y.d *ℤ rise
    (get_or es i d).edge)
before_between es l u n i j d li lj ri rj o y dy a b =
    let e : Edge = (get_or es i d).edge in
    let f : Edge = (get_or es j d).edge in
    let gy = gap_is e f y.n y.d in
    let gl = gap_is e f l.n l.d in
    by_lt_z (pos 0) (lean e f *ℤ y.n +ℤ apart e f *ℤ y.d) (λ h.
    elim o [
      | inl c ↦
          let k : (lean e f *ℤ l.n +ℤ apart e f *ℤ l.d) <ℤ pos 0 = omega (arith, ints) in
          let p : pos 0 <ℤ lean e f = rises_between (lean e f) (apart e f) l y n.lower_divisor dy (omega (arith, ints))
          h a in
          let m : IsLower (meeting_up e f) u = lower_then_at_most (meeting_up e f) y u p dy n.upper_divisor
          (meeting_below e f y h) b in
          absurd (no_meeting es l u n i j d li lj ri rj p (lower_meeting e f l k) m)
      | inr c ↦
          let c0 = c.0 in
          let k : lean e f *ℤ l.n +ℤ apart e f *ℤ l.d ≡ pos 0 = omega (arith, ints) in
          let v = rises_between (lean e f) (apart e f) l y n.lower_divisor dy (omega (arith, ints)) h a in
          let w = lean_below e f c.1 in
          absurd (omega (arith, ints))
    ]) (λ h. omega (arith, ints))

-- two aligned lines lie at the same place at every height
pub aligned_all : (l : Level) → pos 0 <ℤ l.d → (e f : Edge) → AreAligned l e f → (n d : ℤ) → x_at e n d *ℤ rise f
    ≡ x_at f n d *ℤ rise e
unfolding lean
aligned_all l dl e f a n d =
    let gy = gap_is e f n d in
    let gl = gap_is e f l.n l.d in
    let a0 = a.0 in
    let a1 = a.1 in
    let z : lean e f ≡ pos 0 = omega (arith, ints) in
    let w : apart e f *ℤ l.d ≡ pos 0 = zero_then (lean e f) l.n (apart e f *ℤ l.d) z (omega (arith, ints)) in
    let v : apart e f ≡ pos 0 = zero_factor (apart e f) l.d dl w in
    let t : lean e f *ℤ n +ℤ apart e f *ℤ d ≡ pos 0 = both_zero (lean e f) (apart e f) n d z v in
    omega (arith, ints)
  where
    zero_then : (a n b : ℤ) → a ≡ pos 0 → a *ℤ n +ℤ b ≡ pos 0 → b ≡ pos 0
    zero_then a n b h k = let t : a *ℤ n ≡ pos 0 = rw h (zero-*ℤ n) in omega (arith, ints)

    both_zero : (a b n d : ℤ) → a ≡ pos 0 → b ≡ pos 0 → a *ℤ n +ℤ b *ℤ d ≡ pos 0
    both_zero a b n d h k = rw (h, k, zero-*ℤ n, zero-*ℤ d)
