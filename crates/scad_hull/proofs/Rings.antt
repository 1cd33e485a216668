-- Two chains, there and back, make the convex ring round their points.
use Rattle.std.proofs.Common.{◌≡◌, true, false, List, [], ◌∷◌, ◌++◌, reverse, ℤ, pos, ◌-ℤ◌, refl, sym, ap, arith, subst}
use lib.Signed.{◌<ℤ◌, ◌≤ℤ◌}
use mathlib.Core.List.{reverse_aux}
use Rattle.std.specs.Prelude.{int_lt, if◌then◌else◌}
use Rattle.std.specs.List.{AllByRecursion}
use Rattle.std.proofs.lemmas.Int.{ints, by_lt_z}
use Rattle.std.proofs.lemmas.Grind.{reverse_onto}
use Rattle.scad_hull.specs.Chain.{bent, led}
use Rattle.scad_hull.specs.Ring.{IsRightOfNone, AllTurnLeft}
use Rattle.scad_hull.proofs.Chains.{IsPlane, Under, Turns, Ascends, Ahead, each_first, each_rest, turns_on}

-- ---- lists
-- the last of the list
abbrev pub EndsIn : {X : Type 0} → X → List X → Type 0
EndsIn z [] = ⊥
EndsIn z (b ∷ []) = b ≡ z
EndsIn z (b ∷ (a ∷ rest)) = EndsIn z (a ∷ rest)

abbrev pub final : {X : Type 0} → X → List X → X
final b [] = b
final b (p ∷ ps) = final p ps

pub ends_final : {X : Type 0} (z b : X) (rest : List X) → EndsIn z (b ∷ rest) → final b rest ≡ z
ends_final z b [] h = h
ends_final z b (a ∷ rest) h = ends_final z a rest h

pub final_all : {X : Type 0} (P : X → Type 0) (b : X) (ps : List X) → P b → AllByRecursion P ps → P (final b ps)
final_all P b [] h a = h
final_all P b (p ∷ ps) h a = final_all P p ps a.0 a.1

pub all_turned : {X : Type 0} (P : X → Type 0) (xs acc : List X) → AllByRecursion P xs → AllByRecursion P acc
    → AllByRecursion P (reverse_aux xs acc)
all_turned P [] acc h k = k
all_turned P (x ∷ xs) acc h k = all_turned P xs (x ∷ acc) h.1 (h.0, k)

pub all_joined : {X : Type 0} (P : X → Type 0) (xs ys : List X) → AllByRecursion P xs → AllByRecursion P ys
    → AllByRecursion P (xs ++ ys)
all_joined P [] ys h k = k
all_joined P (x ∷ xs) ys h k = (h.0, all_joined P xs ys h.1 k)

-- a list turned round starts with its last
pub turned_start : {X : Type 0} (z b : X) (ps acc : List X) → EndsIn z (b ∷ acc) → (ys : List X)
    × (reverse_aux ps (b ∷ acc) ≡ final b ps ∷ ys) × EndsIn z (final b ps ∷ ys)
turned_start z b [] acc h = (acc, refl, h)
turned_start z b (p ∷ ps) acc h = turned_start z p ps (b ∷ acc) h

-- the side into the last
pub record EndSide {X : Type 0} (z : X) (stack : List X) : Type 0 where
  pub behind : List X
  pub from : X
  pub is : stack ≡ behind ++ (from ∷ (z ∷ []))

pub end_side : {X : Type 0} (z b a : X) (rest : List X) → EndsIn z (b ∷ (a ∷ rest))
    → EndSide z (b ∷ (a ∷ rest))
end_side z b a [] h = record { behind = []; from = b; is = ap (λ y. b ∷ (y ∷ [])) h }
end_side z b a (c ∷ rest) h =
    let side = end_side z a c rest h in
    record { behind = b ∷ side.behind; from = side.from; is = ap (λ ys. b ∷ ys) side.is }

-- ---- turns and sides
pub positive_turn : (s t : ℤ) → t ≡ pos 0 -ℤ s → pos 0 ≤ℤ s → (s ≡ pos 0 → ⊥) → pos 0 <ℤ s
positive_turn s t e h n = by_lt_z (pos 0) s (λ k. k) (λ k. absurd (n (omega (arith, ints))))

module _ {X : Type 0} (left : X → X → X → ℤ) where
  pub turn_more : (xs : List X) (c a b : X) → AllTurnLeft left (xs ++ (c ∷ (a ∷ []))) → pos 0 <ℤ left c a b
      → AllTurnLeft left (xs ++ (c ∷ (a ∷ (b ∷ []))))
  turn_more [] c a b t h = (h, tt)
  turn_more (x ∷ []) c a b t h = (t.0, (h, tt))
  turn_more (x ∷ (y ∷ [])) c a b t h = (t.0, (t.1.0, (h, tt)))
  turn_more (x ∷ (y ∷ (z ∷ xs))) c a b t h = (t.0, turn_more (y ∷ (z ∷ xs)) c a b t.1 h)

  pub turn_join : (xs : List X) (a b : X) (ys : List X) → AllTurnLeft left (xs ++ (a ∷ (b ∷ [])))
      → AllTurnLeft left (a ∷ (b ∷ ys)) → AllTurnLeft left (xs ++ (a ∷ (b ∷ ys)))
  turn_join [] a b ys t u = u
  turn_join (x ∷ []) a b ys t u = (t.0, u)
  turn_join (x ∷ (y ∷ [])) a b ys t u = (t.0, (t.1.0, u))
  turn_join (x ∷ (y ∷ (z ∷ xs))) a b ys t u = (t.0, turn_join (y ∷ (z ∷ xs)) a b ys t.1 u)

  pub right_more : (q : X) (xs : List X) (a b : X) → IsRightOfNone left q (xs ++ (a ∷ []))
      → pos 0 ≤ℤ left a b q → IsRightOfNone left q (xs ++ (a ∷ (b ∷ [])))
  right_more q [] a b r h = (h, tt)
  right_more q (x ∷ []) a b r h = (r.0, (h, tt))
  right_more q (x ∷ (y ∷ xs)) a b r h = (r.0, right_more q (y ∷ xs) a b r.1 h)

  pub right_join : (q : X) (xs : List X) (m : X) (ys : List X) → IsRightOfNone left q (xs ++ (m ∷ []))
      → IsRightOfNone left q (m ∷ ys) → IsRightOfNone left q (xs ++ (m ∷ ys))
  right_join q [] m ys r s = s
  right_join q (x ∷ []) m ys r s = (r.0, s)
  right_join q (x ∷ (y ∷ xs)) m ys r s = (r.0, right_join q (y ∷ xs) m ys r.1 s)

  -- ---- chains
  bent_ends : (p z b : X) (rest : List X) → EndsIn z (b ∷ rest) → EndsIn z (bent left p (b ∷ rest))
  bent_ends p z b [] h = h
  bent_ends p z b (a ∷ rest) h =
      elim (int_lt (pos 0) (left a b p)) as (λ test. EndsIn z
      (if test then b ∷ (a ∷ rest) else bent left p (a ∷ rest))) [
        | true ↦ h
        | false ↦ bent_ends p z a rest h
      ]

  onto_ends : (p z : X) (stack : List X) → EndsIn z stack → EndsIn z (p ∷ stack)
  onto_ends p z (b ∷ rest) h = h
  onto_ends p z [] h = absurd h

  pub led_ends : (z : X) (ps : List X) (b : X) (rest : List X) → EndsIn z (b ∷ rest)
      → EndsIn z (led left (b ∷ rest) ps)
  led_ends z [] b rest h = h
  led_ends z (p ∷ ps) b rest h = led_ends z ps p (bent left p (b ∷ rest))
      (onto_ends p z (bent left p (b ∷ rest)) (bent_ends p z b rest h))

  pub led_top : (ps : List X) (b : X) (rest : List X)
      → (s : List X) × (led left (b ∷ rest) ps ≡ final b ps ∷ s)
  led_top [] b rest = (rest, refl)
  led_top (p ∷ ps) b rest = led_top ps p (bent left p (b ∷ rest))

  bent_all : (P : X → Type 0) (p b : X) (rest : List X) → AllByRecursion P (b ∷ rest)
      → AllByRecursion P (bent left p (b ∷ rest))
  bent_all P p b [] h = h
  bent_all P p b (a ∷ rest) h =
      elim (int_lt (pos 0) (left a b p)) as (λ test. AllByRecursion P
      (if test then b ∷ (a ∷ rest) else bent left p (a ∷ rest))) [
        | true ↦ h
        | false ↦ bent_all P p a rest h.1
      ]

  pub led_all : (P : X → Type 0) (ps : List X) (b : X) (rest : List X) → AllByRecursion P (b ∷ rest)
      → AllByRecursion P ps → AllByRecursion P (led left (b ∷ rest) ps)
  led_all P [] b rest h k = h
  led_all P (p ∷ ps) b rest h k = led_all P ps p (bent left p (b ∷ rest)) (k.0, bent_all P p b rest h) k.1

  module _ (Before Same : X → X → Type 0) (plane : IsPlane left Before Same) where
    pub turns_reversed : (b : X) (rest : List X) → Turns left Before Same plane (b ∷ rest)
        → AllTurnLeft left (reverse (b ∷ rest))
    turns_reversed b [] t = tt
    turns_reversed b (a ∷ []) t = tt
    turns_reversed b (a ∷ (c ∷ rest)) t =
        subst (AllTurnLeft left) (sym (reverse_onto rest c (a ∷ (b ∷ []))))
        (turn_more (reverse rest) c a b (subst (AllTurnLeft left) (reverse_onto rest c (a ∷ []))
        (turns_reversed a (c ∷ rest) t.1.1)) t.1.0)

    pub rights_reversed : (q b : X) (rest : List X) → Under left Before Same plane q (b ∷ rest)
        → IsRightOfNone left q (reverse (b ∷ rest))
    rights_reversed q b [] u = tt
    rights_reversed q b (a ∷ rest) u =
        subst (IsRightOfNone left q) (sym (reverse_onto rest a (b ∷ [])))
        (right_more q (reverse rest) a b (subst (IsRightOfNone left q) (reverse_onto rest a [])
        (rights_reversed q a rest u.1)) u.0)

    pub turns_end : (behind : List X) (w z : X) → Turns left Before Same plane (behind ++ (w ∷ (z ∷ [])))
        → Before z w
    turns_end [] w z t = t
    turns_end (b ∷ []) w z t = t.1.1
    turns_end (b ∷ (a ∷ behind)) w z t = turns_end (a ∷ behind) w z
        (turns_on left Before Same plane b a (behind ++ (w ∷ (z ∷ []))) t)

    pub under_end : (q : X) (behind : List X) (w z : X)
        → Under left Before Same plane q (behind ++ (w ∷ (z ∷ []))) → pos 0 ≤ℤ left z w q
    under_end q [] w z u = u.0
    under_end q (b ∷ []) w z u = u.1.0
    under_end q (b ∷ (a ∷ behind)) w z u = under_end q (a ∷ behind) w z u.1

    -- all below the top come before it
    pub order_all : (b : X) (rest : List X) → Turns left Before Same plane (b ∷ rest)
        → AllByRecursion (λ a. Before a b) rest
    order_all b [] t = tt
    order_all b (a ∷ []) t = (t, tt)
    order_all b (a ∷ (c ∷ rest)) t = (t.0, lower (c ∷ rest) (order_all a (c ∷ rest) t.1.1))
      where
        lower : (xs : List X) → AllByRecursion (λ x. Before x a) xs → AllByRecursion (λ x. Before x b) xs
        lower [] h = tt
        lower (x ∷ xs) h = (plane.later x a b h.0 t.0, lower xs h.1)

    -- the first comes before all others
    pub first_of : (z b : X) (rest : List X) → Turns left Before Same plane (b ∷ rest) → EndsIn z (b ∷ rest)
        → (acc : List X) → AllByRecursion (Before z) acc
        → (ys : List X) × (reverse_aux (b ∷ rest) acc ≡ z ∷ ys)
        × AllByRecursion (Before z) ys
    first_of z b [] t e acc h = (acc, ap (λ x. x ∷ acc) e, h)
    first_of z b (a ∷ rest) t e acc h =
        first_of z a rest (turns_on left Before Same plane b a rest t) e (b ∷ acc)
        (end_before z (a ∷ rest) e (order_all b (a ∷ rest) t), h)
      where
        end_before : (z : X) (xs : List X) → EndsIn z xs → AllByRecursion (λ x. Before x b) xs → Before z b
        end_before z (x ∷ []) e h = subst (λ y. Before y b) e h.0
        end_before z (x ∷ (y ∷ xs)) e h = end_before z (y ∷ xs) e h.1
        end_before z [] e h = absurd e

    -- the points in the opposite order
    module _ (After : X → X → Type 0) (opposite : (a b : X) → Before a b → After b a)
        (back : IsPlane left After Same) where
      pub ascends_back : (xs acc : List X) → Ascends left Before Same plane xs → Ahead left Before Same plane xs acc
          → Ascends left After Same back acc → Ascends left After Same back (reverse_aux xs acc)
      ascends_back [] acc a h k = k
      ascends_back (x ∷ xs) acc a h k =
          ascends_back xs (x ∷ acc) a.1 (a.0, each_rest left Before Same plane x xs acc h)
          (turned acc (each_first left Before Same plane x xs acc h), k)
        where
          turned : (ys : List X) → AllByRecursion (λ s. Before s x) ys → AllByRecursion (After x) ys
          turned [] h = tt
          turned (y ∷ ys) h = (opposite y x h.0, turned ys h.1)
