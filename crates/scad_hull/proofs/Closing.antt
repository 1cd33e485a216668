-- Faces that differ, and have behind each of their sides one of them, are closed.
use Rattle.std.proofs.Common.{◌≡◌, ◌⊎◌, inl, inr, ℕ, zero, suc, ◌+◌, ◌<◌, ◌≤◌, Bool, true, false, cond, List, [], ◌∷◌, ◌++◌, length, get_or, refl, sym, ap, ap₂, ◌∙◌, arith, subst}
use lib.IntN.{ℤ, pos, ◌+ℤ◌}
use Rattle.std.specs.List.{AllByRecursion, flat_map}
use Rattle.std.specs.List.Sorted.{IsStrictlySortedBy}
use Rattle.std.proofs.lemmas.Int.{ints}
use Rattle.scad_geom.specs.declared.point3.Pt3.{Pt3}
use Rattle.scad_solid.specs.declared.side.Side.{Side}
use Rattle.scad_solid.specs.Side.{reversed, same_side}
use Rattle.scad_solid.specs.Surface.{sides, occurrences, is_closed}
use Rattle.scad_solid.specs.Solid.{fan, fans}
use Rattle.scad_solid.specs.Stack.{path, ring_sides}
use Rattle.scad_solid.proofs.Multiset.{times_in-cons}
use Rattle.scad_solid.proofs.SideOrder.{side_Decides}
use Rattle.scad_solid.proofs.ClosedSides.{is_closed-IsClosed}
use Rattle.scad_solid.proofs.Flow.{flow, flow-append, flow_round-append, fan-flow, turn_of, turn_of-reversed, turn_of-flow}
use Rattle.scad_hull.specs.Chain.{rest_of}
use Rattle.scad_hull.specs.Space.{space_cmp}
use Rattle.scad_hull.specs.Faces.{IsRing, GoesOn, GoesOnTo, In, HasBacks}
use Rattle.scad_hull.proofs.Fans.{Differ}
use Rattle.scad_hull.proofs.SameFaces.{one_side, ring_facts}

to : Pt3 → Pt3 → Side
to p q = record { from = p; to = q }

-- ---- how often a side stands in a list
more : (s t : Side) (ss : List Side) → occurrences s (t ∷ ss) ≡ cond (same_side s t) 1 0 + occurrences s ss
more s t ss = times_in-cons same_side side_Decides s t ss

no_more : (s : Side) → occurrences s [] ≡ 0
no_more s = refl

joined : (s : Side) (xs ys : List Side) → occurrences s (xs ++ ys) ≡ occurrences s xs + occurrences s ys
joined s [] ys = let e = no_more s in omega arith
joined s (x ∷ xs) ys =
    let e = more s x (xs ++ ys) in
    let f = more s x xs in
    let g = joined s xs ys in
    omega arith

none_or_some : (n : ℕ) → (n ≡ 0) ⊎ (0 < n)
none_or_some zero = inl refl
none_or_some (suc n) = inr (omega arith)

hit : (s t : Side) → s ≡ t → cond {A = ℕ} (same_side s t) 1 0 ≡ 1
hit s t e = ap {B = ℕ} (λ b. cond b 1 0) ((side_Decides s t).1 e)

miss : (s : Side) (x y : Pt3) → (s.from ≡ x → ⊥) → cond {A = ℕ} (same_side s (to x y)) 1 0 ≡ 0
unfolding to
miss s x y h = by_test (same_side s (to x y)) refl
  where
    by_test : (b : Bool) → same_side s (to x y) ≡ b → cond {A = ℕ} b 1 0 ≡ 0
    by_test false e = refl
    by_test true e = absurd (h (ap (λ (t : Side). t.from) ((side_Decides s (to x y)).0 e)))

-- ---- along the corners
not_from : (s : Side) (x : Pt3) (xs : List Pt3) (last : Pt3) → AllByRecursion (λ q. s.from ≡ q → ⊥) (x ∷ xs)
    → occurrences s (path x xs last) ≡ 0
unfolding to
not_from s x [] last h =
    let e = more s (to x last) [] in let f = miss s x last h.0 in let g = no_more s in omega arith
not_from s x (y ∷ ys) last h =
    let e = more s (to x y) (path y ys last) in
    let f = miss s x y h.0 in
    let g = not_from s y ys last h.1 in
    omega arith

at_most_one : (b : Bool) → cond {A = ℕ} b 1 0 ≤ 1
at_most_one true = omega arith
at_most_one false = omega arith

once_path : (s : Side) (x : Pt3) (xs : List Pt3) (last : Pt3) → Differ (x ∷ xs)
    → occurrences s (path x xs last) ≤ 1
unfolding to
once_path s x [] last d =
    let e = more s (to x last) [] in let f = at_most_one (same_side s (to x last)) in let g = no_more s in omega arith
once_path s x (y ∷ ys) last d = by_test (once_path s y ys last d.1) (same_side s (to x y)) refl
  where
    by_test : occurrences s (path y ys last) ≤ 1 → (b : Bool) → same_side s (to x y) ≡ b
        → occurrences s (path x (y ∷ ys) last) ≤ 1
    by_test later true e =
        let start : s.from ≡ x = ap (λ (t : Side). t.from) ((side_Decides s (to x y)).0 e) in
        let rest = not_from s y ys last (subst (λ z. AllByRecursion (λ q. z ≡ q → ⊥) (y ∷ ys)) (sym start) d.0) in
        let f = more s (to x y) (path y ys last) in
        let g = at_most_one (same_side s (to x y)) in
        omega arith
    by_test later false e =
        let f = more s (to x y) (path y ys last) in
        let g : cond {A = ℕ} (same_side s (to x y)) 1 0 ≡ 0 = ap {B = ℕ} (λ b. cond b 1 0) e in
        omega arith

once_ring : (s : Side) (ring : List Pt3) → Differ ring → occurrences s (ring_sides ring) ≤ 1
once_ring s [] d = let e = no_more s in omega arith
once_ring s (p ∷ ps) d = once_path s p ps p d

-- what a list with two more begins with
begun : (xs : List Pt3) (y z : Pt3) → (c : Pt3) × (after : List Pt3) × (xs ++ (y ∷ (z ∷ [])) ≡ c ∷ after)
begun [] y z = (y, z ∷ [], refl)
begun (x ∷ xs) y z = (x, xs ++ (y ∷ (z ∷ [])), refl)

-- three in turn in a way
abbrev InTurn : List Pt3 → Pt3 → Pt3 → Type 0
InTurn way a b = (c : Pt3) × (before : List Pt3) × (after : List Pt3)
    × (way ≡ before ++ (a ∷ (b ∷ (c ∷ after))))

in_path : (s : Side) (x : Pt3) (xs : List Pt3) (last z : Pt3) → 0 < occurrences s (path x xs last)
    → InTurn (x ∷ (xs ++ (last ∷ (z ∷ [])))) s.from s.to
unfolding to
in_path s x [] last z some = by_test (same_side s (to x last)) refl
  where
    by_test : (b : Bool) → same_side s (to x last) ≡ b → InTurn (x ∷ (last ∷ (z ∷ []))) s.from s.to
    by_test true e =
        let is = (side_Decides s (to x last)).0 e in
        (z, [], [], λ i. (sym is i).from ∷ ((sym is i).to ∷ (z ∷ [])))
    by_test false e =
        let f = more s (to x last) [] in
        let g : cond {A = ℕ} (same_side s (to x last)) 1 0 ≡ 0 = ap {B = ℕ} (λ b. cond b 1 0) e in
        let h = no_more s in
        absurd (omega arith)
in_path s x (y ∷ ys) last z some = by_test (in_path s y ys last z) (same_side s (to x y)) refl
  where
    by_test : (0 < occurrences s (path y ys last) → InTurn (y ∷ (ys ++ (last ∷ (z ∷ [])))) s.from s.to)
        → (b : Bool) → same_side s (to x y) ≡ b
        → InTurn (x ∷ (y ∷ (ys ++ (last ∷ (z ∷ []))))) s.from s.to
    by_test later true e =
        let is = (side_Decides s (to x y)).0 e in
        let next = begun ys last z in
        (next.0, [], next.1, λ i. (sym is i).from ∷ ((sym is i).to ∷ next.2 i))
    by_test later false e =
        let f = more s (to x y) (path y ys last) in
        let g : cond {A = ℕ} (same_side s (to x y)) 1 0 ≡ 0 = ap {B = ℕ} (λ b. cond b 1 0) e in
        let rest = later (omega arith) in
        (rest.0, x ∷ rest.1, rest.2, ap (λ ws. x ∷ ws) rest.3)

-- a side of a ring as three corners in turn
pub in_ring : (s : Side) (ring : List Pt3) → 3 ≤ length ring → 0 < occurrences s (ring_sides ring)
    → (c : Pt3) × GoesOnTo ring s.from s.to c
in_ring s [] long some = absurd (omega arith)
in_ring s (p ∷ []) long some = absurd (omega arith)
in_ring s (p ∷ (q ∷ ps)) long some =
    let t = in_path s p (q ∷ ps) p q some in
    (t.0, (t.1, t.2, t.3))

-- ---- two in turn as a side
too_short : (bs : List Pt3) (b a : Pt3) (after : List Pt3) (z : Pt3) → z ∷ [] ≡ bs ++ (b ∷ (a ∷ after))
    → ⊥
too_short [] b a after z e = short (length after) (ap length e)
  where
    short : (n : ℕ) → 1 ≡ suc (suc n) → ⊥
    short n f = omega arith
too_short (x ∷ bs) b a after z e = long bs (ap length e)
  where
    two : (xs : List Pt3) → 2 ≤ length (xs ++ (b ∷ (a ∷ after)))
    two [] = omega arith
    two (y ∷ ys) = let h = two ys in omega arith

    long : (xs : List Pt3) → 1 ≡ suc (length (xs ++ (b ∷ (a ∷ after)))) → ⊥
    long xs f = let h = two xs in omega arith

there_path : (b a x : Pt3) (xs : List Pt3) (last z : Pt3) (before after : List Pt3)
    → x ∷ (xs ++ (last ∷ (z ∷ []))) ≡ before ++ (b ∷ (a ∷ after))
    → (0 < occurrences (to b a) (path x xs last)) ⊎ ((b ≡ last) × (a ≡ z))
unfolding to
there_path b a x [] last z [] after e =
    let f = more (to b a) (to x last) [] in
    let g = hit (to b a) (to x last) (λ i. to (ap (λ l. get_or l 0 x) (sym e) i) (ap (λ l. get_or l 1 x) (sym e) i)) in
    inl (omega arith)
there_path b a x (y ∷ ys) last z [] after e =
    let f = more (to b a) (to x y) (path y ys last) in
    let g = hit (to b a) (to x y) (λ i. to (ap (λ l. get_or l 0 x) (sym e) i) (ap (λ l. get_or l 1 x) (sym e) i)) in
    inl (omega arith)
there_path b a x [] last z (w ∷ []) after e =
    inr (ap (λ l. get_or l 1 x) (sym e), ap (λ l. get_or l 2 x) (sym e))
there_path b a x [] last z (w ∷ (v ∷ bs)) after e =
    absurd (too_short bs b a after z (ap (λ l. rest_of (rest_of l)) e))
there_path b a x (y ∷ ys) last z (w ∷ bs) after e = on (there_path b a y ys last z bs after (ap rest_of e))
  where
    on : (0 < occurrences (to b a) (path y ys last)) ⊎ ((b ≡ last) × (a ≡ z))
        → (0 < occurrences (to b a) (path x (y ∷ ys) last)) ⊎ ((b ≡ last) × (a ≡ z))
    on (inl h) = let f = more (to b a) (to x y) (path y ys last) in inl (omega arith)
    on (inr h) = inr h

pub there_ring : (ring : List Pt3) (b a : Pt3) → 3 ≤ length ring → GoesOn ring b a
    → 0 < occurrences (record { from = b; to = a }) (ring_sides ring)
unfolding to
there_ring [] b a long on = absurd (omega arith)
there_ring (p ∷ []) b a long on = absurd (omega arith)
there_ring (p ∷ (q ∷ ps)) b a long on = by_place (there_path b a p (q ∷ ps) p q on.0 on.1 on.2)
  where
    by_place : (0 < occurrences (to b a) (path p (q ∷ ps) p)) ⊎ ((b ≡ p) × (a ≡ q))
        → 0 < occurrences (to b a) (path p (q ∷ ps) p)
    by_place (inl h) = h
    by_place (inr h) =
        let f = more (to b a) (to p q) (path q ps p) in
        let g = hit (to b a) (to p q) (λ i. to (h.0 i) (h.1 i)) in
        omega arith

-- ---- the sides of all faces
abbrev all_sides : List (List Pt3) → List Side
all_sides rings = flat_map ring_sides rings

at_ring : (s : Side) (rings : List (List Pt3)) → 0 < occurrences s (all_sides rings)
    → (ring : List Pt3) × In ring rings × (0 < occurrences s (ring_sides ring))
at_ring s [] some = let e = no_more s in absurd (omega arith)
at_ring s (r ∷ rs) some = elim (none_or_some (occurrences s (ring_sides r))) [
  | inr here ↦ (r, inl refl, here)
  | inl none ↦ (
      let e = joined s (ring_sides r) (all_sides rs) in
      let rest = at_ring s rs (omega arith) in
      (rest.0, inr rest.1, rest.2))
]

some_all : (s : Side) (rings : List (List Pt3)) (ring : List Pt3) → In ring rings
    → 0 < occurrences s (ring_sides ring) → 0 < occurrences s (all_sides rings)
some_all s [] ring i some = absurd i
some_all s (r ∷ rs) ring (inl e) some =
    let f = joined s (ring_sides r) (all_sides rs) in
    let g = ap (λ x. occurrences s (ring_sides x)) e in
    omega arith
some_all s (r ∷ rs) ring (inr i) some =
    let f = joined s (ring_sides r) (all_sides rs) in
    let g = some_all s rs ring i some in
    omega arith

pub of_in : {X : Type 0} (P : X → Type 0) (xs : List X) (x : X) → AllByRecursion P xs → In x xs → P x
of_in P [] x h i = absurd i
of_in P (y ∷ ys) x h (inl e) = subst P (sym e) h.0
of_in P (y ∷ ys) x h (inr i) = of_in P ys x h.1 i

module _ (ps : List Pt3) (sorted : IsStrictlySortedBy space_cmp ps) where
  once_all : (s : Side) (rings : List (List Pt3)) → AllByRecursion (IsRing ps) rings → Differ rings
      → occurrences s (all_sides rings) ≤ 1
  once_all s [] are d = let e = no_more s in omega arith
  once_all s (r ∷ rs) are d =
      elim (none_or_some (occurrences s (ring_sides r))) [
        | inl none ↦ (
            let e = joined s (ring_sides r) (all_sides rs) in
            let f = once_all s rs are.1 d.1 in
            omega arith)
        | inr here ↦ elim (none_or_some (occurrences s (all_sides rs))) [
          | inl none ↦ (
              let e = joined s (ring_sides r) (all_sides rs) in
              let f = once_ring s r (ring_facts ps sorted r are.0).2 in
              omega arith)
          | inr twice ↦ absurd (apart here (at_ring s rs twice))
        ]
      ]
    where
      apart : 0 < occurrences s (ring_sides r)
          → (ring : List Pt3) × In ring rs × (0 < occurrences s (ring_sides ring)) → ⊥
      apart here (q, i, there) =
          let is = of_in (IsRing ps) rs q are.1 i in
          let one = in_ring s r (ring_facts ps sorted r are.0).0 here in
          let two = in_ring s q (ring_facts ps sorted q is).0 there in
          of_in (λ x. r ≡ x → ⊥) rs q d.0 i (one_side ps sorted r q are.0 is s.from s.to one.0 two.0 one.1 two.1)

  module _ (rings : List (List Pt3)) (are : AllByRecursion (IsRing ps) rings) (d : Differ rings) (backs : HasBacks rings) where
    back_too : (s : Side) → 0 < occurrences s (all_sides rings) → 0 < occurrences (reversed s) (all_sides rings)
    back_too s some =
        let (r, i, here) = at_ring s rings some in
        let (c, on) = in_ring s r (ring_facts ps sorted r (of_in (IsRing ps) rings r are i)).0 here in
        let (q, j, back) = backs r i s.from s.to c on in
        some_all (reversed s) rings q j (there_ring q s.to s.from
        (ring_facts ps sorted q (of_in (IsRing ps) rings q are j)).0 back)

    as_often : (s : Side) → occurrences s (all_sides rings) ≡ occurrences (reversed s) (all_sides rings)
    as_often s =
        let one = once_all s rings are d in
        let other = once_all (reversed s) rings are d in
        elim (none_or_some (occurrences s (all_sides rings))) [
          | inr some ↦ (let back = back_too s some in omega arith)
          | inl none ↦ elim (none_or_some (occurrences (reversed s) (all_sides rings))) [
            | inr some ↦ (let back = back_too (reversed s) some in omega arith)
            | inl none_back ↦ omega arith
          ]
        ]

    fans_flow : (s : Side) (rs : List (List Pt3)) → flow (turn_of s) (turn_of-reversed s) (sides (fans rs))
        ≡ flow (turn_of s) (turn_of-reversed s) (all_sides rs)
    fans_flow s [] = refl
    fans_flow s (r ∷ rs) =
        flow_round-append (turn_of s) (turn_of-reversed s) (fan r) (fans rs)
        ∙ ap₂ (λ (x y : ℤ). x +ℤ y) (fan-flow (turn_of s) (turn_of-reversed s) r) (fans_flow s rs)
        ∙ sym (flow-append (turn_of s) (turn_of-reversed s) (ring_sides r) (all_sides rs))

    pub closed : is_closed (fans rings) ≡ true
    closed =
        is_closed-IsClosed (fans rings) (record {
          each = λ s. same (flow (turn_of s) (turn_of-reversed s) (sides (fans rings)))
              (flow (turn_of s) (turn_of-reversed s) (all_sides rings))
              (occurrences s (sides (fans rings))) (occurrences (reversed s) (sides (fans rings)))
              (occurrences s (all_sides rings)) (occurrences (reversed s) (all_sides rings))
              (fans_flow s rings) (turn_of-flow s (sides (fans rings))) (turn_of-flow s (all_sides rings)) (as_often s);
        })
      where
        same : (x y : ℤ) (m n k l : ℕ) → x ≡ y → x +ℤ pos n ≡ pos m → y +ℤ pos l ≡ pos k → k ≡ l
            → m ≡ n
        same x y m n k l e f g h = omega (arith, ints)
