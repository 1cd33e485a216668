-- The ring of two chains is the convex ring round the points, where these don't lie on one line.
use Rattle.std.proofs.Common.{◌≡◌, ◌⊎◌, inl, inr, ◌≤◌, List, [], ◌∷◌, ◌++◌, length, get_or, reverse, ℤ, pos, ◌-ℤ◌, refl, sym, ap, ap₂, ◌∙◌, arith, subst, append_assoc, suc, All}
use lib.Signed.{◌<ℤ◌, ◌≤ℤ◌}
use mathlib.Core.List.{reverse_aux}
use Rattle.std.specs.List.{AllByRecursion, Contains}
use Rattle.std.proofs.lemmas.Int.{ints, by_lt_z}
use Rattle.std.proofs.lemmas.Grind.{reverse_onto}
use Rattle.std.proofs.lemmas.List.{reverse-append, reverse-reverse}
use Rattle.std.proofs.lemmas.List.Elements.{All-from_recursion, All-contains_itself}
use Rattle.scad_hull.specs.Chain.{led, half, ring_round, rest_of}
use Rattle.scad_hull.specs.Ring.{round, IsRightOfNone, AllTurnLeft, StartsFirst, IsConvexRing}
use Rattle.scad_hull.proofs.Chains.{IsPlane, Under, Turns, Ascends, all_under, turns_whole, turns_on}
use Rattle.scad_hull.proofs.Rings.{EndsIn, final, EndSide, end_side, ends_final, final_all, all_turned, all_joined, turned_start, turn_more, turn_join, right_more, right_join, led_ends, led_top, led_all, turns_reversed, rights_reversed, turns_end, under_end, order_all, first_of, ascends_back}

pub recursion_of : {X : Type 0} (P : X → Type 0) (xs : List X) → All P xs → AllByRecursion P xs
recursion_of P [] h = tt
recursion_of P (x ∷ xs) h = (h 0 x (omega arith), recursion_of P xs (λ k d i. h (suc k) d (omega arith)))

weakened : {X : Type 0} {P Q : X → Type 0} → ((x : X) → P x → Q x) → (xs : List X) → AllByRecursion P xs
    → AllByRecursion Q xs
weakened f [] h = tt
weakened f (x ∷ xs) h = (f x h.0, weakened f xs h.1)

end_all : {X : Type 0} (P : X → Type 0) (behind : List X) (w z : X)
    → AllByRecursion P (behind ++ (w ∷ (z ∷ []))) → P w
end_all P [] w z h = h.0
end_all P (b ∷ behind) w z h = end_all P behind w z h.1

onto : {X : Type 0} (xs acc : List X) → reverse_aux xs acc ≡ reverse xs ++ acc
onto [] acc = refl
onto (x ∷ xs) acc = onto xs (x ∷ acc) ∙ sym (append_assoc (reverse xs) (x ∷ []) acc)
    ∙ ap (λ ys. ys ++ acc) (sym (onto xs (x ∷ [])))

-- what two overlapping ways begin with
two_first : {X : Type 0} (R : List X) (u M m w : X) (F T : List X) (v o : X) (G : List X)
    → R ++ (u ∷ (M ∷ [])) ≡ m
    ∷ (w ∷ F) → T ++ (v ∷ (m ∷ [])) ≡ M ∷ (o ∷ G)
    → (ks : List X) × ((R ++ (u ∷ [])) ++ (T ++ (v ∷ [])) ≡ m ∷ (w ∷ ks))
two_first [] u M m w F [] v o G e f = (
  [],
  ap₂ (λ x y. x ∷ (y ∷ [])) (ap (λ l. get_or l 0 u) e)
      (ap (λ l. get_or l 0 v) f ∙ ap (λ l. get_or l 1 M) e),
)
two_first [] u M m w F (y ∷ T) v o G e f = (
  T ++ (v ∷ []),
  ap₂ (λ x z. x ∷ (z ∷ (T ++ (v ∷ [])))) (ap (λ l. get_or l 0 u) e)
      (ap (λ l. get_or l 0 y) f ∙ ap (λ l. get_or l 1 M) e),
)
two_first (x ∷ []) u M m w F T v o G e f = (
  T ++ (v ∷ []),
  ap₂ (λ a b. a ∷ (b ∷ (T ++ (v ∷ [])))) (ap (λ l. get_or l 0 x) e)
      (ap (λ l. get_or l 1 u) e),
)
two_first (x ∷ (y ∷ R)) u M m w F T v o G e f = (
  (R ++ (u ∷ [])) ++ (T ++ (v ∷ [])),
  ap₂ (λ a b. a ∷ (b ∷ ((R ++ (u ∷ [])) ++ (T ++ (v ∷ [])))))
      (ap (λ l. get_or l 0 x) e) (ap (λ l. get_or l 1 y) e),
)

-- ---- corners
module _ {X : Type 0} (left : X → X → X → ℤ) (Before Same : X → X → Type 0) (plane : IsPlane left Before Same) where
  turned_zero : (s t : ℤ) → t ≡ pos 0 -ℤ s → s ≡ pos 0 → pos 0 ≤ℤ t
  turned_zero s t e h = omega (arith, ints)

  squeezed : (s t : ℤ) → t ≡ pos 0 -ℤ s → pos 0 ≤ℤ s → pos 0 ≤ℤ t → t ≡ pos 0
  squeezed s t e h k = omega (arith, ints)

  -- between the side from a to c and that from c to b: straight only where all points lie on one line
  pub strict : (c a b : X) → Before c a → Before c b → (points : List X)
      → AllByRecursion (λ q. (pos 0 ≤ℤ left a c q) × ((pos 0 ≤ℤ left c b q) × (Before c q ⊎ Same c q)))
      points
      → (AllByRecursion (λ q. left c a q ≡ pos 0) points → ⊥) → pos 0 ≤ℤ left a c b
      → pos 0 <ℤ left a c b
  strict c a b ca cb points each apart h =
      by_lt_z (pos 0) (left a c b) (λ k. k) (λ k. absurd (apart (weakened (on (level (left a c b) h k)) points each)))
    where
      level : (z : ℤ) → pos 0 ≤ℤ z → z ≤ℤ pos 0 → z ≡ pos 0
      level z h k = omega (arith, ints)

      on : left a c b ≡ pos 0 → (q : X) → ((pos 0 ≤ℤ left a c q)
          × ((pos 0 ≤ℤ left c b q) × (Before c q ⊎ Same c q)))
          → left c a q ≡ pos 0
      on flat q (x, (y, inl z)) =
          squeezed (left a c q) (left c a q) (plane.swapped a c q) x
          (plane.through c a q b ca z cb y (turned_zero (left a c b) (left c a b) (plane.swapped a c b) flat))
      on flat q (x, (y, inr z)) = plane.still c a q z

-- ---- the ring
module _ {X : Type 0} (left : X → X → X → ℤ) (Before After Same : X → X → Type 0) (plane : IsPlane left Before Same)
    (back : IsPlane left After Same)
    (opposite : (a b : X) → Before a b → After b a) (again : (a b : X) → After a b → Before b a) where
  module _ (points : List X) (apart : (a b : X) → Before a b → AllByRecursion (λ q. left a b q ≡ pos 0) points → ⊥)
      (m M u v : X) (s t : List X) where
    -- what is known of a point
    pub record IsKnown (q : X) : Type 0 where
      pub listed : Contains points q
      pub there : Under left Before Same plane q (M ∷ (u ∷ s))
      pub hither : Under left After Same back q (m ∷ (v ∷ t))
      pub first : Before m q ⊎ Same m q
      pub last : After M q ⊎ Same M q

    module _ (each : AllByRecursion IsKnown points) (turns : Turns left Before Same plane (M ∷ (u ∷ s)))
        (turns_back : Turns left After Same back (m ∷ (v ∷ t)))
        (ends : EndsIn m (M ∷ (u ∷ s))) (ends_back : EndsIn M (m ∷ (v ∷ t)))
        (known : AllByRecursion IsKnown (M ∷ (u ∷ s))) (known_back : AllByRecursion IsKnown (m ∷ (v ∷ t)))
        (out : EndSide m (M ∷ (u ∷ s))) (in_ : EndSide M (m ∷ (v ∷ t))) where
      abbrev w : X
      w = out.from

      abbrev o : X
      o = in_.from

      abbrev ring : List X
      ring = reverse (u ∷ s) ++ reverse (v ∷ t)

      m_before_w : Before m w
      m_before_w = turns_end left Before Same plane out.behind w m (subst (Turns left Before Same plane) out.is turns)

      o_behind_M : After M o
      o_behind_M = turns_end left After Same back in_.behind o M (subst (Turns left After Same back) in_.is turns_back)

      u_before_M : Before u M
      u_before_M = (order_all left Before Same plane M (u ∷ s) turns).0

      v_behind_m : After v m
      v_behind_m = (order_all left After Same back m (v ∷ t) turns_back).0

      known_w : IsKnown w
      known_w = end_all IsKnown out.behind w m (subst (AllByRecursion IsKnown) out.is known)

      known_o : IsKnown o
      known_o = end_all IsKnown in_.behind o M (subst (AllByRecursion IsKnown) in_.is known_back)

      over_w : (q : X) → IsKnown q → pos 0 ≤ℤ left m w q
      over_w q k = under_end left Before Same plane q out.behind w m
          (subst (Under left Before Same plane q) out.is k.there)

      over_o : (q : X) → IsKnown q → pos 0 ≤ℤ left M o q
      over_o q k = under_end left After Same back q in_.behind o M
          (subst (Under left After Same back q) in_.is k.hither)

      -- the two corners at which the chains meet
      last_corner : pos 0 <ℤ left u M o
      last_corner =
          strict left After Same back M u o (opposite u M u_before_M) o_behind_M points
          (weakened (λ q k. (k.there.0, (over_o q k, k.last))) points each)
          (λ line. apart u M u_before_M (weakened (λ q e. unturned (left u M q) (left M u q) (plane.swapped u M q) e)
          points line))
          known_o.there.0
        where
          unturned : (x y : ℤ) → y ≡ pos 0 -ℤ x → y ≡ pos 0 → x ≡ pos 0
          unturned x y e h = omega (arith, ints)

      first_corner : pos 0 <ℤ left v m w
      first_corner =
          strict left Before Same plane m v w (again v m v_behind_m) m_before_w points
          (weakened (λ q k. (k.hither.0, (over_w q k, k.first))) points each)
          (λ line. apart m v (again v m v_behind_m) line)
          known_w.hither.0

      -- the chains as lists
      there_end : reverse (M ∷ (u ∷ s)) ≡ reverse s ++ (u ∷ (M ∷ []))
      there_end = reverse_onto s u (M ∷ [])

      back_end : reverse (m ∷ (v ∷ t)) ≡ reverse t ++ (v ∷ (m ∷ []))
      back_end = reverse_onto t v (m ∷ [])

      there_start : reverse (M ∷ (u ∷ s)) ≡ m ∷ (w ∷ reverse out.behind)
      there_start = ap reverse out.is ∙ reverse-append out.behind (w ∷ (m ∷ []))

      back_start : reverse (m ∷ (v ∷ t)) ≡ M ∷ (o ∷ reverse in_.behind)
      back_start = ap reverse in_.is ∙ reverse-append in_.behind (o ∷ (M ∷ []))

      abbrev onwards : List X
      onwards = reverse in_.behind ++ (w ∷ [])

      -- the way back, and on to the ring's second corner
      back_on : reverse t ++ (v ∷ (m ∷ (w ∷ []))) ≡ M ∷ (o ∷ onwards)
      back_on = sym (append_assoc (reverse t) (v ∷ (m ∷ [])) (w ∷ []))
          ∙ ap (λ ys. ys ++ (w ∷ [])) (sym back_end ∙ back_start)

      abbrev way : List X
      way = reverse s ++ (u ∷ (M ∷ (o ∷ onwards)))

      way_is : ring ++ (m ∷ (w ∷ [])) ≡ way
      way_is =
          ap₂ (λ xs ys. (xs ++ ys) ++ (m ∷ (w ∷ []))) (reverse_onto s u []) (reverse_onto t v [])
          ∙ append_assoc (reverse s ++ (u ∷ [])) (reverse t ++ (v ∷ [])) (m ∷ (w ∷ []))
          ∙ append_assoc (reverse s) (u ∷ []) ((reverse t ++ (v ∷ [])) ++ (m ∷ (w ∷ [])))
          ∙ ap (λ ys. reverse s ++ (u ∷ ys)) (append_assoc (reverse t) (v ∷ []) (m ∷ (w ∷ [])) ∙ back_on)

      start : (ks : List X) × (ring ≡ m ∷ (w ∷ ks))
      start =
          let (ks, e) = two_first (reverse s) u M m w (reverse out.behind) (reverse t) v o (reverse in_.behind)
          (sym there_end ∙ there_start) (sym back_end ∙ back_start) in
          (ks, ap₂ (λ xs ys. xs ++ ys) (reverse_onto s u []) (reverse_onto t v []) ∙ e)

      round_is : round ring ≡ way
      round_is =
          let (ks, e) = start in
          ap round e ∙ ap (λ xs. xs ++ (m ∷ (w ∷ []))) (sym e) ∙ way_is

      all_turn : AllTurnLeft left (round ring)
      all_turn = subst (AllTurnLeft left) (sym round_is)
          (turn_join left (reverse s) u M (o ∷ onwards)
          (subst (AllTurnLeft left) there_end (turns_reversed left Before Same plane M (u ∷ s) turns)) (
            last_corner,
            subst (AllTurnLeft left) back_on
                (turn_more left (reverse t) v m w (subst (AllTurnLeft left) back_end
                (turns_reversed left After Same back m (v ∷ t) turns_back)) first_corner),
          ))

      all_hold : (q : X) → IsKnown q → IsRightOfNone left q (round ring)
      all_hold q k = subst (IsRightOfNone left q) (sym round_is)
          (subst (IsRightOfNone left q) (append_assoc (reverse s) (u ∷ []) (M ∷ (o ∷ onwards)))
          (right_join left q (reverse s ++ (u ∷ [])) M (o ∷ onwards)
          (subst (IsRightOfNone left q) (there_end ∙ sym (append_assoc (reverse s) (u ∷ []) (M ∷ [])))
          (rights_reversed left Before Same plane q M (u ∷ s) k.there))
          (subst (IsRightOfNone left q) (append_assoc (reverse t) (v ∷ []) (m ∷ (w ∷ [])) ∙ back_on)
          (right_more left q (reverse t ++ (v ∷ [])) m w
          (subst (IsRightOfNone left q) (back_end ∙ sym (append_assoc (reverse t) (v ∷ []) (m ∷ [])))
          (rights_reversed left After Same back q m (v ∷ t) k.hither))
          (over_w q k)))))

      starts : StartsFirst left Before ring
      starts =
          let later : AllByRecursion (Before m) (v ∷ t) = weakened (λ q h. again q m h) (v ∷ t)
          (order_all left After Same back m (v ∷ t) turns_back) in
          let (ys, e, h) = first_of left Before Same plane m u s (turns_on left Before Same plane M u s turns) ends
          (reverse (v ∷ t)) (all_turned (Before m) (v ∷ t) [] later tt) in
          subst (StartsFirst left Before) (sym e ∙ onto (u ∷ s) (reverse (v ∷ t)))
          (All-from_recursion (Before m) ys h)

      three : 3 ≤ length ring
      three =
          let (ks, e) = start in
          subst (λ xs. 3 ≤ length xs) (sym e) (more ks (subst (λ xs. AllTurnLeft left (round xs)) e all_turn))
        where
          none : (x y : ℤ) → y ≡ pos 0 -ℤ x → x ≡ pos 0 -ℤ x → pos 0 <ℤ y → ⊥
          none x y e f h = omega (arith, ints)

          more : (ks : List X) → AllTurnLeft left (round (m ∷ (w ∷ ks))) → 3 ≤ length (m ∷ (w ∷ ks))
          more [] turn = absurd (none (left m m w) (left m w m) (plane.turned m m w) (plane.swapped m m w) turn.0)
          more (k ∷ ks) turn = omega arith

      corners : AllByRecursion (Contains points) ring
      corners =
          let listed = λ (q : X) (k : IsKnown q). k.listed in
          all_joined (Contains points) (reverse (u ∷ s)) (reverse (v ∷ t))
          (all_turned (Contains points) (u ∷ s) [] (weakened listed (u ∷ s) known.1) tt)
          (all_turned (Contains points) (v ∷ t) [] (weakened listed (v ∷ t) known_back.1) tt)

      pub made : IsConvexRing left Before points ring
      made = record {
        three = three;
        corners = All-from_recursion (Contains points) ring corners;
        holds = All-from_recursion (λ q. IsRightOfNone left q (round ring)) points (weakened all_hold points each);
        turns = all_turn;
        starts = starts;
      }

  -- ---- points in order
  same_itself : (q : X) → Same q q
  same_itself q = elim (plane.either q q) [
    | inl h ↦ absurd (plane.once q q h h)
    | inr (inl e) ↦ e
    | inr (inr h) ↦ absurd (plane.once q q h h)
  ]

  both : (P Q : X → Type 0) (xs : List X) → AllByRecursion P xs → AllByRecursion Q xs
      → AllByRecursion (λ q. P q × Q q) xs
  both P Q [] h k = tt
  both P Q (x ∷ xs) h k = ((h.0, k.0), both P Q xs h.1 k.1)

  module _ (m p : X) (ps : List X) (ascends : Ascends left Before Same plane (m ∷ (p ∷ ps)))
      (apart : (a b : X) → Before a b → AllByRecursion (λ q. left a b q ≡ pos 0) (m ∷ (p ∷ ps)) → ⊥) where
    abbrev points : List X
    points = m ∷ (p ∷ ps)

    abbrev M : X
    M = final p ps

    different : M ≡ m → ⊥
    different e =
        let h : Before m m = subst (Before m) e (final_all (Before m) p ps ascends.0.0 ascends.0.1) in
        plane.once m m h h

    built : (qs s t : List X) → reverse points ≡ M ∷ qs → EndsIn m (M ∷ qs)
        → led left (m ∷ []) (p ∷ ps) ≡ M ∷ s → led left (M ∷ []) qs ≡ m ∷ t
        → IsConvexRing left Before points (ring_round left points)
    built qs [] t r e a b = absurd (different (subst (EndsIn m) a (led_ends left m (p ∷ ps) m [] refl)))
    built qs (u ∷ s) [] r e a b = absurd (different (sym (subst (EndsIn M) b (led_ends left M qs M [] refl))))
    built qs (u ∷ s) (v ∷ t) r e a b =
        subst (IsConvexRing left Before points) (sym ring_is)
        (made points apart m M u v s t each
        (subst (Turns left Before Same plane) a (turns_whole left Before Same plane m (p ∷ ps) ascends))
        (subst (Turns left After Same back) b (turns_whole left After Same back M qs ascends_too))
        ends ends_too
        (subst (AllByRecursion (IsKnown points apart m M u v s t)) a
        (led_all left (IsKnown points apart m M u v s t) (p ∷ ps) m [] (each.0, tt) each.1))
        (subst (AllByRecursion (IsKnown points apart m M u v s t)) b
        (led_all left (IsKnown points apart m M u v s t) qs M [] (each_back.0, tt) each_back.1))
        (end_side m M u s ends) (end_side M m v t ends_too))
      where
        ends : EndsIn m (M ∷ (u ∷ s))
        ends = subst (EndsIn m) a (led_ends left m (p ∷ ps) m [] refl)

        ends_too : EndsIn M (m ∷ (v ∷ t))
        ends_too = subst (EndsIn M) b (led_ends left M qs M [] refl)

        ascends_too : Ascends left After Same back (M ∷ qs)
        ascends_too = subst (Ascends left After Same back) r
            (ascends_back left Before Same plane After opposite back points [] ascends (none points) tt)
          where
            none : (xs : List X) → Unit {0}
            none xs = tt

        ring_is : ring_round left points ≡ reverse (u ∷ s) ++ reverse (v ∷ t)
        ring_is = ap₂ (λ xs ys. xs ++ ys) (ap (λ st. reverse (rest_of st)) a)
            (ap (half left) r ∙ ap (λ st. reverse (rest_of st)) b)

        to_points : (P : X → Type 0) → AllByRecursion P (M ∷ qs) → AllByRecursion P points
        to_points P h = subst (AllByRecursion P) (ap reverse (sym r) ∙ reverse-reverse points)
            (all_turned P (M ∷ qs) [] h tt)

        there : AllByRecursion (λ q. Under left Before Same plane q (M ∷ (u ∷ s))) points
        there = subst (λ st. AllByRecursion (λ q. Under left Before Same plane q st) points) a
            (all_under left Before Same plane m (p ∷ ps) ascends)

        hither : AllByRecursion (λ q. Under left After Same back q (m ∷ (v ∷ t))) points
        hither = to_points (λ q. Under left After Same back q (m ∷ (v ∷ t)))
            (subst (λ st. AllByRecursion (λ q. Under left After Same back q st) (M ∷ qs)) b
            (all_under left After Same back M qs ascends_too))

        first : AllByRecursion (λ q. Before m q ⊎ Same m q) points
        first = (inr (same_itself m), weakened (λ q h. inl h) (p ∷ ps) ascends.0)

        last : AllByRecursion (λ q. After M q ⊎ Same M q) points
        last = to_points (λ q. After M q ⊎ Same M q) (inr (same_itself M), weakened (λ q h. inl h) qs ascends_too.0)

        each : AllByRecursion (IsKnown points apart m M u v s t) points
        each = weakened (λ q h. record {
          listed = h.0;
          there = h.1.0;
          hither = h.1.1.0;
          first = h.1.1.1.0;
          last =
              h.1.1.1.1;
        }) points
            (both _ _ points (recursion_of (Contains points) points (All-contains_itself points))
            (both _ _ points there (both _ _ points hither (both _ _ points first last))))

        each_back : AllByRecursion (IsKnown points apart m M u v s t) (M ∷ qs)
        each_back = subst (AllByRecursion (IsKnown points apart m M u v s t)) r
            (all_turned (IsKnown points apart m M u v s t) points [] each tt)

    -- the ring of the chains there and back
    pub ring_made : IsConvexRing left Before points (ring_round left points)
    ring_made =
        let (qs, r, e) = turned_start m m (p ∷ ps) [] refl in
        let (s, a) = led_top left (p ∷ ps) m [] in
        let (t, b) = led_top left qs M [] in
        built qs s t r e a (b ∙ ap (λ x. x ∷ t) (ends_final m M qs e))
