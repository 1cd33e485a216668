-- One more face among those that were found; and when each side has one behind it.
use Rattle.std.proofs.Common.{◌≡◌, ◌⊎◌, inl, inr, true, ℕ, zero, suc, ◌+◌, ◌<◌, ◌≤◌, List, [], ◌∷◌, ◌++◌, length, get_or, refl, sym, ap, ap₂, ◌∙◌, arith, subst, Result, Ok, Err}
use Rattle.std.specs.Prelude.{OnOk}
use Rattle.std.specs.List.{AllByRecursion, flat_map, list_any}
use Rattle.std.specs.Ordering.{is_eq}
use Rattle.std.specs.declared.cmp.Ordering.{Ordering}
use Rattle.std.specs.declared.cmp.Ordering.TheVariants.{Less, Equal, Greater}
use Rattle.std.proofs.lemmas.List.Elements.{All-from_recursion, All-contains}
use Rattle.scad_solid.proofs.SideOrder.{side_exact}
use Rattle.scad_hull.proofs.FirstFaces.{some_of}
use Rattle.std.specs.List.Sorted.{IsStrictlySortedBy}
use Rattle.std.proofs.lemmas.Grind.{flat_map-append}
use Rattle.std.proofs.lemmas.List.{append-nil}
use Rattle.scad_geom.specs.declared.point3.Pt3.{Pt3}
use Rattle.scad_solid.specs.declared.side.Side.{Side}
use Rattle.scad_solid.specs.Stack.{path, ring_sides}
use Rattle.scad_hull.specs.declared.faces.Face.{Face}
use Rattle.scad_hull.specs.declared.wrapping.Bend.{Bend}
use Rattle.scad_hull.specs.Distinct.{with_all}
use Rattle.scad_hull.specs.Ring.{round}
use Rattle.scad_hull.specs.Space.{space_cmp}
use Rattle.scad_hull.specs.Faces.{IsRing, IsFaceOf, IsSideOf, GoesOn, In, HasBacks}
use Rattle.scad_hull.specs.Wrapping.{rings_of, bends_of, side_cmp, HasSide, HasBack, Extends, IsFound, IsWrapped}
use Rattle.scad_hull.proofs.Closing.{of_in}
use Rattle.scad_hull.proofs.Distincts.{all_keeps}
use Rattle.scad_hull.proofs.FacePlanes.{all_changed}
use Rattle.scad_hull.proofs.Rings.{all_joined}
use Rattle.scad_hull.proofs.SameFaces.{side_of}

-- ---- lists
pub in_left : {X : Type 0} (x : X) (xs ys : List X) → In x xs → In x (xs ++ ys)
in_left x [] ys i = absurd i
in_left x (z ∷ zs) ys (inl e) = inl e
in_left x (z ∷ zs) ys (inr i) = inr (in_left x zs ys i)

pub in_right : {X : Type 0} (x : X) (xs ys : List X) → In x ys → In x (xs ++ ys)
in_right x [] ys i = i
in_right x (z ∷ zs) ys i = inr (in_right x zs ys i)

in_either : {X : Type 0} (x : X) (xs ys : List X) → In x (xs ++ ys) → In x xs ⊎ In x ys
in_either x [] ys i = inr i
in_either x (z ∷ zs) ys (inl e) = inl (inl e)
in_either x (z ∷ zs) ys (inr i) = on (in_either x zs ys i)
  where
    on : In x zs ⊎ In x ys → In x (z ∷ zs) ⊎ In x ys
    on (inl j) = inl (inr j)
    on (inr j) = inr j

in_parts : {X Y : Type 0} (f : X → List Y) (y : Y) (x : X) (xs : List X) → In x xs → In y (f x)
    → In y (flat_map f xs)
in_parts f y x [] i j = absurd i
in_parts f y x (z ∷ zs) (inl e) j = in_left y (f z) (flat_map f zs) (subst (λ w. In y (f w)) e j)
in_parts f y x (z ∷ zs) (inr i) j = in_right y (f z) (flat_map f zs) (in_parts f y x zs i j)

part_of : {X Y : Type 0} (f : X → List Y) (y : Y) (xs : List X) → In y (flat_map f xs)
    → (x : X) × In x xs × In y (f x)
part_of f y [] i = absurd i
part_of {X = X} f y (x ∷ xs) i = on (part_of f y xs) (in_either y (f x) (flat_map f xs) i)
  where
    on : (In y (flat_map f xs) → (z : X) × In z xs × In y (f z)) → In y (f x) ⊎ In y (flat_map f xs)
        → (z : X) × In z (x ∷ xs) × In y (f z)
    on later (inl j) = (x, inl refl, j)
    on later (inr j) = let r = later j in (r.0, inr r.1, r.2)

at_place : {X : Type 0} (xs : List X) (k : ℕ) (d : X) → k < length xs → In (get_or xs k d) xs
at_place [] k d h = absurd (omega arith)
at_place (x ∷ xs) zero d h = inl refl
at_place (x ∷ xs) (suc k) d h = inr (at_place xs k d (omega arith))

place_in : {X : Type 0} (x : X) (xs : List X) → In x xs → (k : ℕ) × (k < length xs) × (get_or xs k x ≡ x)
place_in x [] i = absurd i
place_in x (y ∷ ys) (inl e) = (0, omega arith, sym e)
place_in x (y ∷ ys) (inr i) = let r = place_in x ys i in let l = r.1 in (suc r.0, omega arith, r.2)

-- ---- bends
-- three in turn are a bend, and the other way round
bend_in : (way : List Pt3) (a b c : Pt3) (before after : List Pt3) → way ≡ before ++ (a ∷ (b ∷ (c ∷ after)))
    → In (record { from = a; at = b; to = c }) (bends_of way)
bend_in way a b c before after e = subst (λ w. In (record { from = a; at = b; to = c }) (bends_of w)) (sym e)
    (there before)
  where
    there : (before : List Pt3) → In (record { from = a; at = b; to = c })
        (bends_of (before ++ (a ∷ (b ∷ (c ∷ after)))))
    there [] = inl refl
    there (x ∷ []) = inr (inl refl)
    there (x ∷ (y ∷ [])) = inr (inr (inl refl))
    there (x ∷ (y ∷ (z ∷ ws))) = inr (there (y ∷ (z ∷ ws)))

turn_in : (way : List Pt3) (d : Bend) → In d (bends_of way)
    → (before : List Pt3) × (after : List Pt3) × (way ≡ before ++ (d.from ∷ (d.at ∷ (d.to ∷ after))))
turn_in [] d i = absurd i
turn_in (a ∷ []) d i = absurd i
turn_in (a ∷ (b ∷ [])) d i = absurd i
turn_in (a ∷ (b ∷ (c ∷ way))) d (inl e)
    = ([], way, λ i. (sym e i).from ∷ ((sym e i).at ∷ ((sym e i).to ∷ way)))
turn_in (a ∷ (b ∷ (c ∷ way))) d (inr i) =
    let r = turn_in (b ∷ (c ∷ way)) d i in
    (a ∷ r.0, r.1, ap (λ ws. a ∷ ws) r.2)

-- ---- sides
abbrev On : List Pt3 → Pt3 → Pt3 → Type 0
On way a b = (before : List Pt3) × (after : List Pt3) × (way ≡ before ++ (a ∷ (b ∷ after)))

path_on : (x : Pt3) (xs : List Pt3) (last : Pt3) (more : List Pt3)
    → AllByRecursion (λ s. On (x ∷ (xs ++ (last ∷ more))) s.from s.to) (path x xs last)
path_on x [] last more = (([], more, refl), tt)
path_on x (y ∷ ys) last more = (
  ([], ys ++ (last ∷ more), refl),
  all_changed (λ s o. (x ∷ o.0, o.1, ap (λ ws. x ∷ ws) o.2)) (path y ys last) (path_on y ys last more),
)

sides_on : (ring : List Pt3) → AllByRecursion (λ s. GoesOn ring s.from s.to) (ring_sides ring)
sides_on [] = tt
sides_on (p ∷ []) = (([], [], refl), tt)
sides_on (p ∷ (q ∷ ps)) = path_on p (q ∷ ps) p (q ∷ [])

-- ---- one more face
pub ring_is : (ps : List Pt3) (f : Face) → IsFaceOf ps f → IsRing ps f.ring.items
ring_is ps f h = record { base = h.base; normal = f.normal; plane = h.plane; is = h.ring }

pub rings_more : (fs gs : List Face) → rings_of (fs ++ gs) ≡ rings_of fs ++ rings_of gs
rings_more [] gs = refl
rings_more (f ∷ fs) gs = ap (λ rs. f.ring.items ∷ rs) (rings_more fs gs)

module _ (ps : List Pt3) where
  pub none_found : IsFound ps [] [] []
  none_found = record { faces = tt; bends = refl; sides = tt }

  pub none_at : (fs : List Face) (bs : List Bend) (keys : List Side) → fs ≡ [] → bs ≡ [] → keys ≡ []
      → IsFound ps (rings_of fs) bs keys
  none_at fs bs keys ef eb ek =
      subst (λ xs. IsFound ps (rings_of xs) bs keys) (sym ef)
      (subst (λ xs. IsFound ps [] xs keys) (sym eb) (subst (λ xs. IsFound ps [] [] xs) (sym ek) none_found))

  pub one_found : (rings : List (List Pt3)) (bends : List Bend) (keys : List Side) (r : List Pt3)
      → IsFound ps rings bends keys → IsRing ps r
      → IsFound ps (rings ++ (r ∷ [])) (bends ++ bends_of (round r)) (with_all side_cmp keys (ring_sides r))
  one_found rings bends keys r found is = record {
    faces = all_joined (IsRing ps) rings (r ∷ []) found.faces (is, tt);
    bends = ap₂ (λ xs ys. xs ++ ys) found.bends (sym (append-nil (bends_of (round r))))
        ∙ sym (flat_map-append (λ ring. bends_of (round ring)) rings (r ∷ []));
    sides = all_keeps side_cmp (λ s. HasSide (rings ++ (r ∷ [])) s.from s.to) keys (ring_sides r)
        (all_changed (λ s h. (h.0, in_left h.0 rings (r ∷ []) h.1, h.2)) keys found.sides)
        (all_changed (λ s h. (r, in_right r rings (r ∷ []) (inl refl), h)) (ring_sides r) (sides_on r));
  }

  pub more_back : (rings more : List (List Pt3)) (bend : Bend) → HasBack rings bend → HasBack (rings ++ more) bend
  more_back rings more bend h = (h.0, in_left h.0 rings more h.1, h.2)

  module _ (sorted : IsStrictlySortedBy space_cmp ps) (rings : List (List Pt3)) (bends : List Bend) (keys : List Side)
      (found : IsFound ps rings bends keys) where
    pub bend_side : (k : ℕ) (d : Bend) → k < length bends → d ≡ get_or bends k d
        → IsSideOf ps d.from d.at d.to
    bend_side k d h e =
        let i : In d bends = subst (λ b. In b bends) (sym e) (at_place bends k d h) in
        let p = part_of (λ ring. bends_of (round ring)) d rings (subst (In d) found.bends i) in
        let t = turn_in (round p.0) d p.2 in
        (side_of ps sorted p.0 (of_in (IsRing ps) rings p.0 found.faces p.1) d.from d.at d.to t).side

    pub wrapped : ((k : ℕ) (d : Bend) → k < length bends → HasBack rings (get_or bends k d))
        → (first : List Pt3) → In first rings → IsWrapped ps rings
    wrapped all first i = record { faces = found.faces; backs = backs; first = first; has_first = i }
      where
        backs : HasBacks rings
        backs ring j a b c on =
            let d : Bend = record { from = a; at = b; to = c } in
            let there : In d bends = subst (In d) (sym found.bends)
            (in_parts (λ r. bends_of (round r)) d ring rings j (bend_in (round ring) a b c on.0 on.1 on.2)) in
            let p = place_in d bends there in
            subst (HasBack rings) p.2 (all p.0 d p.1)

-- ---- as the code tells it
is_equal : (o : Ordering) → is_eq o ≡ true → o ≡ Equal
is_equal Less e = cc
is_equal Equal e = refl
is_equal Greater e = cc

pub key_had : (keys : List Side) (s : Side) (P : Side → Type 0) → AllByRecursion P keys
    → list_any (λ k. is_eq (side_cmp s k)) keys ≡ true → P s
key_had keys s P h e =
    let found = some_of (λ k. is_eq (side_cmp s k)) keys e in
    subst P (sym (side_exact s found.0 (is_equal (side_cmp s found.0) found.2)))
    (All-contains P keys found.0 (All-from_recursion P keys h) found.1)

module _ (ps : List Pt3) (fs gs : List Face) (bs ds : List Bend) (keys ks : List Side) (f : Face) where
  pub added : IsFound ps (rings_of fs) bs keys → IsFaceOf ps f → gs ≡ fs ++ (f ∷ [])
      → ds ≡ bs ++ bends_of (round f.ring.items)
      → ks ≡ with_all side_cmp keys (ring_sides f.ring.items) → IsFound ps (rings_of gs) ds ks
  added found is eg ed ek =
      subst (λ rs. IsFound ps rs ds ks) (sym (ap rings_of eg ∙ rings_more fs (f ∷ [])))
      (subst (λ xs. IsFound ps (rings_of fs ++ (f.ring.items ∷ [])) xs ks) (sym ed)
      (subst (λ xs. IsFound ps (rings_of fs ++ (f.ring.items ∷ [])) (bs ++ bends_of (round f.ring.items)) xs)
      (sym ek)
      (one_found ps (rings_of fs) bs keys f.ring.items found (ring_is ps f is))))

pub extended : (fs gs : List Face) (f : Face) → gs ≡ fs ++ (f ∷ []) → Extends (rings_of fs) (rings_of gs)
extended fs gs f e = (f.ring.items ∷ [], ap rings_of e ∙ rings_more fs (f ∷ []))

pub back_added : (fs gs : List Face) (f : Face) (a b : Pt3) → gs ≡ fs ++ (f ∷ []) → GoesOn f.ring.items a b
    → HasSide (rings_of gs) a b
back_added fs gs f a b e on = (
  f.ring.items,
  subst (In f.ring.items) (sym (ap rings_of e ∙ rings_more fs (f ∷ [])))
      (in_right f.ring.items (rings_of fs) (f.ring.items ∷ []) (inl refl)),
  on,
)

pub extends_itself : {X : Type 0} (xs : List X) → Extends xs xs
extends_itself xs = ([], sym (append-nil xs))

-- what lies behind lies there still
pub back_kept : (rings more : List (List Pt3)) (bend : Bend) → Extends rings more → HasBack rings bend
    → HasBack more bend
back_kept rings more bend e h = (h.0, subst (In h.0) (sym e.1) (in_left h.0 rings e.0 h.1), h.2)

place_kept : {X : Type 0} (xs ys : List X) (k : ℕ) (d : X) → k < length xs
    → get_or (xs ++ ys) k d ≡ get_or xs k d
place_kept [] ys k d h = absurd (omega arith)
place_kept (x ∷ xs) ys zero d h = refl
place_kept (x ∷ xs) ys (suc k) d h = place_kept xs ys k d (omega arith)

other_default : {X : Type 0} (xs : List X) (k : ℕ) (d e : X) → k < length xs → get_or xs k d ≡ get_or xs k e
other_default [] k d e h = absurd (omega arith)
other_default (x ∷ xs) zero d e h = refl
other_default (x ∷ xs) (suc k) d e h = other_default xs k d e (omega arith)

same_or_before : (k i : ℕ) → k < i + 1 → (k < i) ⊎ (k ≡ i)
same_or_before zero zero h = inr refl
same_or_before zero (suc i) h = inl (omega arith)
same_or_before (suc k) zero h = absurd (omega arith)
same_or_before (suc k) (suc i) h = elim (same_or_before k i (omega arith)) [
  | inl l ↦ inl (omega arith)
  | inr e ↦ inr (ap suc e)
]

-- one more bend has its back
pub more_backs : (rings more : List (List Pt3)) (bs ds : List Bend) (i : ℕ) (b : Bend) → Extends rings more
    → Extends bs ds → i < length bs
    → b ≡ get_or bs i b → HasBack more b → ((k : ℕ) (d : Bend) → k < i → HasBack rings (get_or bs k d))
    → (k : ℕ) (d : Bend) → k < i + 1 → HasBack more (get_or ds k d)
more_backs rings more bs ds i b er eb inside is back before k d h =
    subst (λ x. HasBack more x) (sym (ap (λ l. get_or l k d) eb.1)) (by_place (same_or_before k i h))
  where
    by_place : (k < i) ⊎ (k ≡ i) → HasBack more (get_or (bs ++ eb.0) k d)
    by_place (inl l) = subst (HasBack more) (sym (place_kept bs eb.0 k d (omega arith)))
        (back_kept rings more (get_or bs k d) er (before k d l))
    by_place (inr e) = subst (HasBack more)
        (is ∙ other_default bs i b d inside ∙ sym (place_kept bs eb.0 i d inside)
        ∙ ap (λ j. get_or (bs ++ eb.0) j d) (sym e)) back

longer : {X : Type 0} (xs ys : List X) → length (xs ++ ys) ≡ length xs + length ys
longer [] ys = omega arith
longer (x ∷ xs) ys = let e = longer xs ys in omega arith

pub still_upto : {X : Type 0} (xs ys : List X) (i : ℕ) → Extends xs ys → i < length xs → i + 1 ≤ length ys
still_upto xs ys i e h = let f = ap length e.1 in let g = longer xs e.0 in omega arith

pub first_in : (fs : List Face) → 0 < length fs → (first : List Pt3) × In first (rings_of fs)
first_in [] h = absurd (omega arith)
first_in (f ∷ fs) h = (f.ring.items, inl refl)

pub still_some : (fs gs : List Face) → Extends (rings_of fs) (rings_of gs) → 0 < length fs → 0 < length gs
still_some [] gs e h = absurd (omega arith)
still_some (f ∷ fs) [] e h = absurd (none (rings_of fs ++ e.0) (ap length e.1))
  where
    none : (xs : List (List Pt3)) → 0 ≡ suc (length xs) → ⊥
    none xs f = omega arith
still_some (f ∷ fs) (g ∷ gs) e h = omega arith

pub one_there : (fs gs : List Face) (f : Face) → gs ≡ fs ++ (f ∷ []) → 0 < length gs
one_there fs gs f e = let l = ap length e in let m = longer fs (f ∷ []) in omega arith

-- a ring of fewer than two corners has no bends, and one without corners no sides
few_bends : (ring : List Pt3) → length ring < 2 → bends_of (round ring) ≡ []
few_bends [] h = refl
few_bends (p ∷ []) h = refl
few_bends (p ∷ (q ∷ ps)) h = absurd (omega arith)

pub no_bends : (bs : List Bend) (ring : List Pt3) → length ring < 2 → bs ≡ bs ++ bends_of (round ring)
no_bends bs ring h = sym (ap (λ xs. bs ++ xs) (few_bends ring h) ∙ append-nil bs)

pub no_sides : (keys : List Side) (ring : List Pt3) → length ring < 1
    → keys ≡ with_all side_cmp keys (ring_sides ring)
no_sides keys [] h = refl
no_sides keys (p ∷ ps) h = absurd (omega arith)

-- what three facts of a result that is there tell together
pub three_ok : {T E P Q S R : Type 0} (r : Result T E) → (P → Q → S → R) → OnOk r P → OnOk r Q → OnOk r S
    → OnOk r R
three_ok (Ok x) f h k l = f h k l
three_ok (Err e) f h k l = tt
