-- One more place of a stretch is passed.
use Rattle.std.proofs.Common.{◌≡◌, ℕ, zero, suc, ◌+◌, ◌-◌, ◌<◌, ◌≤◌, Bool, true, false, List, [], ◌∷◌, ◌++◌, map, length, get_or, take, drop, Option, None, Some, refl, sym, ap, ap₂, ◌∙◌, subst, inl, inr, arith, append_assoc, length-append}
use Rattle.std.specs.Prelude.{nat_lt, if◌then◌else◌}
use Rattle.std.specs.List.{AllByRecursion, AllZip, position}
use Rattle.std.specs.List.Sorted.{IsPermutation}
use Rattle.std.proofs.lemmas.Bool.{cases_lt}
use Rattle.std.proofs.lemmas.List.{append-nil, map-append, take-append-drop, drop-drop, drop-take, take-take, drop_more, get_or-drop, get_or-append_right, length-take, length-drop, length-map, take_at, drop_at}
use Rattle.std.proofs.Math.ListN.{get_or-map}
use Rattle.std.proofs.lemmas.List.Sorted.{IsPermutation-append, IsPermutation-refl}
use Rattle.scad_geom.specs.declared.point.Pt.{Pt}
use Rattle.scad_geom.specs.declared.point.Edge.{Edge}
use Rattle.scad_geom.specs.declared.level.Level.{Level}
use Rattle.scad_geom.specs.declared.level.LeafEdge.{LeafEdge}
use Rattle.scad_geom.proofs.Order.{front, back}
use Rattle.winding_laws.specs.Edges.{rounded}
use Rattle.slice_bundles.specs.Bundles.{edge_at}
use Rattle.slice_pieces.specs.declared.piece.Spot.{Spot}
use Rattle.slice_pieces.specs.Spots.{point_of}
use Rattle.slice_pieces.specs.Rounding.{rounded_edges}
use Rattle.slice_sweep.specs.Front.{bundles_in}
use Rattle.slice_border.specs.Pieces.{spot_on, covers, IsSameAcross}
use Rattle.sweep_laws.specs.Ways.{Way, pieces_of}
use Rattle.sweep_laws.specs.Fronts.{Strand, bundles_of, value_before, ways_up, ways_from}
use Rattle.sweep_laws.specs.Crossing.{Place, all_below, all_above, all_closed, way_along, flat_way, ins_to, outs_from, opens_after, ArePassed, MeetsAt}
use Rattle.sweep_laws.proofs.Edges.{ways_give_edges}
use Rattle.slice_outlines.specs.declared.course.Course.{Course}
use Rattle.slice_outlines.specs.declared.mark.Mark.{Mark}
use Rattle.slice_outlines.specs.declared.run.Run.{Run}
use Rattle.slice_outlines.specs.declared.flat.Flat.{Flat}
use Rattle.slice_outlines.specs.declared.cursors.Cursors.{Cursors}
use Rattle.slice_outlines.specs.declared.height.Height.{Height}
use Rattle.slice_outlines.specs.declared.passing.Beside.{Beside}
use Rattle.slice_outlines.specs.declared.stretch.Along.{Along}
use Rattle.slice_outlines.specs.Marks.{spot_at, no_mark, mark_at, left_of_first, IsNamed, IsKept, AreKept, begun, begun_in, names_in}
use Rattle.slice_outlines.specs.Passing.{courses, or_none, IsCourseOf, start_of, ended_at}
use Rattle.slice_outlines.specs.Places.{ins_in, outs_in}
use Rattle.slice_outlines.specs.Heights.{Onwards, IsRunOf, MeetAcross}
use Rattle.slice_outlines.specs.Along.{course_along, least, begun_at, value_over, LeadTo, BeginAt, AreAtPlace, HasComeOver, IsNameTo, RoundAlike}
use Rattle.slice_outlines.proofs.Placing.{IsLike, EndsAt, RoundsTo, AreNamed, begun_ways, zip_append, all_append, first_kept, same_pass, PlacePasses, place_passes}
use Rattle.slice_outlines.proofs.Places.{below-append, above-append, closed-append}

-- ---- parts of a list
part_then : {X : Type 0} (xs : List X) (i j : ℕ) → i ≤ j → take (j - i) (drop i xs) ++ drop j xs ≡ drop i xs
part_then {X} xs i j h =
    let e : i + (j - i) ≡ j = omega arith in
    ap (λ (ys : List X). take (j - i) (drop i xs) ++ ys) (sym (drop-drop (j - i) i xs ∙ ap (λ (n : ℕ). drop n xs) e))
    ∙ take-append-drop (j - i) (drop i xs)

pub take_then : {X : Type 0} (xs : List X) (i j : ℕ) → i ≤ j → take i xs ++ take (j - i) (drop i xs) ≡ take j xs
take_then {X} xs i j h =
    let e : i + (j - i) ≡ j = omega arith in
    let n : ℕ = j - i in
    ap₂ (λ (ys zs : List X). ys ++ zs) (sym (take-take i (i + n) xs (omega arith))) (sym (drop-take i n xs))
    ∙ take-append-drop i (take (i + n) xs) ∙ ap (λ (m : ℕ). take m xs) e

zip_drop : {A B : Type 0} (R : A → B → Type 0) (n : ℕ) (xs : List A) (ys : List B) → AllZip R xs ys
    → AllZip R (drop n xs) (drop n ys)
zip_drop R zero xs ys z = z
zip_drop R (suc n) [] [] z = tt
zip_drop R (suc n) [] (y ∷ ys) z = absurd z
zip_drop R (suc n) (x ∷ xs) [] z = absurd z
zip_drop R (suc n) (x ∷ xs) (y ∷ ys) z = zip_drop R n xs ys z.1

zip_take : {A B : Type 0} (R : A → B → Type 0) (n : ℕ) (xs : List A) (ys : List B) → AllZip R xs ys
    → AllZip R (take n xs) (take n ys)
zip_take R zero xs ys z = tt
zip_take R (suc n) [] [] z = tt
zip_take R (suc n) [] (y ∷ ys) z = absurd z
zip_take R (suc n) (x ∷ xs) [] z = absurd z
zip_take R (suc n) (x ∷ xs) (y ∷ ys) z = (z.0, zip_take R n xs ys z.1)

-- ---- marks of a part
pub kept_drop : (r : Bool) (n : ℕ) (ms : List Mark) (ss : List Strand) → AreKept r ms ss
    → AreKept r (drop n ms) (drop n ss)
kept_drop r zero ms ss k = k
kept_drop r (suc n) [] [] k = tt
kept_drop r (suc n) [] (s ∷ ss) k = absurd k
kept_drop r (suc n) (m ∷ ms) [] k = absurd k
kept_drop r (suc n) (m ∷ ms) (s ∷ ss) k = kept_drop r n ms ss k.1

before_take : (r : Bool) (n : ℕ) (ms : List Mark) (ss : List Strand) → AreKept r ms ss
    → value_before (take n ss) (left_of_first (drop n ms) r) ≡ value_before ss r
before_take r zero ms ss k = first_kept r ms ss k
before_take r (suc n) [] [] k = refl
before_take r (suc n) [] (s ∷ ss) k = absurd k
before_take r (suc n) (m ∷ ms) [] k = absurd k
before_take r (suc n) (m ∷ ms) (s ∷ ss) k = refl

kept_take : (r : Bool) (n : ℕ) (ms : List Mark) (ss : List Strand) → AreKept r ms ss
    → AreKept (left_of_first (drop n ms) r) (take n ms) (take n ss)
kept_take r zero ms ss k = tt
kept_take r (suc n) [] [] k = tt
kept_take r (suc n) [] (s ∷ ss) k = absurd k
kept_take r (suc n) (m ∷ ms) [] k = absurd k
kept_take r (suc n) (m ∷ ms) (s ∷ ss) k =
    (subst (λ (b : Bool). IsKept b m s) (sym (before_take r n ms ss k.1)) k.0, kept_take r n ms ss k.1)

kept_part : (r : Bool) (i j : ℕ) (ms : List Mark) (ss : List Strand) → i ≤ j → AreKept r ms ss
    → AreKept (left_of_first (drop j ms) r) (take (j - i) (drop i ms)) (take (j - i) (drop i ss))
kept_part r i j ms ss h k =
    let e : i + (j - i) ≡ j = omega arith in
    subst (λ (xs : List Mark). AreKept (left_of_first xs r) (take (j - i) (drop i ms)) (take (j - i) (drop i ss)))
    (drop-drop (j - i) i ms ∙ ap (λ (n : ℕ). drop n ms) e)
    (kept_take r (j - i) (drop i ms) (drop i ss) (kept_drop r i ms ss k))

before_append : (r : Bool) (ss ts : List Strand) → value_before (ss ++ ts) r ≡ value_before ss (value_before ts r)
before_append r [] ts = refl
before_append r (s ∷ ss) ts = refl

kept_append : (r : Bool) (ms ns : List Mark) (ss ts : List Strand) → AreKept (left_of_first ns r) ms ss
    → AreKept r ns ts → AreKept r (ms ++ ns) (ss ++ ts)
kept_append r [] ns [] ts a b = b
kept_append r [] ns (s ∷ ss) ts a b = absurd a
kept_append r (m ∷ ms) ns [] ts a b = absurd a
kept_append r (m ∷ ms) ns (s ∷ ss) ts a b =
    let e : value_before ss (left_of_first ns r) ≡ value_before (ss ++ ts) r =
    ap (λ (v : Bool). value_before ss v) (first_kept r ns ts b) ∙ sym (before_append r ss ts) in
    (subst (λ (v : Bool). IsKept v m s) e a.0, kept_append r ms ns ss ts a.1 b)

-- ---- marks that begin
named_begun : (at : Pt) (ms : List Mark) (bs : List (List ℕ)) → AreNamed ms bs → AreNamed (begun at ms) bs
named_begun at [] [] z = tt
named_begun at [] (b ∷ bs) z = absurd z
named_begun at (m ∷ ms) [] z = absurd z
named_begun at (m ∷ ms) (b ∷ bs) z = (z.0, named_begun at ms bs z.1)

named_in : (i j : ℕ) (at : Pt) (ms : List Mark) (bs : List (List ℕ)) → i ≤ j → AreNamed ms bs
    → AreNamed (begun_in i j at ms) bs
named_in i j at ms bs h z =
    let R : Mark → List ℕ → Type 0 = λ m b. IsNamed m.name b in
    let q : List Mark = take (j - i) (drop i ms) in
    let c : List (List ℕ) = take (j - i) (drop i bs) in
    let whole : take i bs ++ (c ++ drop j bs) ≡ bs =
    ap (λ (ds : List (List ℕ)). take i bs ++ ds) (part_then bs i j h) ∙ take-append-drop i bs in
    subst (AreNamed (begun_in i j at ms)) whole
    (zip_append R (take i ms) (take i bs) (begun at q ++ drop j ms) (c ++ drop j bs) (zip_take R i ms bs z)
    (zip_append R (begun at q) c (drop j ms) (drop j bs)
    (named_begun at q c (zip_take R (j - i) (drop i ms) (drop i bs) (zip_drop R i ms bs z)))
    (zip_drop R j ms bs z)))

pub front_size : (i j : ℕ) (at : Pt) (ms : List Mark) → i ≤ j → j ≤ length ms
    → length (take i ms ++ begun at (take (j - i) (drop i ms))) ≡ j
front_size i j at ms h k =
    let q : List Mark = take (j - i) (drop i ms) in
    omega (
      arith,
      length-append (take i ms) (begun at q),
      length-take i ms,
      length-map q (λ (m : Mark). record m { from = at }),
      length-take (j - i) (drop i ms),
      length-drop i ms,
    )

pub begun_split : (i j : ℕ) (at : Pt) (ms : List Mark)
    → begun_in i j at ms ≡ (take i ms ++ begun at (take (j - i) (drop i ms))) ++ drop j ms
begun_split i j at ms = sym (append_assoc (take i ms) (begun at (take (j - i) (drop i ms))) (drop j ms))

-- what is to the right of those that begin stays
pub begun_right : (i j k : ℕ) (at : Pt) (ms : List Mark) → i ≤ j → j ≤ k → j ≤ length ms
    → drop k (begun_in i j at ms) ≡ drop k ms
begun_right i j k at ms h o l =
    let e : j + (k - j) ≡ k = omega (arith, o) in
    let p : List Mark = take i ms ++ begun at (take (j - i) (drop i ms)) in
    ap (λ (n : ℕ). drop n (begun_in i j at ms)) (sym e) ∙ sym (drop-drop (k - j) j (begun_in i j at ms))
    ∙ ap (drop (k - j)) (ap (drop j) (begun_split i j at ms) ∙ drop_at p (drop j ms) j (front_size i j at ms h l))
    ∙ drop-drop (k - j) j ms ∙ ap (λ (n : ℕ). drop n ms) e

begun_front : (i j : ℕ) (at : Pt) (ms : List Mark) → i ≤ j → j ≤ length ms
    → take j (begun_in i j at ms) ≡ take i ms ++ begun at (take (j - i) (drop i ms))
begun_front i j at ms h k =
    let p : List Mark = take i ms ++ begun at (take (j - i) (drop i ms)) in
    ap (λ (xs : List Mark). take j xs) (begun_split i j at ms) ∙ take_at p (drop j ms) j (front_size i j at ms h k)

same_behind : (i j : ℕ) (at : Pt) (ms : List Mark) → i ≤ j → j ≤ length ms
    → mark_at (begun_in i j at ms) j ≡ mark_at ms j
same_behind i j at ms h k =
    let p : List Mark = take i ms ++ begun at (take (j - i) (drop i ms)) in
    let none : j - j ≡ 0 = omega arith in
    let there : j + 0 ≡ j = omega arith in
    ap (λ (xs : List Mark). mark_at xs j) (begun_split i j at ms)
    ∙ get_or-append_right p (drop j ms) j j no_mark (front_size i j at ms h k) (omega arith)
    ∙ ap (λ (n : ℕ). get_or (drop j ms) n no_mark) none
    ∙ get_or-drop j ms 0 no_mark ∙ ap (λ (n : ℕ). get_or ms n no_mark) there

-- ---- values above
over_same : (h : Height) (run : Run) (i j : ℕ) (at : Pt) (ms : List Mark) → i ≤ j → j ≤ length ms
    → value_over h run (begun_in i j at ms) j ≡ value_over h run ms j
over_same h run i j at ms a b =
    ap (λ (m : Mark). if nat_lt j run.above_to then m.left else left_of_first (drop run.below_to h.below.now) false)
    (same_behind i j at ms a b)

lt_ltb : (i n : ℕ) → i < n → nat_lt i n ≡ true
lt_ltb i n h = grind arith

over_part : (h : Height) (run : Run) (i j : ℕ) (ms : List Mark) → i ≤ j → j ≤ run.above_to → j ≤ length ms
    → left_of_first (take (j - i) (drop i ms)) (value_over h run ms j) ≡ value_over h run ms i
over_part h run i j ms a b c = elim (cases_lt i j) [
  | inl l ↦
      let n : ℕ = j - i - 1 in
      let e : j - i ≡ suc n = omega (arith, l) in
      let here : nat_lt i run.above_to ≡ true = lt_ltb i run.above_to (omega (arith, l, b)) in
      ap₂ (λ (k : ℕ) (xs : List Mark). left_of_first (take k xs) (value_over h run ms j)) e
      (drop_more ms i no_mark (omega (arith, l, c)))
      ∙ ap (λ (t : Bool). if t then (mark_at ms i).left else left_of_first (drop run.below_to h.below.now) false)
      (sym here)
  | inr l ↦
      let same : j ≡ i = omega (arith, l, a) in
      let none : j - i ≡ 0 = omega (arith, l, a) in
      ap (λ (k : ℕ). left_of_first (take k (drop i ms)) (value_over h run ms j)) none
      ∙ ap (λ (k : ℕ). value_over h run ms k) same
]

-- ---- the way along the height
way_begun : (a b : Bool) (start s t : Spot) (o : Option ℕ)
    → way_along a b start t o ≡ begun_ways start (way_along a b s t o)
way_begun a b start s t None = refl
way_begun true true start s t (Some k) = refl
way_begun true false start s t (Some k) = refl
way_begun false true start s t (Some k) = refl
way_begun false false start s t (Some k) = refl

pub flat_begun : (es : List LeafEdge) (start : Spot) (p : Place) (later : List Place)
    → flat_way es start p later ≡ begun_ways start (flat_way es p.at p later)
flat_begun es start p [] = refl
flat_begun es start p (q ∷ ps) = way_begun (value_before (all_above (q ∷ ps)) false)
    (value_before (all_below (q ∷ ps)) false) start p.at q.at (position (covers p.at q.at) es)

-- the way to the first of the spots to come
abbrev pub way_to : List LeafEdge → Spot → List Spot → Bool → Bool → List Way
way_to es s [] above below = []
way_to es s (t ∷ ts) above below = way_along above below s t (position (covers s t) es)

same_none : (a b : Bool) (s t : Spot) (o : Option ℕ) → a ≡ b → way_along a b s t o ≡ []
same_none a b s t None e = refl
same_none true true s t (Some k) e = refl
same_none true false s t (Some k) e = absurd cc
same_none false true s t (Some k) e = absurd cc
same_none false false s t (Some k) e = refl

flat_is : (es : List LeafEdge) (p : Place) (ts : List Spot) (live : List Flat) (above below : Bool) (later : List Place)
    → IsNameTo es p.at ts live above below → BeginAt ts later → value_before (all_above later) false ≡ above
    → value_before (all_below later) false ≡ below → flat_way es p.at p later ≡ way_to es p.at ts above below
flat_is es p [] live above below [] n b v w = refl
flat_is es p [] live above below (q ∷ qs) n b v w =
    same_none (value_before (all_above (q ∷ qs)) false) (value_before (all_below (q ∷ qs)) false) p.at q.at
    (position (covers p.at q.at) es) (v ∙ n ∙ sym w)
flat_is es p (t ∷ ts) live above below [] n b v w = absurd b
flat_is es p (t ∷ ts) live above below (q ∷ qs) n b v w =
    ap₂ (λ (x y : Bool). way_along x y p.at q.at (position (covers p.at q.at) es)) v w
    ∙ ap (λ (u : Spot). way_along above below p.at u (position (covers p.at u) es)) b

course_like : (above below : Bool) (s t : Spot) (o : Option ℕ) (p : Pt)
    → AllZip IsLike (way_along above below s t o) (or_none (course_along o above below p))
course_like above below s t None p = tt
course_like true true s t (Some k) p = tt
course_like true false s t (Some k) p = (record { name = refl; forward = refl }, tt)
course_like false true s t (Some k) p = (record { name = refl; forward = refl }, tt)
course_like false false s t (Some k) p = tt

no_course : (above below : Bool) (o : Option ℕ) (p : Pt) → above ≡ below → or_none (course_along o above below p) ≡ []
no_course above below None p e = refl
no_course true true (Some k) p e = refl
no_course true false (Some k) p e = absurd cc
no_course false true (Some k) p e = absurd cc
no_course false false (Some k) p e = refl

leaves_like : (es : List LeafEdge) (s : Spot) (ts : List Spot) (live : List Flat) (above below : Bool) (p : Pt)
    → IsNameTo es s ts live above below
    → AllZip IsLike (way_to es s ts above below) (or_none (course_along (least live) above below p))
leaves_like es s [] live above below p n =
    subst (λ (cs : List Course). AllZip IsLike [] cs) (sym (no_course above below (least live) p n)) tt
leaves_like es s (t ∷ ts) live above below p n =
    subst (λ (o : Option ℕ). AllZip IsLike (way_along above below s t (position (covers s t) es))
    (or_none (course_along o above below p))) (sym n)
    (course_like above below s t (position (covers s t) es) p)

near_along : (above below : Bool) (s t : Spot) (o : Option ℕ)
    → AllByRecursion (λ w. w.near ≡ s) (way_along above below s t o)
near_along above below s t None = tt
near_along true true s t (Some k) = tt
near_along true false s t (Some k) = (refl, tt)
near_along false true s t (Some k) = (refl, tt)
near_along false false s t (Some k) = tt

near_to : (es : List LeafEdge) (s : Spot) (ts : List Spot) (above below : Bool)
    → AllByRecursion (λ w. w.near ≡ s) (way_to es s ts above below)
near_to es s [] above below = tt
near_to es s (t ∷ ts) above below = near_along above below s t (position (covers s t) es)

lead_along : (start : Spot) (above below : Bool) (s t : Spot) (o : Option ℕ)
    → AllByRecursion (λ w. w.far ≡ t) (begun_ways start (way_along above below s t o))
lead_along start above below s t None = tt
lead_along start true true s t (Some k) = tt
lead_along start true false s t (Some k) = (refl, tt)
lead_along start false true s t (Some k) = (refl, tt)
lead_along start false false s t (Some k) = tt

lead_to : (es : List LeafEdge) (start s : Spot) (ts : List Spot) (above below : Bool)
    → LeadTo ts (begun_ways start (way_to es s ts above below))
lead_to es start s [] above below = refl
lead_to es start s (t ∷ ts) above below = lead_along start above below s t (position (covers s t) es)

courses_begun : (start : Spot) (q : Pt) (ws : List Way) (o : Option Course) → q ≡ rounded (point_of start)
    → AllZip IsLike ws (or_none o) → AllZip IsCourseOf (begun_ways start ws) (or_none (begun_at q o))
courses_begun start q [] None e z = tt
courses_begun start q [] (Some c) e z = absurd z
courses_begun start q (w ∷ ws) None e z = absurd z
courses_begun start q (w ∷ []) (Some c) e z = (record { name = z.0.name; forward = z.0.forward; from = e }, tt)
courses_begun start q (w ∷ (v ∷ ws)) (Some c) e z = absurd z.1

-- ---- strands at one place
rounds_named : (es : List LeafEdge) (l : Level) (p : Pt) (ms : List Mark) (bs : List (List ℕ)) → AreNamed ms bs
    → AllByRecursion (λ x. rounded (point_of (spot_at es l x)) ≡ p) ms → AllByRecursion (RoundsTo es l p) bs
rounds_named es l p [] [] z h = tt
rounds_named es l p [] (b ∷ bs) z h = absurd z
rounds_named es l p (m ∷ ms) [] z h = absurd z
rounds_named es l p (m ∷ ms) ([] ∷ bs) z h = absurd z.0
rounds_named es l p (m ∷ ms) ((k ∷ ks) ∷ bs) z h =
    (subst (λ (k : ℕ). rounded (point_of (spot_on (edge_at es k) l)) ≡ p) z.0 h.0, rounds_named es l p ms bs z.1 h.1)

named_kept : (r : Bool) (ms : List Mark) (ss : List Strand) → AreKept r ms ss → AreNamed ms (bundles_of ss)
named_kept r [] [] k = tt
named_kept r [] (s ∷ ss) k = absurd k
named_kept r (m ∷ ms) [] k = absurd k
named_kept r (m ∷ ms) (s ∷ ss) k = (k.0.name, named_kept r ms ss k.1)

of_bundles : (P : List ℕ → Type 0) (ss : List Strand) → AllByRecursion P (bundles_of ss)
    → AllByRecursion (λ s. P s.bundle) ss
of_bundles P [] h = tt
of_bundles P (s ∷ ss) h = (h.0, of_bundles P ss h.1)

ends_at : (s : Spot) (p : Pt) (ws : List Way) → rounded (point_of s) ≡ p → AllByRecursion (λ w. w.far ≡ s) ws
    → AllByRecursion (EndsAt p) ws
ends_at s p [] e h = tt
ends_at s p (w ∷ ws) e h = (ap (λ (t : Spot). rounded (point_of t)) h.0 ∙ e, ends_at s p ws e h.1)

met_named : (es : List LeafEdge) (l : Level) (s : Spot) (ms : List Mark) (bs : List (List ℕ)) → AreNamed ms bs
    → AllByRecursion (λ x. IsSameAcross (spot_at es l x) s) ms → AllByRecursion (MeetsAt es l s) bs
met_named es l s [] [] z h = tt
met_named es l s [] (b ∷ bs) z h = absurd z
met_named es l s (m ∷ ms) [] z h = absurd z
met_named es l s (m ∷ ms) ([] ∷ bs) z h = absurd z.0
met_named es l s (m ∷ ms) ((k ∷ ks) ∷ bs) z h =
    (subst (λ (k : ℕ). IsSameAcross (spot_on (edge_at es k) l) s) z.0 h.0, met_named es l s ms bs z.1 h.1)

-- ---- values of marks that begin
begun_lefts : (at : Pt) (ms : List Mark) → map (λ (m : Mark). m.left) (begun at ms) ≡ map (λ (m : Mark). m.left) ms
begun_lefts at [] = refl
begun_lefts at (m ∷ ms) = ap (λ (vs : List Bool). m.left ∷ vs) (begun_lefts at ms)

lefts_begun : (i j : ℕ) (at : Pt) (ms : List Mark) → i ≤ j
    → map (λ (m : Mark). m.left) (begun_in i j at ms) ≡ map (λ (m : Mark). m.left) ms
lefts_begun i j at ms h =
    let f : Mark → Bool = λ m. m.left in
    let q : List Mark = take (j - i) (drop i ms) in
    map-append f (take i ms) (begun at q ++ drop j ms)
    ∙ ap (λ (vs : List Bool). map f (take i ms) ++ vs) (map-append f (begun at q) (drop j ms)
    ∙ ap (λ (vs : List Bool). vs ++ map f (drop j ms)) (begun_lefts at q) ∙ sym (map-append f q (drop j ms)))
    ∙ sym (map-append f (take i ms) (q ++ drop j ms))
    ∙ ap (map f) (ap (λ (xs : List Mark). take i ms ++ xs) (part_then ms i j h) ∙ take-append-drop i ms)

pub left_stays : (i j k : ℕ) (at : Pt) (ms : List Mark) → i ≤ j
    → (mark_at (begun_in i j at ms) k).left ≡ (mark_at ms k).left
left_stays i j k at ms h =
    let f : Mark → Bool = λ m. m.left in
    sym (get_or-map f (begun_in i j at ms) k no_mark)
    ∙ ap (λ (vs : List Bool). get_or vs k false) (lefts_begun i j at ms h)
    ∙ get_or-map f ms k no_mark

left_begun : (at : Pt) (ms : List Mark) (r : Bool) → left_of_first (begun at ms) r ≡ left_of_first ms r
left_begun at [] r = refl
left_begun at (m ∷ ms) r = refl

-- what is known where a stop is passed: the strands from one place to another, below the height and above it, are at
-- the stop, and the flat edges that go on are told by the way to the next
pub record IsStop (on : Onwards) (s : Spot) (ts : List Spot) (run : Run) (i j n m : ℕ) (live : List Flat)
    (marks : List Mark) (p : Pt) : Type 0 where
  pub below : AreKept false on.height.below.now on.below
  pub below_order : i ≤ j
  pub above_order : n ≤ m
  pub above_to : m ≤ run.above_to
  pub there : m ≤ length marks
  pub at : rounded (point_of s) ≡ p
  pub ends : AllByRecursion (λ x. rounded (point_of (spot_at on.height.edges.now on.height.at.now x)) ≡ p)
      (take (j - i) (drop i on.height.below.now))
  pub begins : AllByRecursion (λ x. rounded (point_of (spot_at on.height.edges.now on.height.at.now x)) ≡ p)
      (take (m - n) (drop n marks))
  pub meet_below : AllByRecursion (λ x. IsSameAcross (spot_at on.height.edges.now on.height.at.now x) s)
      (take (j - i) (drop i on.height.below.now))
  pub meet_above : AllByRecursion (λ x. IsSameAcross (spot_at on.height.edges.now on.height.at.now x) s)
      (take (m - n) (drop n marks))
  pub name : IsNameTo on.height.edges.now s ts live (value_over on.height run marks m)
      (left_of_first (drop j on.height.below.now) false)

module _ (on : Onwards) (passed : List Spot) (s : Spot) (ts : List Spot) (run : Run) (i j n m : ℕ)
    (course : Option Course) (live : List Flat) (marks : List Mark) (given : List Edge) (cursors : Cursors) (p : Pt)
    (stop : IsStop on s ts run i j n m live marks p)
    (come : HasComeOver on passed (s ∷ ts) run i n course marks given cursors) where
  pub stop_passed : HasComeOver on (passed ++ (s ∷ [])) ts run j m
      (begun_at (start_of p (courses (left_of_first (drop j on.height.below.now) false)
      (take (j - i) (drop i on.height.below.now)) ++ or_none course)
      (courses (value_over on.height run marks m) (take (m - n) (drop n marks))
      ++ or_none (course_along (least live) (value_over on.height run marks m)
      (left_of_first (drop j on.height.below.now) false) p)))
      (course_along (least live) (value_over on.height run marks m)
      (left_of_first (drop j on.height.below.now) false) p))
      (begun_in n m (start_of p (courses (left_of_first (drop j on.height.below.now) false)
      (take (j - i) (drop i on.height.below.now)) ++ or_none course)
      (courses (value_over on.height run marks m) (take (m - n) (drop n marks))
      ++ or_none (course_along (least live) (value_over on.height run marks m)
      (left_of_first (drop j on.height.below.now) false) p))) marks)
      (given ++ ended_at p (courses (left_of_first (drop j on.height.below.now) false)
      (take (j - i) (drop i on.height.below.now)) ++ or_none course)
      (courses (value_over on.height run marks m) (take (m - n) (drop n marks))
      ++ or_none (course_along (least live) (value_over on.height run marks m)
      (left_of_first (drop j on.height.below.now) false) p))) cursors
  stop_passed =
      let h : Height = on.height in
      let es : List LeafEdge = h.edges.now in
      let l : Level = h.at.now in
      let u : Level = on.upper in
      let lower : List Mark = h.below.now in
      let bs : List (List ℕ) = bundles_in h.front.now in
      let v : Bool = left_of_first (drop j lower) false in
      let w : Bool = value_over h run marks m in
      let below : List Strand = take (j - i) (drop i on.below) in
      let lows : List Mark = take (j - i) (drop i lower) in
      let ups : List Mark = take (m - n) (drop n marks) in
      let bundles : List (List ℕ) = take (m - n) (drop n bs) in
      let out_course : Option Course = course_along (least live) w v p in
      let flat_out : List Way = way_to es s ts w v in
      let ins : List Course = courses v lows ++ or_none course in
      let outs : List Course = courses w ups ++ or_none out_course in
      let from : Pt = start_of p ins outs in
      let R : Mark → List ℕ → Type 0 = λ x b. IsNamed x.name b in
      let kept : AreKept v lows below = kept_part false i j lower on.below stop.below_order stop.below in
      let named : AreNamed ups bundles = zip_take R (m - n) (drop n marks) (drop n bs)
      (zip_drop R n marks bs come.named) in
      let like : AllZip IsLike flat_out (or_none out_course) = leaves_like es s ts live w v p stop.name in
      let pp : PlacePasses es l u v w below ups bundles p come.flat flat_out ins outs =
      place_passes es l u v w below lows ups bundles s p come.flat flat_out course out_course (record {
        kept = kept;
        named = named;
        ends = of_bundles (RoundsTo es l p) below (rounds_named es l p lows (bundles_of below)
            (named_kept v lows below kept) stop.ends);
        begins = rounds_named es l p ups bundles named stop.begins;
        at = stop.at;
        comes = come.along;
        comes_to = ends_at s p come.flat stop.at come.leads;
        leaves = like;
        leaves_from = near_to es s ts w v;
      }) in
      let place : Place = record { at = s; below = below; above = pp.above; start = pp.start; closed = pp.closed } in
      let upon : left_of_first (begun from ups) w ≡ value_over h run marks n =
      left_begun from ups w ∙ over_part h run n m marks stop.above_order stop.above_to stop.there in
      record {
        places = come.places ++ (place ∷ []);
        flat = begun_ways pp.start flat_out;
        at = map-append (λ (q : Place). q.at) come.places (place ∷ [])
            ∙ ap (λ (us : List Spot). us ++ (s ∷ [])) come.at;
        along = courses_begun pp.start from flat_out out_course pp.from like;
        leads = lead_to es pp.start s ts w v;
        lower = below-append come.places (place ∷ [])
            ∙ ap₂ (λ (xs ys : List Strand). xs ++ ys) come.lower (append-nil below)
            ∙ take_then on.below i j stop.below_order;
        upper = ap bundles_of (above-append come.places (place ∷ []))
            ∙ map-append (λ (t : Strand). t.bundle) (all_above come.places) (pp.above ++ [])
            ∙ ap₂ (λ (xs ys : List (List ℕ)). xs ++ ys) come.upper (ap bundles_of (append-nil pp.above) ∙ pp.is_above)
            ∙ take_then bs n m stop.above_order;
        goes_on = λ later next rest.
            let vb : value_before (all_below later) false ≡ v = ap (λ
            (ss : List Strand). value_before ss false) next.below
            ∙ sym (first_kept false (drop j lower) (drop j on.below) (kept_drop false j lower on.below stop.below)) in
            let va : value_before (all_above later) false ≡ w = next.value
            ∙ over_same h run n m from marks stop.above_order stop.there in
            let way : flat_way es s place later ≡ flat_out =
            flat_is es place ts live w v later stop.name next.first va vb in
            let on_way : flat_way es pp.start place later ≡ begun_ways pp.start flat_out =
            flat_begun es pp.start place later ∙ ap (begun_ways pp.start) way in
            subst (λ (ps : List Place). ArePassed es l u [] ps) (sym (append_assoc come.places (place ∷ []) later))
            (come.goes_on (place ∷ later)
            (record {
              below = ap (λ (ss : List Strand). below ++ ss) next.below ∙ part_then on.below i j stop.below_order;
              value = before_append false pp.above (all_above later)
                  ∙ ap (λ (b : Bool). value_before pp.above b) va
                  ∙ sym (first_kept w (begun from ups) pp.above pp.kept) ∙ upon;
              first = refl;
            }) (
              same_pass (ways_up es l v below ++ come.flat) (ins_to es l come.flat place later)
                  (ways_from es l u w pp.above ++ flat_out) (outs_from es l u place later)
                  (ways_up es u w pp.above ++ begun_ways pp.start flat_out) (opens_after es u place later) pp.closed
                  (ap (λ (b : Bool). ways_up es l b below ++ come.flat) (sym vb))
                  (ap₂ (λ (b : Bool) (ws : List Way). ways_from es l u b pp.above ++ ws) (sym va) (sym way))
                  (ap₂ (λ (b : Bool) (ws : List Way). ways_up es u b pp.above ++ ws) (sym va) (sym on_way)) pp.pass,
              subst (λ (ws : List Way). ArePassed es l u ws later) (sym on_way) rest,
            ));
        kept = subst (λ (b : Bool). AreKept b (take m (begun_in n m from marks)) (all_above (come.places ++
            (place ∷ []))))
            (sym (over_same h run n m from marks stop.above_order stop.there))
            (subst (λ (ss : List Strand). AreKept w (take m (begun_in n m from marks)) ss)
            (ap (λ (ss : List Strand). all_above come.places ++ ss) (sym (append-nil pp.above))
            ∙ sym (above-append come.places (place ∷ [])))
            (subst (λ (xs : List Mark). AreKept w xs (all_above come.places ++ pp.above))
            (sym (begun_front n m from marks stop.above_order stop.there))
            (kept_append w (take n marks) (begun from ups) (all_above come.places) pp.above
            (subst (λ (b : Bool). AreKept b (take n marks) (all_above come.places)) (sym upon) come.kept) pp.kept)));
        met = all_append (AreAtPlace es l) come.places (place ∷ []) come.met (
          record {
            below = of_bundles (MeetsAt es l s) below
                (met_named es l s lows (bundles_of below) (named_kept v lows below kept) stop.meet_below);
            above = of_bundles (MeetsAt es l s) pp.above (subst (AllByRecursion (MeetsAt es l s)) (sym pp.is_above)
                (met_named es l s ups bundles named stop.meet_above));
          },
          tt,
        );
        named = named_in n m from marks bs stop.above_order come.named;
        valued = λ k o. left_stays n m k from marks stop.above_order ∙ come.valued k o;
        edges =
            let done : List Edge = rounded_edges (pieces_of (all_closed come.places)) in
            let ended : List Edge = ended_at p ins outs in
            let both : rounded_edges (pieces_of (all_closed (come.places ++ (place ∷ [])))) ≡ done ++ ended =
            ap (λ (ws : List Way). rounded_edges (pieces_of ws)) (closed-append come.places (place ∷ [])
            ∙ ap (λ (ws : List Way). all_closed come.places ++ ws) (append-nil pp.closed))
            ∙ ways_give_edges.more (all_closed come.places) pp.closed
            ∙ ap (λ (fs : List Edge). done ++ fs) pp.edges in
            subst (λ (fs : List Edge). IsPermutation fs (given ++ ended))
            (sym (ap (λ (fs : List Edge). on.given ++ fs) both ∙ sym (append_assoc on.given done ended)))
            (IsPermutation-append (on.given ++ done) given ended ended come.edges (IsPermutation-refl ended));
        stands = come.stands;
      }

-- ---- a part of a height, as the code passes it
beside_is : (b : Beside) (v w : Bool) (ins outs : Option Course) (p : Pt) → b.below ≡ v → b.above ≡ w → b.flat_in ≡ ins
    → b.flat_out ≡ outs → b.at ≡ p
    → b ≡ record { below = v; above = w; flat_in = ins; flat_out = outs; at = p }
beside_is b v w ins outs p e0 e1 e2 e3 e4 =
    λ i. record { below = e0 i; above = e1 i; flat_in = e2 i; flat_out = e3 i; at = e4 i }

-- what is known of a run, of what lies beside it, and of what passing it gave
pub record IsRunPassed (h : Height) (below : List Strand) (s : Spot) (later : List Spot) (a : Along) (run : Run)
    (b : Beside)
    (marks : List Mark) (given : List Edge) (from : Pt) (edges : List Edge) : Type 0 where
  pub kept : AreKept false h.below.now below
  pub run_of : IsRunOf h.below.now marks run
  pub above_to : run.above_to ≤ a.run.above_to
  pub from_below : run.below ≡ a.below
  pub from_above : run.above ≡ a.above
  pub value_below : b.below ≡ left_of_first (drop run.below_to h.below.now) false
  pub value_above : b.above ≡ value_over h a.run marks run.above_to
  pub at : b.at ≡ rounded (point_of s)
  pub flat_in : b.flat_in ≡ a.flat
  pub flat_out : b.flat_out ≡ course_along (least a.live.items) (value_over h a.run marks run.above_to)
      (left_of_first (drop run.below_to h.below.now) false) (rounded (point_of s))
  pub begins : from ≡ start_of b.at (ins_in h.below.now run b) (outs_in marks run b)
  pub ended : edges ≡ given ++ ended_at b.at (ins_in h.below.now run b) (outs_in marks run b)
  pub round : RoundAlike h marks run s
  pub across : MeetAcross h marks run s
  pub name : IsNameTo h.edges.now s later a.live.items (value_over h a.run marks run.above_to)
      (left_of_first (drop run.below_to h.below.now) false)

module _ (on : Onwards) (passed : List Spot) (s : Spot) (later : List Spot) (a : Along) (run : Run) (b : Beside)
    (marks : List Mark) (given : List Edge) (cursors : Cursors) (from : Pt) (edges : List Edge)
    (come : HasComeOver on passed (s ∷ later) a.run a.below a.above a.flat marks given cursors) where
  abbrev Gone : Type 0
  Gone = HasComeOver on (passed ++ (s ∷ [])) later a.run run.below_to run.above_to (begun_at from b.flat_out)
      (begun_in run.above run.above_to from marks) edges cursors

  here : IsRunPassed on.height on.below s later a run b marks given from edges → Gone
  here r =
      let h : Height = on.height in
      let v : Bool = left_of_first (drop run.below_to h.below.now) false in
      let w : Bool = value_over h a.run marks run.above_to in
      let p : Pt = rounded (point_of s) in
      let out : Option Course = course_along (least a.live.items) w v p in
      let c : Beside = record { below = v; above = w; flat_in = a.flat; flat_out = out; at = p } in
      let same : b ≡ c = beside_is b v w a.flat out p r.value_below r.value_above r.flat_in r.flat_out r.at in
      let P : Mark → Type 0 = λ m. rounded (point_of (spot_at h.edges.now h.at.now m)) ≡ p in
      let A : Mark → Type 0 = λ m. IsSameAcross (spot_at h.edges.now h.at.now m) s in
      let lows : List Mark = take (run.below_to - run.below) (drop run.below h.below.now) in
      let ups : List Mark = take (run.above_to - run.above) (drop run.above marks) in
      let old : HasComeOver on passed (s ∷ later) a.run run.below run.above a.flat marks given cursors =
      subst (λ (i : ℕ). HasComeOver on passed (s ∷ later) a.run i run.above a.flat marks given cursors)
      (sym r.from_below)
      (subst (λ (n : ℕ). HasComeOver on passed (s ∷ later) a.run a.below n a.flat marks given cursors)
      (sym r.from_above) come) in
      let new = stop_passed on passed s later a.run run.below run.below_to run.above run.above_to a.flat a.live.items
      marks given cursors p (record {
        below = r.kept;
        below_order = r.run_of.below;
        above_order = r.run_of.above;
        above_to = r.above_to;
        there = r.run_of.above_to;
        at = refl;
        ends = front P lows ups r.round;
        begins = back P lows ups r.round;
        meet_below = front A lows ups r.across;
        meet_above = back A lows ups r.across;
        name = r.name;
      }) old in
      let start : from ≡ start_of p (ins_in h.below.now run c) (outs_in marks run c) = r.begins
      ∙ ap (λ (d : Beside). start_of d.at (ins_in h.below.now run d) (outs_in marks run d)) same in
      let all : edges ≡ given ++ ended_at p (ins_in h.below.now run c) (outs_in marks run c) = r.ended
      ∙ ap (λ (d : Beside). given ++ ended_at d.at (ins_in h.below.now run d) (outs_in marks run d)) same in
      subst (λ (es : List Edge). HasComeOver on (passed ++ (s ∷ [])) later a.run run.below_to run.above_to
      (begun_at from b.flat_out) (begun_in run.above run.above_to from marks) es cursors) (sym all)
      (subst (λ (o : Option Course). HasComeOver on (passed ++ (s ∷ [])) later a.run run.below_to run.above_to
      (begun_at from o) (begun_in run.above run.above_to from marks)
      (given ++ ended_at p (ins_in h.below.now run c) (outs_in marks run c)) cursors) (sym r.flat_out)
      (subst (λ (q : Pt). HasComeOver on (passed ++ (s ∷ [])) later a.run run.below_to run.above_to (begun_at q out)
      (begun_in run.above run.above_to q marks)
      (given ++ ended_at p (ins_in h.below.now run c) (outs_in marks run c)) cursors) (sym start) new))

  pub run_passed : (h : Height) → on.height ≡ h → IsRunPassed h on.below s later a run b marks given from edges → Gone
  run_passed h e = subst (λ (g : Height). IsRunPassed g on.below s later a run b marks given from edges → Gone) e here

-- with other names for what is equal
pub come_as : (on : Onwards) (passed later : List Spot) (run run' : Run) (n n' m m' : ℕ) (c c' : Option Course)
    (ms ms' : List Mark) (es es' : List Edge) (cursors : Cursors) → run ≡ run' → n ≡ n' → m ≡ m' → c ≡ c' → ms ≡ ms'
    → es ≡ es' → HasComeOver on passed later run n m c ms es cursors
    → HasComeOver on passed later run' n' m' c' ms' es' cursors
come_as on passed later run run' n n' m m' c c' ms ms' es es' cursors a b d e f g h =
    subst (λ (r : Run). HasComeOver on passed later r n' m' c' ms' es' cursors) a
    (subst (λ (k : ℕ). HasComeOver on passed later run k m' c' ms' es' cursors) b
    (subst (λ (k : ℕ). HasComeOver on passed later run n k c' ms' es' cursors) d
    (subst (λ (o : Option Course). HasComeOver on passed later run n m o ms' es' cursors) e
    (subst (λ (xs : List Mark). HasComeOver on passed later run n m c xs es' cursors) f
    (subst (λ (xs : List Edge). HasComeOver on passed later run n m c ms xs cursors) g h)))))

pub name_as : (es : List LeafEdge) (s : Spot) (later : List Spot) (f f' : List Flat) (a a' b b' : Bool) → f ≡ f'
    → a ≡ a'
    → b ≡ b' → IsNameTo es s later f a b → IsNameTo es s later f' a' b'
name_as es s later f f' a a' b b' e p q h =
    subst (λ (fs : List Flat). IsNameTo es s later fs a' b') e
    (subst (λ (v : Bool). IsNameTo es s later f v b') p (subst (λ (v : Bool). IsNameTo es s later f a v) q h))

-- ---- names of marks that begin
begun_names : (at : Pt) (ms : List Mark) → names_in (begun at ms) ≡ names_in ms
begun_names at [] = refl
begun_names at (m ∷ ms) = ap (λ (ks : List ℕ). m.name ∷ ks) (begun_names at ms)

pub names_begun : (i j : ℕ) (at : Pt) (ms : List Mark) → i ≤ j → names_in (begun_in i j at ms) ≡ names_in ms
names_begun i j at ms h =
    let f : Mark → ℕ = λ m. m.name in
    let q : List Mark = take (j - i) (drop i ms) in
    map-append f (take i ms) (begun at q ++ drop j ms)
    ∙ ap (λ (ks : List ℕ). names_in (take i ms) ++ ks) (map-append f (begun at q) (drop j ms)
    ∙ ap (λ (ks : List ℕ). ks ++ names_in (drop j ms)) (begun_names at q) ∙ sym (map-append f q (drop j ms)))
    ∙ sym (map-append f (take i ms) (q ++ drop j ms))
    ∙ ap names_in (ap (λ (xs : List Mark). take i ms ++ xs) (part_then ms i j h) ∙ take-append-drop i ms)
