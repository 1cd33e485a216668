-- Pieces that come to a place and go out from it, as the code has them, pass as ways do.
use Rattle.std.proofs.Common.{◌≡◌, ℕ, Bool, true, false, cond, not, ◌&&◌, true≢false, List, [], ◌∷◌, ◌++◌, map, Option, None, Some, refl, sym, ap, ap₂, ◌∙◌, subst, eq-eqb}
use Rattle.std.specs.Prelude.{◌==◌, if◌then◌else◌}
use Rattle.std.specs.List.{AllByRecursion, AllZip}
use Rattle.std.proofs.lemmas.Bool.{false≢true, and_parts}
use Rattle.std.proofs.lemmas.List.{map-append}
use Rattle.scad_geom.specs.declared.point.Pt.{Pt}
use Rattle.scad_geom.specs.declared.point.Edge.{Edge}
use Rattle.scad_geom.specs.declared.level.Level.{Level}
use Rattle.scad_geom.specs.declared.level.LeafEdge.{LeafEdge}
use Rattle.winding_laws.specs.Edges.{rounded}
use Rattle.slice_bundles.specs.Bundles.{edge_at}
use Rattle.slice_pieces.specs.declared.piece.Spot.{Spot}
use Rattle.slice_pieces.specs.Spots.{point_of}
use Rattle.slice_pieces.specs.Rounding.{rounded_edges}
use Rattle.slice_border.specs.Pieces.{spot_on}
use Rattle.slice_border.proofs.Keeping.{same_leaf}
use Rattle.sweep_laws.specs.Ways.{Way, way_between, pieces_of}
use Rattle.sweep_laws.specs.Visits.{grown, IsOneCourse, OneGoesOn, Pass}
use Rattle.sweep_laws.specs.Visits.Pass.{goes_on, all_end}
use Rattle.sweep_laws.specs.Fronts.{Strand, bundles_of, value_before, way_up, ways_up, way_from, ways_from}
use Rattle.sweep_laws.specs.Staying.{spot_of}
use Rattle.sweep_laws.specs.Edges.{edges_between}
use Rattle.sweep_laws.proofs.Edges.{ways_give_edges}
use Rattle.slice_outlines.specs.declared.course.Course.{Course}
use Rattle.slice_outlines.specs.declared.mark.Mark.{Mark}
use Rattle.slice_outlines.specs.Marks.{left_of_first, IsNamed, AreKept, begun}
use Rattle.slice_outlines.specs.Passing.{course_between, courses, or_none, edges_to, IsCourseOf, going_on, or_at, start_of, unless_on, ended_at}

-- a piece of a way's name and direction
pub record IsLike (w : Way) (c : Course) : Type 0 where
  pub name : c.name ≡ w.edge
  pub forward : c.forward ≡ w.forward

-- a way's far end rounds to a point; a bundle meets a height at a place that does
abbrev pub EndsAt : Pt → Way → Type 0
EndsAt p w = rounded (point_of w.far) ≡ p

abbrev pub RoundsTo : List LeafEdge → Level → Pt → List ℕ → Type 0
RoundsTo es l p b = rounded (point_of (spot_of es l b)) ≡ p

pub zip_append : {A B : Type 0} (R : A → B → Type 0) (xs : List A) (ys : List B) (us : List A) (vs : List B)
    → AllZip R xs ys → AllZip R us vs → AllZip R (xs ++ us) (ys ++ vs)
zip_append R [] [] us vs a b = b
zip_append R [] (y ∷ ys) us vs a b = absurd a
zip_append R (x ∷ xs) [] us vs a b = absurd a
zip_append R (x ∷ xs) (y ∷ ys) us vs a b = (a.0, zip_append R xs ys us vs a.1 b)

pub all_append : {A : Type 0} (P : A → Type 0) (xs ys : List A) → AllByRecursion P xs → AllByRecursion P ys
    → AllByRecursion P (xs ++ ys)
all_append P [] ys a b = b
all_append P (x ∷ xs) ys a b = (a.0, all_append P xs ys a.1 b)

-- ---- strands below
one_way : (a r : Bool) (near far : Spot) (k : ℕ) (m : Mark) → m.name ≡ k
    → ((a ≡ r → ⊥) → m.from ≡ rounded (point_of near))
    → AllZip IsCourseOf (way_between a r near far k) (course_between a r m)
one_way true true near far k m n f = tt
one_way true false near far k m n f = (record { name = n; forward = refl; from = f true≢false }, tt)
one_way false true near far k m n f = (record { name = n; forward = refl; from = f false≢true }, tt)
one_way false false near far k m n f = tt

one_up : (es : List LeafEdge) (l : Level) (b : List ℕ) (a r : Bool) (start : Spot) (m : Mark) → IsNamed m.name b
    → ((a ≡ r → ⊥) → m.from ≡ rounded (point_of start))
    → AllZip IsCourseOf (way_up es l a r start b) (course_between a r m)
one_up es l [] a r start m n f = absurd n
one_up es l (k ∷ ks) a r start m n f = one_way a r start (spot_on (edge_at es k) l) k m n f

pub first_kept : (v : Bool) (ms : List Mark) (ss : List Strand) → AreKept v ms ss
    → left_of_first ms v ≡ value_before ss v
first_kept v [] [] k = refl
first_kept v [] (s ∷ ss) k = absurd k
first_kept v (m ∷ ms) [] k = absurd k
first_kept v (m ∷ ms) (s ∷ ss) k = k.0.left

pub ways_kept : (es : List LeafEdge) (l : Level) (v : Bool) (ms : List Mark) (ss : List Strand) → AreKept v ms ss
    → AllZip IsCourseOf (ways_up es l v ss) (courses v ms)
ways_kept es l v [] [] k = tt
ways_kept es l v [] (s ∷ ss) k = absurd k
ways_kept es l v (m ∷ ms) [] k = absurd k
ways_kept es l v (m ∷ ms) (s ∷ ss) k =
    zip_append IsCourseOf (way_up es l s.left (value_before ss v) s.start s.bundle)
    (course_between m.left (left_of_first ms v) m) (ways_up es l v ss) (courses v ms)
    (subst (AllZip IsCourseOf (way_up es l s.left (value_before ss v) s.start s.bundle))
    (sym (ap₂ (λ (a r : Bool). course_between a r m) k.0.left (first_kept v ms ss k.1)))
    (one_up es l s.bundle s.left (value_before ss v) s.start m k.0.name k.0.from))
    (ways_kept es l v ms ss k.1)

one_far : (a r : Bool) (near far : Spot) (k : ℕ) (p : Pt) → rounded (point_of far) ≡ p
    → AllByRecursion (EndsAt p) (way_between a r near far k)
one_far true true near far k p h = tt
one_far true false near far k p h = (h, tt)
one_far false true near far k p h = (h, tt)
one_far false false near far k p h = tt

up_far : (es : List LeafEdge) (l : Level) (b : List ℕ) (a r : Bool) (start : Spot) (p : Pt) → RoundsTo es l p b
    → AllByRecursion (EndsAt p) (way_up es l a r start b)
up_far es l [] a r start p h = tt
up_far es l (k ∷ ks) a r start p h = one_far a r start (spot_on (edge_at es k) l) k p h

ups_far : (es : List LeafEdge) (l : Level) (v : Bool) (ss : List Strand) (p : Pt)
    → AllByRecursion (λ s. RoundsTo es l p s.bundle) ss → AllByRecursion (EndsAt p) (ways_up es l v ss)
ups_far es l v [] p h = tt
ups_far es l v (s ∷ ss) p h =
    all_append (EndsAt p) (way_up es l s.left (value_before ss v) s.start s.bundle) (ways_up es l v ss)
    (up_far es l s.bundle s.left (value_before ss v) s.start p h.0) (ups_far es l v ss p h.1)

-- ---- strands above
abbrev pub strands_from : (List ℕ → Spot) → List Mark → List (List ℕ) → List Strand
strands_from f [] bs = []
strands_from f (m ∷ ms) [] = []
strands_from f (m ∷ ms) (b ∷ bs) = record { bundle = b; left = m.left; start = f b } ∷ strands_from f ms bs

abbrev pub AreNamed : List Mark → List (List ℕ) → Type 0
AreNamed ms bs = AllZip (λ m b. IsNamed m.name b) ms bs

bundles_from : (f : List ℕ → Spot) (ms : List Mark) (bs : List (List ℕ)) → AreNamed ms bs
    → bundles_of (strands_from f ms bs) ≡ bs
bundles_from f [] [] n = refl
bundles_from f [] (b ∷ bs) n = absurd n
bundles_from f (m ∷ ms) [] n = absurd n
bundles_from f (m ∷ ms) (b ∷ bs) n = ap (λ (cs : List (List ℕ)). b ∷ cs) (bundles_from f ms bs n.1)

before_from : (f : List ℕ → Spot) (w : Bool) (ms : List Mark) (bs : List (List ℕ)) → AreNamed ms bs
    → left_of_first ms w ≡ value_before (strands_from f ms bs) w
before_from f w [] [] n = refl
before_from f w [] (b ∷ bs) n = absurd n
before_from f w (m ∷ ms) [] n = absurd n
before_from f w (m ∷ ms) (b ∷ bs) n = refl

one_like : (a r : Bool) (near far : Spot) (k : ℕ) (m : Mark) → m.name ≡ k
    → AllZip IsLike (way_between a r near far k) (course_between a r m)
one_like true true near far k m n = tt
one_like true false near far k m n = (record { name = n; forward = refl }, tt)
one_like false true near far k m n = (record { name = n; forward = refl }, tt)
one_like false false near far k m n = tt

from_like : (es : List LeafEdge) (l u : Level) (b : List ℕ) (a r : Bool) (m : Mark) → IsNamed m.name b
    → AllZip IsLike (way_from es l u a r b) (course_between a r m)
from_like es l u [] a r m n = absurd n
from_like es l u (k ∷ ks) a r m n = one_like a r (spot_on (edge_at es k) l) (spot_on (edge_at es k) u) k m n

outs_like : (es : List LeafEdge) (l u : Level) (w : Bool) (f : List ℕ → Spot) (ms : List Mark) (bs : List (List ℕ))
    → AreNamed ms bs → AllZip IsLike (ways_from es l u w (strands_from f ms bs)) (courses w ms)
outs_like es l u w f [] [] n = tt
outs_like es l u w f [] (b ∷ bs) n = absurd n
outs_like es l u w f (m ∷ ms) [] n = absurd n
outs_like es l u w f (m ∷ ms) (b ∷ bs) n =
    let ss : List Strand = strands_from f ms bs in
    zip_append IsLike (way_from es l u m.left (value_before ss w) b) (course_between m.left (left_of_first ms w) m)
    (ways_from es l u w ss) (courses w ms)
    (subst (λ (r : Bool). AllZip IsLike (way_from es l u m.left (value_before ss w) b) (course_between m.left r m))
    (sym (before_from f w ms bs n.1)) (from_like es l u b m.left (value_before ss w) m n.0))
    (outs_like es l u w f ms bs n.1)

-- where strands begin doesn't matter for the ways from one height to the next
same_before : (f g : List ℕ → Spot) (w : Bool) (ms : List Mark) (bs : List (List ℕ))
    → value_before (strands_from f ms bs) w ≡ value_before (strands_from g ms bs) w
same_before f g w [] bs = refl
same_before f g w (m ∷ ms) [] = refl
same_before f g w (m ∷ ms) (b ∷ bs) = refl

same_froms : (es : List LeafEdge) (l u : Level) (w : Bool) (f g : List ℕ → Spot) (ms : List Mark) (bs : List (List ℕ))
    → ways_from es l u w (strands_from f ms bs) ≡ ways_from es l u w (strands_from g ms bs)
same_froms es l u w f g [] bs = refl
same_froms es l u w f g (m ∷ ms) [] = refl
same_froms es l u w f g (m ∷ ms) (b ∷ bs) =
    ap₂ (λ (r : Bool) (ws : List Way). way_from es l u m.left r b ++ ws) (same_before f g w ms bs)
    (same_froms es l u w f g ms bs)

-- ways from the height, and ways that begin elsewhere
abbrev pub begun_ways : Spot → List Way → List Way
begun_ways start ws = map (λ (w : Way). record w { near = start }) ws

one_begun : (a r : Bool) (start near far : Spot) (k : ℕ)
    → way_between a r start far k ≡ begun_ways start (way_between a r near far k)
one_begun true true start near far k = refl
one_begun true false start near far k = refl
one_begun false true start near far k = refl
one_begun false false start near far k = refl

up_begun : (es : List LeafEdge) (l u : Level) (b : List ℕ) (a r : Bool) (start : Spot)
    → way_up es u a r start b ≡ begun_ways start (way_from es l u a r b)
up_begun es l u [] a r start = refl
up_begun es l u (k ∷ ks) a r start =
    one_begun a r start (spot_on (edge_at es k) l) (spot_on (edge_at es k) u) k

ups_begun : (es : List LeafEdge) (l u : Level) (w : Bool) (start : Spot) (ms : List Mark) (bs : List (List ℕ))
    → ways_up es u w (strands_from (λ b. start) ms bs)
    ≡ begun_ways start (ways_from es l u w (strands_from (λ b. start) ms bs))
ups_begun es l u w start [] bs = refl
ups_begun es l u w start (m ∷ ms) [] = refl
ups_begun es l u w start (m ∷ ms) (b ∷ bs) =
    let ss : List Strand = strands_from (λ b. start) ms bs in
    ap₂ (λ (vs ws : List Way). vs ++ ws) (up_begun es l u b m.left (value_before ss w) start)
    (ups_begun es l u w start ms bs)
    ∙ sym (map-append (λ (w : Way). record w { near = start }) (way_from es l u m.left (value_before ss w) b)
    (ways_from es l u w ss))

up_here : (es : List LeafEdge) (l u : Level) (b : List ℕ) (a r : Bool)
    → way_up es u a r (spot_of es l b) b ≡ way_from es l u a r b
up_here es l u [] a r = refl
up_here es l u (k ∷ ks) a r = refl

ups_here : (es : List LeafEdge) (l u : Level) (w : Bool) (ms : List Mark) (bs : List (List ℕ))
    → ways_up es u w (strands_from (spot_of es l) ms bs) ≡ ways_from es l u w (strands_from (spot_of es l) ms bs)
ups_here es l u w [] bs = refl
ups_here es l u w (m ∷ ms) [] = refl
ups_here es l u w (m ∷ ms) (b ∷ bs) =
    let ss : List Strand = strands_from (spot_of es l) ms bs in
    ap₂ (λ (vs ws : List Way). vs ++ ws) (up_here es l u b m.left (value_before ss w)) (ups_here es l u w ms bs)

flat_here : (s : Spot) (ws : List Way) → AllByRecursion (λ w. w.near ≡ s) ws → begun_ways s ws ≡ ws
flat_here s [] h = refl
flat_here s (w ∷ ws) h =
    ap₂ (λ (t : Spot) (vs : List Way). record w { near = t } ∷ vs) (sym h.0) (flat_here s ws h.1)

kept_begun : (w : Bool) (f : List ℕ → Spot) (ms : List Mark) (bs : List (List ℕ)) (q : Pt) → AreNamed ms bs
    → AllByRecursion (λ b. rounded (point_of (f b)) ≡ q) bs → AreKept w (begun q ms) (strands_from f ms bs)
kept_begun w f [] [] q n h = tt
kept_begun w f [] (b ∷ bs) q n h = absurd n
kept_begun w f (m ∷ ms) [] q n h = absurd n
kept_begun w f (m ∷ ms) (b ∷ bs) q n h =
    (record { name = n.0; left = refl; from = λ d. sym h.0 }, kept_begun w f ms bs q n.1 h.1)

all_same : {A : Type 0} (xs : List A) (P : Type 0) → P → AllByRecursion (λ x. P) xs
all_same [] P h = tt
all_same (x ∷ xs) P h = (h, all_same xs P h)

-- ---- whether one goes on
pub record GoesOn (ins outs : List Way) (from : Pt) : Type 0 where
  pub one : Way
  pub other : Way
  pub ins_is : ins ≡ one ∷ []
  pub outs_is : outs ≡ other ∷ []
  pub course : IsOneCourse one other
  pub from_is : from ≡ rounded (point_of one.near)

tested : (t : Bool) (a b : Pt) → (if t then Some a else None) ≡ Some b → (t ≡ true) × (a ≡ b)
tested true a b e = (refl, cc)
tested false a b e = absurd cc

same_flag : (a b : Bool) → cond a b (not b) ≡ true → a ≡ b
same_flag true true e = refl
same_flag true false e = absurd cc
same_flag false true e = absurd cc
same_flag false false e = refl

flags_same : (a b : Bool) → a ≡ b → cond a b (not b) ≡ true
flags_same true true e = refl
flags_same true false e = absurd cc
flags_same false true e = absurd cc
flags_same false false e = refl

goes : (ins outs : List Way) (vs ws : List Course) → AllZip IsCourseOf ins vs → AllZip IsLike outs ws → (from : Pt)
    → going_on vs ws ≡ Some from → GoesOn ins outs from
goes [] outs [] ws a b from e = absurd cc
goes [] outs (v ∷ vs) ws a b from e = absurd a
goes (x ∷ xs) outs [] ws a b from e = absurd a
goes (x ∷ []) [] (v ∷ []) [] a b from e = absurd cc
goes (x ∷ []) [] (v ∷ []) (w ∷ ws) a b from e = absurd b
goes (x ∷ []) (y ∷ ys) (v ∷ []) [] a b from e = absurd b
goes (x ∷ []) (y ∷ []) (v ∷ []) (w ∷ []) a b from e =
    let t = tested ((v.name == w.name) && cond v.forward w.forward (not w.forward)) v.from from e in
    let both = and_parts (v.name == w.name) (cond v.forward w.forward (not w.forward)) t.0 in
    record {
      one = x;
      other = y;
      ins_is = refl;
      outs_is = refl;
      course = record {
        edge = sym a.0.name ∙ same_leaf v.name w.name both.0 ∙ b.0.name;
        forward = sym a.0.forward ∙ same_flag v.forward w.forward both.1 ∙ b.0.forward;
      };
      from_is = sym t.1 ∙ a.0.from;
    }
goes (x ∷ []) (y ∷ []) (v ∷ []) (w ∷ (z ∷ ws)) a b from e = absurd b.1
goes (x ∷ []) (y ∷ (z ∷ ys)) (v ∷ []) (w ∷ []) a b from e = absurd b.1
goes (x ∷ []) (y ∷ (z ∷ ys)) (v ∷ []) (w ∷ (t ∷ ws)) a b from e = absurd cc
goes (x ∷ []) outs (v ∷ (u ∷ vs)) ws a b from e = absurd a.1
goes (x ∷ (z ∷ xs)) outs (v ∷ []) ws a b from e = absurd a.1
goes (x ∷ (z ∷ xs)) outs (v ∷ (u ∷ vs)) ws a b from e = absurd cc

untested : (t : Bool) (a : Pt) → t ≡ true → (if t then Some a else None) ≡ None → ⊥
untested true a h e = cc
untested false a h e = cc

both_true : (a b : Bool) → a ≡ true → b ≡ true → (a && b) ≡ true
both_true true true p q = refl
both_true true false p q = q
both_true false b p q = p

none_goes : (ins outs : List Way) (vs ws : List Course) → AllZip IsCourseOf ins vs → AllZip IsLike outs ws
    → going_on vs ws ≡ None → OneGoesOn ins outs → ⊥
none_goes [] outs vs ws a b e o = o
none_goes (x ∷ []) [] vs ws a b e o = o
none_goes (x ∷ []) (y ∷ []) [] ws a b e o = a
none_goes (x ∷ []) (y ∷ []) (v ∷ []) [] a b e o = b
none_goes (x ∷ []) (y ∷ []) (v ∷ []) (w ∷ []) a b e o =
    untested ((v.name == w.name) && cond v.forward w.forward (not w.forward)) v.from
    (both_true (v.name == w.name) (cond v.forward w.forward (not w.forward))
    (eq-eqb v.name w.name (a.0.name ∙ o.edge ∙ sym b.0.name))
    (flags_same v.forward w.forward (a.0.forward ∙ o.forward ∙ sym b.0.forward))) e
none_goes (x ∷ []) (y ∷ []) (v ∷ []) (w ∷ (z ∷ ws)) a b e o = b.1
none_goes (x ∷ []) (y ∷ []) (v ∷ (u ∷ vs)) ws a b e o = a.1
none_goes (x ∷ []) (y ∷ (z ∷ ys)) vs ws a b e o = o
none_goes (x ∷ (z ∷ xs)) outs vs ws a b e o = o

-- ---- the edges of those that end
pub ended_edges : (ws : List Way) (cs : List Course) (p : Pt) → AllZip IsCourseOf ws cs → AllByRecursion (EndsAt p) ws
    → rounded_edges (pieces_of ws) ≡ edges_to p cs
ended_edges [] [] p z h = ways_give_edges.none
ended_edges [] (c ∷ cs) p z h = absurd z
ended_edges (w ∷ ws) [] p z h = absurd z
ended_edges (w ∷ ws) (c ∷ cs) p z h =
    ways_give_edges.more (w ∷ []) ws
    ∙ ap₂ (λ (es fs : List Edge). es ++ fs)
    (ways_give_edges.one w
    ∙ ap (λ (q : Pt). edges_between w.forward (rounded (point_of w.near)) q) h.0
    ∙ ap₂ (λ (b : Bool) (q : Pt). edges_between b q p) (sym z.0.forward) (sym z.0.from))
    (ended_edges ws cs p z.1 h.1)

-- ---- a place
pub same_pass : (ins ins' outs outs' opens opens' closed : List Way) → ins ≡ ins' → outs ≡ outs' → opens ≡ opens'
    → Pass ins outs opens closed → Pass ins' outs' opens' closed
same_pass ins ins' outs outs' opens opens' closed a b c p =
    subst (λ (ws : List Way). Pass ws outs' opens' closed) a
    (subst (λ (ws : List Way). Pass ins ws opens' closed) b
    (subst (λ (ws : List Way). Pass ins outs ws closed) c p))

-- strands that come to a place with marks, and bundles that leave it with marks; a way along the height may come to it
-- and go out from it
pub record IsPlace (es : List LeafEdge) (l : Level) (v : Bool) (below : List Strand) (lower upper : List Mark)
    (bundles : List (List ℕ)) (spot : Spot) (p : Pt) (flat_in flat_out : List Way)
    (in_course out_course : Option Course)
    : Type 0 where
  pub kept : AreKept v lower below
  pub named : AreNamed upper bundles
  pub ends : AllByRecursion (λ s. RoundsTo es l p s.bundle) below
  pub begins : AllByRecursion (RoundsTo es l p) bundles
  pub at : rounded (point_of spot) ≡ p
  pub comes : AllZip IsCourseOf flat_in (or_none in_course)
  pub comes_to : AllByRecursion (EndsAt p) flat_in
  pub leaves : AllZip IsLike flat_out (or_none out_course)
  pub leaves_from : AllByRecursion (λ w. w.near ≡ spot) flat_out

-- what passes there
pub record PlacePasses (es : List LeafEdge) (l u : Level) (v w : Bool) (below : List Strand) (upper : List Mark)
    (bundles : List (List ℕ)) (p : Pt) (flat_in flat_out : List Way) (ins outs : List Course) : Type 0 where
  pub start : Spot
  pub above : List Strand
  pub closed : List Way
  pub is_above : bundles_of above ≡ bundles
  pub pass : Pass (ways_up es l v below ++ flat_in) (ways_from es l u w above ++ flat_out)
      (ways_up es u w above ++ begun_ways start flat_out) closed
  pub from : start_of p ins outs ≡ rounded (point_of start)
  pub kept : AreKept w (begun (start_of p ins outs) upper) above
  pub edges : rounded_edges (pieces_of closed) ≡ ended_at p ins outs

module _ (es : List LeafEdge) (l u : Level) (v w : Bool) (below : List Strand) (lower upper : List Mark)
    (bundles : List (List ℕ)) (spot : Spot) (p : Pt) (flat_in flat_out : List Way)
    (in_course out_course : Option Course)
    (h : IsPlace es l v below lower upper bundles spot p flat_in flat_out in_course out_course) where
  ins_zip : AllZip IsCourseOf (ways_up es l v below ++ flat_in) (courses v lower ++ or_none in_course)
  ins_zip = zip_append IsCourseOf (ways_up es l v below) (courses v lower) flat_in (or_none in_course)
      (ways_kept es l v lower below h.kept) h.comes

  outs_zip : (f : List ℕ → Spot) → AllZip IsLike (ways_from es l u w (strands_from f upper bundles) ++ flat_out)
      (courses w upper ++ or_none out_course)
  outs_zip f = zip_append IsLike (ways_from es l u w (strands_from f upper bundles)) (courses w upper) flat_out
      (or_none out_course) (outs_like es l u w f upper bundles h.named) h.leaves

  by_case : (o : Option Pt) → going_on (courses v lower ++ or_none in_course) (courses w upper
      ++ or_none out_course) ≡ o
      → PlacePasses es l u v w below upper bundles p flat_in flat_out (courses v lower ++ or_none in_course)
      (courses w upper ++ or_none out_course)
  by_case None e =
      let vs : List Course = courses v lower ++ or_none in_course in
      let ws : List Course = courses w upper ++ or_none out_course in
      let ins : List Way = ways_up es l v below ++ flat_in in
      let above : List Strand = strands_from (spot_of es l) upper bundles in
      let outs : List Way = ways_from es l u w above ++ flat_out in
      let start : start_of p vs ws ≡ p = ap (or_at p) e in
      record {
        start = spot;
        above = above;
        closed = ins;
        is_above = bundles_from (spot_of es l) upper bundles h.named;
        pass = subst (λ (opens : List Way). Pass ins outs opens ins)
            (ap₂ (λ (xs ys : List Way). xs ++ ys) (sym (ups_here es l u w upper bundles))
            (sym (flat_here spot flat_out h.leaves_from)))
            (all_end ins outs (none_goes ins outs vs ws ins_zip (outs_zip (spot_of es l)) e));
        from = start ∙ sym h.at;
        kept = subst (λ (q : Pt). AreKept w (begun q upper) above) (sym start)
            (kept_begun w (spot_of es l) upper bundles p h.named h.begins);
        edges = ended_edges ins vs p ins_zip
            (all_append (EndsAt p) (ways_up es l v below) flat_in (ups_far es l v below p h.ends) h.comes_to)
            ∙ sym (ap (λ (o : Option Pt). unless_on o (edges_to p vs)) e);
      }
  by_case (Some q) e =
      let vs : List Course = courses v lower ++ or_none in_course in
      let ws : List Course = courses w upper ++ or_none out_course in
      let ins : List Way = ways_up es l v below ++ flat_in in
      let here : List Way = ways_from es l u w (strands_from (spot_of es l) upper bundles) ++ flat_out in
      let g : GoesOn ins here q = goes ins here vs ws ins_zip (outs_zip (spot_of es l)) q e in
      let s : Spot = g.one.near in
      let above : List Strand = strands_from (λ b. s) upper bundles in
      let outs : List Way = ways_from es l u w above ++ flat_out in
      let start : start_of p vs ws ≡ q = ap (or_at p) e in
      let are : outs ≡ g.other ∷ [] =
      ap (λ (xs : List Way). xs ++ flat_out) (same_froms es l u w (λ b. s) (spot_of es l) upper bundles) ∙ g.outs_is in
      let opens : ways_up es u w above ++ begun_ways s flat_out ≡ begun_ways s outs =
      ap (λ (xs : List Way). xs ++ begun_ways s flat_out) (ups_begun es l u w s upper bundles)
      ∙ sym (map-append (λ (w : Way). record w { near = s }) (ways_from es l u w above) flat_out) in
      let same : grown g.one g.other ∷ [] ≡ begun_ways s (g.other ∷ []) =
      ap₂ (λ (k : ℕ) (b : Bool). record { near = s; far = g.other.far; edge = k; forward = b } ∷ []) g.course.edge
      g.course.forward in
      record {
        start = s;
        above = above;
        closed = [];
        is_above = bundles_from (λ b. s) upper bundles h.named;
        pass = same_pass (g.one ∷ []) ins (g.other ∷ []) outs (grown g.one g.other ∷ [])
            (ways_up es u w above ++ begun_ways s flat_out) [] (sym g.ins_is) (sym are)
            (same ∙ ap (begun_ways s) (sym are) ∙ sym opens) (goes_on g.one g.other g.course);
        from = start ∙ g.from_is;
        kept = subst (λ (q : Pt). AreKept w (begun q upper) above) (sym start)
            (kept_begun w (λ b. s) upper bundles q h.named (all_same bundles (rounded (point_of s) ≡ q)
            (sym g.from_is)));
        edges = ways_give_edges.none ∙ sym (ap (λ (o : Option Pt). unless_on o (edges_to p vs)) e);
      }

  pub place_passes : PlacePasses es l u v w below upper bundles p flat_in flat_out
      (courses v lower ++ or_none in_course) (courses w upper ++ or_none out_course)
  place_passes = by_case
      (going_on (courses v lower ++ or_none in_course) (courses w upper ++ or_none out_course)) refl
