-- A strand that stays, between places where something passes.
use Rattle.std.proofs.Common.{◌≡◌, ℕ, ◌+◌, ◌<◌, Bool, true, false, List, [], ◌∷◌, ◌++◌, length, take, drop, Option, None, Some, refl, sym, ap, ap₂, ◌∙◌, subst, arith, append_assoc, true≢false}
use Rattle.std.specs.Prelude.{nat_lt, if◌then◌else◌}
use Rattle.std.specs.List.{AllZip, position}
use Rattle.std.specs.List.Sorted.{IsPermutation}
use Rattle.std.proofs.lemmas.List.{append-nil, map-append, take_more, take-append-drop, drop-take, take-take}
use Rattle.scad_geom.specs.declared.point.Edge.{Edge}
use Rattle.scad_geom.specs.declared.level.Level.{Level}
use Rattle.scad_geom.specs.declared.level.LeafEdge.{LeafEdge}
use Rattle.slice_bundles.specs.Bundles.{edge_at}
use Rattle.slice_pieces.specs.declared.piece.Spot.{Spot}
use Rattle.slice_pieces.specs.Rounding.{rounded_edges}
use Rattle.slice_sweep.specs.Front.{bundles_in}
use Rattle.slice_border.specs.Pieces.{spot_on, covers}
use Rattle.sweep_laws.specs.Ways.{Way, way_between, pieces_of}
use Rattle.sweep_laws.specs.Visits.{Pass}
use Rattle.sweep_laws.specs.Visits.Pass.{goes_on, all_end}
use Rattle.sweep_laws.specs.Fronts.{Strand, bundles_of, value_before, way_up, way_from}
use Rattle.sweep_laws.specs.Crossing.{Place, all_below, all_above, all_closed, way_along, flat_way, ins_to, outs_from, opens_after, ArePassed, MeetsAt}
use Rattle.sweep_laws.specs.Staying.{spot_of, staying}
use Rattle.slice_outlines.specs.declared.mark.Mark.{Mark}
use Rattle.slice_outlines.specs.declared.run.Run.{Run}
use Rattle.slice_outlines.specs.declared.cursors.Cursors.{Cursors}
use Rattle.slice_outlines.specs.declared.height.Height.{Height}
use Rattle.slice_outlines.specs.Marks.{mark_at, no_mark, left_of_first, IsNamed, IsKept, AreKept}
use Rattle.slice_outlines.specs.Passing.{IsCourseOf}
use Rattle.slice_outlines.specs.Heights.{Onwards}
use Rattle.slice_outlines.specs.Along.{value_over, AreAtPlace, HasComeOver}
use Rattle.slice_outlines.proofs.Placing.{all_append}
use Rattle.slice_outlines.proofs.Places.{below-append, above-append, closed-append}

-- ---- between places with one value on both sides nothing leads along the height
none_along : (b : Bool) (s t : Spot) (o : Option ℕ) → way_along b b s t o ≡ []
none_along b s t None = refl
none_along true s t (Some k) = refl
none_along false s t (Some k) = refl

pub no_flat : (es : List LeafEdge) (start : Spot) (p : Place) (later : List Place)
    → value_before (all_above later) false ≡ value_before (all_below later) false → flat_way es start p later ≡ []
no_flat es start p [] e = refl
no_flat es start p (q ∷ ps) e =
    ap (λ (a : Bool). way_along a (value_before (all_below (q ∷ ps)) false) start q.at (position
    (covers p.at q.at) es)) e
    ∙ none_along (value_before (all_below (q ∷ ps)) false) start q.at (position (covers p.at q.at) es)

-- ---- one strand
stay_between : (v w : Bool) (start s t : Spot) (k : ℕ)
    → Pass ((way_between v w start s k ++ []) ++ []) ((way_between v w s t k ++ []) ++ [])
    ((way_between v w start t k ++ []) ++ []) []
stay_between true true start s t k = all_end [] [] (λ x. x)
stay_between true false start s t k = goes_on (record { near = start; far = s; edge = k; forward = true })
    (record { near = s; far = t; edge = k; forward = true }) (record { edge = refl; forward = refl })
stay_between false true start s t k = goes_on (record { near = start; far = s; edge = k; forward = false })
    (record { near = s; far = t; edge = k; forward = false }) (record { edge = refl; forward = refl })
stay_between false false start s t k = all_end [] [] (λ x. x)

stay_bundle : (es : List LeafEdge) (l u : Level) (v w : Bool) (start : Spot) (b : List ℕ)
    → Pass ((way_up es l v w start b ++ []) ++ []) ((way_from es l u v w b ++ []) ++ [])
    ((way_up es u v w start b ++ []) ++ []) []
stay_bundle es l u v w start [] = all_end [] [] (λ x. x)
stay_bundle es l u v w start (k ∷ ks) = stay_between v w start (spot_on (edge_at es k) l) (spot_on (edge_at es k) u) k

stay_pass : (es : List LeafEdge) (l u : Level) (t : Strand) (later : List Place)
    → value_before (all_above later) false ≡ value_before (all_below later) false
    → Pass (ins_to es l [] (staying es l t) later) (outs_from es l u (staying es l t) later)
    (opens_after es u (staying es l t) later) []
stay_pass es l u t later e =
    let v : Bool = value_before (all_below later) false in
    let q : Place = staying es l t in
    subst (λ (w : Bool). Pass ((way_up es l t.left v t.start t.bundle ++ []) ++ [])
    ((way_from es l u t.left w t.bundle ++ []) ++ flat_way es q.at q later)
    ((way_up es u t.left w t.start t.bundle ++ []) ++ flat_way es q.start q later) []) (sym e)
    (subst (λ (ws : List Way). Pass ((way_up es l t.left v t.start t.bundle ++ []) ++ [])
    ((way_from es l u t.left v t.bundle ++ []) ++ ws)
    ((way_up es u t.left v t.start t.bundle ++ []) ++ flat_way es q.start q later) []) (sym (no_flat es q.at q later e))
    (subst (λ (ws : List Way). Pass ((way_up es l t.left v t.start t.bundle ++ []) ++ [])
    ((way_from es l u t.left v t.bundle ++ []) ++ [])
    ((way_up es u t.left v t.start t.bundle ++ []) ++ ws) []) (sym (no_flat es q.start q later e))
    (stay_bundle es l u t.left v t.start t.bundle)))

-- ---- lists
next_taken : {X : Type 0} (xs : List X) (n : ℕ) (x : X) → drop n xs ≡ x ∷ drop (n + 1) xs
    → take n xs ++ (x ∷ []) ≡ take (n + 1) xs
next_taken {X} xs n x e =
    ap (λ (ys : List X). take n xs ++ ys) (sym (drop-take n 1 xs ∙ ap (take 1) e))
    ∙ ap (λ (ys : List X). ys ++ drop n (take (n + 1) xs)) (sym (take-take n (n + 1) xs (omega arith)))
    ∙ take-append-drop n (take (n + 1) xs)

kept_next : (v w : Bool) (ms : List Mark) (ss : List Strand) (m : Mark) (t : Strand) → v ≡ t.left → AreKept v ms ss
    → IsKept w m t → AreKept w (ms ++ (m ∷ [])) (ss ++ (t ∷ []))
kept_next v w [] [] m t e k h = (h, tt)
kept_next v w [] (s ∷ ss) m t e k h = absurd k
kept_next v w (n ∷ ms) [] m t e k h = absurd k
kept_next v w (n ∷ ms) (s ∷ []) m t e k h =
    (subst (λ (b : Bool). IsKept b n s) e k.0, kept_next v w ms [] m t e k.1 h)
kept_next v w (n ∷ ms) (s ∷ (r ∷ ss)) m t e k h = (k.0, kept_next v w ms (r ∷ ss) m t e k.1 h)

pub within : (h : Height) (run : Run) (ms : List Mark) (m : ℕ) → m < run.above_to
    → value_over h run ms m ≡ (mark_at ms m).left
within h run ms m o = by_test (nat_lt m run.above_to) (less m run.above_to o)
  where
    less : (i j : ℕ) → i < j → nat_lt i j ≡ true
    less i j o = grind arith

    by_test : (t : Bool) → t ≡ true
        → (if t then (mark_at ms m).left else left_of_first (drop run.below_to h.below.now) false) ≡ (mark_at ms m).left
    by_test true e = refl
    by_test false e = absurd (true≢false (sym e))

-- ---- a strand that stays is one place more
pub record Stays (on : Onwards) (s : Spot) (run : Run) (n m : ℕ) (ms : List Mark) (t : Strand) : Type 0 where
  pub at : spot_of on.height.edges.now on.height.at.now t.bundle ≡ s
  pub lower : drop n on.below ≡ t ∷ drop (n + 1) on.below
  pub upper : drop m (bundles_in on.height.front.now) ≡ t.bundle ∷ drop (m + 1) (bundles_in on.height.front.now)
  pub kept : IsKept (value_over on.height run ms (m + 1)) (mark_at ms m) t
  pub there : m < length ms
  pub to : m < run.above_to
  pub value : value_over on.height run ms (m + 1) ≡ value_before (drop (n + 1) on.below) false

-- a bundle is where its first edge meets a height
meets_own : (es : List LeafEdge) (l : Level) (k : ℕ) (b : List ℕ) → IsNamed k b → MeetsAt es l (spot_of es l b) b
meets_own es l k [] n = absurd n
meets_own es l k (j ∷ js) n = refl

pub stay_passed : (on : Onwards) (passed : List Spot) (s : Spot) (run : Run) (n m : ℕ) (ms : List Mark)
    (given : List Edge) (c : Cursors) (t : Strand) → Stays on s run n m ms t
    → HasComeOver on passed (s ∷ []) run n m None ms given c
    → HasComeOver on (passed ++ (s ∷ [])) [] run (n + 1) (m + 1) None ms given c
stay_passed on passed s run n m ms given c t h come =
    let es : List LeafEdge = on.height.edges.now in
    let l : Level = on.height.at.now in
    let q : Place = staying es l t in
    let left : value_over on.height run ms m ≡ t.left = within on.height run ms m h.to ∙ h.kept.left in
    let meets : MeetsAt es l q.at t.bundle = meets_own es l (mark_at ms m).name t.bundle h.kept.name in
    let own : AreAtPlace es l q = record { below = (meets, tt); above = (meets, tt) } in
    record {
      places = come.places ++ (q ∷ []);
      flat = [];
      at = map-append (λ (p : Place). p.at) come.places (q ∷ [])
          ∙ ap₂ (λ (us : List Spot) (r : Spot). us ++ (r ∷ [])) come.at h.at;
      along = tt;
      leads = refl;
      lower = below-append come.places (q ∷ []) ∙ ap (λ (ss : List Strand). ss ++ (t ∷ [])) come.lower
          ∙ next_taken on.below n t h.lower;
      upper = ap bundles_of (above-append come.places (q ∷ []))
          ∙ map-append (λ (r : Strand). r.bundle) (all_above come.places) (t ∷ [])
          ∙ ap (λ (bs : List (List ℕ)). bs ++ (t.bundle ∷ [])) come.upper
          ∙ next_taken (bundles_in on.height.front.now) m t.bundle h.upper;
      goes_on = λ later f pass.
          let beside : value_before (all_above later) false ≡ value_before (all_below later) false =
          f.value ∙ h.value ∙ ap (λ (ss : List Strand). value_before ss false) (sym f.below) in
          let more : ArePassed es l on.upper [] (q ∷ later) = (
            stay_pass es l on.upper t later beside,
            subst (λ (ws : List Way). ArePassed es l on.upper ws later) (sym (no_flat es q.start q later beside)) pass,
          ) in
          subst (ArePassed es l on.upper []) (sym (append_assoc come.places (q ∷ []) later))
          (come.goes_on (q ∷ later) (record {
            below = ap (λ (ss : List Strand). t ∷ ss) f.below ∙ sym h.lower;
            value = sym left;
            first = h.at;
          }) (subst (λ (ws : List Way). ArePassed es l on.upper ws (q ∷ later)) (sym (no_course come.flat come.along))
          more));
      kept = subst (λ (xs : List Mark). AreKept (value_over on.height run ms (m + 1)) xs
          (all_above (come.places ++ (q ∷ [])))) (sym (take_more ms m no_mark h.there))
          (subst (AreKept (value_over on.height run ms (m + 1)) (take m ms ++ (mark_at ms m ∷ [])))
          (sym (above-append come.places (q ∷ [])))
          (kept_next (value_over on.height run ms m) (value_over on.height run ms (m + 1)) (take m ms)
          (all_above come.places) (mark_at ms m) t left come.kept h.kept));
      met = all_append (AreAtPlace es l) come.places (q ∷ []) come.met (own, tt);
      named = come.named;
      valued = come.valued;
      edges = subst (λ (ws : List Way). IsPermutation (on.given ++ rounded_edges (pieces_of ws)) given)
          (sym (closed-append come.places (q ∷ []) ∙ append-nil (all_closed come.places))) come.edges;
      stands = come.stands;
    }
  where
    no_course : (ws : List Way) → AllZip IsCourseOf ws [] → ws ≡ []
    no_course [] z = refl
    no_course (w ∷ ws) z = absurd z
