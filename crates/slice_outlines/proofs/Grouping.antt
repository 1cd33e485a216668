-- What passes at a group.
use Rattle.std.proofs.Common.{◌≡◌, ℕ, zero, suc, ◌+◌, ◌-◌, ◌<◌, ◌≤◌, Bool, true, false, List, [], ◌∷◌, ◌++◌, map, length, get_or, take, drop, None, refl, sym, ap, ap₂, ◌∙◌, subst, arith, true≢false}
use Rattle.std.specs.Prelude.{nat_lt, if◌then◌else◌}
use Rattle.std.specs.List.{AllByRecursion}
use Rattle.std.proofs.lemmas.List.{drop_more, drop_at, take-map}
use Rattle.scad_geom.specs.declared.point.Pt.{Pt}
use Rattle.scad_geom.specs.declared.point.Edge.{Edge}
use Rattle.scad_geom.proofs.Order.{front, back}
use Rattle.winding_laws.specs.Edges.{rounded}
use Rattle.slice_bundles.specs.Bundles.{edge_at}
use Rattle.slice_pieces.specs.declared.piece.Spot.{Spot}
use Rattle.slice_pieces.specs.Spots.{point_of}
use Rattle.slice_sweep.specs.Front.{bundles_in}
use Rattle.slice_border.specs.Pieces.{spot_on, IsSameAcross}
use Rattle.slice_outlines.specs.declared.course.Course.{Course}
use Rattle.slice_outlines.specs.declared.mark.Mark.{Mark}
use Rattle.slice_outlines.specs.declared.run.Run.{Run}
use Rattle.slice_outlines.specs.declared.cursors.Cursors.{Cursors}
use Rattle.slice_outlines.specs.declared.height.Height.{Height}
use Rattle.slice_outlines.specs.Marks.{AreThere, mark_at, no_mark, spot_at, left_of_first, AreKept, begun, begun_in, names_in}
use Rattle.slice_outlines.specs.Stops.{AllPass}
use Rattle.slice_outlines.specs.Cursors.{StandOn}
use Rattle.slice_outlines.specs.Passing.{courses, or_none, start_of, ended_at}
use Rattle.slice_outlines.specs.Heights.{Onwards, IsRunOf, IsGroupAt, IsNameOf, MeetAt, MeetAcross, KeepsMarks}
use Rattle.slice_outlines.specs.Along.{value_over, HasComeOver}
use Rattle.slice_outlines.specs.Ahead.{KeepsRight}
use Rattle.slice_outlines.proofs.Onward.{stop_passed, names_begun, front_size, begun_split}

-- ---- the first mark of a part
first_in : {X : Type 0} (P : X → Type 0) (xs : List X) (i j : ℕ) (d : X) → i < j → j ≤ length xs
    → AllByRecursion P (take (j - i) (drop i xs)) → P (get_or xs i d)
first_in {X} P xs i j d o l h = by_size (j - i) refl
  where
    by_size : (k : ℕ) → j - i ≡ k → P (get_or xs i d)
    by_size zero e = absurd (omega (arith, e, o))
    by_size (suc k) e =
        let part : take (suc k) (get_or xs i d ∷ drop (i + 1) xs) ≡ take (j - i) (drop i xs) =
        ap₂ (λ (n : ℕ) (ys : List X). take n ys) (sym e) (sym (drop_more xs i d (omega (arith, o, l)))) in
        let all : AllByRecursion P (get_or xs i d ∷ take k (drop (i + 1) xs)) =
        subst (AllByRecursion P) (sym part) h in
        all.0

module _ (h : Height) (ms : List Mark) (run : Run) (g : IsGroupAt h ms run)
    (pb : AllPass h.edges.now h.at.now h.below.now) (pa : AllPass h.edges.now h.at.now ms)
    (tb : AreThere h.edges.now h.below.now) (ta : AreThere h.edges.now ms) where
  abbrev Meets : Pt → Mark → Type 0
  Meets p m = rounded (point_of (spot_at h.edges.now h.at.now m)) ≡ p

  abbrev lower : List Mark
  lower = take (run.below_to - run.below) (drop run.below h.below.now)

  abbrev upper : List Mark
  upper = take (run.above_to - run.above) (drop run.above ms)

  pub named_below : (k : ℕ) → run.below < run.below_to → k ≡ (mark_at h.below.now run.below).name
      → IsNameOf h ms run k
  named_below k o e =
      let to = g.run.below_to in
      let there : run.below < length h.below.now = omega (arith, o, to) in
      subst (IsNameOf h ms run) (sym e) (record {
        there = tb run.below no_mark there;
        passes = pb run.below no_mark there;
        meets = λ p m. first_in (Meets p) h.below.now run.below run.below_to no_mark o to
            (front (Meets p) lower upper m);
      })

  pub some_above : run.below_to ≤ run.below → run.above < run.above_to
  some_above o = by_test (nat_lt run.above run.above_to) refl
    where
      less : nat_lt run.above run.above_to ≡ true → run.above < run.above_to
      less v = grind arith

      not_less : nat_lt run.above run.above_to ≡ false → run.above_to - run.above ≡ 0
      not_less v = grind arith

      by_test : (t : Bool) → nat_lt run.above run.above_to ≡ t → run.above < run.above_to
      by_test true v = less v
      by_test false v =
          let below : run.below_to - run.below ≡ 0 = omega (arith, o) in
          absurd (g.some (ap₂ (λ (i j : ℕ). take i (drop run.below h.below.now) ++ take j (drop run.above ms)) below
          (not_less v)))

  pub named_above : (k : ℕ) → run.below_to ≤ run.below → k ≡ (mark_at ms run.above).name → IsNameOf h ms run k
  named_above k o e =
      let to = g.run.above_to in
      let some = some_above o in
      let there : run.above < length ms = omega (arith, some, to) in
      subst (IsNameOf h ms run) (sym e) (record {
        there = ta run.above no_mark there;
        passes = pa run.above no_mark there;
        meets = λ p m. first_in (Meets p) ms run.above run.above_to no_mark some to (back (Meets p) lower upper m);
      })

-- ---- names of marks
drop_names : (n : ℕ) (ms : List Mark) → map (λ (m : Mark). m.name) (drop n ms) ≡ drop n (map (λ (m : Mark). m.name) ms)
drop_names zero ms = refl
drop_names (suc n) [] = refl
drop_names (suc n) (m ∷ ms) = drop_names n ms

pub same_names : (old new : List Mark) → length new ≡ length old
    → ((i : ℕ) → (mark_at new i).name ≡ (mark_at old i).name)
    → map (λ (m : Mark). m.name) old ≡ map (λ (m : Mark). m.name) new
same_names [] [] s h = refl
same_names [] (m ∷ ms) s h = absurd (omega (arith, s))
same_names (m ∷ ms) [] s h = absurd (omega (arith, s))
same_names (m ∷ ms) (n ∷ ns) s h =
    ap₂ (λ (k : ℕ) (ks : List ℕ). k ∷ ks) (sym (h 0)) (same_names ms ns (omega (arith, s)) (λ i. h (suc i)))

module _ (Q : ℕ → Type 0) where
  pub to_names : (ms : List Mark) → AllByRecursion (λ (m : Mark). Q m.name) ms
      → AllByRecursion Q (map (λ (m : Mark). m.name) ms)
  to_names [] h = tt
  to_names (m ∷ ms) h = (h.0, to_names ms h.1)

  pub of_names : (ms : List Mark) → AllByRecursion Q (map (λ (m : Mark). m.name) ms)
      → AllByRecursion (λ (m : Mark). Q m.name) ms
  of_names [] h = tt
  of_names (m ∷ ms) h = (h.0, of_names ms h.1)

  part_names : (old new : List Mark) (i k : ℕ) → length new ≡ length old
      → ((j : ℕ) → (mark_at new j).name ≡ (mark_at old j).name)
      → AllByRecursion (λ (m : Mark). Q m.name) (take k (drop i old))
      → AllByRecursion (λ (m : Mark). Q m.name) (take k (drop i new))
  part_names old new i k s h a =
      let part : (ms : List Mark) → map (λ (m : Mark). m.name) (take k (drop i ms))
      ≡ take k (drop i (map (λ (m : Mark). m.name) ms)) = λ ms. sym (take-map (λ (m : Mark). m.name) k (drop i ms))
      ∙ ap (take k) (drop_names i ms) in
      of_names (take k (drop i new)) (subst (AllByRecursion Q)
      (part old ∙ ap (λ (ks : List ℕ). take k (drop i ks)) (same_names old new s h) ∙ sym (part new))
      (to_names (take k (drop i old)) a))

-- ---- a group is passed
pub value_end : (h : Height) (run : Run) (ms : List Mark)
    → value_over h run ms run.above_to ≡ left_of_first (drop run.below_to h.below.now) false
value_end h run ms = by_test (nat_lt run.above_to run.above_to) (not_less run.above_to)
  where
    not_less : (n : ℕ) → nat_lt n n ≡ false
    not_less n = grind arith

    by_test : (t : Bool) → t ≡ false
        → (if t then (mark_at ms run.above_to).left else left_of_first (drop run.below_to h.below.now) false)
        ≡ left_of_first (drop run.below_to h.below.now) false
    by_test true e = absurd (true≢false e)
    by_test false e = refl

module _ (on : Onwards) (passed : List Spot) (s : Spot) (run : Run) (old mid : List Mark) (given : List Edge)
    (cursors : Cursors) (p : Pt) (kept : AreKept false on.height.below.now on.below) (keeps : KeepsMarks run old mid)
    (r : IsRunOf on.height.below.now old run) (at : rounded (point_of s) ≡ p) (meet : MeetAt on.height old run p)
    (across : MeetAcross on.height old run s)
    (come : HasComeOver on passed (s ∷ []) run run.below run.above None mid given cursors) where
  abbrev v : Bool
  v = left_of_first (drop run.below_to on.height.below.now) false

  abbrev ins : List Course
  ins = courses v (take (run.below_to - run.below) (drop run.below on.height.below.now)) ++ or_none None

  abbrev outs : Bool → List Course
  outs w = courses w (take (run.above_to - run.above) (drop run.above mid)) ++ or_none None

  all_passed : HasComeOver on (passed ++ (s ∷ [])) [] run run.below_to run.above_to None
      (begun_in run.above run.above_to (start_of p ins (outs (value_over on.height run mid run.above_to))) mid)
      (given ++ ended_at p ins (outs (value_over on.height run mid run.above_to))) cursors
  all_passed =
      let size = keeps.size in
      let to = r.above_to in
      let Q : ℕ → Type 0 = λ k. rounded (point_of (spot_on (edge_at on.height.edges.now k) on.height.at.now)) ≡ p in
      let R : ℕ → Type 0 = λ k. IsSameAcross (spot_on (edge_at on.height.edges.now k) on.height.at.now) s in
      let lower : List Mark = take (run.below_to - run.below) (drop run.below on.height.below.now) in
      let upper : List Mark = take (run.above_to - run.above) (drop run.above old) in
      stop_passed on passed s [] run run.below run.below_to run.above run.above_to None [] mid given cursors p
      (record {
        below = kept;
        below_order = r.below;
        above_order = r.above;
        above_to = omega arith;
        there = omega (arith, size, to);
        at = at;
        ends = front (λ (m : Mark). Q m.name) lower upper meet;
        begins = part_names Q old mid run.above (run.above_to - run.above) keeps.size keeps.names
            (back (λ (m : Mark). Q m.name) lower upper meet);
        meet_below = front (λ (m : Mark). R m.name) lower upper across;
        meet_above = part_names R old mid run.above (run.above_to - run.above) keeps.size keeps.names
            (back (λ (m : Mark). R m.name) lower upper across);
        name = value_end on.height run mid;
      }) come

  -- as the code passes it
  pub group_passed : (new : List Mark) (more : List Edge) (from : Pt) → from ≡ start_of p ins (outs v)
      → new ≡ begun_in run.above run.above_to from mid → more ≡ given ++ ended_at p ins (outs v)
      → HasComeOver on (passed ++ (s ∷ [])) [] run run.below_to run.above_to None new more cursors
  group_passed new more from f e g =
      let w = value_end on.height run mid in
      subst (λ (xs : List Edge). HasComeOver on (passed ++
      (s ∷ [])) [] run run.below_to run.above_to None new xs cursors)
      (sym (g ∙ ap (λ (b : Bool). given ++ ended_at p ins (outs b)) (sym w)))
      (subst (λ (xs : List Mark). HasComeOver on (passed ++ (s ∷ [])) [] run run.below_to run.above_to None xs
      (given ++ ended_at p ins (outs (value_over on.height run mid run.above_to))) cursors)
      (sym (e ∙ ap (λ (q : Pt). begun_in run.above run.above_to q mid)
      (f ∙ ap (λ (b : Bool). start_of p ins (outs b)) (sym w)))) all_passed)

-- other cursors
pub other_cursors : (on : Onwards) (passed spots : List Spot) (run : Run) (n m : ℕ) (ms : List Mark)
    (given : List Edge) (c d : Cursors)
    → StandOn on.height.edges.now on.shape (bundles_in on.height.front.now) d
    → HasComeOver on passed spots run n m None ms given c → HasComeOver on passed spots run n m None ms given d
other_cursors on passed spots run n m ms given c d s h = record {
  places = h.places;
  flat = h.flat;
  at = h.at;
  along = h.along;
  leads = h.leads;
  lower = h.lower;
  upper = h.upper;
  goes_on = h.goes_on;
  kept = h.kept;
  met = h.met;
  named = h.named;
  valued = h.valued;
  edges = h.edges;
  stands = s;
}

-- as the code finds it, of its height
pub group_by : (on : Onwards) (h : Height) → on.height ≡ h → (passed : List Spot) (s : Spot) (run : Run)
    (old mid new : List Mark) (given more : List Edge) (c d : Cursors) (p from : Pt) (right : Bool)
    → AreKept false h.below.now on.below → KeepsMarks run old mid → IsRunOf h.below.now old run
    → rounded (point_of s) ≡ p → MeetAt h old run p → MeetAcross h old run s
    → StandOn h.edges.now on.shape (bundles_in h.front.now) d
    → HasComeOver on passed (s ∷ []) run run.below run.above None mid given c
    → right ≡ left_of_first (drop run.below_to h.below.now) false
    → from ≡ start_of p (courses right (take (run.below_to - run.below) (drop run.below h.below.now)) ++ or_none None)
    (courses right (take (run.above_to - run.above) (drop run.above mid)) ++ or_none None)
    → new ≡ begun_in run.above run.above_to from mid
    → more ≡ given ++ ended_at p
    (courses right (take (run.below_to - run.below) (drop run.below h.below.now)) ++ or_none None)
    (courses right (take (run.above_to - run.above) (drop run.above mid)) ++ or_none None)
    → HasComeOver on (passed ++ (s ∷ [])) [] run run.below_to run.above_to None new more d
group_by on h e passed s run old mid new given more c d p from right =
    subst (λ (x : Height). AreKept false x.below.now on.below → KeepsMarks run old mid → IsRunOf x.below.now old run
    → rounded (point_of s) ≡ p → MeetAt x old run p → MeetAcross x old run s
    → StandOn x.edges.now on.shape (bundles_in x.front.now) d
    → HasComeOver on passed (s ∷ []) run run.below run.above None mid given c
    → right ≡ left_of_first (drop run.below_to x.below.now) false
    → from ≡ start_of p (courses right (take (run.below_to - run.below) (drop run.below x.below.now)) ++ or_none None)
    (courses right (take (run.above_to - run.above) (drop run.above mid)) ++ or_none None)
    → new ≡ begun_in run.above run.above_to from mid
    → more ≡ given ++ ended_at p
    (courses right (take (run.below_to - run.below) (drop run.below x.below.now)) ++ or_none None)
    (courses right (take (run.above_to - run.above) (drop run.above mid)) ++ or_none None)
    → HasComeOver on (passed ++ (s ∷ [])) [] run run.below_to run.above_to None new more d) e
    (λ k keeps r at m a st come v f n g.
    let low : List Mark = take (run.below_to - run.below) (drop run.below on.height.below.now) in
    let up : List Mark = take (run.above_to - run.above) (drop run.above mid) in
    other_cursors on (passed ++ (s ∷ [])) [] run run.below_to run.above_to new more c d st
    (group_passed on passed s run old mid given c p k keeps r at m a come new more from
    (f ∙ ap (λ (b : Bool). start_of p (courses b low ++ or_none None) (courses b up ++ or_none None)) v) n
    (g ∙ ap (λ (b : Bool). given ++ ended_at p (courses b low ++ or_none None) (courses b up ++ or_none None)) v)))

-- what is to its right stays
pub keeps_right : (run : Run) (old mid new : List Mark) (from : Pt) → KeepsMarks run old mid → run.above ≤ run.above_to
    → run.above_to ≤ length old → new ≡ begun_in run.above run.above_to from mid → KeepsRight run old new
keeps_right run old mid new from keeps o l e =
    let i : ℕ = run.above in
    let j : ℕ = run.above_to in
    let size = keeps.size in
    record {
      names = ap names_in e ∙ names_begun i j from mid o ∙ sym (same_names old mid keeps.size keeps.names);
      right = ap (λ (ms : List Mark). drop j ms) (e ∙ begun_split i j from mid)
          ∙ drop_at (take i mid ++ begun from (take (j - i) (drop i mid))) (drop j mid) j
          (front_size i j from mid o (omega (arith, size, l)))
          ∙ keeps.right;
    }
