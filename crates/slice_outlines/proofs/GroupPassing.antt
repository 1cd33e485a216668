-- To a group and past it, by the spots on the way.
use Rattle.std.proofs.Common.{◌≡◌, inl, inr, ℕ, suc, ◌+◌, ◌<◌, ◌≤◌, Bool, true, false, List, [], ◌∷◌, ◌++◌, map, length, take, drop, None, refl, sym, ap, ap₂, ◌∙◌, subst, arith, append_assoc}
use Rattle.std.specs.Prelude.{nat_lt, if◌then◌else◌}
use Rattle.std.specs.List.{AllByRecursion, AllZip, All}
use Rattle.std.proofs.lemmas.List.Elements.{All-from_recursion, recursion_from_All}
use Rattle.std.proofs.lemmas.Bool.{cases_lt}
use Rattle.std.proofs.lemmas.List.{get_or-take, append-nil, drop-drop, length-map}
use Rattle.scad_geom.specs.declared.point.Edge.{Edge}
use Rattle.scad_geom.specs.declared.shape.Shape.{Shape}
use Rattle.slice_pieces.specs.declared.piece.Spot.{Spot}
use Rattle.slice_border.specs.Beside.{left_value}
use Rattle.slice_sweep.specs.Changes.{Group, staying}
use Rattle.slice_sweep.specs.Front.{bundles_in}
use Rattle.sweep_laws.specs.Fronts.{Strand, bundles_of, value_before}
use Rattle.sweep_laws.specs.Ways.{Way}
use Rattle.sweep_laws.specs.Crossing.{ArePassed, all_above as placed_above}
use Rattle.sweep_laws.specs.Staying.{spot_of}
use Rattle.slice_outlines.specs.declared.mark.Mark.{Mark}
use Rattle.slice_outlines.specs.declared.run.Run.{Run}
use Rattle.slice_outlines.specs.declared.cursors.Cursors.{Cursors}
use Rattle.slice_outlines.specs.declared.height.Height.{Height}
use Rattle.slice_outlines.specs.declared.height.Open.{Open}
use Rattle.slice_outlines.specs.Marks.{mark_at, no_mark, names_in, left_of_first, IsNamed, IsKept, AreKept}
use Rattle.slice_outlines.specs.Heights.{Onwards, IsBalancedBefore, AreValuedIn, AreValuedTo}
use Rattle.slice_outlines.specs.Along.{value_over, LeadTo, HasComeOver}
use Rattle.slice_outlines.specs.Arrival.{HasReached}
use Rattle.slice_outlines.specs.Stretch.{HasReachedStops}
use Rattle.slice_outlines.specs.Ahead.{between, HasComeTo, AreBalancedFrom}
use Rattle.slice_outlines.proofs.Placing.{first_kept}
use Rattle.slice_outlines.proofs.Onward.{kept_drop}
use Rattle.slice_outlines.proofs.Grouping.{value_end, to_names, of_names}
use Rattle.slice_outlines.proofs.Steady.{within, stay_passed}
use Rattle.slice_outlines.proofs.ChangesAhead.{tail_of, head_of, there_of, first_equal}

-- ---- another part, other marks
named_as : (ms ns : List Mark) (bs : List (List ℕ)) → length ns ≡ length ms
    → ((i : ℕ) → (mark_at ns i).name ≡ (mark_at ms i).name) → AllZip (λ m b. IsNamed m.name b) ms bs
    → AllZip (λ m b. IsNamed m.name b) ns bs
named_as [] [] bs s h z = z
named_as [] (n ∷ ns) bs s h z = absurd (omega (arith, s))
named_as (m ∷ ms) [] bs s h z = absurd (omega (arith, s))
named_as (m ∷ ms) (n ∷ ns) [] s h z = absurd z
named_as (m ∷ ms) (n ∷ ns) (b ∷ bs) s h z = (
  subst (λ (k : ℕ). IsNamed k b) (sym (h 0)) z.0,
  named_as ms ns bs (omega (arith, s)) (λ i. h (suc i)) z.1,
)

turned : (on : Onwards) (passed spots : List Spot) (run next : Run) (n m : ℕ) (ms ns : List Mark)
    (given : List Edge) (c : Cursors) → value_over on.height next ns m ≡ value_over on.height run ms m
    → take m ns ≡ take m ms → length ns ≡ length ms → ((i : ℕ) → (mark_at ns i).name ≡ (mark_at ms i).name)
    → AreValuedTo on.height on.shape next.above_to ns
    → HasComeOver on passed [] run n m None ms given c → HasComeOver on passed spots next n m None ns given c
turned on passed spots run next n m ms ns given c e t s k valued come =
    let nothing : come.flat ≡ [] = come.leads in
    record {
      places = come.places;
      flat = [];
      at = come.at;
      along = tt;
      leads = leads spots;
      lower = come.lower;
      upper = come.upper;
      goes_on = λ later f pass. come.goes_on later (record { below = f.below; value = f.value ∙ e; first = tt })
          (subst (λ (ws : List Way). ArePassed on.height.edges.now on.height.at.now on.upper ws later)
          (sym nothing) pass);
      kept = subst (λ (xs : List Mark). AreKept (value_over on.height next ns m) xs (placed_above come.places)) (sym t)
          (subst (λ (v : Bool). AreKept v (take m ms) (placed_above come.places)) (sym e) come.kept);
      met = come.met;
      named = named_as ms ns (bundles_in on.height.front.now) s k come.named;
      valued = valued;
      edges = come.edges;
      stands = come.stands;
    }
  where
    leads : (ss : List Spot) → LeadTo ss []
    leads [] = refl
    leads (s ∷ ss) = tt

-- ---- at a place
left_here : (h : Height) (n m : ℕ) (ms : List Mark)
    → value_over h (between n m) ms m ≡ left_of_first (drop n h.below.now) false
left_here h n m ms = value_end h (between n m) ms

-- one strand that stays
module _ (on : Onwards) (o : Open) (kept : AreKept false on.height.below.now on.below) where
  abbrev ms : List Mark
  ms = o.marks.items

  abbrev bundles : List (List ℕ)
  bundles = bundles_in on.height.front.now

  module _ (n m : ℕ) (b : List ℕ) where
    abbrev run : Run
    run = record { below = n; below_to = n + 1; above = m; above_to = m + 1 }

    abbrev s : Spot
    s = spot_of on.height.edges.now on.height.at.now b

    stay_one : (passed : List Spot) (x : Mark) (lower upper : List Mark) (bs cs : List (List ℕ))
        → IsBalancedBefore on.height on.shape (between n m) → drop n on.height.below.now ≡ x ∷ lower
        → drop m ms ≡ x ∷ upper → bundles_of (drop n on.below) ≡ b ∷ bs
        → drop m bundles ≡ b ∷ cs → HasComeTo on passed n m o
        → HasComeTo on (passed ++ (s ∷ [])) (n + 1) (m + 1) o
    stay_one passed x lower upper bs cs beside e f g k come =
        by_strands (drop n on.below) refl (subst (λ (xs : List Mark). AreKept false xs (drop n on.below)) e
        (kept_drop false n on.height.below.now on.below kept)) g
      where
        valued : AreValuedTo on.height on.shape (m + 1) ms
        valued i o = elim (cases_lt i m) [
          | inl l ↦ come.valued i l
          | inr l ↦
              let same : m ≡ i = omega (arith, l, o) in
              subst (λ (j : ℕ). (mark_at ms j).left ≡ left_value on.height.edges.now on.shape (drop j bundles)) same
              (ap (λ (y : Mark). y.left) (head_of ms m x upper no_mark f)
              ∙ sym (ap (λ (xs : List Mark). left_of_first xs false) e) ∙ beside)
        ]

        here : value_over on.height run ms m ≡ value_over on.height (between n m) ms m
        here = within on.height run ms m (omega arith) ∙ ap (λ (y : Mark). y.left) (head_of ms m x upper no_mark f)
            ∙ sym (left_here on.height n m ms ∙ ap (λ (xs : List Mark). left_of_first xs false) e)

        by_strands : (ss : List Strand) → drop n on.below ≡ ss → AreKept false (x ∷ lower) ss → bundles_of ss ≡ b ∷ bs
            → HasComeTo on (passed ++ (s ∷ [])) (n + 1) (m + 1) o
        by_strands [] d a q = absurd a
        by_strands (t ∷ ts) d a q =
            let name : t.bundle ≡ b = first_equal t.bundle b (bundles_of ts) bs q in
            let low : drop (n + 1) on.height.below.now ≡ lower = tail_of on.height.below.now n x lower e in
            let later : drop (n + 1) on.below ≡ ts = tail_of on.below n t ts d in
            let right : value_over on.height run ms (m + 1) ≡ value_before ts false =
            value_end on.height run ms ∙ ap (λ (xs : List Mark). left_of_first xs false) low
            ∙ first_kept false lower ts a.1 in
            turned on (passed ++ (s ∷ [])) [] run (between (n + 1) (m + 1)) (n + 1) (m + 1) ms ms o.given.items o.cursors
            (left_here on.height (n + 1) (m + 1) ms ∙ sym (value_end on.height run ms)) refl refl (λ i. refl) valued
            (stay_passed on passed s run n m ms o.given.items o.cursors t (record {
              at = ap (spot_of on.height.edges.now on.height.at.now) name;
              lower = d ∙ ap (λ (us : List Strand). t ∷ us) (sym later);
              upper = k ∙ ap₂ (λ (c : List ℕ) (ds : List (List ℕ)). c ∷ ds) (sym name) (sym (tail_of bundles m b cs k));
              kept = subst (λ (y : Mark). IsKept (value_over on.height run ms (m + 1)) y t)
                  (sym (head_of ms m x upper no_mark f)) (subst (λ (v : Bool). IsKept v x t) (sym right) a.0);
              there = there_of ms m x upper f;
              to = omega arith;
              value = right ∙ ap (λ (us : List Strand). value_before us false) (sym later);
            }) (turned on passed (s ∷ []) (between n m) run n m ms ms o.given.items o.cursors here refl refl (λ i. refl)
            valued come))

  -- all that stay
  pub stay_all : (bs : List (List ℕ)) (same lower upper : List Mark) (cs ds : List (List ℕ)) (passed : List Spot)
      (n m : ℕ) (gs : List Group) → AreBalancedFrom on.height on.shape n m (map staying bs ++ gs)
      → length same ≡ length bs → drop n on.height.below.now ≡ same ++ lower → drop m ms ≡ same ++ upper
      → bundles_of (drop n on.below) ≡ bs ++ cs → drop m bundles ≡ bs ++ ds → HasComeTo on passed n m o
      → HasComeTo on (passed ++ map (spot_of on.height.edges.now on.height.at.now) bs) (n + length bs) (m + length bs) o
  stay_all [] [] lower upper cs ds passed n m gs balanced s e f g k come =
      let a : n ≡ n + 0 = omega arith in
      let b : m ≡ m + 0 = omega arith in
      subst (λ (us : List Spot). HasComeTo on us (n + 0) (m + 0) o) (sym (append-nil passed))
      (subst (λ (j : ℕ). HasComeTo on passed (n + 0) j o) b (subst (λ (i : ℕ). HasComeTo on passed i m o) a come))
  stay_all [] (x ∷ same) lower upper cs ds passed n m gs balanced s e f g k come = absurd (omega (arith, s))
  stay_all (b ∷ bs) [] lower upper cs ds passed n m gs balanced s e f g k come = absurd (omega (arith, s))
  stay_all (b ∷ bs) (x ∷ same) lower upper cs ds passed n m gs balanced s e f g k come =
      let t : Spot = spot_of on.height.edges.now on.height.at.now b in
      let us : List Spot = map (spot_of on.height.edges.now on.height.at.now) bs in
      let a : n + 1 + length bs ≡ n + suc (length bs) = omega arith in
      let c : m + 1 + length bs ≡ m + suc (length bs) = omega arith in
      let next : HasComeTo on (passed ++ (t ∷ [])) (n + 1) (m + 1) o =
      stay_one n m b passed x (same ++ lower) (same ++ upper) (bs ++ cs) (bs ++ ds) balanced.0 e f g k come in
      let rest = stay_all bs same lower upper cs ds (passed ++ (t ∷ [])) (n + 1) (m + 1) gs balanced.1 (omega
      (arith, s))
      (tail_of on.height.below.now n x (same ++ lower) e) (tail_of ms m x (same ++ upper) f)
      (strands_tail (drop n on.below) (drop (n + 1) on.below) (sym (drop-drop 1 n on.below)) g)
      (tail_of bundles m b (bs ++ ds) k) next in
      subst (λ (j : ℕ). HasComeTo on (passed ++ (t ∷ us)) (n + suc (length bs)) j o) c
      (subst (λ (i : ℕ). HasComeTo on (passed ++ (t ∷ us)) i (m + 1 + length bs) o) a
      (subst (λ (vs : List Spot). HasComeTo on vs (n + 1 + length bs) (m + 1 + length bs) o)
      (append_assoc passed (t ∷ []) us) rest))
    where
      strands_tail : (ss ts : List Strand) → ts ≡ drop 1 ss → bundles_of ss ≡ b ∷ (bs ++ cs) → bundles_of ts ≡ bs ++ cs
      strands_tail [] ts q h = absurd (omega (arith, ap length h))
      strands_tail (u ∷ ss) ts q h = ap bundles_of q ∙ ap (drop 1) h

-- ---- to a group and past it
group_left : (h : Height) (shape : Shape) (r : Run) (ns : List Mark) → r.above ≤ r.above_to
    → IsBalancedBefore h shape (between r.below r.above) → IsBalancedBefore h shape (between r.below_to r.above_to)
    → AreValuedIn h shape r ns → value_over h r ns r.above ≡ left_of_first (drop r.below h.below.now) false
group_left h shape r ns o before behind valued = by_test (nat_lt r.above r.above_to) refl
  where
    less : nat_lt r.above r.above_to ≡ true → r.above < r.above_to
    less e = grind arith

    not_less : nat_lt r.above r.above_to ≡ false → r.above_to ≡ r.above
    not_less e = grind (arith, o)

    by_test : (t : Bool) → nat_lt r.above r.above_to ≡ t
        → (if t then (mark_at ns r.above).left else left_of_first (drop r.below_to h.below.now) false)
        ≡ left_of_first (drop r.below h.below.now) false
    by_test true e = valued r.above (omega arith) (less e) ∙ sym before
    by_test false e =
        behind ∙ ap (λ (i : ℕ). left_value h.edges.now shape (drop i (bundles_in h.front.now))) (not_less e)
        ∙ sym before

pub part_reached : (on : Onwards) (passed spots : List Spot) (r : Run) (o : Open) → r.above ≤ r.above_to
    → IsBalancedBefore on.height on.shape (between r.below r.above)
    → IsBalancedBefore on.height on.shape (between r.below_to r.above_to) → HasComeTo on passed r.below r.above o
    → HasReachedStops on passed spots r o
part_reached on passed spots r o a before behind come = λ ns keeps valued.
    turned on passed spots (between r.below r.above) r r.below r.above o.marks.items ns o.given.items o.cursors
    (group_left on.height on.shape r ns a before behind valued
    ∙ sym (left_here on.height r.below r.above o.marks.items))
    keeps.left keeps.size keeps.names (λ i to. elim (cases_lt i r.above) [
      | inl l ↦ ap (λ (x : Mark). x.left) (front_same ns o.marks.items r.above i l keeps.left) ∙ come.valued i l
      | inr l ↦ valued i (omega (arith, l)) to
    ]) come
  where
    front_same : (xs ys : List Mark) (n i : ℕ) → i < n → take n xs ≡ take n ys → mark_at xs i ≡ mark_at ys i
    front_same xs ys n i l e =
        sym (get_or-take n xs i no_mark l) ∙ ap (λ (zs : List Mark). mark_at zs i) e ∙ get_or-take n ys i no_mark l

pub group_reached : (on : Onwards) (passed : List Spot) (s : Spot) (r : Run) (o : Open) → r.above ≤ r.above_to
    → IsBalancedBefore on.height on.shape (between r.below r.above)
    → IsBalancedBefore on.height on.shape (between r.below_to r.above_to) → HasComeTo on passed r.below r.above o
    → HasReached on passed s r o
group_reached on passed s r o a before behind come = part_reached on passed (s ∷ []) r o a before behind come

pub group_past : (on : Onwards) (passed : List Spot) (r : Run) (o : Open)
    → HasComeOver on passed [] r r.below_to r.above_to None o.marks.items o.given.items o.cursors
    → HasComeTo on passed r.below_to r.above_to o
group_past on passed r o come =
    turned on passed [] r (between r.below_to r.above_to) r.below_to r.above_to o.marks.items o.marks.items
    o.given.items
    o.cursors (left_here on.height r.below_to r.above_to o.marks.items ∙ sym (value_end on.height r o.marks.items)) refl
    refl (λ i. refl) come.valued come

-- ---- names of marks
pub all_named : (Q : ℕ → Type 0) (ms ns : List Mark) → names_in ns ≡ names_in ms → All (λ (m : Mark). Q m.name) ms
    → All (λ (m : Mark). Q m.name) ns
all_named Q ms ns e h =
    All-from_recursion (λ (m : Mark). Q m.name) ns (of_names Q ns (subst (AllByRecursion Q) (sym e)
    (to_names Q ms (recursion_from_All (λ (m : Mark). Q m.name) ms h))))

pub size_named : (ms ns : List Mark) → names_in ns ≡ names_in ms → length ns ≡ length ms
size_named ms ns e =
    sym (length-map ns (λ (m : Mark). m.name)) ∙ ap length e ∙ length-map ms (λ (m : Mark). m.name)
