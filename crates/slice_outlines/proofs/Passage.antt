-- From group to group.
use Rattle.std.proofs.Common.{◌≡◌, ℕ, ◌+◌, ◌-◌, ◌<◌, ◌≤◌, Bool, true, false, List, [], ◌∷◌, ◌++◌, map, length, get_or, drop, None, refl, sym, ap, ◌∙◌, subst, arith, append_assoc}
use Rattle.std.specs.Prelude.{nat_le, ◌&&◌}
use Rattle.std.proofs.lemmas.List.{append-nil, drop-drop, drop-map, drop_more, drop_at}
use Rattle.scad_geom.specs.declared.level.Level.{Level}
use Rattle.scad_geom.specs.declared.level.LeafEdge.{LeafEdge}
use Rattle.slice_pieces.specs.declared.piece.Spot.{Spot}
use Rattle.slice_sweep.specs.declared.change.Change.{Change}
use Rattle.slice_sweep.specs.Changes.{Group, all_below, all_above, all_at, staying}
use Rattle.slice_sweep.specs.Front.{bundles_in}
use Rattle.sweep_laws.specs.Fronts.{Strand, bundles_of}
use Rattle.sweep_laws.specs.Staying.{spot_of}
use Rattle.slice_outlines.specs.declared.mark.Mark.{Mark}
use Rattle.slice_outlines.specs.declared.run.Run.{Run}
use Rattle.slice_outlines.specs.declared.height.Height.{Height}
use Rattle.slice_outlines.specs.declared.height.Open.{Open}
use Rattle.slice_outlines.specs.declared.groups.Passed.{Passed}
use Rattle.slice_outlines.specs.Runs.{after}
use Rattle.slice_outlines.specs.Cursors.{StandOn, StayOn}
use Rattle.winding_laws.specs.Edges.{rounded}
use Rattle.slice_pieces.specs.Spots.{point_of}
use Rattle.slice_outlines.specs.Marks.{names_in, AreKept}
use Rattle.slice_outlines.specs.Heights.{Onwards, IsBalancedBefore, MeetAt, MeetAcross, IsCountOf, IsOf}
use Rattle.slice_outlines.specs.Along.{HasComeOver}
use Rattle.slice_outlines.specs.Arrival.{HasReached}
use Rattle.slice_outlines.specs.Ahead.{AreBetween, between, HasComeTo, AreBalancedFrom, AreStrandsAhead, KeepsRight, HasPassed, first_spot, group_spots}
use Rattle.slice_outlines.proofs.Taking.{no_change}
use Rattle.slice_outlines.proofs.Shifting.{none_next}
use Rattle.slice_outlines.proofs.ChangesAhead.{first_equal, AllStay, NextChanges, stay_below, stay_above, stay_spots, balanced_first, balanced_on}
use Rattle.slice_outlines.proofs.GroupPassing.{stay_all, group_reached, group_past, size_named}
use Rattle.slice_outlines.proofs.NextGroup.{IsBehindStays, to_next, group_sizes, to_end, group_place, group_meets, group_across, between_past}

-- ---- what is known of the strands ahead
past : {X : Type 0} (xs : List X) (n j : ℕ) (bs cs : List X) → drop n xs ≡ bs ++ cs → length bs ≡ j
    → drop (n + j) xs ≡ cs
past {X} xs n j bs cs e s = sym (drop-drop j n xs) ∙ ap (drop j) e ∙ drop_at bs cs j s

pub only_below : (bs : List (List ℕ)) → all_below (map staying bs) ≡ bs
only_below [] = refl
only_below (b ∷ bs) = ap (λ (cs : List (List ℕ)). b ∷ cs) (only_below bs)

pub only_above : (bs : List (List ℕ)) → all_above (map staying bs) ≡ bs
only_above [] = refl
only_above (b ∷ bs) = ap (λ (cs : List (List ℕ)). b ∷ cs) (only_above bs)

only_spots : (es : List LeafEdge) (l : Level) (bs : List (List ℕ))
    → group_spots es l (map staying bs) ≡ map (spot_of es l) bs
only_spots es l [] = refl
only_spots es l (b ∷ bs) = ap (λ (ss : List Spot). spot_of es l b ∷ ss) (only_spots es l bs)

-- behind strands that stay a group is next
pub record IsAtNext (on : Onwards) (done : List Spot) (bs : List (List ℕ)) (g : Group) (more : List Group) (r : Run)
    (o : Open) : Type 0 where
  pub reached : HasReached on (done ++ map (spot_of on.height.edges.now on.height.at.now) bs)
      (first_spot on.height.edges.now on.height.at.now (all_at g)) r o
  pub balanced : IsBalancedBefore on.height on.shape r
  pub strands : AreStrandsAhead on r.below_to r.above_to more

module _ (on : Onwards) (o : Open) (kept : AreKept false on.height.below.now on.below) (done : List Spot) (n m : ℕ)
    (gs : List Group) (bs : List (List ℕ)) (same low up : List Mark) (size : length same ≡ length bs)
    (lower_is : drop n on.height.below.now ≡ same ++ low) (upper_is : drop m o.marks.items ≡ same ++ up)
    (ahead : AreStrandsAhead on n m gs) (come : HasComeTo on done n m o) where
  abbrev spots : List Spot
  spots = done ++ map (spot_of on.height.edges.now on.height.at.now) bs

  pub come_to_end : gs ≡ map staying bs → HasComeTo on spots (n + length bs) (m + length bs) o
  come_to_end e =
      stay_all on o kept bs same low up ahead.lower ahead.upper done n m [] (subst
      (AreBalancedFrom on.height on.shape n m)
      (e ∙ sym (append-nil (map staying bs))) ahead.balanced) size lower_is upper_is
      (ahead.below ∙ ap (λ (cs : List (List ℕ)). cs ++ ahead.lower) (ap all_below e ∙ only_below bs))
      (ahead.above ∙ ap (λ (cs : List (List ℕ)). cs ++ ahead.upper) (ap all_above e ∙ only_above bs)) come

  pub come_to_next : (g : Group) (more : List Group) (gone come : ℕ) (r : Run) → gs ≡ map staying bs ++ (g ∷ more)
      → length g.below ≡ gone → length g.above ≡ come → IsBehindStays n m (length bs) gone come r
      → IsAtNext on done bs g more r o
  come_to_next g more gone coming r e a b place =
      let k : ℕ = length bs in
      let all : List (List ℕ) = bundles_of on.below in
      let f : Strand → List ℕ = λ t. t.bundle in
      let below_is : bundles_of (drop n on.below) ≡ bs ++ ((g.below ++ all_below more) ++ ahead.lower) =
      ahead.below ∙ ap (λ (cs : List (List ℕ)). cs ++ ahead.lower) (ap all_below e ∙ stay_below bs (g ∷ more))
      ∙ append_assoc bs (g.below ++ all_below more) ahead.lower in
      let above_is : drop m (bundles_in on.height.front.now) ≡ bs ++ ((g.above ++ all_above more) ++ ahead.upper) =
      ahead.above ∙ ap (λ (cs : List (List ℕ)). cs ++ ahead.upper) (ap all_above e ∙ stay_above bs (g ∷ more))
      ∙ append_assoc bs (g.above ++ all_above more) ahead.upper in
      let here : HasComeTo on spots (n + k) (m + k) o =
      stay_all on o kept bs same low up ((g.below ++ all_below more) ++ ahead.lower)
      ((g.above ++ all_above more) ++ ahead.upper) done n m (g ∷ more)
      (subst (AreBalancedFrom on.height on.shape n m) e ahead.balanced) size lower_is upper_is below_is above_is come in
      let there : HasComeTo on spots r.below r.above o =
      subst (λ (j : ℕ). HasComeTo on spots r.below j o) (sym place.above)
      (subst (λ (i : ℕ). HasComeTo on spots i (m + k) o) (sym place.below) here) in
      let balanced : AreBalancedFrom on.height on.shape (n + k) (m + k) (g ∷ more) =
      balanced_on on.height on.shape bs (g ∷ more) n m
      (subst (AreBalancedFrom on.height on.shape n m) e ahead.balanced) in
      let before : IsBalancedBefore on.height on.shape (between r.below r.above) =
      subst (λ (j : ℕ). IsBalancedBefore on.height on.shape (between r.below j)) (sym place.above)
      (subst (λ (i : ℕ). IsBalancedBefore on.height on.shape (between i (m + k))) (sym place.below) balanced.0) in
      let later : AreBalancedFrom on.height on.shape r.below_to r.above_to more =
      subst (λ (j : ℕ). AreBalancedFrom on.height on.shape r.below_to j more)
      (ap (λ (j : ℕ). m + k + j) b ∙ sym place.above_to)
      (subst (λ (i : ℕ). AreBalancedFrom on.height on.shape i (m + k + length g.above) more)
      (ap (λ (j : ℕ). n + k + j) a ∙ sym place.below_to) balanced.1) in
      let above = place.above in
      let above_to = place.above_to in
      let below_past : drop r.below_to all ≡ all_below more ++ ahead.lower =
      ap (λ (j : ℕ). drop j all) place.below_to ∙ past all (n + k) gone g.below (all_below more ++ ahead.lower)
      (past all n k bs ((g.below ++ all_below more) ++ ahead.lower) (drop-map f n on.below ∙ below_is) refl
      ∙ append_assoc g.below (all_below more) ahead.lower) a in
      let front : List (List ℕ) = bundles_in on.height.front.now in
      let above_past : drop r.above_to front ≡ all_above more ++ ahead.upper =
      ap (λ (j : ℕ). drop j front) place.above_to ∙ past front (m + k) coming g.above (all_above more ++ ahead.upper)
      (past front m k bs ((g.above ++ all_above more) ++ ahead.upper) above_is refl
      ∙ append_assoc g.above (all_above more) ahead.upper) b in
      record {
        reached = group_reached on spots (first_spot on.height.edges.now on.height.at.now (all_at g)) r o
            (omega (arith, above, above_to)) before (balanced_first on.height on.shape r.below_to r.above_to more later)
            there;
        balanced = before;
        strands = record {
          lower = ahead.lower;
          upper = ahead.upper;
          below = sym (drop-map f r.below_to on.below) ∙ below_past;
          above = above_past;
          balanced = later;
        };
      }

-- ---- group after group
-- so far as the code has come from a start
pub record IsPast (h : Height) (cs : List Change) (limit : Run) (old : Open) (start : Passed)
    (w : AreBetween h old.marks.items cs start limit) (p : Passed) (now : Open) : Type 0 where
  pub ahead : AreBetween h now.marks.items cs p limit
  pub rest : ahead.rest ≡ w.rest
  pub names : names_in now.marks.items ≡ names_in old.marks.items
  pub right : drop limit.above now.marks.items ≡ drop limit.above old.marks.items
  pub stands : StayOn h.edges.now (bundles_in h.front.now) old.cursors now.cursors
  pub count : IsCountOf cs p
  pub come : (on : Onwards) (before : List Spot) → IsOf h on → AreStrandsAhead on w.below w.above w.groups
      → HasComeTo on before w.below w.above old → (done : List Spot)
      × (done ++ group_spots h.edges.now h.at.now ahead.groups ≡ before ++ group_spots h.edges.now h.at.now w.groups)
      × AreStrandsAhead on ahead.below ahead.above ahead.groups × HasComeTo on done ahead.below ahead.above now

pub past_none : (h : Height) (cs : List Change) (limit : Run) (o : Open) (p : Passed)
    (w : AreBetween h o.marks.items cs p limit) → IsCountOf cs p → IsPast h cs limit o p w p o
past_none h cs limit o p w k = record {
  ahead = w;
  rest = refl;
  names = refl;
  right = refl;
  stands = λ shape s. s;
  count = k;
  come = λ on before is a c. (before, refl, a, c);
}

-- a group is passed
abbrev pub Passes : Height → Run → Open → Open → Type 0
Passes h r now new = (on : Onwards) (passed : List Spot) (s : Spot) → IsOf h on
    → MeetAt h now.marks.items r (rounded (point_of s)) → MeetAcross h now.marks.items r s
    → IsBalancedBefore h on.shape r
    → StandOn h.edges.now on.shape (bundles_in h.front.now) now.cursors → HasReached on passed s r now
    → HasComeOver on (passed ++ s ∷ []) [] r r.below_to r.above_to None new.marks.items new.given.items new.cursors

module _ (h : Height) (cs : List Change) (limit : Run) (old : Open) (start : Passed)
    (w : AreBetween h old.marks.items cs start limit) (p : Passed) (now : Open)
    (so_far : IsPast h cs limit old start w p now) where
  abbrev b : AreBetween h now.marks.items cs p limit
  b = so_far.ahead

  abbrev es : List LeafEdge
  es = h.edges.now

  pub past_more : (x : NextChanges h b.rest b.above (drop p.count cs) b.groups (drop b.below h.below.now)
      (drop b.above now.marks.items)) (r : Run) → r ≡ after p.last x.change → (new : Open) → (q : Passed)
      → q.last ≡ r → x.later ≡ drop q.count cs → IsCountOf cs q → KeepsRight r now.marks.items new.marks.items
      → StayOn h.edges.now (bundles_in h.front.now) now.cursors new.cursors → Passes h r now new
      → IsPast h cs limit old start w q new
  unfolding between_past
  past_more x r is new q last later count keeps stands passes =
      let place = group_place h now.marks.items cs p limit b x r is in
      let sizes = group_sizes h now.marks.items cs p limit b x in
      let above_to = place.above_to in
      let to_above = sizes.1 in
      let size : length new.marks.items ≡ length now.marks.items =
      size_named now.marks.items new.marks.items keeps.names in
      let until : r.above_to + (limit.above - r.above_to) ≡ limit.above = omega (arith, above_to, to_above) in
      let right : drop limit.above new.marks.items ≡ drop limit.above now.marks.items =
      ap (λ (j : ℕ). drop j new.marks.items) (sym until)
      ∙ sym (drop-drop (limit.above - r.above_to) r.above_to new.marks.items)
      ∙ ap (drop (limit.above - r.above_to)) keeps.right
      ∙ drop-drop (limit.above - r.above_to) r.above_to now.marks.items
      ∙ ap (λ (j : ℕ). drop j now.marks.items) until in
      record {
        ahead = between_past h now.marks.items cs p limit b x r is new.marks.items size keeps.right q last later;
        rest = so_far.rest;
        names = keeps.names ∙ so_far.names;
        right = right ∙ so_far.right;
        stands = λ shape s. stands shape (so_far.stands shape s);
        count = count;
        come = λ on before of strands come.
            let here = so_far.come on before of strands come in
            let done : List Spot = here.0 in
            let next : IsAtNext on done x.bundles x.group x.more r now =
            come_to_next on now (subst (λ (y : Height). AreKept false y.below.now on.below)
            (sym of.0) of.1) done b.below
            b.above b.groups x.bundles x.same (x.gone ++ x.low) (x.come ++ x.up) x.size
            (subst (λ (y : Height). drop b.below y.below.now ≡ x.same ++ (x.gone ++ x.low)) (sym of.0) x.lower_is)
            x.upper_is here.2 here.3 x.group x.more x.change.gone x.change.come r x.groups x.group_below
            x.group_above place in
            let s : Spot = first_spot es h.at.now (all_at x.group) in
            let us : List Spot = map (spot_of es h.at.now) x.bundles in
            let passed : HasComeOver on ((done ++ us) ++ s ∷ []) [] r r.below_to r.above_to None new.marks.items
            new.given.items new.cursors =
            passes on (done ++ us) s of (group_meets h now.marks.items cs p limit b x r is)
            (group_across h now.marks.items cs p limit b x r is)
            (subst (λ (y : Height). IsBalancedBefore y on.shape r) of.0 next.balanced)
            (subst (λ (y : Height). StandOn y.edges.now on.shape (bundles_in y.front.now) now.cursors) of.0
            here.3.stands)
            (subst (λ (y : Height). HasReached on (done ++ map (spot_of y.edges.now y.at.now) x.bundles)
            (first_spot y.edges.now y.at.now (all_at x.group)) r now) of.0 next.reached) in
            let more : List Spot = group_spots es h.at.now x.more in
            let all : ((done ++ us) ++ s ∷ []) ++ more ≡ done ++ group_spots es h.at.now b.groups =
            append_assoc (done ++ us) (s ∷ []) more ∙ append_assoc done us (s ∷ more)
            ∙ ap (λ (ts : List Spot). done ++ ts) (sym (ap (group_spots es h.at.now) x.groups
            ∙ stay_spots es h.at.now x.bundles (x.group ∷ x.more))) in
            ((done ++ us) ++ s ∷ [], all ∙ here.1, next.strands, group_past on ((done ++ us) ++ s ∷ []) r new passed);
      }

  -- none is left
  module _ (x : AllStay b.rest (drop p.count cs) b.groups (drop b.below h.below.now)
      (drop b.above now.marks.items)) where
    to_below : b.below + length x.bundles ≡ limit.below
    to_below = ap (λ (j : ℕ). b.below + j)
        (sym (ap (λ (gs : List Group). length (all_below gs)) x.groups ∙ ap length (only_below x.bundles))) ∙ b.to_below

    to_above : b.above + length x.bundles ≡ limit.above
    to_above = ap (λ (j : ℕ). b.above + j)
        (sym (ap (λ (gs : List Group). length (all_above gs)) x.groups ∙ ap length (only_above x.bundles))) ∙ b.to_above

    pub has_passed : HasPassed h cs w.rest limit p old now
    has_passed =
        let below = to_below in
        let above = to_above in
        let from_below = b.from_below in
        let from_above = b.from_above in
        let alike = b.alike in
        record {
          names = so_far.names;
          right = so_far.right;
          stands = so_far.stands;
          count = so_far.count;
          later = x.last ∙ so_far.rest;
          from_below = omega (arith, below, from_below);
          from_above = omega (arith, above, from_above);
          alike = omega (arith, below, above, alike);
        }

    pub all_past : (on : Onwards) (before : List Spot) → IsOf h on → AreStrandsAhead on w.below w.above w.groups
        → HasComeTo on before w.below w.above old
        → HasComeTo on (before ++ group_spots es h.at.now w.groups) limit.below limit.above now
    all_past on before of strands come =
        let here = so_far.come on before of strands come in
        let done : List Spot = here.0 in
        let us : List Spot = map (spot_of es h.at.now) x.bundles in
        let end : HasComeTo on (done ++ us) (b.below + length x.bundles) (b.above + length x.bundles) now =
        subst (λ (y : Height). HasComeTo on (done ++ map (spot_of y.edges.now y.at.now) x.bundles)
        (b.below + length x.bundles) (b.above + length x.bundles) now) of.0
        (come_to_end on now (subst (λ (y : Height). AreKept false y.below.now on.below) (sym of.0) of.1) done b.below
        b.above b.groups x.bundles x.same x.low x.up x.size
        (subst (λ (y : Height). drop b.below y.below.now ≡ x.same ++ x.low) (sym of.0) x.lower_is) x.upper_is here.2
        here.3 x.groups) in
        subst (λ (ts : List Spot). HasComeTo on ts limit.below limit.above now)
        (ap (λ (ts : List Spot). done ++ ts)
        (sym (ap (group_spots es h.at.now) x.groups ∙ only_spots es h.at.now x.bundles)) ∙ here.1)
        (subst (λ (j : ℕ). HasComeTo on (done ++ us) limit.below j now) to_above
        (subst (λ (i : ℕ). HasComeTo on (done ++ us) i (b.above + length x.bundles) now) to_below end))

-- ---- as the code finds it
pub left_by : (i j k l : ℕ) (t : Bool) → t ≡ (nat_le i j && nat_le k l) → t ≡ true → (i ≤ j) × (k ≤ l)
left_by i j k l t e f = grind arith

pub not_left_by : (i j k l : ℕ) (t : Bool) → t ≡ (nat_le i j && nat_le k l) → t ≡ false → i ≤ j → k ≤ l → ⊥
not_left_by i j k l t e f g h = grind arith

abbrev pub IsNext : (h : Height) (ms : List Mark) (cs : List Change) (p : Passed) (limit : Run)
    → AreBetween h ms cs p limit → Run → Type 0
IsNext h ms cs p limit b r =
    (x : NextChanges h b.rest b.above (drop p.count cs) b.groups (drop b.below h.below.now) (drop b.above ms))
    × (r ≡ after p.last x.change) × (x.later ≡ drop (p.count + 1) cs)

pub next_at : (h : Height) (ms : List Mark) (cs : List Change) (p : Passed) (limit : Run)
    (b : AreBetween h ms cs p limit) (r : Run) → p.count < length cs
    → r ≡ after p.last (get_or cs p.count no_change) → r.below_to ≤ limit.below → r.above_to ≤ limit.above
    → IsNext h ms cs p limit b r
next_at h ms cs p limit b r o is left left' =
    let d : Change = get_or cs p.count no_change in
    let here : drop p.count cs ≡ d ∷ drop (p.count + 1) cs = drop_more cs p.count no_change o in
    let x = to_next h ms cs p limit b d (drop (p.count + 1) cs) here
    (subst (λ (u : Run). u.below_to ≤ limit.below) is left) (subst (λ (u : Run). u.above_to ≤ limit.above) is left') in
    let same : d ∷ drop (p.count + 1) cs ≡ x.change ∷ x.later = sym here ∙ x.changes in (
      x,
      is ∙ ap (after p.last) (first_equal d x.change (drop (p.count + 1) cs) x.later same),
      sym (ap (drop 1) same),
    )

pub end_at : (h : Height) (ms : List Mark) (cs : List Change) (p : Passed) (limit : Run)
    (b : AreBetween h ms cs p limit) (r : Run) → p.count < length cs
    → r ≡ after p.last (get_or cs p.count no_change) → (r.below_to ≤ limit.below → r.above_to ≤ limit.above → ⊥)
    → AllStay b.rest (drop p.count cs) b.groups (drop b.below h.below.now) (drop b.above ms)
end_at h ms cs p limit b r o is away =
    let d : Change = get_or cs p.count no_change in
    let here : drop p.count cs ≡ d ∷ drop (p.count + 1) cs = drop_more cs p.count no_change o in
    to_end h ms cs p limit b (λ c later e l k.
    let same : r ≡ after p.last c =
    is ∙ ap (after p.last) (first_equal d c (drop (p.count + 1) cs) later (sym here ∙ e)) in
    away (subst (λ (u : Run). u.below_to ≤ limit.below) (sym same) l)
    (subst (λ (u : Run). u.above_to ≤ limit.above) (sym same) k))

pub end_past : (h : Height) (ms : List Mark) (cs : List Change) (p : Passed) (limit : Run)
    (b : AreBetween h ms cs p limit) → length cs ≤ p.count
    → AllStay b.rest (drop p.count cs) b.groups (drop b.below h.below.now) (drop b.above ms)
end_past h ms cs p limit b o = to_end h ms cs p limit b (λ c later e l k. none_next cs p.count o c later e)
