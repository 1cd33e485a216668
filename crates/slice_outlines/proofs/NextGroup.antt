-- The next group ahead: its place, its marks and its run.
use Rattle.std.proofs.Common.{◌≡◌, ◌⊎◌, inl, inr, ℕ, ◌+◌, ◌-◌, ◌≤◌, List, [], ◌∷◌, ◌++◌, length, take, drop, sym, ap, ap₂, ◌∙◌, subst, arith}
use Rattle.std.specs.List.{AllByRecursion}
use Rattle.std.proofs.lemmas.List.{drop-drop, take_at, drop_at, length-append, length-drop}
use Rattle.slice_pieces.specs.declared.piece.Spot.{Spot}
use Rattle.slice_border.specs.Pieces.{IsSameAcross}
use Rattle.slice_sweep.specs.declared.change.Change.{Change}
use Rattle.slice_sweep.specs.Changes.{Group, all_below, all_above, all_at}
use Rattle.slice_outlines.specs.declared.mark.Mark.{Mark}
use Rattle.slice_outlines.specs.declared.run.Run.{Run}
use Rattle.slice_outlines.specs.declared.height.Height.{Height}
use Rattle.slice_outlines.specs.declared.groups.Passed.{Passed}
use Rattle.slice_outlines.specs.Runs.{after}
use Rattle.winding_laws.specs.Edges.{rounded}
use Rattle.slice_pieces.specs.Spots.{point_of}
use Rattle.slice_outlines.specs.Marks.{spot_at}
use Rattle.slice_outlines.specs.Heights.{IsRunOf, MeetAt, MeetAcross, IsGroupAt, marks_of}
use Rattle.slice_outlines.specs.Ahead.{IsSameSpot, AreMarksAt, LieAhead, IsBehind, AreBetween, first_spot}
use Rattle.slice_outlines.proofs.ChangesAhead.{AllStay, NextChanges, next_or_none, stay_count, stay_below, stay_above}

all_round : (h : Height) (s : Spot) (ms : List Mark)
    → AllByRecursion (λ m. IsSameSpot (spot_at h.edges.now h.at.now m) s) ms
    → AllByRecursion (λ m. rounded (point_of (spot_at h.edges.now h.at.now m)) ≡ rounded (point_of s)) ms
all_round h s [] a = tt
all_round h s (m ∷ ms) a = (a.0.rounds, all_round h s ms a.1)

all_across : (h : Height) (s : Spot) (ms : List Mark)
    → AllByRecursion (λ m. IsSameSpot (spot_at h.edges.now h.at.now m) s) ms
    → AllByRecursion (λ m. IsSameAcross (spot_at h.edges.now h.at.now m) s) ms
all_across h s [] a = tt
all_across h s (m ∷ ms) a = (a.0.across, all_across h s ms a.1)

-- where a group is, behind some strands that stay
pub record IsBehindStays (n m k gone come : ℕ) (r : Run) : Type 0 where
  pub below : r.below ≡ n + k
  pub below_to : r.below_to ≡ n + k + gone
  pub above : r.above ≡ m + k
  pub above_to : r.above_to ≡ m + k + come

module _ (h : Height) (ms : List Mark) (cs : List Change) (p : Passed) (limit : Run)
    (b : AreBetween h ms cs p limit) where
  abbrev lower : List Mark
  lower = drop b.below h.below.now

  abbrev upper : List Mark
  upper = drop b.above ms

  -- a change to the left of a part is one of the groups between
  pub to_next : (c : Change) (later : List Change) → drop p.count cs ≡ c ∷ later
      → (after p.last c).below_to ≤ limit.below → (after p.last c).above_to ≤ limit.above
      → NextChanges h b.rest b.above (drop p.count cs) b.groups lower upper
  to_next c later e left left' = by_case (next_or_none h b.rest b.above (drop p.count cs) b.groups lower upper b.ahead)
    where
      by_case : AllStay b.rest (drop p.count cs) b.groups lower upper
          ⊎ NextChanges h b.rest b.above (drop p.count cs) b.groups lower upper
          → NextChanges h b.rest b.above (drop p.count cs) b.groups lower upper
      by_case (inr x) = x
      by_case (inl x) =
          let behind : IsBehind limit (c ∷ later) = subst (IsBehind limit) (sym x.last ∙ e) b.behind in
          let from = behind.0 in
          let count = stay_count x.bundles in
          let low : b.below + length x.bundles ≡ limit.below =
          ap (λ (j : ℕ). b.below + j) (sym (ap (λ (gs : List Group). length (all_below gs)) x.groups ∙ count.0))
          ∙ b.to_below in
          let up : b.above + length x.bundles ≡ limit.above =
          ap (λ (j : ℕ). b.above + j) (sym (ap (λ (gs : List Group). length (all_above gs)) x.groups ∙ count.1))
          ∙ b.to_above in
          let alike = b.alike in
          let from_above = b.from_above in
          absurd (behind.1 (omega (arith, from, low, up, alike, from_above, left, left')))

  -- what the next group leaves
  pub group_sizes : (x : NextChanges h b.rest b.above (drop p.count cs) b.groups lower upper)
      → (b.below + length x.bundles + x.change.gone + length (all_below x.more) ≡ limit.below)
      × (b.above + length x.bundles + x.change.come + length (all_above x.more) ≡ limit.above)
  group_sizes x =
      let low : length (all_below b.groups) ≡ length x.bundles + (length x.group.below + length (all_below x.more)) =
      ap (λ (gs : List Group). length (all_below gs)) x.groups ∙ ap length (stay_below x.bundles (x.group ∷ x.more))
      ∙ length-append x.bundles (x.group.below ++ all_below x.more)
      ∙ ap (λ (j : ℕ). length x.bundles + j) (length-append x.group.below (all_below x.more)) in
      let up : length (all_above b.groups) ≡ length x.bundles + (length x.group.above + length (all_above x.more)) =
      ap (λ (gs : List Group). length (all_above gs)) x.groups ∙ ap length (stay_above x.bundles (x.group ∷ x.more))
      ∙ length-append x.bundles (x.group.above ++ all_above x.more)
      ∙ ap (λ (j : ℕ). length x.bundles + j) (length-append x.group.above (all_above x.more)) in
      let to_below = b.to_below in
      let to_above = b.to_above in
      let gone = x.group_below in
      let come = x.group_above in
      (omega (arith, low, to_below, gone), omega (arith, up, to_above, come))

  -- where there is none, all that are left stay
  pub to_end : ((c : Change) (later : List Change) → drop p.count cs ≡ c ∷ later
      → (after p.last c).below_to ≤ limit.below → (after p.last c).above_to ≤ limit.above → ⊥)
      → AllStay b.rest (drop p.count cs) b.groups lower upper
  to_end absent = by_case (next_or_none h b.rest b.above (drop p.count cs) b.groups lower upper b.ahead)
    where
      by_case : AllStay b.rest (drop p.count cs) b.groups lower upper
          ⊎ NextChanges h b.rest b.above (drop p.count cs) b.groups lower upper
          → AllStay b.rest (drop p.count cs) b.groups lower upper
      by_case (inl x) = x
      by_case (inr x) =
          let sizes = group_sizes x in
          let low = sizes.0 in
          let up = sizes.1 in
          let alike = b.alike in
          let from_above = b.from_above in
          let from = x.from in
          absurd (absent x.change x.later x.changes (omega (arith, low, alike, from_above, from))
          (omega (arith, up, from)))

  module _ (x : NextChanges h b.rest b.above (drop p.count cs) b.groups lower upper) (r : Run)
      (is : r ≡ after p.last x.change) where
    pub group_place : IsBehindStays b.below b.above (length x.bundles) x.change.gone x.change.come r
    group_place =
        let alike = b.alike in
        let from_above = b.from_above in
        let from = x.from in
        let k : ℕ = length x.bundles in
        let start : p.last.below_to + (x.change.from - p.last.above_to) ≡ b.below + k =
        omega (arith, alike, from_above, from) in
        record {
          below = ap (λ (q : Run). q.below) is ∙ start;
          below_to = ap (λ (q : Run). q.below_to) is ∙ ap (λ (j : ℕ). j + x.change.gone) start;
          above = ap (λ (q : Run). q.above) is ∙ from;
          above_to = ap (λ (q : Run). q.above_to) is ∙ ap (λ (j : ℕ). j + x.change.come) from;
        }

    lower_at : drop r.below h.below.now ≡ x.gone ++ x.low
    lower_at =
        ap (λ (j : ℕ). drop j h.below.now) group_place.below ∙ sym (drop-drop (length x.bundles) b.below h.below.now)
        ∙ ap (drop (length x.bundles)) x.lower_is ∙ drop_at x.same (x.gone ++ x.low) (length x.bundles) x.size

    upper_at : drop r.above ms ≡ x.come ++ x.up
    upper_at =
        ap (λ (j : ℕ). drop j ms) group_place.above ∙ sym (drop-drop (length x.bundles) b.above ms)
        ∙ ap (drop (length x.bundles)) x.upper_is ∙ drop_at x.same (x.come ++ x.up) (length x.bundles) x.size

    pub lower_past : drop r.below_to h.below.now ≡ x.low
    lower_past =
        let place = group_place in
        let to : r.below_to ≡ r.below + x.change.gone =
        place.below_to ∙ ap (λ (j : ℕ). j + x.change.gone) (sym place.below) in
        ap (λ (j : ℕ). drop j h.below.now) to ∙ sym (drop-drop x.change.gone r.below h.below.now)
        ∙ ap (drop x.change.gone) lower_at ∙ drop_at x.gone x.low x.change.gone x.gone_size

    pub upper_past : drop r.above_to ms ≡ x.up
    upper_past =
        let place = group_place in
        let to : r.above_to ≡ r.above + x.change.come =
        place.above_to ∙ ap (λ (j : ℕ). j + x.change.come) (sym place.above) in
        ap (λ (j : ℕ). drop j ms) to ∙ sym (drop-drop x.change.come r.above ms)
        ∙ ap (drop x.change.come) upper_at ∙ drop_at x.come x.up x.change.come x.come_size

    pub group_run : IsRunOf h.below.now ms r
    group_run =
        let place = group_place in
        let below = place.below in
        let below_to = place.below_to in
        let above = place.above in
        let above_to = place.above_to in
        let low : length h.below.now - b.below ≡ length x.same + (length x.gone + length x.low) =
        sym (length-drop b.below h.below.now) ∙ ap length x.lower_is ∙ length-append x.same (x.gone ++ x.low)
        ∙ ap (λ (j : ℕ). length x.same + j) (length-append x.gone x.low) in
        let up : length ms - b.above ≡ length x.same + (length x.come + length x.up) =
        sym (length-drop b.above ms) ∙ ap length x.upper_is ∙ length-append x.same (x.come ++ x.up)
        ∙ ap (λ (j : ℕ). length x.same + j) (length-append x.come x.up) in
        let size = x.size in
        let gone = x.gone_size in
        let come = x.come_size in
        let there = b.there_below in
        let there' = b.there_above in
        record {
          below = omega (arith, below, below_to);
          below_to = omega (arith, below_to, low, size, gone, there);
          above = omega (arith, above, above_to);
          above_to = omega (arith, above_to, up, size, come, there');
        }

    marks_there : marks_of h ms r ≡ x.gone ++ x.come
    marks_there =
        let place = group_place in
        let below = place.below in
        let below_to = place.below_to in
        let above = place.above in
        let above_to = place.above_to in
        let gone = x.gone_size in
        let come = x.come_size in
        ap₂ (λ (us vs : List Mark). take (r.below_to - r.below) us ++ take (r.above_to - r.above) vs) lower_at upper_at
        ∙ ap₂ (λ (us vs : List Mark). us ++ vs)
        (take_at x.gone x.low (r.below_to - r.below) (omega (arith, below, below_to, gone)))
        (take_at x.come x.up (r.above_to - r.above) (omega (arith, above, above_to, come)))

    pub group_meets : MeetAt h ms r (rounded (point_of (first_spot h.edges.now h.at.now (all_at x.group))))
    group_meets = all_round h (first_spot h.edges.now h.at.now (all_at x.group)) (marks_of h ms r)
        (subst (AreMarksAt h x.group) (sym marks_there) x.at)

    pub group_across : MeetAcross h ms r (first_spot h.edges.now h.at.now (all_at x.group))
    group_across = all_across h (first_spot h.edges.now h.at.now (all_at x.group)) (marks_of h ms r)
        (subst (AreMarksAt h x.group) (sym marks_there) x.at)

    pub group_there : IsGroupAt h ms r
    group_there = record {
      run = group_run;
      some = λ e. x.some (sym marks_there ∙ e);
      point = rounded (point_of (first_spot h.edges.now h.at.now (all_at x.group)));
      meet = group_meets;
    }

  -- past the next group, with marks that are the same to its right
  unfoldable pub between_past : (x : NextChanges h b.rest b.above (drop p.count cs) b.groups lower upper) (r : Run)
      → r ≡ after p.last x.change → (ns : List Mark) → length ns ≡ length ms → drop r.above_to ns ≡ drop r.above_to ms
      → (q : Passed) → q.last ≡ r → x.later ≡ drop q.count cs → AreBetween h ns cs q limit
  between_past x r is ns size right q last later =
      let place = group_place x r is in
      let run = group_run x r is in
      let low : x.low ≡ drop r.below_to h.below.now = sym (lower_past x r is) in
      let up : x.up ≡ drop r.above_to ns = sym (upper_past x r is) ∙ sym right in
      let sizes = group_sizes x in
      let below_to = place.below_to in
      let above_to = place.above_to in
      let to_below = sizes.0 in
      let to_above = sizes.1 in
      let from = x.from in
      let at : x.change.from + x.change.come ≡ r.above_to = omega (arith, from, above_to) in
      let run_above_to = run.above_to in
      let last_below : q.last.below_to ≡ r.below_to = ap (λ (u : Run). u.below_to) last in
      let last_above : q.last.above_to ≡ r.above_to = ap (λ (u : Run). u.above_to) last in
      record {
        below = r.below_to;
        above = r.above_to;
        groups = x.more;
        rest = b.rest;
        ahead = subst (λ (j : ℕ). LieAhead h b.rest j (drop q.count cs) x.more (drop r.below_to h.below.now)
            (drop r.above_to ns)) at
            (subst (λ (vs : List Mark). LieAhead h b.rest (x.change.from + x.change.come) (drop q.count cs) x.more
            (drop r.below_to h.below.now) vs) up
            (subst (λ (vs : List Mark). LieAhead h b.rest (x.change.from + x.change.come) (drop q.count cs) x.more
            vs x.up) low
            (subst (λ (ds : List Change). LieAhead h b.rest (x.change.from + x.change.come) ds x.more x.low x.up)
            later x.ahead)));
        behind = b.behind;
        from_below = omega (arith, last_below);
        from_above = omega (arith, last_above);
        alike = omega (arith, last_below, last_above);
        there_below = run.below_to;
        there_above = omega (arith, run_above_to, size);
        to_below = omega (arith, below_to, to_below);
        to_above = omega (arith, above_to, to_above);
      }
