-- A sweep over places merges pieces.
use Rattle.std.proofs.Common.{◌≡◌, ◌⊎◌, inl, inr, List, [], ◌∷◌, ◌++◌, All, refl, sym, ap, ◌∙◌, subst, append_assoc}
use Rattle.std.specs.List.{AllByRecursion}
use Rattle.std.specs.List.Sorted.{IsPermutation}
use Rattle.std.proofs.lemmas.List.{map-append}
use Rattle.std.proofs.lemmas.List.Elements.{All-weaker, All-from_recursion, recursion_from_All}
use Rattle.std.proofs.lemmas.List.Sorted.{All-permutation, IsPermutation-refl, IsPermutation-sym, IsPermutation-middle}
use Rattle.scad_base.proofs.Lists.{AllByRecursion-append}
use Rattle.winding_laws.specs.Nearness.{IsPoint}
use Rattle.slice_pieces.specs.declared.piece.Spot.{Spot}
use Rattle.slice_pieces.specs.declared.piece.Piece.{Piece}
use Rattle.slice_pieces.specs.Spots.{point_of}
use Rattle.slice_pieces.specs.Merging.{joined, MeetAlone, AreMerged, all_joined, two_join}
use Rattle.slice_pieces.specs.Joining.{GoesOn, IsStuck}
use Rattle.slice_pieces.proofs.Pairs.{permuted_merged}
use Rattle.slice_pieces.proofs.ChainEnds.{stays_stuck, none_meet_alone}
use Rattle.sweep_laws.specs.Ways.{Way, piece_of, pieces_of, IsAt, IsAway, AreOfDifferentNames}
use Rattle.sweep_laws.specs.Visits.{grown, IsOneCourse, Pass, goes_on, all_end, Visit, outs_of, IsAtOne, Leads, AreInSweepOrder, Walk, over, visit, WalksMerge}
use Rattle.sweep_laws.proofs.Touches.{ComesIn, GoesOut, LiesAway}
use Rattle.sweep_laws.proofs.OnePlace.{is_joined}
use Rattle.sweep_laws.proofs.Meeting.{ending, starting, meet_alone, ending_point, starting_point, starts_on, by_end}
use Rattle.sweep_laws.proofs.Away.{not_first}
use Rattle.sweep_laws.proofs.Between.{state, IsQuiet, IsBetween, all_weaker, all_two, come_in, go_out, lie_away, all_are, opened_in, still_open, still_gone, ended_are, after_ended}

-- ---- one goes on
quiet_joined : (vs : List Visit) (all : List Piece) (f s : Piece) → f.edge ≡ s.edge → IsQuiet vs all s
    → IsQuiet vs all (joined f s)
quiet_joined vs all f s e h = record { point = h.point; later = by_case h.later }
  where
    by_case : IsAtOne vs s.to ⊎ IsStuck all s → IsAtOne vs s.to ⊎ IsStuck all (joined f s)
    by_case (inl a) = inl a
    by_case (inr stuck) = inr (λ passed. All-weaker (λ r. GoesOn s r → ⊥) (λ r. GoesOn (joined f s) r → ⊥)
        (λ r none g. none (record { name = sym e ∙ g.name; meet = g.meet; away = g.away })) all
        (stuck (record { one_ends = passed.one_ends; one_starts = passed.one_starts })))

module _ (done : List Piece) (opens kept : List Way) (a b : Way) (course : IsOneCourse a b) (s : Spot) (vs : List Visit)
    (is : IsPermutation opens (a ∷ kept)) (at : IsAt (point_of s) a.far)
    (away : AllByRecursion (λ w. IsAway (point_of s) w.far) kept)
    (now : IsBetween done opens (record { at = s; outs = b ∷ [] } ∷ vs)) where
  abbrev v : Visit
  v = record { at = s; outs = b ∷ [] }

  abbrev whole : List Piece
  whole = state done opens (v ∷ vs)

  abbrev rest : List Piece
  rest = done ++ (pieces_of kept ++ pieces_of (outs_of vs))

  abbrev first : Piece
  first = ending a.forward a b

  abbrev second : Piece
  second = starting a.forward a b

  comes : ComesIn (point_of s) a
  comes = (come_in done opens (a ∷ []) kept v vs is (at, tt) away (tt, tt) now).0

  goes : GoesOut (point_of s) b
  goes = (go_out done opens (a ∷ []) kept v vs is (at, tt) away (tt, tt) now).0

  rest_away : AllByRecursion (LiesAway (point_of s)) rest
  rest_away = lie_away done opens (a ∷ []) kept v vs is (at, tt) away (tt, tt) now

  whole_is : IsPermutation whole (piece_of a ∷ (piece_of b ∷ rest))
  whole_is = all_are done opens (a ∷ []) kept v vs is (at, tt) away (tt, tt) now

  meet : MeetAlone whole first second rest
  meet = meet_alone (point_of s) now.order.0 whole a b rest whole_is comes goes rest_away course a.forward refl

  abbrev after : List Piece
  after = state done (grown a b ∷ kept) vs

  after_is : IsPermutation after (joined first second ∷ rest)
  after_is = subst (λ (q : Piece). IsPermutation after (q ∷ rest)) (sym (is_joined a b course a.forward refl))
      (IsPermutation-middle done (piece_of (grown a b)) (pieces_of kept ++ pieces_of (outs_of vs)))

  later_quiet : (q : Piece) → IsAway (point_of s) q.to → IsQuiet (v ∷ vs) whole q → IsQuiet vs after q
  later_quiet q o h = record { point = h.point; later = by_case h.later }
    where
      by_case : IsAtOne (v ∷ vs) q.to ⊎ IsStuck whole q → IsAtOne vs q.to ⊎ IsStuck after q
      by_case (inl x) = inl (not_first v vs q.to o x)
      by_case (inr stuck) = inr (stays_stuck whole after first second rest meet after_is q h.point
          (ending_point (point_of s) now.order.0 whole a b rest whole_is comes goes rest_away course a.forward refl)
          (starting_point (point_of s) now.order.0 whole a b rest whole_is comes goes rest_away course a.forward refl)
          stuck)

  quiet_before : AllByRecursion (IsQuiet (v ∷ vs) whole) (first ∷ (second ∷ rest))
  quiet_before = recursion_from_All (IsQuiet (v ∷ vs) whole) (first ∷ (second ∷ rest))
      (All-permutation (IsQuiet (v ∷ vs) whole) whole (first ∷ (second ∷ rest)) meet.two now.quiet)

  quiet_after : AllByRecursion (IsQuiet vs after) (joined first second ∷ rest)
  quiet_after = (
    quiet_joined vs after first second meet.name
        (later_quiet second
        (starts_on (point_of s) now.order.0 whole a b rest whole_is comes goes rest_away course a.forward refl)
        quiet_before.1.0),
    all_two (LiesAway (point_of s)) (IsQuiet (v ∷ vs) whole) (IsQuiet vs after) rest (λ q l h. later_quiet q l.1 h)
        rest_away quiet_before.1.1,
  )

  after_grown : IsBetween done (grown a b ∷ kept) vs
  after_grown = record {
    order = now.order.4;
    opened = (
      record {
        near_point = comes.3;
        far_point = goes.3;
        near = (opened_in done opens (a ∷ []) kept v vs is (at, tt) away (tt, tt) now).0.near.1;
        far = now.order.2.0.far;
      },
      still_open done opens (a ∷ []) kept v vs is (at, tt) away (tt, tt) now,
    );
    gone = still_gone done opens (a ∷ []) kept v vs is (at, tt) away (tt, tt) now;
    quiet = All-permutation (IsQuiet vs after) (joined first second ∷ rest) after
        (IsPermutation-sym after (joined first second ∷ rest) after_is)
        (All-from_recursion (IsQuiet vs after) (joined first second ∷ rest) quiet_after);
  }

  join : (merged : List Piece) → AreMerged after merged → AreMerged whole merged
  join merged m = two_join first second rest meet (permuted_merged after (joined first second ∷ rest) merged after_is m)

-- ---- all visits
step : (done : List Piece) (opens kept more : List Way) (s : Spot) (vs : List Visit) (ins outs after closed : List Way)
    → IsPermutation opens (ins ++ kept) → AllByRecursion (λ w. IsAt (point_of s) w.far) ins
    → AllByRecursion (λ w. IsAway (point_of s) w.far) kept → AreOfDifferentNames ins → Pass ins outs after closed
    → IsBetween done opens (record { at = s; outs = outs } ∷ vs)
    → ((ended : List Piece) → IsBetween ended (after ++ kept) vs
    → AreMerged (state ended (after ++ kept) vs) (ended ++ pieces_of more))
    → AreMerged (state done opens (record { at = s; outs = outs } ∷ vs)) (done ++ pieces_of (closed ++ more))
step done opens kept more s vs _ _ _ _ is at away different (goes_on a b course) now go =
    join done opens kept a b course s vs is at.0 away now (done ++ pieces_of more)
    (go done (after_grown done opens kept a b course s vs is at.0 away now))
step done opens kept more s vs _ _ _ _ is at away different (all_end ins outs none) now go =
    let v : Visit = record { at = s; outs = outs } in
    let end : List Piece = done ++ pieces_of ins in
    let whole : List Piece = state done opens (v ∷ vs) in
    permuted_merged (state end (outs ++ kept) vs) whole (done ++ pieces_of (ins ++ more))
    (IsPermutation-sym whole (state end (outs ++ kept) vs) (ended_are done opens ins kept v vs is at away different
    now))
    (subst (AreMerged (state end (outs ++ kept) vs))
    (append_assoc done (pieces_of ins) (pieces_of more)
    ∙ ap (λ (qs : List Piece). done ++ qs) (sym (map-append piece_of ins more)))
    (go end (after_ended done opens ins kept v vs is at away different now none)))

all_stuck : (qs : List Piece) → All (IsQuiet [] qs) qs → All (IsStuck qs) qs
all_stuck qs h = All-weaker (IsQuiet [] qs) (IsStuck qs) (λ q r. by_case q r.later) qs h
  where
    by_case : (q : Piece) → IsAtOne [] q.to ⊎ IsStuck qs q → IsStuck qs q
    by_case q (inl a) = absurd a
    by_case q (inr s) = s

merging : (opens : List Way) (vs : List Visit) (closed : List Way) → Walk opens vs closed → (done : List Piece)
    → IsBetween done opens vs → AreMerged (state done opens vs) (done ++ pieces_of closed)
merging _ _ _ over done now = all_joined (none_meet_alone (done ++ []) (all_stuck (done ++ []) now.quiet))
    (IsPermutation-refl (done ++ []))
merging _ _ _ (visit opens ins kept news closed more v vs is at away different pass walk) done now =
    step done opens kept more v.at vs ins v.outs news closed is at away different pass now
    (λ ended then. merging (news ++ kept) vs more walk ended then)

-- ---- before the first visit
abbrev IsWithin : List Visit → Way → Type 0
IsWithin vs w = IsPoint (point_of w.near) × IsPoint (point_of w.far) × IsAtOne vs w.near × IsAtOne vs w.far

all_within : (vs : List Visit) → AreInSweepOrder vs → AllByRecursion (IsWithin vs) (outs_of vs)
all_within [] h = tt
all_within (v ∷ vs) h =
    AllByRecursion-append (IsWithin (v ∷ vs)) v.outs (outs_of vs)
    (all_weaker (Leads v.at vs) (IsWithin (v ∷ vs)) v.outs
    (λ w l. (l.near_point, l.far_point, inl l.near, inr l.far)) h.2)
    (all_weaker (IsWithin vs) (IsWithin (v ∷ vs)) (outs_of vs) (λ w l. (l.0, l.1, inr l.2, inr l.3))
    (all_within vs h.4))

begin_quiet : (vs : List Visit) (qs : List Piece) (ws : List Way) → AllByRecursion (IsWithin vs) ws
    → AllByRecursion (IsQuiet vs qs) (pieces_of ws)
begin_quiet vs qs [] h = tt
begin_quiet vs qs (w ∷ ws) h = (
  record {
    point = by_end (λ s. IsPoint (point_of s)) w.forward w.far w.near h.0.1 h.0.0;
    later = inl (by_end (IsAtOne vs) w.forward w.far w.near h.0.3 h.0.2);
  },
  begin_quiet vs qs ws h.1,
)

pub walks_merge : WalksMerge
walks_merge visits closed order walk =
    merging [] visits closed walk []
    (record {
      order = order;
      opened = tt;
      gone = tt;
      quiet = All-from_recursion (IsQuiet visits (pieces_of (outs_of visits))) (pieces_of (outs_of visits))
          (begin_quiet visits (pieces_of (outs_of visits)) (outs_of visits) (all_within visits order));
    })
