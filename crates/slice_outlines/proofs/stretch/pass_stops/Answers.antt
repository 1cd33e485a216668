-- Stop by stop.
use Rattle.std.proofs.Common.{◌≡◌, ◌+◌, ◌++◌, ◌∷◌, [], List, ℕ, take, drop, None, sym, ap, refl, ◌∙◌, subst, append_assoc}
use Rattle.std.proofs.lemmas.List.{append-nil, drop_all, take_all}
use Rattle.slice_pieces.specs.declared.piece.Spot.{Spot}
use Rattle.slice_outlines.specs.declared.mark.Mark.{Mark}
use Rattle.slice_outlines.specs.declared.run.Run.{Run}
use Rattle.slice_border.specs.declared.stop.Stop.{Stop}
use Rattle.slice_outlines.specs.declared.flat.Flat.{Flat}
use Rattle.slice_border.specs.Stops.{spots_in}
use Rattle.slice_outlines.specs.Along.{HasComeOver, HasComeAlong}
use Rattle.slice_outlines.specs.Stretch.{Waits}
use Rattle.slice_outlines.proofs.Onward.{come_as}
use Rattle.slice_outlines.proofs.Waiting.{IsStep, AreFrom, first_waits, stops_from, next_stop, wait_on, name_on, all_passed}
use Rattle.slice_outlines.proofs.stretch.pass_stops.Goals as goal

pub stops-init : goal.stops-init
stops-init c =
    let run = c.args.run.now in
    let ss : List Stop = c.args.stops.now in
    let kept = c.args.kept.now in
    record {
      names = refl;
      right = refl;
      cursors = refl;
      waits = first_waits c.args.height.now kept.marks.items run c.args.flats.now ss _ c.requires.run
          c.requires.above_order
          c.requires.above_pass c.requires.strands refl refl refl refl c.new.ensures.items;
      passed = λ on passed of tell come. subst (λ (ps : List Spot). HasComeOver on ps
          (spots_in ss) run run.below run.above None
          kept.marks.items kept.given.items kept.cursors) (sym (append-nil passed)) come;
    }

pub pass_stop-requires-clause-at : goal.pass_stop-requires-clause-at
pass_stop-requires-clause-at c =
    let h = c.args.height.now in
    let run = c.args.run.now in
    let fs : List Flat = c.args.flats.now in
    let ss : List Stop = c.args.stops.now in
    let i : ℕ = c.stops.s-index in
    let s : Stop = c.s-item.result in
    let a = c.stops.along in
    let ms : List Mark = c.stops.kept.marks.items in
    let from : AreFrom h fs ss i s = stops_from h fs ss i s c.requires.stops c.stops-test.true c.s-item.is in
    from.at.0

pub pass_stop-requires-clause-spot : goal.pass_stop-requires-clause-spot
pass_stop-requires-clause-spot c =
    let h = c.args.height.now in
    let run = c.args.run.now in
    let fs : List Flat = c.args.flats.now in
    let ss : List Stop = c.args.stops.now in
    let i : ℕ = c.stops.s-index in
    let s : Stop = c.s-item.result in
    let a = c.stops.along in
    let ms : List Mark = c.stops.kept.marks.items in
    let from : AreFrom h fs ss i s = stops_from h fs ss i s c.requires.stops c.stops-test.true c.s-item.is in
    from.within

pub pass_stop-requires-clause-next : goal.pass_stop-requires-clause-next
pass_stop-requires-clause-next c =
    let h = c.args.height.now in
    let run = c.args.run.now in
    let fs : List Flat = c.args.flats.now in
    let ss : List Stop = c.args.stops.now in
    let i : ℕ = c.stops.s-index in
    let s : Stop = c.s-item.result in
    let a = c.stops.along in
    let ms : List Mark = c.stops.kept.marks.items in
    let from : AreFrom h fs ss i s = stops_from h fs ss i s c.requires.stops c.stops-test.true c.s-item.is in
    next_stop h ms run fs s (drop (i + 1) ss) a c.requires.below_pass from.right
    (subst (λ (ts : List Stop). Waits h ms run fs ts a) from.is c.stops.invariant.waits)

pub stops-preserved : goal.stops-preserved
stops-preserved c =
    let h = c.args.height.now in
    let run = c.args.run.now in
    let fs : List Flat = c.args.flats.now in
    let ss : List Stop = c.args.stops.now in
    let i : ℕ = c.stops.s-index in
    let s : Stop = c.s-item.result in
    let a = c.stops.along in
    let ms : List Mark = c.stops.kept.marks.items in
    let from : AreFrom h fs ss i s = stops_from h fs ss i s c.requires.stops c.stops-test.true c.s-item.is in
    let rest : List Stop = drop (i + 1) ss in
    let b = c.pass_stop.new.along in
    let new = c.pass_stop.new.kept in
    let ns : List Mark = new.marks.items in
    let waits : Waits h ms run fs (s ∷ rest) a = subst (λ (ts : List Stop). Waits h ms run fs ts a) from.is
    c.stops.invariant.waits in
    let step : IsStep h ms ns fs s a b = record {
      run = c.in_ok-pass_stop.ensures.run;
      within = c.in_ok-pass_stop.ensures.within;
      names = c.in_ok-pass_stop.ensures.names;
      behind = c.in_ok-pass_stop.ensures.behind;
      below = c.in_ok-pass_stop.ensures.below;
      above = c.in_ok-pass_stop.ensures.above;
      begun = c.in_ok-pass_stop.ensures.begun;
      live = c.in_ok-pass_stop.ensures.live;
    } in
    let later : Waits h ns run fs rest b = wait_on h ms ns run fs s rest a b c.requires.below_order
    c.requires.below_pass
    from.at from.right step waits in
    record {
      names = c.in_ok-pass_stop.ensures.names ∙ c.stops.invariant.names;
      right = subst (λ (r : Run). drop r.above_to ns ≡ drop r.above_to ms) waits.run_is c.in_ok-pass_stop.ensures.right
          ∙ c.stops.invariant.right;
      cursors = c.in_ok-pass_stop.ensures.cursors ∙ c.stops.invariant.cursors;
      waits = later;
      passed = λ on passed of tell come.
          let done : List Spot = passed ++ spots_in (take i ss) in
          let before = subst (λ (ts : List Stop). HasComeAlong on done (spots_in ts) a c.stops.kept) from.is
          (c.stops.invariant.passed on passed of tell come) in
          let name = name_on h ms ns run fs s rest a b (from.tell tell) step waits later in
          subst (λ (ps : List Spot). HasComeAlong on ps (spots_in rest) b new)
          (append_assoc passed (spots_in (take i ss)) (s.spot ∷ [])
          ∙ ap (λ (us : List Spot). passed ++ us) (sym from.more))
          (c.in_ok-pass_stop.ensures.passed on done (spots_in rest) of name before);
    }

pub returns : goal.returns
returns c = record {
  right = record { names = c.stops.invariant.names; right = c.stops.invariant.right };
  cursors = c.stops.invariant.cursors;
  passed = λ on passed of tell come.
      let h = c.args.height.now in
      let run = c.args.run.now in
      let fs : List Flat = c.args.flats.now in
      let ss : List Stop = c.args.stops.now in
      let i : ℕ = c.stops.s-index in
      let a = c.stops.along in
      let kept = c.stops.kept in
      let ms : List Mark = kept.marks.items in
      let none : drop i ss ≡ [] = drop_all i ss c.stops-test.false in
      let w : Waits h ms run fs [] a = subst (λ
      (ts : List Stop). Waits h ms run fs ts a) none c.stops.invariant.waits in
      let all = all_passed h ms run fs a w in
      let end = subst (λ (ts : List Stop). HasComeAlong on (passed ++ spots_in ts) [] a kept)
      (take_all i ss c.stops-test.false)
      (subst (λ (ts : List Stop). HasComeAlong on (passed ++ spots_in (take i ss)) (spots_in ts) a kept) none
      (c.stops.invariant.passed on passed of tell come)) in (
        a.flat,
        come_as on (passed ++ spots_in ss) [] a.run run a.below run.below_to a.above run.above_to a.flat a.flat ms ms
            kept.given.items kept.given.items kept.cursors w.run_is all.0 all.1 refl refl refl end,
      );
}
