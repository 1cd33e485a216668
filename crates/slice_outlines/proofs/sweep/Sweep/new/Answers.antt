-- No level is passed.
use Rattle.std.proofs.Common.{ℕ, false, List, [], refl, sym, subst, arith}
use Rattle.std.specs.List.Sorted.{IsPermutation}
use Rattle.std.proofs.lemmas.List.Sorted.{IsPermutation-refl}
use Rattle.scad_geom.specs.declared.point.Edge.{Edge}
use Rattle.sweep_laws.proofs.HeightByHeight.{sweeps_begin}
use Rattle.sweep_laws.proofs.Edges.{ways_give_edges}
use Rattle.slice_outlines.specs.declared.mark.Mark.{Mark}
use Rattle.slice_outlines.specs.Marks.{AreKept}
use Rattle.slice_outlines.specs.Cursors.{StandOn}
use Rattle.slice_outlines.proofs.Beginning.{ready_first, none_below, flats_above}
use Rattle.slice_outlines.proofs.sweep.Sweep.new.Goals as goal

pub returns : goal.returns
returns c ls a =
    let es = c.args.edges.now in
    let shape = c.args.shape.now in
    let kept = c.nothing.result in
    record {
      done = [];
      front = [];
      closed = [];
      all = refl;
      swept = sweeps_begin es shape ls;
      given = subst (λ (xs : List Edge). IsPermutation xs kept.given.items) (sym ways_give_edges.none)
          (subst (λ (xs : List Edge). IsPermutation [] xs) (sym c.nothing.ensures.given) (IsPermutation-refl []));
      bundles = sym c.in_ok-front.ensures.none;
      kept = subst (λ (ms : List Mark). AreKept false ms []) (sym c.nothing.ensures.marks) tt;
      cursors = subst (λ (bs : List (List ℕ)). StandOn es shape bs kept.cursors) (sym c.in_ok-front.ensures.none)
          (subst (StandOn es shape []) (sym c.nothing.ensures.cursors) c.in_ok-cursors.ensures);
      flats = c.in_ok-flats.ensures;
      passed = omega arith;
      flats_below = flats_above es ls
          (record {
            alloc = c.args.alloc;
            front = c.in_ok-front.front;
            kept = kept;
            flats = c.in_ok-flats.flats;
            passed = 0;
          }) a refl c.in_ok-flats.ensures.each;
      ready = ready_first es ls
          (record {
            alloc = c.args.alloc;
            front = c.in_ok-front.front;
            kept = kept;
            flats = c.in_ok-flats.flats;
            passed = 0;
          }) a c.in_ok-front.ensures.ready c.in_ok-front.ensures.begun;
      below = none_below es shape ls;
    }
