-- The chain goes on, or its end is passed.
use Rattle.std.proofs.Common.{sym, ◌∙◌}
use Rattle.slice_snap.specs.Chains.{no_piece}
use Rattle.slice_snap.proofs.Pairs.{comparable}
use Rattle.slice_snap.proofs.ChainLinks.{stuck_before, when_gone, when_round, linked}
use Rattle.slice_snap.proofs.merging.go_on.Goals as goal
use Rattle.slice_snap.proofs.merging.go_on.Goals.{else-first-next-via-then-first-next+else-not-is_gone, else-first-next-via-else-first-next}

pub joint-requires-clause-comparable : goal.joint-requires-clause-comparable
joint-requires-clause-comparable c = comparable c.args.pieces.now c.args.place no_piece c.requires.inside
    c.requires.within c.requires.levels

pub returns-then-not-is_gone : goal.returns-then-not-is_gone
returns-then-not-is_gone c =
    linked c.args.pieces.now c.args.chains.now c.args.place c.requires.so_far c.requires.inside
    c.first_of-first.result c.in-Some.next c.first_of-first.ensures c.in-Some.ensures.some.there
    (c.in-Some.ensures.some.on no_piece) c.in-Some.ensures.passed c.requires.within
    (sym c.is_gone.ensures ∙ c.if-not-is_gone.true) c.if-first-next.true c.link.new.self c.link.ensures

pub returns-else-first-next : goal.returns-else-first-next
returns-else-first-next c =
    elim c.else-first-next.branch [
      | else-first-next-via-then-first-next+else-not-is_gone w ↦
          when_gone c.args.pieces.now c.args.chains.now c.args.place c.requires.so_far c.requires.inside
          c.first_of-first.result c.in-Some.next c.first_of-first.ensures c.in-Some.ensures.some.there
          (c.in-Some.ensures.some.on no_piece) c.in-Some.ensures.passed c.requires.within
          (sym w.is_gone.ensures ∙ w.if-not-is_gone.false)
      | else-first-next-via-else-first-next w ↦
          when_round c.args.pieces.now c.args.chains.now c.args.place c.requires.so_far c.requires.inside
          c.first_of-first.result c.in-Some.next c.first_of-first.ensures c.in-Some.ensures.some.there
          (c.in-Some.ensures.some.on no_piece) c.in-Some.ensures.passed c.requires.within
          w.if-first-next.false
    ]

pub returns-in_default : goal.returns-in_default
returns-in_default c = stuck_before c.args.pieces.now c.args.chains.now c.args.place c.requires.so_far c.requires.inside
    (c.requires.within c.args.place no_piece c.requires.inside) c.in_default.ensures.none
