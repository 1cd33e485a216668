use Rattle.std.proofs.Common.{◌≡◌, ◌≤◌, ◌+◌, Ok, Err, refl, sym, ap, ap₂, rules}
use Rattle.slice_work.specs.declared.fault.WorkFault.{WorkFault}
use Rattle.slice_work.specs.declared.sums.Sums.{Sums}
use Rattle.slice_work.specs.Script.{stopped}
use Rattle.slice_work.specs.Rates.{rates_of}
use Rattle.slice_work.proofs.Layers.{round_played}
use Rattle.slice_work.proofs.Rounds.{sums_as, steps_as}
use Rattle.slice_work.proofs.Stopping.{stops_work}
use Rattle.slice_work.proofs.Written.{still_there}
use Rattle.slice_work.proofs.part.work.Goals as goal

pub returns-in_err-round-clause-carries : goal.returns-in_err-round-clause-carries
returns-in_err-round-clause-carries g c part draws whole rest start left =
    stops_work whole rest _ WorkFault.Memory start _ (search rules)
    (_, c.rounds.invariant.carries part draws whole rest start left)

pub returns-in_err-sums-clause-carries : goal.returns-in_err-sums-clause-carries
returns-in_err-sums-clause-carries g c part draws whole rest start left =
    let round = c.in_ok-round.round in
    let is = c.in_ok-round.ensures.round in
    let kept = c.rounds.invariant in
    let rates = rates_of c.args.print.now.settings in
    let within : c.rounds.first + round.count ≤ c.args.count = search rules in
    stops_work whole rest _ _ start _ (search rules)
    (round_played c.args.print.now.want rates part {T = Sums} c.rounds.first round.count c.args.count
    (c.rounds.first + round.count) (stopped (Err c.in_err-sums.field-0.0))
    (g.D.Desk.view c.rounds.desk) (g.D.Desk.view c.send_round.new.desk) within refl
    (steps_as {T = Sums} c.args.print.now.want rates _ part c.rounds.first round.first round.count
    (stopped (Err c.in_err-sums.field-0.0)) _ _ kept.rates is.start
    (c.in_err-sums.ensures.carries part (c.in_ok-round.ensures.drawn part draws)
    (sums_as c.args.print.now.want rates _ part c.rounds.first round.first c.rounds.sums kept.rates is.start
    (kept.sums part draws))))
    whole rest start (kept.carries part draws whole rest start left))

pub rounds-preserved : goal.rounds-preserved
rounds-preserved g c =
    let round = c.in_ok-round.round in
    let is = c.in_ok-round.ensures.round in
    let kept = c.rounds.invariant in
    let rates = rates_of c.args.print.now.settings in
    let next = c.rounds.first + c.min-size.result in
    let within : c.rounds.first + round.count ≤ c.args.count = search rules in
    let ends : round.first + round.count ≡ next = ap₂ (λ a b. a + b) is.start is.size in
    record {
      within = search rules;
      rates = kept.rates;
      carries = λ part draws whole rest start left.
          round_played c.args.print.now.want rates part {T = Sums} c.rounds.first round.count c.args.count next
          (stopped (Ok c.in_ok-sums.sums))
          (g.D.Desk.view c.rounds.desk) (g.D.Desk.view c.send_round.new.desk) within
          (ap (λ k. c.rounds.first + k) (sym is.size))
          (steps_as {T = Sums} c.args.print.now.want rates _ part c.rounds.first round.first round.count
          (stopped (Ok c.in_ok-sums.sums)) _ _ kept.rates is.start
          (c.in_ok-sums.ensures.carries part (c.in_ok-round.ensures.drawn part draws)
          (sums_as c.args.print.now.want rates _ part c.rounds.first round.first c.rounds.sums kept.rates is.start
          (kept.sums part draws))))
          whole rest start (kept.carries part draws whole rest start left);
      sums = λ part draws.
          sums_as c.args.print.now.want _ rates part (round.first + round.count) next c.in_ok-sums.sums (sym kept.rates)
          (sym ends)
          (c.in_ok-sums.ensures.sums part (c.in_ok-round.ensures.drawn part draws)
          (sums_as c.args.print.now.want rates _ part c.rounds.first round.first c.rounds.sums kept.rates is.start
          (kept.sums part draws)));
      sound = search rules;
      there = still_there c.args.print.now.want (g.D.Desk.view c.rounds.desk)
          (g.D.Desk.view c.send_round.new.desk) c.in_ok-sums.ensures.kept.creates kept.there;
      creates = search rules;
      files = search rules;
      later = search rules;
    }

pub returns-in-None-clause-carries : goal.returns-in-None-clause-carries
returns-in-None-clause-carries g c part draws whole rest start left =
    (_, c.rounds.invariant.carries part draws whole rest start left)
