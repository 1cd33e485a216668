use Rattle.std.proofs.Common.{◌≡◌, ◌<◌, ◌≤◌, ◌+◌, ◌-◌, ℕ, Ok, Err, refl, ap, ◌∙◌, arith, rules}
use Rattle.scad_script.proofs.Layers.{as_left}
use Rattle.slice_work.specs.declared.sums.Sums.{Sums}
use Rattle.slice_work.specs.Script.{laid_out, stopped}
use Rattle.slice_work.specs.Sums.{with_layer}
use Rattle.slice_work.proofs.Counting.{next_counted}
use Rattle.slice_work.proofs.Layers.{next_written, over_next}
use Rattle.slice_work.proofs.Rounds.{written_as}
use Rattle.slice_work.proofs.Stopping.{stops_work}
use Rattle.slice_work.proofs.Written.{still_there}
use Rattle.slice_work.proofs.part.send_round.Goals as goal

pub returns-in_err-sums-clause-carries : goal.returns-in_err-sums-clause-carries
returns-in_err-sums-clause-carries g c part drawn sums whole rest start left =
    let round = c.args.round.now in
    let i = round.first + c.layers.n in
    let n = round.count - c.layers.n in
    let layout = laid_out c.layout_of-layer.result in
    let below : c.layers.n < round.least = search rules in
    let within : round.least ≤ round.count = c.requires.round.within in
    let old = g.D.Desk.view c.layers.desk in
    let new = g.D.Desk.view c.send_layer.new.desk in
    let result = stopped {T = Sums} (Err c.in_err-sums.field-0.0) in
    stops_work whole rest _ _ start _ (search rules)
    (next_written c.args.want c.args.rates.now part {T = Sums} i n (i + 1)
    (n - 1) c.layers.sums layout result old new (omega arith) refl refl
    (c.layers.invariant.sums part drawn sums) (c.layout_of-layer.ensures.layout part drawn)
    (written_as {T = Sums} c.args.want c.args.rates.now c.layers.sums.volume i c.layout_of-layer.result.number layout
    result old new c.layout_of-layer.ensures.number c.in_err-sums.ensures.carries)
    whole rest start (c.layers.invariant.carries part drawn sums whole rest start left))

pub layers-preserved : goal.layers-preserved
layers-preserved g c =
    let round = c.args.round.now in
    let kept = c.layers.invariant in
    let i = round.first + c.layers.n in
    let n = round.count - c.layers.n in
    let j = round.first + (c.layers.n + 1) in
    let layout = laid_out c.layout_of-layer.result in
    let number = c.layout_of-layer.ensures.number in
    let below : c.layers.n < round.least = search rules in
    let within : round.least ≤ round.count = c.requires.round.within in
    let old = g.D.Desk.view c.layers.desk in
    let new = g.D.Desk.view c.send_layer.new.desk in
    let result = stopped {T = Sums} (Ok c.in_ok-sums.sums) in
    record {
      carries = λ part drawn sums whole rest start left.
          next_written c.args.want c.args.rates.now part {T = Sums} i n j (round.count - (c.layers.n + 1))
          c.layers.sums layout result old new (omega arith) (omega arith) (omega arith)
          (kept.sums part drawn sums) (c.layout_of-layer.ensures.layout part drawn)
          (written_as {T = Sums} c.args.want c.args.rates.now c.layers.sums.volume i c.layout_of-layer.result.number
          layout result old new number c.in_ok-sums.ensures.carries)
          whole rest start (kept.carries part drawn sums whole rest start left);
      sums = λ part drawn sums.
          next_counted c.args.want c.args.rates.now part i j layout c.layers.sums c.in_ok-sums.sums (omega arith)
          (c.in_ok-sums.ensures.sums
          ∙ ap (λ (k : ℕ). with_layer c.args.want c.args.rates.now k layout c.layers.sums) number)
          (c.layout_of-layer.ensures.layout part drawn) (kept.sums part drawn sums);
      sound = search rules;
      there = still_there c.args.want old new c.in_ok-sums.ensures.kept.creates kept.there;
      creates = search rules;
      files = search rules;
      later = search rules;
    }

pub returns-then-round-clause-carries : goal.returns-then-round-clause-carries
returns-then-round-clause-carries g c part drawn sums whole rest start left =
    let round = c.args.round.now in
    let last : c.layers.n ≡ round.least = search rules in
    let fewer : round.least < round.count = search rules in
    let over : part (round.first + c.layers.n) ≡ Err c.budget_of.result =
    ap (λ k. part (round.first + k)) last ∙ c.budget_of.ensures part drawn
    in
    as_left (over_next c.args.want c.args.rates.now part (round.first + c.layers.n)
    (round.count - c.layers.n) c.budget_of.result rest (omega arith) over)
    (c.layers.invariant.carries part drawn sums whole rest start left)
