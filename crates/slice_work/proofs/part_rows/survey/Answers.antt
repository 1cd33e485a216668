use Rattle.std.proofs.Common.{◌≡◌, ◌≤◌, ◌+◌, ℕ, Err, sym, ap, ap₂, ◌∙◌, subst, rules}
use Rattle.slice_work.specs.declared.survey_fault.SurveyFault.TheVariants.{Over}
use Rattle.slice_work.specs.Survey.{AreSurveyed}
use Rattle.slice_work.proofs.LayerRows.{least_of_more}
use Rattle.slice_work.proofs.part_rows.survey.Goals as goal

pub returns-in_err-push_round-clause-over : goal.returns-in_err-push_round-clause-over
returns-in_err-push_round-clause-over g c budget over part draws =
    let round = c.in_ok-round.round in
    let is = c.in_ok-round.ensures.round in
    let within : round.first + round.count ≤ c.args.count = search rules in
    let same : c.from_residual-in_err-push_round.result ≡ Err c.in_err-push_round.field-0.0 = search rules in
    let answer = sym same ∙ over in
    let fault : c.in_err-push_round.field-0.0 ≡ Over budget = cc in
    let all = subst (λ (k : ℕ). AreSurveyed part c.args.spacing k c.rounds.all.items) (sym is.start)
    (c.rounds.invariant.rows part draws) in
    least_of_more part (round.first + round.count) c.args.count budget within
    (c.in_err-push_round.ensures.over budget (ap Err fault) part (c.in_ok-round.ensures.drawn part draws) all)

pub rounds-preserved : goal.rounds-preserved
rounds-preserved g c =
    let round = c.in_ok-round.round in
    let is = c.in_ok-round.ensures.round in
    let ends : round.first + round.count ≡ c.rounds.first + c.min-size.result =
    ap₂ (λ a b. a + b) is.start is.size in
    record {
      within = search rules;
      rows = λ part draws.
          let all = subst (λ (k : ℕ). AreSurveyed part c.args.spacing k c.rounds.all.items) (sym is.start)
          (c.rounds.invariant.rows part draws) in
          subst (λ (k : ℕ). AreSurveyed part c.args.spacing k c.push_round.new.all.items) ends
          (c.in_ok-push_round.ensures.rows part (c.in_ok-round.ensures.drawn part draws) all);
      each = c.in_ok-push_round.ensures.each;
    }
