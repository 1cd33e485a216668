use Rattle.std.proofs.Common.{ap, sym, subst, ◌∙◌, ◌≡◌, List, ◌∷◌}
use Rattle.std.proofs.lemmas.Result.{err_from_is_err_and}
use Rattle.scad_geom.specs.declared.point.Pt.{Pt}
use Rattle.cli_read.specs.Reading.{words_behind, points_at}
use Rattle.cli_read.proofs.Fronts.{with_front, points_go_on, points_stop, points_odd, points_end}
use Rattle.cli_read.proofs.points.points_at.Goals as goal

pub returns-in_default-next_word : goal.returns-in_default-next_word
returns-in_default-next_word c = λ some. points_odd c.args.n c.points.points.items c.in-Some.x.now
    (words_behind c.points.rest.now) _
    (c.in-Some.ensures.words ∙ ap (λ ws. c.in-Some.x.now ∷ ws) c.in_default-next_word.ensures.words) c.points.invariant

pub returns-in_err-point_at : goal.returns-in_err-point_at
returns-in_err-point_at c =
    let p = err_from_is_err_and c.from_residual.result c.from_residual.ensures.1 in
    rw (p.1, p.2) (λ some. points_stop c.args.n c.points.points.items c.in-Some.x.now c.in-Some-next_word.y.now
    (words_behind c.points.rest.now) (words_behind c.in-Some-next_word.behind.now) _ c.in_err-point_at.field-0.0
    (c.in-Some.ensures.words ∙ ap (λ ws. c.in-Some.x.now ∷ ws) c.in-Some-next_word.ensures.words)
    (c.in_err-point_at.ensures some) c.points.invariant)

pub points-preserved : goal.points-preserved
points-preserved c =
    subst (λ (front : List Pt). with_front front (points_at c.args.n (words_behind c.in-Some-next_word.behind.now))
    ≡ points_at c.args.n (words_behind c.args.text.now))
    (sym c.in_ok-push.ensures.items)
    (points_go_on c.args.n c.points.points.items c.in_ok-point_at.field-0 c.in-Some.x.now c.in-Some-next_word.y.now
    (words_behind c.points.rest.now) (words_behind c.in-Some-next_word.behind.now) _
    (c.in-Some.ensures.words ∙ ap (λ ws. c.in-Some.x.now ∷ ws) c.in-Some-next_word.ensures.words)
    c.in_ok-point_at.ensures c.points.invariant)

pub returns : goal.returns
returns c = points_end c.args.n c.points.points.items (words_behind c.points.rest.now) _ c.in_default.ensures.words
    c.points.invariant
