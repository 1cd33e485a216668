use Rattle.std.proofs.Common.{◌≡◌, List, [], ◌∷◌, length, refl, ap, sym, subst, ◌∙◌, arith}
use Rattle.scad_geom.specs.declared.point.Pt.{Pt}
use Rattle.scad_geom.specs.declared.point.Edge.{Edge}
use Rattle.cli_read.specs.Reading.{paired_at}
use Rattle.cli_read.proofs.Fronts.{behind_hatches, hatches_go_on, hatches_odd, hatches_end}
use Rattle.cli_read.proofs.hatch_line.paired_at.Goals as goal

none_left : (ps : List Pt) → length ps ≡ 0 → ps ≡ []
none_left [] none = refl
none_left (p ∷ ps) none = absurd (omega (arith, none))

pub returns-in_default-split_first : goal.returns-in_default-split_first
returns-in_default-split_first c = λ some. hatches_odd c.args.n c.pairs.hatches.items c.in-Some.a.now c.pairs.rest.now _
    (c.in-Some.ensures.cases.0 ∙ ap (λ (ps : List Pt). c.in-Some.a.now ∷ ps)
    (none_left c.in-Some.behind.now c.in_default-split_first.ensures.cases)) c.pairs.invariant

pub pairs-preserved : goal.pairs-preserved
pairs-preserved c =
    subst (λ (front : List Edge). behind_hatches front (paired_at c.args.n c.in-Some-split_first.behind.now)
    ≡ paired_at c.args.n c.args.points.now)
    (sym c.in_ok-push.ensures.items)
    (hatches_go_on c.args.n c.pairs.hatches.items c.in-Some.a.now c.in-Some-split_first.b.now c.pairs.rest.now
    c.in-Some-split_first.behind.now _
    (c.in-Some.ensures.cases.0 ∙ ap (λ (ps : List Pt). c.in-Some.a.now ∷ ps) c.in-Some-split_first.ensures.cases.0)
    c.pairs.invariant)

pub returns : goal.returns
returns c = hatches_end c.args.n c.pairs.hatches.items c.pairs.rest.now _
    (none_left c.pairs.rest.now c.in_default.ensures.cases) c.pairs.invariant
