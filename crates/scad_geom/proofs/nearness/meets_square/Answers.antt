-- The tests of the calls are those of the clause, and the sizes of what is handed on.
use Rattle.std.proofs.Common.{◌∙◌, ap, ap₂, sym, Bool, ◌&&◌, ℤ, neg_ℤ, ◌+ℤ◌, ◌-ℤ◌, ◌*ℤ◌, arith}
use Rattle.std.specs.Prelude.{int_le}
use Rattle.std.proofs.lemmas.Int.{to_z-of_z}
use Rattle.scad_geom.proofs.Casts.{sizes, by_cast}
use Rattle.scad_geom.proofs.nearness.meets_square.Goals as goal
use mir.Syntax.{w64}

-- the tests and sizes of the clause
abbrev overlaps : ℤ → ℤ → ℤ → Bool
overlaps from to w = int_le from w && int_le (neg_ℤ w) to

abbrev is_within : ℤ → ℤ → Bool
is_within z most = int_le z most && int_le (neg_ℤ z) most

abbrev side : ℤ → ℤ → ℤ → ℤ → ℤ
side left right below above = right *ℤ below -ℤ left *ℤ above

abbrev reach : ℤ → ℤ → ℤ → ℤ → ℤ → ℤ
reach left right below above w = w *ℤ (right -ℤ left) +ℤ w *ℤ (above -ℤ below)

pub overlaps-is_across-requires : goal.overlaps-is_across-requires
overlaps-is_across-requires c = omega (arith, sizes)

pub overlaps-is_along-requires : goal.overlaps-is_along-requires
overlaps-is_along-requires c = omega (arith, sizes)

pub cross-requires-clause-left : goal.cross-requires-clause-left
cross-requires-clause-left c = omega (arith, sizes)

pub cross-requires-clause-right : goal.cross-requires-clause-right
cross-requires-clause-right c = omega (arith, sizes)

pub cross-requires-clause-below : goal.cross-requires-clause-below
cross-requires-clause-below c = omega (arith, sizes)

pub cross-requires-clause-above : goal.cross-requires-clause-above
cross-requires-clause-above c = omega (arith, sizes)

pub reach-requires-clause-left : goal.reach-requires-clause-left
reach-requires-clause-left c = omega (arith, sizes)

pub reach-requires-clause-right : goal.reach-requires-clause-right
reach-requires-clause-right c = omega (arith, sizes)

pub reach-requires-clause-below : goal.reach-requires-clause-below
reach-requires-clause-below c = omega (arith, sizes)

pub reach-requires-clause-above : goal.reach-requires-clause-above
reach-requires-clause-above c = omega (arith, sizes)

pub reach-requires-clause-width : goal.reach-requires-clause-width
reach-requires-clause-width c = omega (arith, sizes)

pub is_within-is_on_line-requires : goal.is_within-is_on_line-requires
is_within-is_on_line-requires c = omega (arith, sizes)

pub returns-then-is_along : goal.returns-then-is_along
returns-then-is_along c =
    let w = c.args.w in
    let across = c.args.across in
    let along = c.args.along in
    let w_kept = to_z-of_z w64 w c.ranges.w in
    let is_across = ap (overlaps across.from across.to) (sym w_kept) ∙ sym c.overlaps-is_across.ensures
    ∙ c.if-is_across.true in
    let is_along = ap (overlaps along.from along.to) (sym w_kept) ∙ sym c.overlaps-is_along.ensures
    ∙ c.if-is_along.true in
    c.is_within-is_on_line.ensures
    ∙ ap₂ is_within (by_cast w64 c.cross.type_inv c.cross.ensures.value)
    (by_cast w64 c.reach.type_inv c.reach.ensures
    ∙ ap (reach across.from across.to along.from along.to) w_kept)
    ∙ sym (ap₂ (λ first second. first && (second && is_within (side across.from across.to along.from along.to)
    (reach across.from across.to along.from along.to w))) is_across is_along)

pub returns-else-is_along : goal.returns-else-is_along
returns-else-is_along c =
    let w = c.args.w in
    let across = c.args.across in
    let along = c.args.along in
    let w_kept = to_z-of_z w64 w c.ranges.w in
    let is_across = ap (overlaps across.from across.to) (sym w_kept) ∙ sym c.overlaps-is_across.ensures
    ∙ c.if-is_across.true in
    let is_along = ap (overlaps along.from along.to) (sym w_kept) ∙ sym c.overlaps-is_along.ensures
    ∙ c.if-is_along.false in
    c.if-is_along.false
    ∙ sym (ap₂ (λ first second. first && (second && is_within (side across.from across.to along.from along.to)
    (reach across.from across.to along.from along.to w))) is_across is_along)
