-- The first comparison that tells the passages apart decides which comes first.
use Rattle.std.proofs.Common.{Bool, refl, sym, ap, ◌∙◌}
use Rattle.std.specs.Prelude.{nat_lt, ◌*ℤ◌}
use Rattle.std.specs.Ordering.{is_lt}
use Rattle.slice_slab.specs.declared.passage.Passage.{Passage}
use Rattle.slice_slab.specs.Passages.{is_left, leans_left, first_by}
use Rattle.slice_slab.proofs.Ranking.{decided, tied, is_lt-nat_cmp}
use Rattle.slice_slab.proofs.order.compare.Goals as goal

abbrev by_number : Passage → Passage → Bool
by_number p q = nat_lt p.number q.number

pub returns-in_default : goal.returns-in_default
returns-in_default c =
    let p = c.args.p.now in
    let q = c.args.q.now in
    ap is_lt c.by_x.ensures
    ∙ decided p q is_left (first_by leans_left by_number) (p.x *ℤ q.rise) (q.x *ℤ p.rise) refl refl
    (λ same. c.in_default.not-Equal (c.by_x.ensures ∙ same))

pub returns-in_default-by_slope : goal.returns-in_default-by_slope
returns-in_default-by_slope c =
    let p = c.args.p.now in
    let q = c.args.q.now in
    ap is_lt c.by_slope.ensures
    ∙ decided p q leans_left by_number (p.run *ℤ q.rise) (q.run *ℤ p.rise) refl refl
    (λ same. c.in_default-by_slope.not-Equal (c.by_slope.ensures ∙ same))
    ∙ tied p q is_left (first_by leans_left by_number) (p.x *ℤ q.rise) (q.x *ℤ p.rise) refl refl
    (sym c.by_x.ensures ∙ c.in-Equal.is)

pub returns-in-Equal-by_slope : goal.returns-in-Equal-by_slope
returns-in-Equal-by_slope c =
    let p = c.args.p.now in
    let q = c.args.q.now in
    ap is_lt c.cmp.ensures ∙ is_lt-nat_cmp p.number q.number
    ∙ tied p q leans_left by_number (p.run *ℤ q.rise) (q.run *ℤ p.rise) refl refl
    (sym c.by_slope.ensures ∙ c.in-Equal-by_slope.is)
    ∙ tied p q is_left (first_by leans_left by_number) (p.x *ℤ q.rise) (q.x *ℤ p.rise) refl refl
    (sym c.by_x.ensures ∙ c.in-Equal.is)
