-- Where as many come as go the strands behind keep their keys.
use Rattle.std.proofs.Common.{ℕ, length, sym, subst}
use Rattle.slice_sweep.specs.Lows.{KeysStay}
use Rattle.slice_sweep.proofs.lows.forget.Goals as goal

pub returns-then-end-to : goal.returns-then-end-to
returns-then-end-to c old new h before same =
    c.forget_within.ensures old new h
    (subst (λ (i : ℕ). KeysStay i c.args.to old new) (sym c.saturating_sub-first.ensures) (same c.if-end-to.true))

pub returns-else-end-to : goal.returns-else-end-to
returns-else-end-to c old new h before same =
    c.forget_from.ensures old new h
    (subst (λ (i : ℕ). KeysStay i (length new) old new) (sym c.saturating_sub-first.ensures) before)
