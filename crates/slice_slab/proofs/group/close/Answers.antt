-- What was taken out is put at the end.
use Rattle.std.proofs.Common.{◌∷◌, [], ◌++◌, List, ℕ, ap, ◌∙◌}
use Rattle.slice_slab.proofs.group.close.Goals as goal

pub returns-clause-out : goal.returns-clause-out
returns-clause-out c =
    c.in_ok-push.ensures.items ∙ ap (λ (b : List ℕ). c.args.out.now.items ++ (b ∷ [])) c.taken.ensures.bundle

pub returns-clause-current : goal.returns-clause-current
returns-clause-current c = c.taken.ensures.current
