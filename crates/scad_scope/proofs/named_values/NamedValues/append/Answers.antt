use Rattle.std.proofs.Common.{ap, ap₂, ◌∙◌, [], ◌∷◌, ◌++◌, map}
use Rattle.scad_scope.specs.FrameNames.{named, more_in, named_in}
use Rattle.scad_scope.proofs.Few.{few-push}
use Rattle.scad_scope.proofs.named_values.NamedValues.append.Goals as goal

pub returns-clause-named : goal.returns-clause-named
unfolding named_in
returns-clause-named c =
    ap (λ l. map named l ++ more_in c.args.self.now)
    (c.push_reserved.ensures.items
    ∙ ap₂ (λ l w. l ++ (w, c.args.value) ∷ []) c.make_room.ensures.items c.in_ok-word.ensures)
    ∙ few-push c.args.name.now c.args.value c.args.self.now.few.items (more_in c.args.self.now) c.requires.absent
    c.requires.last
