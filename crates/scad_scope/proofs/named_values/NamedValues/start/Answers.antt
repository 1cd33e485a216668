use Rattle.std.proofs.Common.{sym, ap, ◌∙◌, [], ◌++◌, map}
use Rattle.scad_value.specs.View.{datum_of}
use Rattle.scad_scope.specs.Names.{with_name}
use Rattle.scad_scope.specs.FrameNames.{named, few_in, named_in}
use Rattle.scad_scope.proofs.Few.{set-unplaced}
use Rattle.scad_scope.proofs.named_values.NamedValues.start.Goals as goal

pub returns-clause-named : goal.returns-clause-named
unfolding named_in
returns-clause-named c =
    ap (λ m. few_in c.args.self.now ++ map named m) c.in_ok-new.ensures.ok
    ∙ ap (λ ns. few_in c.args.self.now ++ ns) (c.in_ok-set.ensures.named
    ∙ ap (λ es. with_name c.args.name.now (datum_of c.args.value) (map named es)) c.new-held.ensures)
    ∙ set-unplaced c.args.name.now (datum_of c.args.value) (few_in c.args.self.now) [] c.requires.absent
    ∙ ap (λ ns. with_name c.args.name.now (datum_of c.args.value) (few_in c.args.self.now ++ ns))
    (sym c.requires.last)
