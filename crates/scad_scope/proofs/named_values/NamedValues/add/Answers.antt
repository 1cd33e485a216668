use Rattle.std.proofs.Common.{sym, ap, ◌∙◌, ◌++◌, map, option_map}
use Rattle.scad_value.specs.View.{datum_of}
use Rattle.scad_scope.specs.Names.{with_name}
use Rattle.scad_scope.specs.FrameNames.{named, few_in, or_none, named_in}
use Rattle.scad_scope.proofs.Few.{set-unplaced}
use Rattle.scad_scope.proofs.named_values.NamedValues.add.Goals as goal

pub returns-in-Some-clause-named : goal.returns-in-Some-clause-named
unfolding named_in
returns-in-Some-clause-named c =
    ap (λ ns. few_in c.args.self.now ++ ns) (c.in_ok-set.ensures.named
    ∙ ap (λ m. with_name c.args.name.now (datum_of c.args.value) (map named m)) c.deref_mut.ensures.value)
    ∙ set-unplaced c.args.name.now (datum_of c.args.value) (few_in c.args.self.now)
    (map named c.in-Some.held.value) c.requires
    ∙ ap (λ m. with_name c.args.name.now (datum_of c.args.value) (few_in c.args.self.now
    ++ or_none (option_map (λ b. map named b.value) m))) (sym c.in-Some.is)
