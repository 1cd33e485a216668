use Rattle.std.proofs.Common.{ap, refl, ◌∙◌, map, arith}
use Rattle.scad_value.specs.View.{datum_of}
use Rattle.scad_scope.specs.Names.{place_in}
use Rattle.scad_scope.specs.FrameNames.{named, more_in, named_in}
use Rattle.scad_scope.proofs.Few.{few-set}
use Rattle.scad_scope.proofs.named_values.NamedValues.set.Goals as goal

pub returns-then-place-len-clause-named : goal.returns-then-place-len-clause-named
unfolding named_in
returns-then-place-len-clause-named c =
    few-set named c.args.name.now (datum_of c.args.value) c.args.self.now.few.items (more_in c.args.self.now)
    c.place_of-place.result c.index_mut.result.now (c.index_mut.result.now.0, c.args.value) refl
    (c.place_of-place.ensures
    ∙ ap (λ l. place_in c.args.name.now (map named l)) c.as_slice.ensures.value)
    (omega arith) c.index_mut.ensures.value
