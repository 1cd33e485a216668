use Rattle.std.proofs.Common.{ap, ◌∙◌}
use Rattle.scad_scope.specs.Listing.{place_of}
use Rattle.scad_scope.proofs.Listing.{place-word}
use Rattle.scad_scope.proofs.names.Names.place.Goals as goal

pub returns-in-Some : goal.returns-in-Some
returns-in-Some c =
    c.in-Some.ensures.value ∙ c.self.invariant c.args.name.now
    ∙ place-word c.args.name.now c.self.inside.words.items ∙ ap (place_of c.args.name.now) c.self.view_is

pub returns-in-None : goal.returns-in-None
returns-in-None c =
    c.in-None.ensures.value ∙ c.self.invariant c.args.name.now
    ∙ place-word c.args.name.now c.self.inside.words.items ∙ ap (place_of c.args.name.now) c.self.view_is
