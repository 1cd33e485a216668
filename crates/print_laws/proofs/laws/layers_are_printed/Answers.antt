use Rattle.print_laws.proofs.Prints.{layers_are_printed}
use Rattle.print_laws.proofs.laws.layers_are_printed.Goals as goal

pub returns : goal.returns
returns c =
    layers_are_printed
    (record {
      apart = c.supports_stand_apart.ensures.apart;
      lengths = c.supports_stand_apart.ensures.lengths;
      within = c.supports_stand_apart.ensures.within;
    })
    c.plans_keep_clear.ensures c.plans_are_printed.ensures c.written_texts_say_their_layers.ensures
