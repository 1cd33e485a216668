use Rattle.verdict_laws.proofs.Outside as lemma
use Rattle.verdict_laws.proofs.laws.supports_go_outside.Goals as goal

pub returns : goal.returns
returns c =
    lemma.supports_go_outside
    (record {
      apart = c.supports_stand_apart.ensures.apart;
      lengths = c.supports_stand_apart.ensures.lengths;
      within = c.supports_stand_apart.ensures.within;
    })
    c.plans_keep_clear.ensures c.plans_are_printable.ensures c.texts_say_one_list.ensures
