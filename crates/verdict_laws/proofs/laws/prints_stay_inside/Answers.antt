use Rattle.verdict_laws.proofs.OwnOutlines as lemma
use Rattle.verdict_laws.proofs.laws.prints_stay_inside.Goals as goal

pub returns : goal.returns
returns c =
    lemma.prints_stay_inside
    (record {
      apart = c.supports_stand_apart.ensures.apart;
      lengths = c.supports_stand_apart.ensures.lengths;
      within = c.supports_stand_apart.ensures.within;
    })
    c.plans_keep_clear.ensures c.plans_are_printable.ensures c.texts_say_one_list.ensures
