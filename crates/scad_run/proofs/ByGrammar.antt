-- The program of a source is the one that the grammar derives.
use Rattle.std.proofs.Common.{refl, sym, ap}
use Rattle.scad_grammar.specs.Machine.{outcome_of}
use Rattle.scad_grammar.specs.Promises.{JudgesAsTheGrammar}
use Rattle.scad_run.specs.Meaning.{tokens_mean, source_means}
use Rattle.scad_run.specs.ByGrammar.{SourcesGoByGrammar}

pub sources_go_by_grammar : JudgesAsTheGrammar → SourcesGoByGrammar
unfolding source_means
sources_go_by_grammar law source ts end cut = record {
  answer = outcome_of ts end;
  judged = (law ts end (outcome_of ts end)).1 refl;
  one = λ other judged. sym ((law ts end other).0 judged);
  means = ap tokens_mean cut;
}
