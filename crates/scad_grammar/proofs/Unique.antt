-- The laws.
use Rattle.std.proofs.Common.{[], sym, ◌∙◌, refl, subst}
use Rattle.scad_lex.proofs.HaveSpellings.{tokens_have_spellings}
use Rattle.scad_grammar.specs.Machine.{start, reach}
use Rattle.scad_grammar.specs.Verdict.{Judged}
use Rattle.scad_grammar.specs.PrintedItems.{items_onto}
use Rattle.scad_grammar.specs.Promises.{OneProgram, ReadsWhatIsDerived, StandsWhereAProgramBegins, JudgesAsTheGrammar}
use Rattle.scad_grammar.specs.Promises.{EndsExcludeNothing, PrintedTokensDerive, PrintedTextDerives}
use Rattle.scad_grammar.specs.Promises.{PrintedSourceDerives}
use Rattle.scad_grammar.proofs.reader.Statements.{runs_program}
use Rattle.scad_grammar.proofs.reader.Sound.{sound_program}
use Rattle.scad_grammar.proofs.reader.Prefix.{reached_begins, begins_reached}
use Rattle.scad_grammar.proofs.grammar.Loose.{loose_program}
use Rattle.scad_grammar.proofs.grammar.Tight.{tight_program}
use Rattle.scad_grammar.proofs.printing.PrintingItems.{printed_program}
use Rattle.scad_grammar.proofs.printing.PrintableItems.{printable_program}
use Rattle.scad_grammar.proofs.faults.Faults.{standing, only_answer}
use Rattle.scad_grammar.proofs.printing.Alike.{alike_of_kinds}
use Rattle.scad_grammar.proofs.printing.AlikeItems.{derives_alike}
use Rattle.scad_grammar.proofs.printing.Reread.{printed_text_read}
use Rattle.scad_grammar.proofs.printing.PlaceLoss.{unplaced_twice}
use Rattle.std.proofs.lemmas.Option.{same_Some}

pub one_program : OneProgram
one_program ts p q d e = same_Some p q (sym (runs_program d) ∙ runs_program e)

pub reads_what_is_derived : ReadsWhatIsDerived
reads_what_is_derived ts p = (sound_program ts p, runs_program)

pub stands_where_a_program_begins : StandsWhereAProgramBegins
stands_where_a_program_begins ts = (begins_reached ts, λ r. reached_begins ts r.0 r.1)

pub judges_as_the_grammar : JudgesAsTheGrammar
unfolding reach
judges_as_the_grammar ts end answer =
    (λ j. only_answer j start refl, λ e. subst (Judged [] ts end) e (standing ts [] start end refl))

pub ends_exclude_nothing : EndsExcludeNothing
ends_exclude_nothing ts p = (tight_program, loose_program)

pub printed_tokens_derive : PrintedTokensDerive
printed_tokens_derive ts p d = tight_program (printed_program p (printable_program (loose_program d)))

pub printed_text_derives : PrintedTextDerives
printed_text_derives ts p h d =
    let r = printed_text_read (loose_program d) h in
    let again = derives_alike (alike_of_kinds (items_onto p []) r.us (sym r.kinds))
    (loose_program (printed_tokens_derive ts p d)) in
    (r.us, r.end, again.0, r.read, tight_program again.1, again.2 ∙ unplaced_twice p)

pub printed_source_derives : PrintedSourceDerives
printed_source_derives bytes ts end p t d = printed_text_derives ts p (tokens_have_spellings bytes ts end t) d
