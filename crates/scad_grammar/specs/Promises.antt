-- What the grammar and the reader of tokens keep.
use Rattle.std.specs.Prelude.{◌≡◌, ◌↔◌, ℕ, List, [], Some, Result, Ok}
use Rattle.scad_fault.specs.declared.place.Place.{Place}
use Rattle.scad_lex.specs.declared.token.Token.{Token}
use Rattle.scad_lex.specs.Spelling.{HaveSpellings}
use Rattle.scad_lex.specs.Tokens.{tokens}
use Rattle.scad_ast.specs.Tree.{Items}
use Rattle.scad_ast.specs.Text.{items_text}
use Rattle.scad_grammar.specs.Statements.{Derives, Begins}
use Rattle.scad_grammar.specs.Plain
use Rattle.scad_grammar.specs.PrintedItems.{items_onto, unplaced_items}
use Rattle.scad_grammar.specs.Nesting.{Opens}
use Rattle.scad_grammar.specs.State.{State, open_count}
use Rattle.scad_grammar.specs.StatementRules.{descent}
use Rattle.scad_grammar.specs.Machine.{start, reach, run, outcome_of, Refusal}
use Rattle.scad_grammar.specs.Verdict.{Judged, NothingIsRefused}

-- no tokens derive two programs
abbrev pub OneProgram : Type 0
OneProgram = (ts : List Token) (p q : Items) → Derives ts p → Derives ts q → p ≡ q

-- the reader accepts the tokens that derive a program, with that program, and no others
abbrev pub ReadsWhatIsDerived : Type 0
ReadsWhatIsDerived = (ts : List Token) (p : Items) → (run start ts ≡ Some p) ↔ Derives ts p

-- the reader stands behind the tokens with which some program begins, and behind no others
abbrev pub StandsWhereAProgramBegins : Type 0
StandsWhereAProgramBegins = (ts : List Token) → Begins ts ↔ ((s : State) × (reach start ts ≡ Some s))

-- how many constructs the reader counts behind tokens is how many stand open there
abbrev pub CountsWhatIsOpen : Type 0
CountsWhatIsOpen = (ts : List Token) (s : State) → reach start ts ≡ Some s → Opens ts (open_count s)

-- what tokens are is judged by the grammar: there is one answer, and the reader gives it
abbrev pub JudgesAsTheGrammar : Type 0
JudgesAsTheGrammar = (ts : List Token) (end : Place) (answer : Result Items Refusal) →
    Judged [] ts end answer ↔ (outcome_of ts end ≡ answer)

-- a descent that reads by the rules gives what the reader of tokens gives
abbrev pub DescentIsTheReader : Type 0
DescentIsTheReader = (ts : List Token) (end : Place) → descent ts end ≡ outcome_of ts end

-- tokens are a program exactly where nothing is refused and the grammar as it stands on paper derives it
abbrev pub AcceptsWhatIsDerived : Type 0
AcceptsWhatIsDerived = (ts : List Token) (end : Place) (p : Items) →
    Judged [] ts end (Ok p) ↔ (NothingIsRefused ts × Plain.Derives ts p)

-- that each part is as long as it can be excludes no program: the grammar as it stands on paper derives the same ones
abbrev pub EndsExcludeNothing : Type 0
EndsExcludeNothing = (ts : List Token) (p : Items) → Plain.Derives ts p ↔ Derives ts p

-- the tokens of a program's printed text derive the program again, its places aside
abbrev pub PrintedTokensDerive : Type 0
PrintedTokensDerive = (ts : List Token) (p : Items) → Derives ts p → Derives (items_onto p []) (unplaced_items p)

-- the text of the printed program is cut into tokens that derive it again, its places aside
abbrev pub IsReadBack : Items → Type 0
IsReadBack p =
    (us : List Token) × (end : Place) × (q : Items)
    × (tokens (items_text p) ≡ Ok (us, end)) × Derives us q × (unplaced_items q ≡ unplaced_items p)

-- each program that tokens derive is read back, where a text can have these tokens
abbrev pub PrintedTextDerives : Type 0
PrintedTextDerives = (ts : List Token) (p : Items) → HaveSpellings ts → Derives ts p → IsReadBack p

-- so each program that a text has is read back
abbrev pub PrintedSourceDerives : Type 0
PrintedSourceDerives = (bytes : List ℕ) (ts : List Token) (end : Place) (p : Items) →
    tokens bytes ≡ Ok (ts, end) → Derives ts p → IsReadBack p
