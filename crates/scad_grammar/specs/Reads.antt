-- What a rule of the descent gives.
use Rattle.std.specs.Prelude.{List, [], ◌∷◌, Result, Ok, Err, if◌then◌else◌}
use Rattle.scad_fault.specs.declared.place.Place.{Place}
use Rattle.scad_lex.specs.declared.token.Token.{Token}
use Rattle.scad_lex.specs.declared.token.Sign.{Sign as SignName}
use Rattle.scad_grammar.specs.Tokens.{is_sign}
use Rattle.scad_grammar.specs.Machine.{Refusal, syntax_at}

-- what a rule gives: its value and the tokens behind it, or the first fault
abbrev pub Read : Type 0 → Type 0
Read A = Result (A × List Token) Refusal

-- one rule and another behind it
abbrev pub then_read : {A B : Type 0} → Read A → (A → List Token → Read B) → Read B
then_read (Ok r) f = f r.0 r.1
then_read (Err fault) f = Err fault

-- behind this sign, which alone may stand here
abbrev pub behind_sign : {A : Type 0} → Place → SignName → List Token → (List Token → Read A) → Read A
behind_sign end s [] f = Err (syntax_at end)
behind_sign end s (t ∷ ts) f = if is_sign s t then f ts else Err (syntax_at t.at)
