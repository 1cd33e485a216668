-- What the answers of the descent say: what a rule of the grammar gives from where the reader stands.
use Rattle.std.specs.Prelude.{◌≡◌, ◌≢◌, ℕ, zero, suc, Bool, true, false, List, [], ◌∷◌, Option, Some, None, Result, Ok}
use Rattle.std.specs.Prelude.{Err}
use Rattle.std.specs.Prelude.{if◌then◌else◌, codes, not, is_some}
use Rattle.scad_fault.specs.declared.place.Place.{Place}
use Rattle.scad_lex.specs.declared.token.Token.{Token}
use Rattle.scad_parse.specs.declared.fault.Fault.{Fault}
use Rattle.scad_parse.specs.declared.fault.Fault.TheVariants.{Memory, Syntax, Nesting, LeftOut}
use Rattle.scad_parse.specs.declared.fault.Form.{Form}
use Rattle.scad_parse.specs.declared.fault.Form.TheVariants.{Function, Power, Include, Use, Root}
use Rattle.scad_parse.specs.declared.reader.Reader.{Reader}
use Rattle.scad_parse.specs.declared.reader.Open.{Open}
use Rattle.scad_grammar.specs.Machine.{Refusal, syntax_at, nesting_at, left_out_at}
use Rattle.scad_grammar.specs.Tokens.{word_of, operator}
use Rattle.scad_grammar.specs.Steps.{literal}
use Rattle.scad_grammar.specs.Rules.{Read}
use Rattle.scad_ast.specs.Tree.{Expression}
use Rattle.scad_ast.specs.declared.operator.BinOp.{BinOp}
use Rattle.scad_parse.specs.Reading.{behind, no_value}

-- where a reader stands: what is left of the tokens, or the first fault
abbrev pub Standing : Type 0
Standing = Result (List Token) Fault

abbrev pub standing_of : List Token → Option Fault → Standing
standing_of ts None = Ok ts
standing_of ts (Some fault) = Err fault

abbrev pub standing : Reader → Standing
standing r = standing_of r.left.now r.fault

abbrev pub form_name : Form → List ℕ
form_name Function = codes "function"
form_name Power = codes "^"
form_name Include = codes "include"
form_name Use = codes "use"
form_name Root = codes "!"

-- the refusal that a fault is; no rule is answered by want of memory
abbrev pub refused : Fault → Refusal
refused Memory = syntax_at (record { line = 0; col = 0 })
refused (Syntax at) = syntax_at at
refused (Nesting at) = nesting_at at
refused (LeftOut at form) = left_out_at at (form_name form)

-- a rule gives this: its tree, behind which the reader stands, or its first fault. Of want of memory nothing is said
abbrev pub Given : {B : Type 0} → Read B → Standing → B → Type 0
Given found (Ok us) b = found ≡ Ok (b, us)
Given found (Err fault) b = fault ≢ Memory → found ≡ Err (refused fault)

-- what a rule does with a reader: a fault stays, and else the rule gives what comes
abbrev pub Turn : {B : Type 0} → (List Token → Read B) → Standing → Standing → B → Type 0
Turn rule (Ok ts) now b = Given (rule ts) now b
Turn rule (Err fault) now b = now ≡ Err fault

-- a rule, which may name the end of the text, reads from the one to the other and gives this tree
pub record Reads {B : Type 0} (rule : Place → List Token → Read B) (old new : Reader) (b : B) : Type 0 where
  pub ends : new.end ≡ old.end
  pub turn : Turn (rule old.end) (standing old) (standing new) b

-- nothing is read
abbrev pub nothing_read : {B : Type 0} → B → Place → List Token → Read B
nothing_read b end ts = Ok (b, ts)

abbrev pub failed : Fault → Standing → Standing
failed fault (Ok ts) = Err fault
failed fault (Err first) = Err first

abbrev pub front_of : Standing → Option Token
front_of (Ok []) = None
front_of (Ok (t ∷ ts)) = Some t
front_of (Err fault) = None

abbrev pub passed : Standing → Standing
passed (Ok ts) = Ok (behind ts)
passed (Err fault) = Err fault

abbrev pub stands_at : (Token → Bool) → Standing → Bool
stands_at test (Ok []) = false
stands_at test (Ok (t ∷ ts)) = test t
stands_at test (Err fault) = false

-- something is to be read that fails a test
abbrev pub lacks : (Token → Bool) → Standing → Bool
lacks test (Ok []) = true
lacks test (Ok (t ∷ ts)) = not (test t)
lacks test (Err fault) = false

abbrev pub more_to_come : Standing → Bool
more_to_come (Ok []) = false
more_to_come (Ok (t ∷ ts)) = true
more_to_come (Err fault) = false

-- where a construct opens at a place
abbrev pub within : ℕ → Place → Standing → Standing
within zero at (Ok ts) = Err (Nesting at)
within (suc room) at (Ok ts) = Ok ts
within room at (Err fault) = Err fault

abbrev pub room_in : ℕ → Option ℕ
room_in zero = None
room_in (suc room) = Some room

-- where the token at the front opens a construct
abbrev pub opened : ℕ → Standing → Standing
opened room (Err fault) = Err fault
opened room (Ok []) = Ok []
opened zero (Ok (t ∷ ts)) = Err (Nesting t.at)
opened (suc room) (Ok (t ∷ ts)) = Ok ts

abbrev pub open_at : ℕ → Standing → Option Open
open_at room (Err fault) = None
open_at room (Ok []) = None
open_at zero (Ok (t ∷ ts)) = None
open_at (suc room) (Ok (t ∷ ts)) = Some (record { at = t.at; room = room })

abbrev pub operator_at : ℕ → Standing → Option BinOp
operator_at line (Ok []) = None
operator_at line (Ok (t ∷ ts)) = operator line t
operator_at line (Err fault) = None

-- a token that is to come, and stays
abbrev pub needed : (Token → Bool) → Place → List Token → Read (Unit {0})
needed test end [] = Err (syntax_at end)
needed test end (t ∷ ts) = if test t then Ok (no_value, t ∷ ts) else Err (syntax_at t.at)

-- the construct that a token of this kind opens, where it comes and there is room
pub record Opens (test : Token → Bool) (room : ℕ) (old new : Reader) (found : Option Open) : Type 0 where
  pub ends : new.end ≡ old.end
  pub now : standing new ≡ (if stands_at test (standing old) then opened room (standing old) else standing old)
  pub is : found ≡ (if stands_at test (standing old) then open_at room (standing old) else None)

-- the room inside of a construct that begins at a place
pub record Within (room : ℕ) (at : Place) (old new : Reader) (inner : Option ℕ) : Type 0 where
  pub ends : new.end ≡ old.end
  pub now : standing new ≡ within room at (standing old)
  pub is : inner ≡ room_in room

-- what was asked for was found, or there is no memory
pub record Kept {T : Type 0} (found : Option T) (old new : Reader) : Type 0 where
  pub ends : new.end ≡ old.end
  pub now : standing new ≡ (if is_some found then standing old else failed Memory (standing old))

-- whether a token comes, which then is read
abbrev pub took : (Token → Bool) → List Token → Read Bool
took test [] = Ok (false, [])
took test (t ∷ ts) = if test t then Ok (true, ts) else Ok (false, t ∷ ts)

-- a token of a form that is left out is refused
abbrev pub left_out : (Token → Bool) → Form → List Token → Read (Unit {0})
left_out test form [] = Ok (no_value, [])
left_out test form (t ∷ ts) = if test t then Err (left_out_at t.at (form_name form)) else Ok (no_value, t ∷ ts)

-- where a token stands that comes, which then is read
abbrev pub took_at : (Token → Bool) → List Token → Read (Option Place)
took_at test [] = Ok (None, [])
took_at test (t ∷ ts) = if test t then Ok (Some t.at, ts) else Ok (None, t ∷ ts)

-- a word, which is to come
abbrev pub word_by : Token → List Token → Option (List ℕ) → Read (Place × List ℕ)
word_by t ts (Some w) = Ok ((t.at, w), ts)
word_by t ts None = Err (syntax_at t.at)

abbrev pub word_here : Place → List Token → Read (Place × List ℕ)
word_here end [] = Err (syntax_at end)
word_here end (t ∷ ts) = word_by t ts (word_of t)

-- a literal, where one comes
abbrev pub literal_by : Token → List Token → Option Expression → Read (Option Expression)
literal_by t ts (Some e) = Ok (Some e, ts)
literal_by t ts None = Ok (None, t ∷ ts)

abbrev pub literal_here : List Token → Read (Option Expression)
literal_here [] = Ok (None, [])
literal_here (t ∷ ts) = literal_by t ts (literal t)
