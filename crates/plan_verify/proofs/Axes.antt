-- The machine stays within the limit of coordinates, which is the range of its axes; and it counts its lines.
use Rattle.std.proofs.Common.{◌≡◌, ℕ, ◌≤◌, Bool, true, false, not, ◌&&◌, [], ◌∷◌, List, refl, ap, sym, subst, ◌∙◌, arith}
use Rattle.std.proofs.Common.{ℤ, pos, Option, Some, None, Result, Ok, Err}
use Rattle.std.specs.Prelude.{◌||◌, ◌==◌, nat_le, nat_lt, unsigned_abs, if◌then◌else◌, drop, slice_index, length, IfSome, codes}
use Rattle.std.proofs.lemmas.Bool.Decides.{nat_tests}
use Rattle.scad_base.specs.Results.{and_then}
use Rattle.scad_geom.specs.declared.point.Pt.{Pt}
use Rattle.scad_geom.specs.declared.point3.Pt3.{Pt3}
use Rattle.scad_geom.specs.Limits.{coordinate_limit}
use Rattle.scad_geom.specs.Within.{IsWithin}
use Rattle.gcode_text.specs.declared.fault.GFault.{GFault}
use Rattle.gcode_text.specs.declared.fault.GFault.TheVariants.{UnknownWord, BadNumber}
use Rattle.gcode_text.specs.Limits.{amount_limit}
use Rattle.gcode_text.specs.Reading.{line_words, number}
use Rattle.gcode_text.specs.Machine.{State, After, start, origin, limited, upper_x, upper_y, upper_z, amount_letter, upper_f}
use Rattle.gcode_text.specs.Machine.{with_number, with_value, ranged, with_word, with_words, nothing_given, places, takes}
use Rattle.gcode_text.specs.Machine.{was_given, command_of, command_line, words_line, line_step, obeyed, driven}
use Rattle.gcode_text.specs.Machine.{names_none, or_kept, counting, is_among, plain_commands}
use Rattle.plan_verify.specs.Limits.{IsMoveWithin}

-- a place as it is seen from above, and one within the limit
abbrev pub above : Pt3 → Pt
above p = record { x = p.x; y = p.y }

abbrev pub IsPlaceWithin : Pt3 → Type 0
IsPlaceWithin p = IsWithin coordinate_limit (above p)

-- the machine's commands, and the letters that a line gave: types that its crate doesn't name for others
abbrev InOption : {A : Type 0} → Option A → Type 0
InOption {A} o = A

abbrev TypeOf : {A : Type 0} → A → Type 0
TypeOf {A} a = A

abbrev Command : Type 0
Command = InOption (command_of [])

abbrev Given : Type 0
Given = TypeOf nothing_given

-- a state and a move within the limit
pub record IsAfterWithin (after : After) : Type 0 where
  pub place : IsPlaceWithin after.state.at
  pub move : IfSome after.move IsMoveWithin

abbrev Small : ℤ → Type 0
Small z = unsigned_abs z ≤ coordinate_limit

-- the numbers of X and Y that were given are within the limit
record IsGivenWithin (given : Given) : Type 0 where
  x : IfSome given.x Small
  y : IfSome given.y Small

small_test : (z : ℤ) → nat_le (unsigned_abs z) coordinate_limit ≡ true → Small z
small_test z h = grind (arith, nat_tests)

zero_small : Small (pos 0)
zero_small = omega arith

same_given : (a b : Given) (r : Result Given GFault) → r ≡ Ok a → r ≡ Ok b → a ≡ b
same_given a b r g h = cc

same_after : (a b : After) (r : Result After GFault) → r ≡ Ok a → r ≡ Ok b → a ≡ b
same_after a b r g h = cc

given_is : (a out : Given) → ◌≡◌ {A = Result Given GFault} (Ok a) (Ok out) → IsGivenWithin a
    → IsGivenWithin out
given_is a out e w = subst (λ (g : Given). IsGivenWithin g) (same_given a out (Ok a) refl e) w

after_is : (a out : After) → ◌≡◌ {A = Result After GFault} (Ok a) (Ok out) → IsAfterWithin a
    → IsAfterWithin out
after_is a out e w = subst (λ (b : After). IsAfterWithin b) (same_after a out (Ok a) refl e) w

-- ---- the letters of a line
with_number_within : (letter : ℕ) (z : ℤ) (given : Given) → IsGivenWithin given
    → (letter == upper_x ≡ true → Small z) → (letter == upper_y ≡ true → Small z)
    → IsGivenWithin (with_number letter z given)
unfolding with_number
with_number_within letter z given w hx hy =
    by_tests (letter == upper_x) (letter == upper_y) (letter == upper_z) (letter == amount_letter) (letter == upper_f)
    refl refl
  where
    by_tests : (a b c d e : Bool) → letter == upper_x ≡ a → letter == upper_y ≡ b → IsGivenWithin (
        if a then record given { x = Some z }
        else (if b then record given { y = Some z }
        else (if c then record given { z = Some z }
        else (if d then record given { e = Some z }
        else (if e then record given { feed = true } else record given { setting = true })))))
    by_tests true b c d e p q = record { x = hx p; y = w.y }
    by_tests false true c d e p q = record { x = w.x; y = hy q }
    by_tests false false true d e p q = record { x = w.x; y = w.y }
    by_tests false false false true e p q = record { x = w.x; y = w.y }
    by_tests false false false false true p q = record { x = w.x; y = w.y }
    by_tests false false false false false p q = record { x = w.x; y = w.y }

limited_x : (letter : ℕ) (z : ℤ) → limited letter z ≡ true → letter == upper_x ≡ true → Small z
unfolding limited
limited_x letter z h e = by_test (letter == upper_x) e h
  where
    by_test : (a : Bool) → a ≡ true → (if a || letter == upper_y || letter
        == upper_z then nat_le (unsigned_abs z) coordinate_limit
        else (if letter == amount_letter then nat_le (unsigned_abs z) amount_limit else true)) ≡ true
        → Small z
    by_test true f g = small_test z g
    by_test false f g = absurd (cc)

limited_y : (letter : ℕ) (z : ℤ) → limited letter z ≡ true → letter == upper_y ≡ true → Small z
unfolding limited
limited_y letter z h e = by_test (letter == upper_x) (letter == upper_y) e h
  where
    by_test : (a b : Bool) → b ≡ true → (if a || b || letter == upper_z then nat_le (unsigned_abs z) coordinate_limit
        else (if letter == amount_letter then nat_le (unsigned_abs z) amount_limit else true)) ≡ true
        → Small z
    by_test true true f g = small_test z g
    by_test false true f g = small_test z g
    by_test a false f g = absurd (cc)

ranged_within : (n letter : ℕ) (given out : Given) (z : Option ℤ) → IsGivenWithin given
    → ranged limited n letter given z ≡ Ok out → IsGivenWithin out
ranged_within n letter given out None w e = absurd (cc)
ranged_within n letter given out (Some z) w e = by_test (limited letter z) refl e
  where
    by_test : (b : Bool) → limited letter z ≡ b
        → (if b then Ok (with_number letter z given) else Err (BadNumber n)) ≡ Ok out → IsGivenWithin out
    by_test true f g = given_is (with_number letter z given) out g
        (with_number_within letter z given w (limited_x letter z f) (limited_y letter z f))
    by_test false f g = absurd (cc)

-- ---- commands
kept_within : (given : Option ℤ) (kept : ℤ) → IfSome given Small → Small kept → Small (or_kept given kept)
kept_within None kept g k = k
kept_within (Some z) kept g k = g

driven_within : (given : Given) (s : State) → IsGivenWithin given → IsPlaceWithin s.at
    → IsPlaceWithin (driven given s).at
driven_within given s g w = record {
  x = kept_within given.x s.at.x g.x w.x;
  y = kept_within given.y s.at.y g.y w.y;
}

origin_within : IsPlaceWithin origin
origin_within = record { x = zero_small; y = zero_small }

either_within : (b : Bool) (s t : State) → IsPlaceWithin s.at → IsPlaceWithin t.at
    → IsPlaceWithin (if b then s else t).at
either_within true s t v w = v
either_within false s t v w = w

-- what is known of a command
record IsKnown (command : Command) : Type 0 where
  value : (n letter : ℕ) (text : List ℕ) (given out : Given) → IsGivenWithin given
      → with_value limited n command letter text given ≡ Ok out → IsGivenWithin out
  obeys : (s : State) (given : Given) → IsGivenWithin given → IsPlaceWithin s.at
      → IsAfterWithin (obeyed s command given)
  counts : (s : State) (given : Given) → (obeyed s command given).state.lines ≡ s.lines

either_lines : (b : Bool) (s t : State) (n : ℕ) → s.lines ≡ n → t.lines ≡ n
    → (if b then s else t).lines ≡ n
either_lines true s t n e f = e
either_lines false s t n e f = f

numbered : (n letter : ℕ) (text : List ℕ) (given out : Given) → IsGivenWithin given
    → ranged limited n letter given (number (places letter) text) ≡ Ok out → IsGivenWithin out
numbered n letter text given out w e = ranged_within n letter given out (number (places letter) text) w e

unnumbered : (n letter : ℕ) (text : List ℕ) (given out : Given) → IsGivenWithin given
    → (if nat_lt 0 (length text) then Err (UnknownWord n) else Ok (with_number letter (pos 0) given)) ≡ Ok out
    → IsGivenWithin out
unnumbered n letter text given out w e = by_test (nat_lt 0 (length text)) e
  where
    by_test : (b : Bool) → (if b then Err (UnknownWord n) else Ok (with_number letter (pos 0) given)) ≡ Ok out
        → IsGivenWithin out
    by_test true g = absurd (cc)
    by_test false g = given_is (with_number letter (pos 0) given) out g
        (with_number_within letter (pos 0) given w (λ _. zero_small) (λ _. zero_small))

homed_within : (given : Given) (s t : State) → IsGivenWithin given → IsPlaceWithin s.at → IsPlaceWithin t.at
    → IsPlaceWithin (if names_none given then t else driven given s).at
homed_within given s t g w o = either_within (names_none given) t (driven given s) o (driven_within given s g w)

homed_lines : (given : Given) (s t : State) → t.lines ≡ s.lines
    → (if names_none given then t else driven given s).lines ≡ s.lines
homed_lines given s t e = either_lines (names_none given) t (driven given s) s.lines e refl

drive_known : IfSome (command_of (codes "G0")) IsKnown
unfolding command_of
drive_known = record {
  value = numbered;
  obeys = λ s given g w. record {
    place = driven_within given s g w;
    move = record { a = w; b = driven_within given s g w };
  };
  counts = λ s given. refl;
}

home_known : IfSome (command_of (codes "G28")) IsKnown
unfolding command_of
home_known = record {
  value = unnumbered;
  obeys = λ s given g w. record {
    place = homed_within given s (record { at = origin; e = s.e; lines = s.lines }) g w origin_within;
    move = tt;
  };
  counts = λ s given. homed_lines given s (record { at = origin; e = s.e; lines = s.lines }) refl;
}

set_known : IfSome (command_of (codes "G92")) IsKnown
unfolding command_of
set_known = record {
  value = numbered;
  obeys = λ s given g w. record {
    place = homed_within given s (record { at = origin; e = pos 0; lines = s.lines }) g w origin_within;
    move = tt;
  };
  counts = λ s given. homed_lines given s (record { at = origin; e = pos 0; lines = s.lines }) refl;
}

plain_known : IfSome (command_of (codes "G21")) IsKnown
unfolding command_of plain_commands
plain_known = record {
  value = numbered;
  obeys = λ s given g w. record { place = w; move = tt };
  counts = λ s given. refl;
}

-- each is one of four kinds
first_of : {X : Type 0} (P : X → Type 0) (p q r s t : X) (a b c d : Bool) → P p → P q → P r → P s → P t
    → P (if a then p else (if b then q else (if c then r else (if d then s else t))))
first_of P p q r s t true b c d k l m n o = k
first_of P p q r s t false true c d k l m n o = l
first_of P p q r s t false false true d k l m n o = m
first_of P p q r s t false false false true k l m n o = n
first_of P p q r s t false false false false k l m n o = o

all_known : (word : List ℕ) → IfSome (command_of word) IsKnown
unfolding command_of plain_commands
all_known word = first_of (λ (o : Option Command). IfSome o IsKnown) (command_of (codes "G0")) (command_of (codes "G28"))
    (command_of (codes "G92")) (command_of (codes "G21")) None
    (is_among (codes "G0" ∷ codes "G1" ∷ []) word) (is_among (codes "G28" ∷ []) word)
    (is_among (codes "G92" ∷ []) word) (is_among plain_commands word)
    drive_known home_known set_known plain_known tt

with_word_within : (n : ℕ) (command : Command) (word : List ℕ) (given out : Given) → IsKnown command
    → IsGivenWithin given → with_word limited n command word given ≡ Ok out → IsGivenWithin out
unfolding with_word
with_word_within n command word given out k w e =
    by_test (takes command (slice_index word 0) && not (was_given (slice_index word 0) given)) e
  where
    by_test : (b : Bool) → (if b then with_value limited n command (slice_index word 0) (drop 1 word) given
        else Err (UnknownWord n)) ≡ Ok out → IsGivenWithin out
    by_test true g = k.value n (slice_index word 0) (drop 1 word) given out w g
    by_test false g = absurd (cc)

with_words_within : (n : ℕ) (command : Command) (words : List (List ℕ)) (given out : Given) → IsKnown command
    → IsGivenWithin given → with_words limited n command words given ≡ Ok out → IsGivenWithin out
unfolding with_words
with_words_within n command [] given out k w e = given_is given out e w
with_words_within n command (word ∷ rest) given out k w e =
    by_first (λ next v g. with_words_within n command rest next out k v g) (with_word limited n command word given) refl
    e
  where
    by_first : ((next : Given) → IsGivenWithin next → with_words limited n command rest next ≡ Ok out
        → IsGivenWithin out) → (r : Result Given GFault) → with_word limited n command word given ≡ r
        → and_then r (λ next. with_words limited n command rest next) ≡ Ok out → IsGivenWithin out
    by_first again (Ok next) f g = again next (with_word_within n command word given next k w f) g
    by_first again (Err fault) f g = absurd (cc)

-- ---- the machine
nothing_within : IsGivenWithin nothing_given
nothing_within = record { x = tt; y = tt }

command_within : (s : State) (command : Option Command) (rest : List (List ℕ)) (after : After) → IfSome command IsKnown
    → IsPlaceWithin s.at → command_line limited s command rest ≡ Ok after → IsAfterWithin after
command_within s None rest after k w e = absurd (cc)
command_within s (Some command) rest after k w e = by_words (with_words limited s.lines command rest nothing_given) refl e
  where
    by_words : (r : Result Given GFault) → with_words limited s.lines command rest nothing_given ≡ r
        → and_then r (λ given. Ok (obeyed s command given)) ≡ Ok after → IsAfterWithin after
    by_words (Ok given) f g = after_is (obeyed s command given) after g
        (k.obeys s given (with_words_within s.lines command rest nothing_given given k nothing_within f) w)
    by_words (Err fault) f g = absurd (cc)

words_within : (s : State) (words : List (List ℕ)) (after : After) → IsPlaceWithin s.at
    → words_line limited s words ≡ Ok after → IsAfterWithin after
words_within s [] after w e = after_is (record { state = s; move = None }) after e (record { place = w; move = tt })
words_within s (word ∷ rest) after w e = command_within s (command_of word) rest after (all_known word) w e

pub step_within : (s : State) (text : List ℕ) (after : After) → IsPlaceWithin s.at
    → line_step limited s text ≡ Ok after → IsAfterWithin after
unfolding line_step
step_within s text after w e = words_within (counting s) (line_words text) after w e

pub start_within : IsPlaceWithin start.at
start_within = origin_within

-- ---- the numbers of lines
lines_of_after : (a b : After) → ◌≡◌ {A = Result After GFault} (Ok a) (Ok b) → b.state.lines ≡ a.state.lines
lines_of_after a b e = ap (λ (c : After). c.state.lines) (sym (same_after a b (Ok a) refl e))

command_lines : (s : State) (command : Option Command) (rest : List (List ℕ)) (after : After)
    → IfSome command IsKnown → command_line limited s command rest ≡ Ok after → after.state.lines ≡ s.lines
command_lines s None rest after k e = absurd (cc)
command_lines s (Some command) rest after k e = by_words (with_words limited s.lines command rest nothing_given) e
  where
    by_words : (r : Result Given GFault) → and_then r (λ given. Ok (obeyed s command given)) ≡ Ok after
        → after.state.lines ≡ s.lines
    by_words (Ok given) g = lines_of_after (obeyed s command given) after g ∙ k.counts s given
    by_words (Err fault) g = absurd (cc)

words_lines : (s : State) (words : List (List ℕ)) (after : After) → words_line limited s words ≡ Ok after
    → after.state.lines ≡ s.lines
words_lines s [] after e = lines_of_after (record { state = s; move = None }) after e
words_lines s (word ∷ rest) after e = command_lines s (command_of word) rest after (all_known word) e

pub step_lines : (s : State) (text : List ℕ) (after : After) → line_step limited s text ≡ Ok after
    → after.state.lines ≡ (counting s).lines
unfolding line_step
step_lines s text after e = words_lines (counting s) (line_words text) after e
