-- What the machine does along written lines.
use Rattle.std.proofs.Common.{◌≡◌, ℕ, ◌+◌, ◌-◌, ◌*◌, ◌^◌, ◌<◌, ◌≤◌, Bool, true, false, not, min, nat_lt, List, [], ◌∷◌, ◌++◌, length, get_or, refl, ap, sym, subst, ◌∙◌, arith, append_assoc, Option, Some, None, Result, Ok, Err}
use Rattle.std.specs.Prelude.{ℤ, pos, unsigned_abs, ◌==◌, ◌&&◌, codes, int_le}
use Rattle.std.specs.Fmt.{decimal}
use Rattle.std.specs.List.{list_all}
use Rattle.std.proofs.lemmas.Bool.Decides.{nat_tests}
use Rattle.std.proofs.lemmas.List.Splits.{slice_split_at}
use Rattle.std.proofs.lemmas.List.Sums.{AllPass-from_list_all}
use Rattle.scad_base.specs.Results.{and_then}
use Rattle.scad_geom.specs.declared.point.Pt.{Pt}
use Rattle.scad_geom.specs.declared.point3.Pt3.{Pt3}
use Rattle.gcode_text.specs.declared.command.Command.TheVariants.{Plain}
use Rattle.gcode_text.specs.declared.command.Command.{Command}
use Rattle.gcode_text.specs.declared.letters.Given.{Given}
use Rattle.gcode_text.specs.declared.fault.GFault.{GFault}
use Rattle.gcode_text.specs.declared.machine.Move.{Move}
use Rattle.gcode_text.specs.declared.rates.Rates.{Rates}
use Rattle.gcode_text.specs.Gcode.{travel_line, print_line, height_line, number_line, supports_line, heat_line, setup, home, end, head}
use Rattle.gcode_text.specs.Numeral.{fixed, millimetres}
use Rattle.gcode_text.specs.Reading.{lines, without_return, without_comment, words, number, size_of, whole_size, are_digits}
use Rattle.gcode_text.specs.Machine.{State, After, any, origin, command_of, plain_commands, takes, was_given, with_number, with_word, with_words, command_line, words_line, line_step, onto_moves, moves_of_lines, stays, extrudes, obeyed}
use Rattle.gcode_text.specs.Moves.{at_height, travel, raised}
use Rattle.gcode_text.proofs.NumberText.{millimetres_back, thousandths_back, amount_back, decimal_back}
use Rattle.gcode_text.proofs.Lines.{AreWords, spaced, step_of, no_feed_in, driven_by, travel_words, travel_line_is, travel_are_words, travel_given, print_words, print_line_is, print_are_words, print_given, height_words, height_line_is, height_are_words, height_given, in_word, heat_words, heat_line_is, heat_are_words, heat_given, decimal_no_feed, comment_back}
use Rattle.std.proofs.lemmas.Bool.{not-true}

-- ---- stretches of a program

abbrev pub standing : Pt3 → ℕ → ℕ → State
standing at e n = record { at = at; e = pos e; lines = n }

abbrev pub run : State → List ℕ → Result (List Move) GFault
run s text = moves_of_lines any s (lines text)

abbrev pub prefix : List Move → Result (List Move) GFault → Result (List Move) GFault
prefix moves rest = and_then rest (λ more. Ok (moves ++ more))

-- along this text the machine goes from one place and amount to another, by these moves, whatever follows
pub record Goes (at : Pt3) (e : ℕ) (text : List ℕ) (moves : List Move) (to : Pt3) (f : ℕ) : Type 0 where
  pub goes : (n : ℕ) (rest : List ℕ) → (m : ℕ) × (run (standing at e n) (text ++ rest) ≡ prefix moves
      (run (standing to f m) rest))

prefix_nothing : (r : Result (List Move) GFault) → r ≡ prefix [] r
prefix_nothing (Ok moves) = refl
prefix_nothing (Err fault) = refl

prefix_on : (a b : List Move) (r : Result (List Move) GFault) → prefix a (prefix b r) ≡ prefix (a ++ b) r
prefix_on a b (Ok moves) = ap Ok (sym (append_assoc a b moves))
prefix_on a b (Err fault) = refl

onto_prefix : (move : Option Move) (r : Result (List Move) GFault) → and_then r (λ moves. Ok (onto_moves move moves))
    ≡ prefix (onto_moves move []) r
onto_prefix None (Ok moves) = refl
onto_prefix None (Err fault) = refl
onto_prefix (Some move) (Ok moves) = refl
onto_prefix (Some move) (Err fault) = refl

pub goes_nowhere : (at : Pt3) (e : ℕ) → Goes at e [] [] at e
goes_nowhere at e = record { goes = λ n rest. (n, prefix_nothing (run (standing at e n) rest)) }

pub goes_on : {at bt ct : Pt3} {e f g : ℕ} (t u : List ℕ) (a b : List Move) → Goes at e t a bt f → Goes bt f u b ct g
    → Goes at e (t ++ u) (a ++ b) ct g
goes_on {at} {bt} {ct} {e} {f} {g} t u a b p q = record { goes = λ n rest. both n rest (p.goes n (u ++ rest)) }
  where
    both : (n : ℕ) (rest : List ℕ) → (m : ℕ) × (run (standing at e n) (t ++ (u ++ rest))
        ≡ prefix a (run (standing bt f m) (u ++ rest))) →
        (m : ℕ) × (run (standing at e n) ((t ++ u) ++ rest) ≡ prefix (a ++ b) (run (standing ct g m) rest))
    both n rest x =
        let y : (m : ℕ) × (run (standing bt f x.0) (u ++ rest) ≡ prefix b (run (standing ct g m) rest)) =
        q.goes x.0 rest in (
          y.0,
          ap (run (standing at e n)) (append_assoc t u rest) ∙ x.1 ∙ ap (prefix a) y.1 ∙ prefix_on a b
              (run (standing ct g y.0) rest),
        )

cut_line : (body rest : List ℕ) → list_all (λ b. not (b == 10)) body ≡ true → lines ((body ++ 10 ∷ []) ++ rest)
    ≡ body ∷ lines rest
cut_line body rest h =
    let none = AllPass-from_list_all (λ (b : ℕ). not (b == 10)) body h in
    ap lines (append_assoc body (10 ∷ []) rest)
    ∙ slice_split_at (λ (b : ℕ). b == 10) body 10 rest (λ k d l. not-true (get_or body k d == 10) (none k d l)) refl

abbrev pub next : ℕ → ℕ
next n = min (n + 1) (2 ^ 32 - 1)

-- one line
pub goes_line : (at : Pt3) (e : ℕ) (body : List ℕ) (move : Option Move) (to : Pt3) (f : ℕ)
    → list_all (λ b. not (b == 10)) body ≡ true →
    ((n : ℕ) → line_step any (standing at e n) body ≡ Ok (record { state = standing to f (next n); move = move })) →
    Goes at e (body ++ 10 ∷ []) (onto_moves move []) to f
unfolding moves_of_lines
goes_line at e body move to f h step = record {
  goes = λ n rest. (
    next n,
    ap (moves_of_lines any (standing at e n)) (cut_line body rest h)
        ∙ ap (λ (it : Result After GFault). and_then it (λ after. and_then (moves_of_lines any after.state (lines rest))
        (λ moves. Ok (onto_moves after.move moves)))) (step n)
        ∙ onto_prefix move (run (standing to f (next n)) rest),
  );
}

-- one line of words
pub goes_words : (at : Pt3) (e : ℕ) (ws : List (List ℕ)) (move : Option Move) (to : Pt3) (f : ℕ) → AreWords ws →
    ((n : ℕ) → words_line any (standing at e n) ws ≡ Ok (record { state = standing to f n; move = move })) →
    Goes at e (spaced ws ++ 10 ∷ []) (onto_moves move []) to f
goes_words at e ws move to f h step = goes_line at e (spaced ws) move to f (no_feed_in ws h)
    (λ n. step_of (standing at e n) ws h ∙ step (next n))

-- ---- the moves' lines

pub goes_travel : (rates : Rates) (here : Pt3) (z e : ℕ) (p : Pt) → here.z ≡ pos z →
    unsigned_abs p.x < 10 ^ 64 → unsigned_abs p.y < 10 ^ 64 → rates.travel_feed < 10 ^ 64 →
    Goes here e (travel_line rates p) (travel here (at_height p z) e ∷ []) (at_height p z) e
unfolding extrudes
goes_travel rates here z e p hz hx hy hf =
    subst (λ (text : List ℕ). Goes here e text (travel here (at_height p z) e ∷ []) (at_height p z) e)
    (sym (travel_line_is rates p))
    (goes_words here e (travel_words rates p) (Some (travel here (at_height p z) e)) (at_height p z) e
    (travel_are_words rates p hx hy hf) step)
  where
    step : (n : ℕ) → words_line any (standing here e n) (travel_words rates p)
        ≡ Ok (record { state = standing (at_height p z) e n; move = Some (travel here (at_height p z) e) })
    step n =
        driven_by (standing here e n) ((88 ∷ millimetres p.x) ∷ (89 ∷ millimetres p.y)
        ∷ (70 ∷ decimal rates.travel_feed) ∷ [])
        (record { x = Some p.x; y = Some p.y; z = None; e = None; feed = true; setting = false })
        (travel_given n (millimetres p.x) (millimetres p.y) (decimal rates.travel_feed) p.x p.y
        (pos (rates.travel_feed * 10 ^ 5))
        (millimetres_back p.x hx) (millimetres_back p.y hy) (decimal_back rates.travel_feed hf))
        ∙ ap (λ (it : ℤ). Ok (record {
          state = record { at = record { x = p.x; y = p.y; z = it }; e = pos e; lines = n };
          move = Some (record {
            from = here;
            to = record { x = p.x; y = p.y; z = it };
            from_e = pos e;
            to_e =
                pos e;
            extruding = false;
          });
        })) hz

abbrev pub printed : ℕ → ℕ → ℕ → Pt → Pt → Move
printed z e f from to = record {
  from = at_height from z;
  to = at_height to z;
  from_e = pos e;
  to_e = pos f;
  extruding =
      not (stays (at_height from z) (at_height to z));
}

rising : (e f : ℕ) → e ≤ f → int_le (pos e) (pos f) ≡ true
rising e f h = grind (arith, nat_tests)

extruding_by : (b c : Bool) → c ≡ true → ((true && b) && c) ≡ b
extruding_by true c h = h
extruding_by false c h = refl

pub goes_print : (rates : Rates) (z e f : ℕ) (from to : Pt) → e ≤ f →
    unsigned_abs to.x < 10 ^ 64 → unsigned_abs to.y < 10 ^ 64 → f < 10 ^ 64 → rates.print_feed < 10 ^ 64 →
    Goes (at_height from z) e (print_line rates to f)
    (printed z e f from to ∷ [])
    (at_height to z) f
unfolding extrudes
goes_print rates z e f from to rises hx hy he hf =
    subst (λ (text : List ℕ). Goes (at_height from z) e text (printed z e f from to ∷ []) (at_height to z) f)
    (sym (print_line_is rates to f))
    (goes_words (at_height from z) e (print_words rates to f) (Some (printed z e f from to)) (at_height to z) f
    (print_are_words rates to f hx hy he hf) step)
  where
    step : (n : ℕ) → words_line any (standing (at_height from z) e n) (print_words rates to f)
        ≡ Ok (record { state = standing (at_height to z) f n; move = Some (printed z e f from to) })
    step n =
        driven_by (standing (at_height from z) e n) ((88 ∷ millimetres to.x) ∷ (89 ∷ millimetres to.y)
        ∷ (69 ∷ fixed 5 f) ∷ (70 ∷ decimal rates.print_feed) ∷ [])
        (record { x = Some to.x; y = Some to.y; z = None; e = Some (pos f); feed = true; setting = false })
        (print_given n (millimetres to.x) (millimetres to.y) (fixed 5 f) (decimal rates.print_feed) to.x to.y (pos f)
        (pos (rates.print_feed * 10 ^ 5))
        (millimetres_back to.x hx) (millimetres_back to.y hy) (amount_back f he) (decimal_back rates.print_feed hf))
        ∙ ap (λ (it : Bool). Ok (record {
          state = standing (at_height to z) f n;
          move = Some (record {
            from = at_height from z;
            to = at_height to z;
            from_e = pos e;
            to_e = pos f;
            extruding =
                it;
          });
        })) (extruding_by (not (stays (at_height from z) (at_height to z))) (int_le (pos e) (pos f)) (rising e f rises))

pub goes_height : (rates : Rates) (here : Pt3) (z e : ℕ) → z < 10 ^ 64 → rates.travel_feed < 10 ^ 64 →
    Goes here e (height_line rates z) (travel here (raised here z) e ∷ []) (raised here z) e
unfolding extrudes
goes_height rates here z e hz hf =
    subst (λ (text : List ℕ). Goes here e text (travel here (raised here z) e ∷ []) (raised here z) e)
    (sym (height_line_is rates z))
    (goes_words here e (height_words rates z) (Some (travel here (raised here z) e)) (raised here z) e
    (height_are_words rates z hz hf) step)
  where
    step : (n : ℕ) → words_line any (standing here e n) (height_words rates z)
        ≡ Ok (record { state = standing (raised here z) e n; move = Some (travel here (raised here z) e) })
    step n =
        driven_by (standing here e n) ((90 ∷ fixed 3 z) ∷ (70 ∷ decimal rates.travel_feed) ∷ [])
        (record { x = None; y = None; z = Some (pos z); e = None; feed = true; setting = false })
        (height_given n (fixed 3 z) (decimal rates.travel_feed) (pos z) (pos (rates.travel_feed * 10 ^ 5))
        (thousandths_back z hz) (decimal_back rates.travel_feed hf))

-- a layer's number is a comment
pub goes_number : (at : Pt3) (e layer : ℕ) → layer < 10 ^ 64 → Goes at e (number_line layer) [] at e
unfolding number_line line_step
goes_number at e layer h =
    goes_line at e (codes "; layer " ++ decimal layer) None at e (decimal_no_feed layer h)
    (λ n. ap (words_line any (standing at e (next n))) (comment_back (codes " layer " ++ decimal layer)))

-- the line in front of supports is a comment
pub goes_supports_line : (at : Pt3) (e : ℕ) → Goes at e supports_line [] at e
unfolding supports_line line_step
goes_supports_line at e =
    goes_line at e (codes "; supports") None at e refl
    (λ n. ap (words_line any (standing at e (next n))) (comment_back (codes " supports")))

-- ---- the head and the end

pub goes_heat : (at : Pt3) (e : ℕ) (command : List ℕ) (degrees : ℕ) → command_of command ≡ Some Plain
    → nat_lt 0 (length command) ≡ true → list_all in_word command ≡ true →
    degrees < 10 ^ 64 → Goes at e (heat_line command degrees) [] at e
goes_heat at e command degrees plain a b h =
    subst (λ (text : List ℕ). Goes at e text [] at e) (sym (heat_line_is command degrees))
    (goes_words at e (heat_words command degrees) None at e (heat_are_words command degrees a b h) step)
  where
    step : (n : ℕ) → words_line any (standing at e n) (heat_words command degrees)
        ≡ Ok (record { state = standing at e n; move = None })
    step n =
        ap (λ (it : Option Command). command_line any (standing at e n) it ((83 ∷ decimal degrees) ∷ [])) plain
        ∙ ap (λ (it : Result Given GFault). and_then it (λ given. Ok (obeyed (standing at e n) Plain given)))
        (heat_given n (decimal degrees) (pos (degrees * 10 ^ 5)) (decimal_back degrees h))

pub goes_setup : (at : Pt3) (e : ℕ) → Goes at e setup [] at e
unfolding setup line_step without_return without_comment words command_of plain_commands with_words
goes_setup at e =
    goes_on (codes "; scadslice\n" ++ codes "G21\n" ++ codes "G90\n" ++ codes "M82\n") (codes "M107\n") [] []
    (goes_on (codes "; scadslice\n" ++ codes "G21\n" ++ codes "G90\n") (codes "M82\n") [] []
    (goes_on (codes "; scadslice\n" ++ codes "G21\n") (codes "G90\n") [] []
    (goes_on (codes "; scadslice\n") (codes "G21\n") [] []
    (goes_line at e (codes "; scadslice") None at e refl (λ n. refl))
    (goes_line at e (codes "G21") None at e refl (λ n. refl)))
    (goes_line at e (codes "G90") None at e refl (λ n. refl)))
    (goes_line at e (codes "M82") None at e refl (λ n. refl)))
    (goes_line at e (codes "M107") None at e refl (λ n. refl))

pub goes_home : (at : Pt3) (e : ℕ) → Goes at e home [] origin 0
unfolding home line_step without_return without_comment words command_of with_words with_word takes was_given
    with_number number size_of whole_size are_digits
goes_home at e =
    goes_on (codes "G28\n") (codes "G92 E0\n") [] []
    (goes_line at e (codes "G28") None origin e refl (λ n. refl))
    (goes_line origin e (codes "G92 E0") None origin 0 refl (λ n. refl))

pub goes_end : (at : Pt3) (e : ℕ) → Goes at e end [] at e
unfolding end line_step without_return without_comment words command_of plain_commands with_words with_word takes
    was_given with_number number size_of whole_size are_digits
goes_end at e =
    goes_on (codes "M104 S0\n" ++ codes "M140 S0\n") (codes "M84\n") [] []
    (goes_on (codes "M104 S0\n") (codes "M140 S0\n") [] []
    (goes_line at e (codes "M104 S0") None at e refl (λ n. refl))
    (goes_line at e (codes "M140 S0") None at e refl (λ n. refl)))
    (goes_line at e (codes "M84") None at e refl (λ n. refl))

pub goes_head : (at : Pt3) (e hot_end bed : ℕ) → hot_end < 10 ^ 64 → bed < 10 ^ 64 → Goes at e (head hot_end bed) []
    origin 0
unfolding command_of plain_commands
goes_head at e hot_end bed hh hb =
    goes_on (setup ++ heat_line (codes "M140") bed ++ heat_line (codes "M104") hot_end ++ heat_line (codes "M190") bed
    ++ heat_line (codes "M109") hot_end) home [] []
    (goes_on (setup ++ heat_line (codes "M140") bed ++ heat_line (codes "M104") hot_end ++ heat_line (codes "M190") bed)
    (heat_line (codes "M109") hot_end) [] []
    (goes_on (setup ++ heat_line (codes "M140") bed ++ heat_line (codes "M104") hot_end) (heat_line (codes "M190") bed)
    [] []
    (goes_on (setup ++ heat_line (codes "M140") bed) (heat_line (codes "M104") hot_end) [] []
    (goes_on setup (heat_line (codes "M140") bed) [] []
    (goes_setup at e)
    (goes_heat at e (codes "M140") bed refl refl refl hb))
    (goes_heat at e (codes "M104") hot_end refl refl refl hh))
    (goes_heat at e (codes "M190") bed refl refl refl hb))
    (goes_heat at e (codes "M109") hot_end refl refl refl hh))
    (goes_home at e)
