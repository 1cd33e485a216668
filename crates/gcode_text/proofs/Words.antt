-- The words of a text, one by one.
use Rattle.std.proofs.Common.{◌≡◌, ◌≢◌, ℕ, ◌+◌, ◌<◌, ◌≤◌, Bool, true, cond, List, [], ◌∷◌, length, take, drop, get_or, slice_index, ◌==◌, nat_lt, refl, ap, ap₂, sym, ◌∙◌, arith, ◌⊎◌, inl, inr, Result, Ok, Err, None}
use Rattle.std.specs.List.{filter}
use Rattle.std.proofs.lemmas.Bool.{cases_lt}
use Rattle.std.proofs.lemmas.Bool.Decides.{nat_tests}
use Rattle.std.proofs.lemmas.List.{drop_more, length-take, take_all}
use Rattle.std.proofs.Math.ListN.{drop_of_length-le}
use Rattle.std.proofs.lemmas.List.Splits.{slice_split-cons_yes}
use Rattle.scad_base.specs.Results.{and_then}
use Rattle.gcode_text.specs.declared.command.Command.{Command}
use Rattle.gcode_text.specs.declared.fault.GFault.{GFault}
use Rattle.gcode_text.specs.declared.letters.Given.{Given}
use Rattle.text_scan.specs.Marks.{pieces, first_at}
use Rattle.text_scan.proofs.Pieces.{one_piece, first_piece, mark_there}
use Rattle.gcode_text.specs.Reading.{words, line_words}
use Rattle.gcode_text.specs.Machine.{Range, State, After, with_word, with_words, command_of, command_line, words_line, line_step, counting}

pub words_of_nothing : words [] ≡ []
unfolding words
words_of_nothing = refl

-- a space in front changes nothing
pub words_behind_space : (text : List ℕ) → slice_index text 0 ≡ 32 → words (drop 1 text) ≡ words text
unfolding words
words_behind_space [] h = absurd (omega arith)
words_behind_space (c ∷ cs) h = let e : c == 32 ≡ true = grind (arith, nat_tests) in sym (ap (filter (λ (w : List ℕ). nat_lt 0 (length w))) (slice_split-cons_yes (λ (b : ℕ). b == 32) c cs e))

-- where no space stands in front, a word does
pub word_in_front : (text : List ℕ) → slice_index text 0 ≢ 32 → 0 < length text → 0 < first_at 32 text
word_in_front [] h l = absurd (omega arith)
word_in_front (c ∷ cs) h l = grind (arith, nat_tests)

-- ---- the first word

nonempty : (text : List ℕ) (n : ℕ) → 0 < n → n ≤ length text → nat_lt 0 (length (take n text)) ≡ true
nonempty text n p h = let e = length-take n text in grind (arith, nat_tests)

-- a word in front stays
pub kept_in_front : (word : List ℕ) (rest : List (List ℕ)) → nat_lt 0 (length word) ≡ true →
    filter (λ (w : List ℕ). nat_lt 0 (length w)) (word ∷ rest) ≡ word ∷ filter (λ (w : List ℕ). nat_lt 0 (length w))
    rest
kept_in_front word rest e = ap (λ (b : Bool). cond b (word ∷ filter (λ (w : List ℕ). nat_lt 0 (length w)) rest)
    (filter (λ (w : List ℕ). nat_lt 0 (length w)) rest)) e

-- where a space stands, the words go on behind it
words_from_space : (text : List ℕ) (at : ℕ) → at < length text → get_or text at 0 ≡ 32 → words (drop (at + 1) text)
    ≡ words (drop at text)
words_from_space text at h e =
    let more : drop at text ≡ get_or text at 0 ∷ drop (at + 1) text = drop_more text at 0 h in
    let behind : words (drop 1 (get_or text at 0 ∷ drop (at + 1) text))
    ≡ words (get_or text at 0 ∷ drop (at + 1) text) =
    words_behind_space (get_or text at 0 ∷ drop (at + 1) text) e in
    behind ∙ ap words (sym more)

pub first_word : (text : List ℕ) → 0 < length text → 0 < first_at 32 text →
    words text ≡ take (first_at 32 text) text ∷ words (drop (first_at 32 text) text)
unfolding words
first_word text l p = by_size (cases_lt (first_at 32 text) (length text))
  where
    by_size : (first_at 32 text < length text) ⊎ (length text ≤ first_at 32 text) → words text ≡ take (first_at 32 text)
        text ∷ words (drop (first_at 32 text) text)
    by_size (inl h) =
        ap (filter (λ (w : List ℕ). nat_lt 0 (length w))) (first_piece 32 text h)
        ∙ kept_in_front (take (first_at 32 text) text) (pieces 32 (drop (first_at 32 text + 1) text))
        (nonempty text (first_at 32 text) p (omega arith))
        ∙ ap (λ (ws : List (List ℕ)). take (first_at 32 text) text ∷ ws) (words_from_space text (first_at 32 text) h
        (mark_there 32 text h))
    by_size (inr h) =
        ap (filter (λ (w : List ℕ). nat_lt 0 (length w))) (one_piece 32 text h)
        ∙ kept_in_front text [] (grind (arith, nat_tests))
        ∙ ap₂ (λ (w : List ℕ) (ws : List (List ℕ)). w ∷ ws) (sym (take_all (first_at 32 text) text h))
        (sym (ap words (drop_of_length-le text h) ∙ words_of_nothing))

pub next_word : (range : Range) (n : ℕ) (command : Command) (text : List ℕ) (given : Given) → 0 < length text
    → 0 < first_at 32 text →
    with_words range n command (words text) given
    ≡ and_then (with_word range n command (take (first_at 32 text) text) given) (λ next. with_words range n command
    (words (drop (first_at 32 text) text)) next)
unfolding with_words
next_word range n command text given l p = ap (λ ws. with_words range n command ws given) (first_word text l p)

pub no_word : (range : Range) (n : ℕ) (command : Command) (text : List ℕ) (given : Given) → length text ≡ 0 →
    with_words range n command (words text) given ≡ Ok given
unfolding with_words words
no_word range n command [] given l = refl
no_word range n command (c ∷ cs) given l = absurd (omega arith)

pub refused_word : (range : Range) (n : ℕ) (command : Command) (text : List ℕ) (given : Given) (fault : GFault)
    (len : ℕ) → 0 < length text → 0 < first_at 32 text →
    len ≡ first_at 32 text → with_word range n command (take len text) given ≡ Err fault →
    with_words range n command (words text) given ≡ Err fault
refused_word range n command text given fault len l p e r =
    next_word range n command text given l p
    ∙ ap (λ (it : Result Given GFault). and_then it (λ next. with_words range n command
    (words (drop (first_at 32 text) text)) next))
    (ap (λ (k : ℕ). with_word range n command (take k text) given) (sym e) ∙ r)

pub accepted_word : (range : Range) (n : ℕ) (command : Command) (text : List ℕ) (given next : Given) (len : ℕ)
    → 0 < length text → 0 < first_at 32 text →
    len ≡ first_at 32 text → with_word range n command (take len text) given ≡ Ok next →
    with_words range n command (words text) given ≡ with_words range n command (words (drop len text)) next
accepted_word range n command text given next len l p e r =
    next_word range n command text given l p
    ∙ ap (λ (it : Result Given GFault). and_then it (λ next. with_words range n command
    (words (drop (first_at 32 text) text)) next))
    (ap (λ (k : ℕ). with_word range n command (take k text) given) (sym e) ∙ r)
    ∙ ap (λ (k : ℕ). with_words range n command (words (drop k text)) next) (sym e)

-- a line's first word is its command
pub command_in_front : (range : Range) (s : State) (text : List ℕ) (len : ℕ) → 0 < length text → 0 < first_at 32 text
    → len ≡ first_at 32 text →
    words_line range s (words text) ≡ command_line range s (command_of (take len text)) (words (drop len text))
command_in_front range s text len l p e =
    ap (words_line range s) (first_word text l p)
    ∙ ap (λ (k : ℕ). command_line range s (command_of (take k text)) (words (drop k text))) (sym e)

-- a line without words does nothing
abbrev pub blank : State → Result After GFault
blank s = Ok (record { state = s; move = None })

no_words : (text : List ℕ) → length text ≡ 0 → words text ≡ []
no_words [] l = words_of_nothing
no_words (c ∷ cs) l = absurd (omega arith)

pub blank_line : (range : Range) (s : State) (line text : List ℕ) → words text ≡ line_words line → length text ≡ 0
    → line_step range s line ≡ blank (counting s)
unfolding line_step
blank_line range s line text e l = ap (words_line range (counting s)) (sym e ∙ no_words text l)
