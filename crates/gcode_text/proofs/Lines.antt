-- Lines that are written are cut into their words again, and what the machine does at each.
use Rattle.std.proofs.Common.{◌≡◌, ℕ, zero, suc, ◌-◌, ◌/◌, ◌%◌, ◌^◌, ◌<◌, Bool, true, false, not, cond, nat_le, nat_lt, List, [], ◌∷◌, ◌++◌, length, take, get_or, refl, ap, ap₂, sym, ◌∙◌, arith, append_assoc, Some, None, Result, Ok}
use Rattle.std.specs.Prelude.{ℤ, pos, negsuc, unsigned_abs, ◌==◌, ◌&&◌, slice_index, codes}
use Rattle.std.specs.Char.{is_ascii_digit}
use Rattle.std.specs.Fmt.{decimal}
use Rattle.std.specs.List.{list_all, filter}
use Rattle.std.proofs.lemmas.Bool.Decides.{nat_tests}
use Rattle.std.proofs.lemmas.List.{take_all}
use Rattle.std.proofs.lemmas.List.Folds.{list_all-append}
use Rattle.std.proofs.lemmas.List.Splits.{slice_split_at}
use Rattle.std.proofs.lemmas.List.Sums.{AllPass-from_list_all}
use Rattle.scad_base.specs.Results.{and_then}
use Rattle.scad_geom.specs.declared.point.Pt.{Pt}
use Rattle.gcode_text.specs.declared.command.Command.TheVariants.{Drive, Plain}
use Rattle.gcode_text.specs.declared.fault.GFault.{GFault}
use Rattle.gcode_text.specs.declared.letters.Given.{Given}
use Rattle.gcode_text.specs.declared.rates.Rates.{Rates}
use Rattle.gcode_text.specs.Numeral.{last_digits, fixed, millimetres}
use Rattle.gcode_text.specs.Gcode.{feed_end, target, amount, travel_line, print_line, height_line, heat_line}
use Rattle.text_scan.specs.Marks.{pieces, first_at}
use Rattle.text_scan.proofs.Pieces.{one_piece}
use Rattle.gcode_text.specs.Reading.{without_return, without_comment, words, line_words, number}
use Rattle.gcode_text.specs.Machine.{State, any, command_of, takes, was_given, with_number, with_word, with_words, nothing_given, obeyed, counting, words_line, line_step}
use Rattle.gcode_text.proofs.Words.{kept_in_front}
use Rattle.gcode_text.proofs.NumberText.{list_all-weaken, no_mark, digits_alone, decimal_digits, three_digits, five_digits}
use Rattle.std.proofs.lemmas.Bool.{and_parts, not-true}

-- ---- bytes

-- a byte of a word, and one of a line without a comment
abbrev pub in_word : ℕ → Bool
in_word b = nat_lt 32 b && not (b == 59)

abbrev pub in_line : ℕ → Bool
in_line b = nat_le 32 b && not (b == 59)

line_from_word : (b : ℕ) → in_word b ≡ true → in_line b ≡ true
line_from_word b h = grind (arith, nat_tests)

no_space : (b : ℕ) → in_word b ≡ true → not (b == 32) ≡ true
no_space b h = grind (arith, nat_tests)

no_semicolon : (b : ℕ) → in_line b ≡ true → not (b == 59) ≡ true
no_semicolon b h = grind (arith, nat_tests)

no_return : (b : ℕ) → in_line b ≡ true → (b == 13) ≡ false
no_return b h = grind (arith, nat_tests)

pub no_feed : (b : ℕ) → in_line b ≡ true → not (b == 10) ≡ true
no_feed b h = grind (arith, nat_tests)

word_from_digit : (b : ℕ) → is_ascii_digit b ≡ true → in_word b ≡ true
word_from_digit b h = grind (arith, nat_tests)

-- ---- words

-- words, one at least in each, and spaces between them
abbrev pub AreWords : List (List ℕ) → Type 0
AreWords [] = Unit {0}
AreWords (word ∷ rest) = (nat_lt 0 (length word) ≡ true) × (list_all in_word word ≡ true) × AreWords rest

abbrev pub spaced : List (List ℕ) → List ℕ
spaced [] = []
spaced (word ∷ []) = word
spaced (word ∷ next ∷ rest) = word ++ 32 ∷ spaced (next ∷ rest)

pub spaced_in_line : (ws : List (List ℕ)) → AreWords ws → list_all in_line (spaced ws) ≡ true
spaced_in_line [] h = refl
spaced_in_line (word ∷ []) h = list_all-weaken in_word in_line line_from_word word h.1
spaced_in_line (word ∷ next ∷ rest) h =
    list_all-append in_line word (32 ∷ spaced (next ∷ rest))
    ∙ ap₂ (λ (a b : Bool). a && b) (list_all-weaken in_word in_line line_from_word word h.1)
    (spaced_in_line (next ∷ rest) h.2)

words_more : (word rest : List ℕ) → nat_lt 0 (length word) ≡ true → list_all in_word word ≡ true
    → words (word ++ 32 ∷ rest) ≡ word ∷ words rest
unfolding words
words_more word rest some h =
    let none = AllPass-from_list_all (λ (b : ℕ). not (b == 32)) word (list_all-weaken in_word (λ b. not (b == 32))
    no_space word h) in
    ap (filter (λ (w : List ℕ). nat_lt 0 (length w)))
    (slice_split_at (λ (b : ℕ). b == 32) word 32 rest (λ k d l. not-true (get_or word k d == 32) (none k d l)) refl)
    ∙ kept_in_front word (pieces 32 rest) some

last_word : (word : List ℕ) → nat_lt 0 (length word) ≡ true → list_all in_word word ≡ true → words word ≡ word ∷ []
unfolding words
last_word word some h =
    let none : first_at 32 word ≡ length word = no_mark 32 word (list_all-weaken in_word (λ b. not (b == 32)) no_space
    word h) in
    ap (filter (λ (w : List ℕ). nat_lt 0 (length w))) (one_piece 32 word (omega arith)) ∙ kept_in_front word [] some

words_back : (ws : List (List ℕ)) → AreWords ws → words (spaced ws) ≡ ws
unfolding words
words_back [] h = refl
words_back (word ∷ []) h = last_word word h.0 h.1
words_back (word ∷ next ∷ rest) h = words_more word (spaced (next ∷ rest)) h.0 h.1 ∙ ap
    (λ (ws : List (List ℕ)). word ∷ ws) (words_back (next ∷ rest) h.2)

byte_in_line : (text : List ℕ) (k : ℕ) → list_all in_line text ≡ true → (get_or text k 0 == 13) ≡ false
byte_in_line [] k h = refl
byte_in_line (c ∷ cs) zero h = no_return c (and_parts (in_line c) (list_all in_line cs) h).0
byte_in_line (c ∷ cs) (suc k) h = byte_in_line cs k (and_parts (in_line c) (list_all in_line cs) h).1

code_back : (text : List ℕ) → list_all in_line text ≡ true → without_comment (without_return text) ≡ text
unfolding without_comment without_return
code_back text h =
    let last = byte_in_line text (length text - 1) h in
    let none : first_at 59 text ≡ length text = no_mark 59 text (list_all-weaken in_line (λ b. not (b == 59))
    no_semicolon text h) in
    rw last (take_all (first_at 59 text) text (omega arith))

pub line_back : (ws : List (List ℕ)) → AreWords ws → line_words (spaced ws) ≡ ws
line_back ws h = ap words (code_back (spaced ws) (spaced_in_line ws h)) ∙ words_back ws h

pub step_of : (s : State) (ws : List (List ℕ)) → AreWords ws → line_step any s (spaced ws) ≡ words_line any (counting s)
    ws
unfolding line_step
step_of s ws h = ap (words_line any (counting s)) (line_back ws h)

-- ---- numbers are words

decimal_in_word : (n : ℕ) → n < 10 ^ 64 → list_all in_word (decimal n) ≡ true
decimal_in_word n h = list_all-weaken is_ascii_digit in_word word_from_digit (decimal n)
    (digits_alone (decimal n) (decimal_digits n h))

three_in_word : (n : ℕ) → n < 10 ^ 64 → list_all in_word (fixed 3 n) ≡ true
unfolding fixed
three_in_word n h =
    list_all-append in_word (decimal (n / 1000)) (46 ∷ last_digits 3 (n % 1000))
    ∙ ap₂ (λ (a b : Bool). a && b) (decimal_in_word (n / 1000) (omega arith))
    (list_all-weaken is_ascii_digit in_word word_from_digit (last_digits 3 (n % 1000))
    (digits_alone (last_digits 3 (n % 1000)) (three_digits (n % 1000))))

five_in_word : (n : ℕ) → n < 10 ^ 64 → list_all in_word (fixed 5 n) ≡ true
unfolding fixed
five_in_word n h =
    list_all-append in_word (decimal (n / 100000)) (46 ∷ last_digits 5 (n % 100000))
    ∙ ap₂ (λ (a b : Bool). a && b) (decimal_in_word (n / 100000) (omega arith))
    (list_all-weaken is_ascii_digit in_word word_from_digit (last_digits 5 (n % 100000))
    (digits_alone (last_digits 5 (n % 100000)) (five_digits (n % 100000))))

millimetres_in_word : (z : ℤ) → unsigned_abs z < 10 ^ 64 → list_all in_word (millimetres z) ≡ true
unfolding millimetres
millimetres_in_word (pos n) h = three_in_word n h
millimetres_in_word (negsuc n) h = three_in_word (suc n) h

-- ---- lines

travel_regrouped : (a x b y c f d : List ℕ) → a ++ x ++ b ++ y ++ (c ++ f ++ d) ≡ (a ++ (x ++ (b ++ (y ++ (c ++ f)))))
    ++ d
travel_regrouped a x b y c f d = simp append_assoc

print_regrouped : (a x b y c e g f d : List ℕ) → a ++ x ++ b ++ y ++ (c ++ e) ++ (g ++ f ++ d)
    ≡ (a ++ (x ++ (b ++ (y ++ (c ++ (e ++ (g ++ f))))))) ++ d
print_regrouped a x b y c e g f d = simp append_assoc

heat_regrouped : (a b f d : List ℕ) → a ++ b ++ f ++ d ≡ (a ++ (b ++ f)) ++ d
heat_regrouped a b f d = simp append_assoc

more : (c : ℕ) (xs : List ℕ) → nat_lt 0 (length (c ∷ xs)) ≡ true
more c xs = grind (arith, nat_tests)

abbrev pub travel_words : Rates → Pt → List (List ℕ)
travel_words rates p = codes "G1" ∷ (88 ∷ millimetres p.x) ∷ (89 ∷ millimetres p.y) ∷ (70 ∷ decimal rates.travel_feed)
    ∷ []

pub travel_line_is : (rates : Rates) (p : Pt) → travel_line rates p ≡ spaced (travel_words rates p) ++ 10 ∷ []
unfolding travel_line target feed_end
travel_line_is rates p =
    travel_regrouped (codes "G1 X") (millimetres p.x) (codes " Y") (millimetres p.y) (codes " F")
    (decimal rates.travel_feed) (codes "\n")

abbrev pub print_words : Rates → Pt → ℕ → List (List ℕ)
print_words rates p e = codes "G1" ∷ (88 ∷ millimetres p.x) ∷ (89 ∷ millimetres p.y) ∷ (69 ∷ fixed 5 e)
    ∷ (70 ∷ decimal rates.print_feed) ∷ []

pub print_line_is : (rates : Rates) (p : Pt) (e : ℕ) → print_line rates p e ≡ spaced (print_words rates p e) ++ 10 ∷ []
unfolding print_line target amount feed_end
print_line_is rates p e =
    print_regrouped (codes "G1 X") (millimetres p.x) (codes " Y") (millimetres p.y) (codes " E") (fixed 5 e)
    (codes " F") (decimal rates.print_feed) (codes "\n")

abbrev pub height_words : Rates → ℕ → List (List ℕ)
height_words rates z = codes "G1" ∷ (90 ∷ fixed 3 z) ∷ (70 ∷ decimal rates.travel_feed) ∷ []

pub height_line_is : (rates : Rates) (z : ℕ) → height_line rates z ≡ spaced (height_words rates z) ++ 10 ∷ []
unfolding height_line feed_end
height_line_is rates z = simp append_assoc

-- what such words name
pub travel_given : (n : ℕ) (tx ty tf : List ℕ) (x y f : ℤ) → number 3 tx ≡ Some x → number 3 ty ≡ Some y
    → number 5 tf ≡ Some f →
    with_words any n Drive ((88 ∷ tx) ∷ (89 ∷ ty) ∷ (70 ∷ tf) ∷ []) nothing_given
    ≡ Ok (record { x = Some x; y = Some y; z = None; e = None; feed = true; setting = false })
unfolding with_words with_word takes was_given with_number
travel_given n tx ty tf x y f ex ey ef = rw (ex, ey, ef) refl

pub print_given : (n : ℕ) (tx ty te tf : List ℕ) (x y e f : ℤ) → number 3 tx ≡ Some x → number 3 ty ≡ Some y
    → number 5 te ≡ Some e → number 5 tf ≡ Some f →
    with_words any n Drive ((88 ∷ tx) ∷ (89 ∷ ty) ∷ (69 ∷ te) ∷ (70 ∷ tf) ∷ []) nothing_given
    ≡ Ok (record { x = Some x; y = Some y; z = None; e = Some e; feed = true; setting = false })
unfolding with_words with_word takes was_given with_number
print_given n tx ty te tf x y e f ex ey ee ef = rw (ex, ey, ee, ef) refl

pub height_given : (n : ℕ) (tz tf : List ℕ) (z f : ℤ) → number 3 tz ≡ Some z → number 5 tf ≡ Some f →
    with_words any n Drive ((90 ∷ tz) ∷ (70 ∷ tf) ∷ []) nothing_given
    ≡ Ok (record { x = None; y = None; z = Some z; e = None; feed = true; setting = false })
unfolding with_words with_word takes was_given with_number
height_given n tz tf z f ez ef = rw (ez, ef) refl

pub driven_by : (s : State) (rest : List (List ℕ)) (given : Given) → with_words any s.lines Drive rest nothing_given
    ≡ Ok given →
    words_line any s (codes "G1" ∷ rest) ≡ Ok (obeyed s Drive given)
unfolding command_of
driven_by s rest given e = ap (λ (it : Result Given GFault). and_then it (λ given. Ok (obeyed s Drive given))) e

pub travel_are_words : (rates : Rates) (p : Pt) → unsigned_abs p.x < 10 ^ 64 → unsigned_abs p.y < 10 ^ 64
    → rates.travel_feed < 10 ^ 64 → AreWords (travel_words rates p)
travel_are_words rates p hx hy hf = (
  refl,
  refl,
  (
    more 88 (millimetres p.x),
    millimetres_in_word p.x hx,
    (
      more 89 (millimetres p.y),
      millimetres_in_word
          p.y hy,
      (more 70 (decimal rates.travel_feed), decimal_in_word rates.travel_feed hf, tt),
    ),
  ),
)

pub print_are_words : (rates : Rates) (p : Pt) (e : ℕ) → unsigned_abs p.x < 10 ^ 64 → unsigned_abs p.y < 10 ^ 64
    → e < 10 ^ 64 → rates.print_feed < 10 ^ 64 → AreWords (print_words rates p e)
print_are_words rates p e hx hy he hf = (
  refl,
  refl,
  (
    more 88 (millimetres p.x),
    millimetres_in_word p.x hx,
    (
      more 89 (millimetres p.y),
      millimetres_in_word
          p.y hy,
      (
        more 69 (fixed 5 e),
        five_in_word e he,
        (
          more 70 (decimal rates.print_feed),
          decimal_in_word
              rates.print_feed hf,
          tt,
        ),
      ),
    ),
  ),
)

pub height_are_words : (rates : Rates) (z : ℕ) → z < 10 ^ 64 → rates.travel_feed < 10 ^ 64
    → AreWords (height_words rates z)
height_are_words rates z hz hf = (
  refl,
  refl,
  (
    more 90 (fixed 3 z),
    three_in_word z hz,
    (
      more 70 (decimal rates.travel_feed),
      decimal_in_word
          rates.travel_feed hf,
      tt,
    ),
  ),
)

abbrev pub heat_words : List ℕ → ℕ → List (List ℕ)
heat_words command degrees = command ∷ (83 ∷ decimal degrees) ∷ []

pub heat_line_is : (command : List ℕ) (degrees : ℕ) → heat_line command degrees ≡ spaced (heat_words command degrees) ++
    10 ∷ []
unfolding heat_line
heat_line_is command degrees = heat_regrouped command (codes " S") (decimal degrees) (codes "\n")

pub heat_are_words : (command : List ℕ) (degrees : ℕ) → nat_lt 0 (length command) ≡ true → list_all in_word command
    ≡ true → degrees < 10 ^ 64 → AreWords (heat_words command degrees)
heat_are_words command degrees a b h = (a, b, (more 83 (decimal degrees), decimal_in_word degrees h, tt))

pub heat_given : (n : ℕ) (t : List ℕ) (v : ℤ) → number 5 t ≡ Some v →
    with_words any n Plain ((83 ∷ t) ∷ []) nothing_given
    ≡ Ok (record { x = None; y = None; z = None; e = None; feed = false; setting = true })
unfolding with_words with_word takes was_given with_number
heat_given n t v e = rw e refl

pub decimal_no_feed : (n : ℕ) → n < 10 ^ 64 → list_all (λ b. not (b == 10)) (decimal n) ≡ true
decimal_no_feed n h = list_all-weaken is_ascii_digit (λ b. not (b == 10)) digit_no_feed (decimal n)
    (digits_alone (decimal n) (decimal_digits n h))
  where
    digit_no_feed : (b : ℕ) → is_ascii_digit b ≡ true → not (b == 10) ≡ true
    digit_no_feed b h = grind (arith, nat_tests)

pub no_feed_in : (ws : List (List ℕ)) → AreWords ws → list_all (λ b. not (b == 10)) (spaced ws) ≡ true
no_feed_in ws h = list_all-weaken in_line (λ b. not (b == 10)) no_feed (spaced ws) (spaced_in_line ws h)

-- a line that begins with a comment has no words
front_semicolon : (k : ℕ) (rest : List ℕ) → without_comment (take k (59 ∷ rest)) ≡ []
unfolding without_comment
front_semicolon zero rest = refl
front_semicolon (suc k) rest = refl

pub comment_back : (rest : List ℕ) → line_words (59 ∷ rest) ≡ []
unfolding without_return words
comment_back rest = ap words (by_test (slice_index (59 ∷ rest) (length (59 ∷ rest) - 1) == 13))
  where
    by_test : (b : Bool) → without_comment (cond b (take (length (59 ∷ rest) - 1) (59 ∷ rest)) (59 ∷ rest)) ≡ []
    by_test true = front_semicolon (length (59 ∷ rest) - 1) rest
    by_test false = ap without_comment (sym (take_all (length (59 ∷ rest)) (59 ∷ rest) (omega arith))) ∙ front_semicolon
        (length (59 ∷ rest)) rest
