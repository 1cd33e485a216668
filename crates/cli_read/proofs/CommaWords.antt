-- The words of the line of an outline.
use Rattle.std.proofs.Common.{◌≡◌, ℕ, ◌+◌, ◌^◌, ◌<◌, ◌≤◌, List, [], ◌∷◌, ◌++◌, length, take, drop, get_or, refl, ap, ap₂, sym, subst, ◌∙◌, arith, append_assoc, Some, ◌⊎◌, inl, inr}
use Rattle.std.specs.Prelude.{bytes_eq, ◌==◌, codes}
use Rattle.std.specs.Fmt.{decimal, signed_decimal}
use Rattle.std.specs.List.{flat_map, join_with_byte, AllByRecursion}
use Rattle.std.proofs.Math.ListN.{drop_of_length-le}
use Rattle.std.proofs.lemmas.Bool.{cases_lt}
use Rattle.std.proofs.lemmas.List.{append-nil, take_at, drop_at, drop_more, take_all, take-append-drop}
use Rattle.std.proofs.lemmas.List.Concat.{flat_map-cons}
use Rattle.std.proofs.lemmas.List.Splits.{slice_split_at, slice_split_none, join_with_byte-slice_split}
use Rattle.std.proofs.lemmas.Option.{cond_some}
use Rattle.std.proofs.lemmas.Slice.Eq.{bytes_eq-Decides}
use Rattle.scad_geom.specs.declared.point.Pt.{Pt}
use Rattle.scad_geom.specs.Limits.{coordinate_limit}
use Rattle.scad_geom.specs.Within.{IsWithin}
use Rattle.text_scan.specs.Marks.{first_at}
use Rattle.text_scan.proofs.Pieces.{one_piece, first_piece}
use Rattle.cli_text.specs.Cli.{point_text}
use Rattle.cli_read.specs.Reading.{comma, words, words_behind, behind}
use Rattle.cli_read.proofs.Numbers.{Lacks, decimal_lacks, signed_lacks, same_bytes}

-- ---- starts

pub behind_is : (start text rest : List ℕ) → behind start text ≡ Some rest → text ≡ start ++ rest
unfolding behind
behind_is start text rest e =
    let c = cond_some (bytes_eq (take (length start) text) start) (drop (length start) text) rest e in
    sym (take-append-drop (length start) text)
    ∙ ap (λ (front : List ℕ). front ++ drop (length start) text) ((bytes_eq-Decides (take (length start) text) start).0
    c.0)
    ∙ ap (λ (back : List ℕ). start ++ back) c.1

pub behind_back : (start rest : List ℕ) → behind start (start ++ rest) ≡ Some rest
unfolding behind
behind_back start rest = rw (
  take_at start rest (length start) refl,
  drop_at start rest (length start) refl,
  same_bytes
      start,
) refl

-- ---- words

one_word : (word : List ℕ) → Lacks comma word → words word ≡ word ∷ []
one_word word h = slice_split_none (λ (b : ℕ). b == comma) word h

word_more : (word rest : List ℕ) → Lacks comma word → words (word ++ comma ∷ rest) ≡ word ∷ words rest
word_more word rest h = slice_split_at (λ (b : ℕ). b == comma) word comma rest h refl

-- texts of the same words are one
pub same_words : (a b : List ℕ) → words a ≡ words b → a ≡ b
same_words a b e = sym (join_with_byte-slice_split comma a) ∙ ap (join_with_byte comma) e ∙ join_with_byte-slice_split
    comma b

abbrev pub coordinate_words : List Pt → List (List ℕ)
coordinate_words [] = []
coordinate_words (p ∷ ps) = signed_decimal p.x ∷ signed_decimal p.y ∷ coordinate_words ps

abbrev pub points_text : List Pt → List ℕ
points_text ps = flat_map point_text ps

regrouped : (x y rest : List ℕ) → (codes "," ++ x ++ codes "," ++ y) ++ rest ≡ comma ∷ (x ++ comma ∷ (y ++ rest))
regrouped x y rest = simp append_assoc

points_text_is : (p : Pt) (ps : List Pt) → points_text (p ∷ ps)
    ≡ comma ∷ (signed_decimal p.x ++ comma ∷ (signed_decimal p.y ++ points_text ps))
points_text_is p ps = flat_map-cons point_text p ps ∙ regrouped (signed_decimal p.x) (signed_decimal p.y)
    (points_text ps)

-- the first word, and those behind it
pub first_word : (text : List ℕ) (at : ℕ) → at ≡ first_at comma text → at ≤ length text
    → words text ≡ take at text ∷ words_behind (drop at text)
first_word text at is within = by_size (cases_lt at (length text))
  where
    by_size : (at < length text) ⊎ (length text ≤ at) → words text ≡ take at text ∷ words_behind (drop at text)
    by_size (inl h) =
        let there : drop at text ≡ get_or text at 0 ∷ drop (at + 1) text = drop_more text at 0 h in
        subst (λ (k : ℕ). words text ≡ take k text ∷ words (drop (k + 1) text)) (sym is)
        (first_piece comma text (omega arith))
        ∙ ap (λ (rest : List ℕ). take at text ∷ words_behind rest) (sym there)
    by_size (inr h) =
        one_piece comma text (omega arith)
        ∙ ap₂ (λ (w : List ℕ) (ws : List (List ℕ)). w ∷ ws) (sym (take_all at text h))
        (sym (ap words_behind (drop_of_length-le text h)))

-- the words of a word and points behind it
pub words_of_points : (word : List ℕ) (ps : List Pt) → Lacks comma word → AllByRecursion (IsWithin coordinate_limit) ps
    → words (word ++ points_text ps) ≡ word ∷ coordinate_words ps
words_of_points word [] h near = ap words (append-nil word) ∙ one_word word h
words_of_points word (p ∷ ps) h near =
    let x = signed_lacks comma p.x (omega arith) near.0.x in
    let y = signed_lacks comma p.y (omega arith) near.0.y in
    ap (λ (t : List ℕ). words (word ++ t)) (points_text_is p ps)
    ∙ word_more word (signed_decimal p.x ++ comma ∷ (signed_decimal p.y ++ points_text ps)) h
    ∙ ap (λ (ws : List (List ℕ)). word ∷ ws) (word_more (signed_decimal p.x) (signed_decimal p.y ++ points_text ps) x)
    ∙ ap (λ (ws : List (List ℕ)). word ∷ signed_decimal p.x ∷ ws) (words_of_points (signed_decimal p.y) ps y near.1)

outline_regrouped : (a b c : List ℕ) → a ++ codes "," ++ b ++ c ≡ a ++ comma ∷ (b ++ c)
outline_regrouped a b c = simp append_assoc

-- the words of an outline: its direction, the number of its points, and these
pub words_of_outline : (direction count : ℕ) (ps : List Pt) → direction < 2 ^ 32 → count < 2 ^ 32
    → AllByRecursion (IsWithin coordinate_limit) ps →
    words (decimal direction ++ codes "," ++ decimal count ++ points_text ps) ≡ decimal direction ∷ decimal count
    ∷ coordinate_words ps
words_of_outline direction count ps d c near =
    ap words (outline_regrouped (decimal direction) (decimal count) (points_text ps))
    ∙ word_more (decimal direction) (decimal count ++ points_text ps) (decimal_lacks comma direction (omega arith)
    (omega arith))
    ∙ ap (λ (ws : List (List ℕ)). decimal direction ∷ ws) (words_of_points (decimal count) ps
    (decimal_lacks comma count (omega arith) (omega arith)) near)
