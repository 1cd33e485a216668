-- What is printed piece by piece.
use Rattle.std.proofs.Common.{◌≡◌, ℕ, ◌+◌, ◌<◌, ◌≤◌, List, [], ◌∷◌, ◌++◌, take, drop, get_or, length, sym, ap, subst, ◌∙◌}
use Rattle.std.proofs.lemmas.List.{append_assoc, append-nil, at_drop_more, at_drop_all}
use Rattle.std.proofs.Math.Seq.{take-append_seam}
use Rattle.scad_base.proofs.Appends.{begins, begins_on}
use Rattle.text_scan.specs.Printing.{Printed, Holds, Adds}

pub none : (o : Printed) → Adds [] o o
none o = record { whole = λ w. w; text_is = λ w. sym (append-nil o.text); begins = begins [] (sym (append-nil o.text)) }

pub two : {a b : List ℕ} {o1 o2 o3 : Printed} → Adds a o1 o2 → Adds b o2 o3 → Adds (a ++ b) o1 o3
two {a} {b} {o1} x y = record {
  whole = λ w. x.whole (y.whole w);
  text_is = λ w. y.text_is w ∙ ap (λ t. t ++ b) (x.text_is (y.whole w)) ∙ append_assoc o1.text a b;
  begins = begins_on x.begins y.begins;
}

pub three : {a b c : List ℕ} {o1 o2 o3 o4 : Printed} → Adds a o1 o2 → Adds b o2 o3 → Adds c o3 o4
    → Adds (a ++ b ++ c) o1 o4
three x y z = two (two x y) z

pub four : {a b c d : List ℕ} {o1 o2 o3 o4 o5 : Printed} → Adds a o1 o2 → Adds b o2 o3 → Adds c o3 o4 → Adds d o4 o5
    → Adds (a ++ b ++ c ++ d) o1 o5
four x y z w = two (three x y z) w

-- what was added, in other words
pub that : {a b : List ℕ} {o1 o2 : Printed} → a ≡ b → Adds a o1 o2 → Adds b o1 o2
that {o1 = o1} {o2} same x = subst (λ t. Adds t o1 o2) same x

-- behind what was printed, pieces that were printed at once
pub behind_two : {a : List ℕ} (b c : List ℕ) {o1 o2 o3 : Printed} → Adds a o1 o2 → Adds (b ++ c) o2 o3
    → Adds (a ++ b ++ c) o1 o3
behind_two {a} b c x y = that (sym (append_assoc a b c)) (two x y)

pub behind_three : {a : List ℕ} (b c d : List ℕ) {o1 o2 o3 : Printed} → Adds a o1 o2 → Adds (b ++ c ++ d) o2 o3
    → Adds (a ++ b ++ c ++ d) o1 o3
behind_three b c d x y = that (simp append_assoc) (two x y)

-- a whole text is the text before and what was added
pub whole_text : {before a t : List ℕ} {o1 o2 : Printed} → Holds before o1 → Adds a o1 o2 → Holds t o2
    → t ≡ before ++ a
whole_text {a = a} first x held =
    sym held.text_is ∙ x.text_is held.whole ∙ ap (λ t. t ++ a) first.text_is

-- a text that is cut back is the text before
pub cut_back : {before a t : List ℕ} {kept : ℕ} {o1 o2 : Printed} → kept ≡ length before → Holds before o1
    → Adds a o1 o2 → t ≡ take kept o2.text → t ≡ before
cut_back {before} {o2 = o2} long first x cut =
    cut ∙ ap (λ n. take n o2.text) long
    ∙ ap (take (length before)) (x.begins.is ∙ ap (λ t. t ++ x.begins.rest) first.text_is)
    ∙ take-append_seam before x.begins.rest

-- ---- loops: what is left at an item, and behind the last
pub next_or : {X Y : Type 0} (F : List X → Y) (d : X) {there all : List X} {i : ℕ} {x : X} → there ≡ all
    → i < length there → x ≡ get_or there i d → F (x ∷ drop (i + 1) all) ≡ F (drop i all)
next_or F d {there} {all} {i} {x} are below is =
    ap (λ xs. F (x ∷ drop (i + 1) xs)) (sym are) ∙ ap (λ y. F (y ∷ drop (i + 1) there)) is
    ∙ sym (at_drop_more F there i d below) ∙ ap (λ xs. F (drop i xs)) are

pub next : {X Y : Type 0} (F : List X → Y) {there all : List X} {i : ℕ} {x : X} → there ≡ all → i < length there
    → x ≡ get_or there i x → F (x ∷ drop (i + 1) all) ≡ F (drop i all)
next F {x = x} are below is = next_or F x are below is

pub last : {X Y : Type 0} (F : List X → Y) {there all : List X} {i : ℕ} → there ≡ all → length there ≤ i
    → F [] ≡ F (drop i all)
last F {there} {all} {i} are past = sym (at_drop_all F there i past) ∙ ap (λ xs. F (drop i xs)) are
