-- The steps by which stays are made.
use Rattle.std.proofs.Common.{◌≡◌, ℕ, suc, ◌+◌, ◌-◌, ◌<◌, true, false, List, [], ◌∷◌, ◌++◌, length, get_or, drop, sym, ap, ◌∙◌, arith, append_assoc}
use Rattle.std.proofs.lemmas.List.{at_drop_more}
use lib.IntN.{ℤ}
use Rattle.scad_geom.specs.declared.point.Edge.{Edge}
use Rattle.scad_geom.specs.Line.{low, high}
use Rattle.slice_events.specs.declared.line.Line.{Line}
use Rattle.slice_events.specs.declared.stay.Stay.{Stay}
use Rattle.slice_events.specs.Boxes.{left_end}
use Rattle.slice_events.specs.Lines.{edges_in}
use Rattle.slice_events.specs.Stays.{bucket_of, later_stays, stays_from, stays_of, all_stays}

one_less : (b e : ℕ) → b < e → e - b ≡ suc (e - (b + 1))
one_less b e l = omega arith

later_step : (line b e : ℕ) (left : ℤ) → b < e
    → later_stays line left b (e - b) ≡ record { bucket = b; left = left; line = line; starts = false }
    ∷ later_stays line left (b + 1) (e - (b + 1))
later_step line b e left l =
    ap (λ (n : ℕ). later_stays line left b n) (one_less b e l)
    ∙ ap (λ (n : ℕ). record { bucket = b; left = left; line = line; starts = false }
    ∷ later_stays line left n (e - (b + 1))) (plus_one b)
  where
    plus_one : (n : ℕ) → suc n ≡ n + 1
    plus_one n = omega arith

-- a stay is pushed
pub pushed_later : (stays new whole : List Stay) (line b e : ℕ) (left : ℤ) → b < e
    → new ≡ stays ++ (record { bucket = b; left = left; line = line; starts = false } ∷ [])
    → stays ++ later_stays line left b (e - b) ≡ whole
    → new ++ later_stays line left (b + 1) (e - (b + 1)) ≡ whole
pushed_later stays new whole line b e left l h k =
    ap (λ (xs : List Stay). xs ++ later_stays line left (b + 1) (e - (b + 1))) h
    ∙ append_assoc stays (record { bucket = b; left = left; line = line; starts = false } ∷ [])
    (later_stays line left (b + 1) (e - (b + 1)))
    ∙ ap (λ (xs : List Stay). stays ++ xs) (sym (later_step line b e left l))
    ∙ k

-- the first of an edge and the later ones
pub stays_made : (stays one new : List Stay) (tall line first last : ℕ) (left : ℤ) (e : Edge)
    → left ≡ left_end e → first ≡ bucket_of tall (low e).y → last ≡ bucket_of tall (high e).y
    → one ≡ stays ++ (record { bucket = first; left = left; line = line; starts = true } ∷ [])
    → new ≡ one ++ later_stays line left (first + 1) (last - first) → new ≡ stays ++ stays_of tall line e
stays_made stays one new tall line first last left e hl hf hh p q =
    q
    ∙ ap (λ (xs : List Stay). xs ++ later_stays line left (first + 1) (last - first)) p
    ∙ append_assoc stays (record { bucket = first; left = left; line = line; starts = true } ∷ [])
    (later_stays line left (first + 1) (last - first))
    ∙ ap (λ (n : ℕ). stays ++ (record { bucket = first; left = left; line = line; starts = true }
    ∷ later_stays line left n (last - first))) (plus_one first)
    ∙ (λ i. stays ++ stays_from line (hl i) (hf i) (hh i - hf i))
  where
    plus_one : (n : ℕ) → n + 1 ≡ suc n
    plus_one n = omega arith

-- the first of the edges that are left, and those after it
pub next_stays : (tall : ℕ) (ls : List Line) (i : ℕ) (l : Line) → i < length ls → l ≡ get_or ls i l
    → all_stays tall i (edges_in (drop i ls))
    ≡ stays_of tall i l.edge ++ all_stays tall (i + 1) (edges_in (drop (i + 1) ls))
next_stays tall ls i l there is =
    let more : ℕ → List Stay = λ n. all_stays tall n (edges_in (drop (i + 1) ls)) in
    at_drop_more (λ (xs : List Line). all_stays tall i (edges_in xs)) ls i l there
    ∙ ap (λ (x : Line). stays_of tall i x.edge ++ more (suc i)) (sym is)
    ∙ ap (λ (n : ℕ). stays_of tall i l.edge ++ more n) (plus_one i)
  where
    plus_one : (n : ℕ) → suc n ≡ n + 1
    plus_one n = omega arith
