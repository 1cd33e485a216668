-- Hatches are read of their line, and of no other.
use Rattle.std.proofs.Common.{◌≡◌, ℕ, ◌≤◌, true, cond, List, [], ◌∷◌, ◌++◌, length, nat_le, refl, ap, sym, subst, ◌∙◌, arith, append_assoc, Ok, Err, ◌<◌, ◌^◌}
use Rattle.std.specs.Prelude.{◌==◌}
use Rattle.std.specs.Fmt.{decimal}
use Rattle.std.specs.List.{flat_map, AllByRecursion}
use Rattle.std.proofs.lemmas.Bool.{eqb-true}
use Rattle.std.proofs.lemmas.Bool.Decides.{nat_tests}
use Rattle.std.proofs.lemmas.List.Concat.{flat_map-cons}
use Rattle.scad_geom.specs.declared.point.Pt.{Pt}
use Rattle.scad_geom.specs.Limits.{coordinate_limit}
use Rattle.scad_geom.specs.Within.{IsWithin, IsEdgeWithin}
use Rattle.scad_geom.specs.declared.point.Edge.{Edge}
use Rattle.cli_text.specs.Cli.{point_text, hatch_text, hatches_start}
use Rattle.cli_read.specs.declared.fault.CliFault.TheVariants.{BadLine, CountDiffers}
use Rattle.cli_read.specs.Form.{AreHatches, IsHatchesLine}
use Rattle.cli_read.specs.Reading.{◌>>=◌, comma, or_bad, words, count_of, points_at, paired_at, some_at, hatched, hatches_at}
use Rattle.cli_read.proofs.Results.{bind_ok, bound, ok_is, passed, or_bad_ok}
use Rattle.cli_read.proofs.Numbers.{count_text, count_back, decimal_lacks}
use Rattle.cli_read.proofs.CommaWords.{coordinate_words, points_text, same_words, words_of_points}
use Rattle.cli_read.proofs.Outlines.{points_are, points_back}

-- ---- points of hatches

-- the first and the last point of each
abbrev pub ends_of : List Edge → List Pt
ends_of [] = []
ends_of (h ∷ hs) = h.a ∷ h.b ∷ ends_of hs

-- hatches are written as their points are
pub points_of_hatches : (hs : List Edge) → flat_map hatch_text hs ≡ points_text (ends_of hs)
points_of_hatches [] = refl
points_of_hatches (h ∷ hs) =
    flat_map-cons hatch_text h hs
    ∙ ap (λ (t : List ℕ). hatch_text h ++ t) (points_of_hatches hs)
    ∙ append_assoc (point_text h.a) (point_text h.b) (points_text (ends_of hs))
    ∙ ap (λ (t : List ℕ). point_text h.a ++ t) (sym (flat_map-cons point_text h.b (ends_of hs)))
    ∙ sym (flat_map-cons point_text h.a (h.b ∷ ends_of hs))

pub ends_near : (hs : List Edge) → AllByRecursion (IsEdgeWithin coordinate_limit) hs
    → AllByRecursion (IsWithin coordinate_limit) (ends_of hs)
ends_near [] near = tt
ends_near (h ∷ hs) near = (near.0.a, (near.0.b, ends_near hs near.1))

near_again : (hs : List Edge) → AllByRecursion (IsWithin coordinate_limit) (ends_of hs)
    → AllByRecursion (IsEdgeWithin coordinate_limit) hs
near_again [] near = tt
near_again (h ∷ hs) near = (record { a = near.0; b = near.1.0 }, near_again hs near.1.1)

paired_are : (n : ℕ) (ps : List Pt) (hs : List Edge) → paired_at n ps ≡ Ok hs → ps ≡ ends_of hs
unfolding paired_at
paired_are n [] hs e = ap ends_of (ok_is [] hs e)
paired_are n (a ∷ []) hs e = absurd cc
paired_are n (a ∷ b ∷ rest) hs e =
    let hatch : Edge = record { a = a; b = b } in
    let m = bind_ok (paired_at n rest) (λ more. Ok (hatch ∷ more)) hs e in
    let more = paired_are n rest m.0 m.1 in
    (λ i. a ∷ b ∷ more i) ∙ ap ends_of (ok_is (hatch ∷ m.0) hs m.2)

paired_back : (n : ℕ) (hs : List Edge) → paired_at n (ends_of hs) ≡ Ok hs
unfolding paired_at
paired_back n [] = refl
paired_back n (h ∷ hs) = rw (paired_back n hs) refl

-- ---- lines of hatches

abbrev HatchWords : List (List ℕ) → List Edge → Type 0
HatchWords ws hs = (1 ≤ length hs) × (ws ≡ decimal (length hs) ∷ coordinate_words (ends_of hs)) × AreHatches hs

some_is : (n : ℕ) (word : List ℕ) (count : ℕ) → some_at n word ≡ Ok count
    → (word ≡ decimal count) × (count < 2 ^ 32) × (1 ≤ count)
some_is n word count e =
    let s = bind_ok (or_bad n (count_of word)) (λ k. cond (nat_le 1 k) (Ok k) (Err (BadLine n))) count e in
    told s.0 (passed (nat_le 1 s.0) (BadLine n) s.0 count s.2)
    (count_text word s.0 (or_bad_ok n (count_of word) s.0 s.1))
  where
    told : (k : ℕ) → (nat_le 1 k ≡ true) × (k ≡ count) → (word ≡ decimal k) × (k < 2 ^ 32)
        → (word ≡ decimal count) × (count < 2 ^ 32) × (1 ≤ count)
    told k p is =
        let some = p.0 in
        let one : 1 ≤ k = grind (arith, nat_tests) in
        (is.0 ∙ ap decimal p.1, omega (arith, is.1, p.1), omega (arith, one, p.1))

-- by what each of the words says
words_are : (said : List ℕ) (rest : List (List ℕ)) (count : ℕ) (points : List Pt) (found hs : List Edge)
    → (said ≡ decimal count) × (count < 2 ^ 32) × (1 ≤ count)
    → (rest ≡ coordinate_words points) × AllByRecursion (IsWithin coordinate_limit) points → points ≡ ends_of found
    → (count == length found ≡ true) × (found ≡ hs) → HatchWords (said ∷ rest) hs
words_are said rest count points found hs s p pairs d =
    let is : count ≡ length found = eqb-true count (length found) d.0 in
    subst (HatchWords (said ∷ rest)) d.1 (
      omega (arith, s.2, is),
      (λ i. (s.0 ∙ ap decimal is) i ∷ (p.0 ∙ ap coordinate_words pairs) i),
      record {
        count = omega (arith, s.1, is);
        near = near_again found (subst (AllByRecursion (IsWithin coordinate_limit)) pairs p.1);
      },
    )

hatches_are : (n : ℕ) (ws : List (List ℕ)) (hs : List Edge) → hatches_at n ws ≡ Ok hs → HatchWords ws hs
unfolding hatches_at
hatches_are n [] hs e = absurd cc
hatches_are n (said ∷ rest) hs e =
    bound (some_at n said) (λ count. points_at n rest >>= λ points. paired_at n points >>=
    λ found. hatched count found) hs e (λ count s f.
    bound (points_at n rest) (λ points. paired_at n points >>= λ found. hatched count found) hs f (λ points p g.
    bound (paired_at n points) (λ found. hatched count found) hs g (λ found q h.
    words_are said rest count points found hs (some_is n said count s) (points_are n rest points p)
    (paired_are n points found q)
    (passed (count == length found) (CountDiffers count (length found)) found hs h))))

hatches_back : (n : ℕ) (hs : List Edge) → 1 ≤ length hs → AreHatches hs
    → hatches_at n (decimal (length hs) ∷ coordinate_words (ends_of hs)) ≡ Ok hs
unfolding hatches_at
hatches_back n hs some kind =
    let one : nat_le 1 (length hs) ≡ true = grind (arith, nat_tests) in
    let same : length hs == length hs ≡ true = grind (arith, nat_tests) in
    rw (
      count_back (length hs) kind.count,
      one,
      points_back n (ends_of hs) (ends_near hs kind.near),
      paired_back n hs,
      same,
    ) refl

words_of_hatches : (hs : List Edge) → AreHatches hs
    → words (decimal (length hs) ++ points_text (ends_of hs)) ≡ decimal (length hs) ∷ coordinate_words (ends_of hs)
words_of_hatches hs kind = words_of_points (decimal (length hs)) (ends_of hs)
    (decimal_lacks comma (length hs) (omega arith) (omega (arith, kind.count))) (ends_near hs kind.near)

-- what stands behind the start of the line
pub hatches_text_is : (n : ℕ) (text : List ℕ) (hs : List Edge) → hatches_at n (words text) ≡ Ok hs
    → IsHatchesLine (hatches_start ++ text) hs
hatches_text_is n text hs e =
    let w = hatches_are n (words text) hs e in
    let count = decimal (length hs) in
    let is : text ≡ count ++ points_text (ends_of hs) =
    same_words text (count ++ points_text (ends_of hs)) (w.1 ∙ sym (words_of_hatches hs w.2)) in
    record {
      some = w.0;
      is = ap (λ (t : List ℕ). hatches_start ++ t) (is ∙ ap (λ (t : List ℕ). count ++ t) (sym (points_of_hatches hs)))
          ∙ sym (append_assoc hatches_start count (flat_map hatch_text hs));
      kind = w.2;
    }

pub hatches_text_back : (n : ℕ) (hs : List Edge) → 1 ≤ length hs → AreHatches hs
    → hatches_at n (words (decimal (length hs) ++ flat_map hatch_text hs)) ≡ Ok hs
hatches_text_back n hs some kind =
    ap (λ (t : List ℕ). hatches_at n (words (decimal (length hs) ++ t))) (points_of_hatches hs)
    ∙ ap (hatches_at n) (words_of_hatches hs kind)
    ∙ hatches_back n hs some kind
