-- The places of a row that aren't free: outlines wind round them, or they lie near to a side.
use Rattle.std.proofs.Common.{◌≡◌, ◌⊎◌, inl, inr, ℕ, zero, suc, ◌+◌, ◌*◌, ◌<◌, ◌≤◌, ltb, Bool, true, false, not, Option, List, [], ◌∷◌, ◌++◌, length, get_or, flat_map, refl, sym, ap, subst, ◌∙◌, arith, ℤ, pos, ◌+ℤ◌, ◌-ℤ◌}
use lib.Signed.{◌≤ℤ◌}
use Rattle.std.specs.Prelude.{All, unsigned_abs, ◌||◌, option_to_list}
use Rattle.std.proofs.lemmas.Int.{ints}
use Rattle.std.proofs.lemmas.Bool.{both_ways}
use Rattle.std.proofs.lemmas.List.Folds.{list_any-append}
use Rattle.std.proofs.lemmas.List.Elements.{All-append, All-contains}
use Rattle.scad_geom.specs.declared.point.Pt.{Pt}
use Rattle.scad_geom.specs.declared.point.Edge.{Edge}
use Rattle.scad_geom.specs.Point.{whole}
use Rattle.scad_geom.specs.Segment.{segments}
use Rattle.scad_geom.specs.Loop.{sides}
use Rattle.scad_geom.specs.Winding.{wind}
use Rattle.scad_geom.specs.Near.{IsClear, MeetsBox}
use Rattle.std.specs.Ordering.{int_eq}
use Rattle.std.proofs.lemmas.Bool.Decides.{Decides-int_eq}
use borrow.Author.Tests.{ltb-true, ltb-false}
use Rattle.plan_infill.specs.declared.line.Line.TheVariants.{Row as AtHeight}
use Rattle.plan_infill.specs.declared.run.Run.{Run}
use Rattle.plan_infill.specs.Runs.{IsRun, AreRuns}
use Rattle.plan_infill.proofs.Beyond.{extent, none_far}
use Rattle.plan_infill.proofs.DeepRuns.{deep_by_nothing}
use Rattle.plan_support.specs.On.{has_place, is_on}
use Rattle.plan_support.specs.Spans.{point_at, IsWound}
use Rattle.plan_support.specs.Near.{IsPlace, AreNear, AreHoles}
use Rattle.plan_support.proofs.Canonical.{run_there, place_on}
use Rattle.plan_support.proofs.Wholly.{start_of, end_of}
use Rattle.plan_support.proofs.HeightRows.{same_height, other_height}
use Rattle.scad_geom.proofs.Rising.{by_order, order}

-- ---- the runs of a row lie where outlines wind round
module _ (outlines : List (List Pt)) (y : ℤ) where
  abbrev pub turns : ℤ → ℤ
  turns x = wind (whole (point_at x y)) (segments (flat_map sides outlines))

  abbrev test : ℤ → Bool
  test x = not (int_eq (turns x) (pos 0))

  test_wound : (x : ℤ) → test x ≡ true → IsWound outlines (point_at x y)
  test_wound x h e = both_ways _ (ap (λ (t : Bool). not t) (same_height (turns x) (pos 0) e)) h

  wound_test : (x : ℤ) → IsWound outlines (point_at x y) → test x ≡ true
  wound_test x w = ap (λ (t : Bool). not t) (other_height (turns x) (pos 0) w)

  none_test : (x : ℤ) → turns x ≡ pos 0 → test x ≡ false
  none_test x e = ap (λ (t : Bool). not t) (same_height (turns x) (pos 0) e)

  module _ (rs : List Run) (are : AreRuns outlines 0 (AtHeight y) 0 rs) where
    wound_on : (x : ℤ) → is_on rs x ≡ true → turns x ≡ pos 0 → ⊥
    wound_on x o =
        let r = run_there rs x o in
        ((All-contains (IsRun outlines 0 (AtHeight y) 0) rs r.run are.each r.there).deep x r.from r.to).inside

    on_wound : (x : ℤ) → IsWound outlines (point_at x y) → is_on rs x ≡ true
    on_wound x w =
        let n = extent (flat_map sides outlines) in
        let s = start_of test (unsigned_abs x + n + 1) x
        (λ z o. none_test z (none_far outlines (AtHeight y) z (inl (omega (arith, ints, o))))) (wound_test x w) in
        let e = end_of test (unsigned_abs x + n + 1) x
        (λ z o. none_test z (none_far outlines (AtHeight y) z (inr (omega (arith, ints, o))))) (wound_test x w) in
        let low = s.low in
        let high = e.high in
        let r : Run = record { from = s.from; to = e.to } in
        let run : IsRun outlines 0 (AtHeight y) 0 r = record {
          long = omega (arith, ints, low, high);
          deep = λ z a b. deep_by_nothing outlines (point_at z y) (test_wound z (by_order (order z x)
              (λ o. s.holds z a o) (λ o. e.holds z (omega (arith, ints, o)) b)));
          before = λ d. both_ways (test (s.from -ℤ pos 1)) s.before (wound_test (s.from -ℤ pos 1) d.inside);
          after = λ d. both_ways (test (e.to +ℤ pos 1)) e.after (wound_test (e.to +ℤ pos 1) d.inside);
        } in
        place_on rs r x (are.all r run) low high

    off_wound : (x : ℤ) → is_on rs x ≡ false → turns x ≡ pos 0
    off_wound x o = by_test (int_eq (turns x) (pos 0)) refl
      where
        by_test : (t : Bool) → int_eq (turns x) (pos 0) ≡ t → turns x ≡ pos 0
        by_test true e = (Decides-int_eq (turns x) (pos 0)).0 e
        by_test false e = absurd (both_ways _ o (on_wound x (test_wound x (ap (λ (t : Bool). not t) e))))

-- ---- so many sides have been looked at
abbrev pub IsFar : ℕ → ℤ → ℤ → Edge → Type 0
IsFar gap y x e = IsClear (pos (2 * gap)) (whole (point_at x y)) (whole e.a) (whole e.b)

pub record HoledUpTo (outlines : List (List Pt)) (y : ℤ) (gap i : ℕ) (holes : List Run) : Type 0 where
  pub places : All (λ (r : Run). r.from ≤ℤ r.to) holes
  pub outside : (x : ℤ) → IsPlace x → is_on holes x ≡ false → turns outlines y x ≡ pos 0
  pub far : (x : ℤ) → IsPlace x → is_on holes x ≡ false → (k : ℕ) (d : Edge) → k < i
      → k < length (flat_map sides outlines) → IsFar gap y x (get_or (flat_map sides outlines) k d)
  pub taken : (x : ℤ) → IsPlace x → is_on holes x ≡ true → turns outlines y x ≡ pos 0
      → ((k : ℕ) (d : Edge) → k < i → k < length (flat_map sides outlines)
      → IsFar gap y x (get_or (flat_map sides outlines) k d)) → ⊥

pub holed_start : (outlines : List (List Pt)) (y : ℤ) (gap : ℕ) (rs : List Run) → AreRuns outlines 0 (AtHeight y) 0 rs
    → HoledUpTo outlines y gap 0 rs
holed_start outlines y gap rs are = record {
  places = λ k d l. let s = are.each k d l in let h = s.long in omega (arith, ints, h);
  outside = λ x p o. off_wound outlines y rs are x o;
  far = λ x p o k d l m. absurd (omega (arith, l));
  taken = λ x p o e c. wound_on outlines y rs are x o e;
}

-- the nearest thing to one more
by_last : (P : ℕ → Type 0) (i : ℕ) → ((k : ℕ) → k < i → P k) → P i → (k : ℕ) → k < i + 1 → P k
by_last P i f g k l = by_test (ltb k i) refl
  where
    by_test : (t : Bool) → ltb k i ≡ t → P k
    by_test true e = f k (omega (arith, ltb-true k i e))
    by_test false e = subst P (omega (arith, ltb-false k i e)) g

module _ (outlines : List (List Pt)) (y : ℤ) (gap i : ℕ) (holes : List Run) (e : Edge) (found : Option Run)
    (h : HoledUpTo outlines y gap i holes) (n : AreNear e y gap found) where
  both_off : (p q : Bool) → (p || q) ≡ false → (p ≡ false) × (q ≡ false)
  both_off false q h = (refl, h)
  both_off true q h = absurd (both_ways _ h refl)

  one_on : (p q : Bool) → (p || q) ≡ true → (p ≡ true) ⊎ (q ≡ true)
  one_on true q h = inl refl
  one_on false q h = inr h

  on_more : (x : ℤ) → is_on (holes ++ option_to_list found) x ≡ (is_on holes x || is_on (option_to_list found) x)
  on_more x = list_any-append (λ (r : Run). has_place r x) holes (option_to_list found)

  off_parts : (x : ℤ) → is_on (holes ++ option_to_list found) x ≡ false
      → (is_on holes x ≡ false) × (is_on (option_to_list found) x ≡ false)
  off_parts x o = both_off (is_on holes x) (is_on (option_to_list found) x) (sym (on_more x) ∙ o)

  pub holed_more : (i < length (flat_map sides outlines) → (d : Edge) → e ≡ get_or (flat_map sides outlines) i d)
      → i < length (flat_map sides outlines) → HoledUpTo outlines y gap (i + 1) (holes ++ option_to_list found)
  holed_more is l = record {
    places = All-append (λ (r : Run). r.from ≤ℤ r.to) holes (option_to_list found) h.places n.some;
    outside = λ x p o. h.outside x p (off_parts x o).0;
    far = λ x p o k d b m. by_last
        (λ (k : ℕ). k < length (flat_map sides outlines) → IsFar gap y x (get_or (flat_map sides outlines) k d)) i
        (λ k b m. h.far x p (off_parts x o).0 k d b m)
        (λ m. subst (IsFar gap y x) (is l d) (n.clear x p (off_parts x o).1)) k b m;
    taken = λ x p o t c. elim (one_on (is_on holes x) (is_on (option_to_list found) x) (sym (on_more x) ∙ o)) [
      | inl a ↦ h.taken x p a t (λ k d b m. c k d (omega (arith, b)) m)
      | inr a ↦ touches x (n.meets x p a) (subst (IsFar gap y x) (sym (is l e)) (c i e (omega arith) l))
    ];
  }
    where
      touches : (x : ℤ) → MeetsBox (pos (2 * gap)) (whole (point_at x y)) (whole e.a) (whole e.b) → IsFar gap y x e → ⊥
      touches x m f = f m.s m.t m.from m.to m.some m.close

pub at_any : (xs : List Edge) (i : ℕ) (d e : Edge) → i < length xs → get_or xs i d ≡ get_or xs i e
at_any [] i d e l = absurd (omega (arith, l))
at_any (x ∷ xs) zero d e l = refl
at_any (x ∷ xs) (suc i) d e l = at_any xs i d e (omega (arith, l))

-- ---- when all have been looked at
pub are_holes : (outlines : List (List Pt)) (y : ℤ) (gap i : ℕ) (holes united : List Run)
    → length (flat_map sides outlines) ≤ i → HoledUpTo outlines y gap i holes
    → ((x : ℤ) → is_on united x ≡ is_on holes x) → AreHoles outlines y gap united
are_holes outlines y gap i holes united l h same = record {
  free = λ x p o.
      let q = sym (same x) ∙ o in
      record { outside = h.outside x p q; clear = λ k d m. h.far x p q k d (omega (arith, l, m)) m };
  taken = λ x p o f. h.taken x p (sym (same x) ∙ o) f.outside (λ k d b m. f.clear k d m);
}
