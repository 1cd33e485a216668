-- Loops can be drawn from balanced edges.
use Rattle.std.proofs.Common.{◌≡◌, ℕ, zero, suc, ◌<◌, ◌≤◌, Bool, true, false, true≢false, ◌⊎◌, inl, inr}
use Rattle.std.proofs.Common.{List, [], ◌∷◌, All, length, refl, sym, ap, ◌∙◌, arith}
use Rattle.std.specs.Prelude.{IsPermutation}
use Rattle.std.specs.Cmp.{IsStrictWeakOrder}
use Rattle.std.proofs.lemmas.List.Elements.{All-nil, All-cons, All-head, All-weaker}
use Rattle.std.proofs.lemmas.List.Sorted.{All-permutation, IsPermutation-refl, IsPermutation-sym, IsPermutation-trans}
use Rattle.std.proofs.lemmas.List.Sorted.{IsPermutation-cons, IsPermutation-middle, length_permutation}
use Rattle.scad_geom.specs.declared.point.Pt.{Pt}
use Rattle.scad_geom.specs.declared.point.Edge.{Edge}
use Rattle.scad_geom.specs.Segment.{segments}
use Rattle.scad_geom.specs.Balance.{IsBalanced}
use Rattle.scad_geom.proofs.Balance.{same_place, same_place-is, same_place-itself}
use Rattle.slice_loops.specs.Order.{is_less}
use Rattle.slice_loops.specs.Drawing.{TakesLeastFrom, LeadsBack, IsLoop, AreDrawn}
use Rattle.slice_loops.specs.Ascending.{NoneStarts}
use Rattle.slice_loops.proofs.Points.{less_order}
use Rattle.slice_loops.proofs.LoopClosure.{edge, balanced_permuted, goes_on, comes_back, one_starts}
use Rattle.slice_loops.proofs.Unique.{not_less_itself}

-- ---- the least of the edges that pass a test
less_is_strict : IsStrictWeakOrder is_less
less_is_strict = less_order

module _ (test : Edge → Bool) where
  -- an edge that passes isn't less
  abbrev NotLess : Edge → Edge → Type 0
  NotLess e f = test f ≡ true → is_less f e ≡ false

  record HasLeast (es : List Edge) : Type 0 where
    first : Edge
    others : List Edge
    passes : test first ≡ true
    taken : IsPermutation es (first ∷ others)
    least : All (NotLess first) others

  abbrev NonePasses : List Edge → Type 0
  NonePasses es = All (λ f. test f ≡ false) es

  alone : (e : Edge) (es : List Edge) → test e ≡ true → NonePasses es → HasLeast (e ∷ es)
  alone e es p none = record {
    first = e;
    others = es;
    passes = p;
    taken = IsPermutation-refl (e ∷ es);
    least = All-weaker (λ f. test f ≡ false) (NotLess e) (λ f n h. absurd (true≢false (sym h ∙ n))) es none;
  }

  behind : (e : Edge) (es : List Edge) (h : HasLeast es) → NotLess h.first e → HasLeast (e ∷ es)
  behind e es h n = record {
    first = h.first;
    others = e ∷ h.others;
    passes = h.passes;
    taken = IsPermutation-trans (e ∷ es) (e ∷ (h.first ∷ h.others)) (h.first ∷ (e ∷ h.others))
        (IsPermutation-cons e es (h.first ∷ h.others) h.taken) (IsPermutation-middle (e ∷ []) h.first h.others);
    least = All-cons (NotLess h.first) e h.others n h.least;
  }

  before : (e : Edge) (es : List Edge) (h : HasLeast es) → test e ≡ true → is_less h.first e ≡ false → HasLeast (e ∷ es)
  before e es h p n =
      let old : List Edge = h.first ∷ h.others in
      let all : All (NotLess h.first) old =
      All-cons (NotLess h.first) h.first h.others (λ t. not_less_itself h.first) h.least in
      record {
        first = e;
        others = es;
        passes = p;
        taken = IsPermutation-refl (e ∷ es);
        least = All-weaker (NotLess h.first) (NotLess e) (λ f k t. less_is_strict.chain f h.first e (k t) n) es
            (All-permutation (NotLess h.first) old es (IsPermutation-sym es old h.taken) all);
      }

  least_of : (es : List Edge) → HasLeast es ⊎ NonePasses es
  least_of [] = inr (All-nil (λ f. test f ≡ false))
  least_of (e ∷ es) = by_test (test e) refl (least_of es)
    where
      less : (h : HasLeast es) → test e ≡ true → (b : Bool) → is_less e h.first ≡ b → HasLeast (e ∷ es)
      less h p true l = before e es h p (less_is_strict.one_way e h.first l)
      less h p false l = behind e es h (λ t. l)

      by_test : (b : Bool) → test e ≡ b → HasLeast es ⊎ NonePasses es → HasLeast (e ∷ es) ⊎ NonePasses (e ∷ es)
      by_test true p (inr none) = inl (alone e es p none)
      by_test false p (inr none) = inr (All-cons (λ f. test f ≡ false) e es p none)
      by_test true p (inl h) = inl (less h p (is_less e h.first) refl)
      by_test false p (inl h) = inl (behind e es h (λ t. absurd (true≢false (sym t ∙ p))))

-- ---- the least that starts at a point
record HasLeastFrom (p : Pt) (es : List Edge) : Type 0 where
  first : Edge
  others : List Edge
  takes : TakesLeastFrom p es first others

module _ (p : Pt) (es : List Edge) where
  abbrev starts : Edge → Bool
  starts e = same_place e.a p

  passes_start : (e : Edge) → e.a ≡ p → starts e ≡ true
  passes_start e h = ap (λ (q : Pt). same_place q p) h ∙ same_place-itself p

  least_from : HasLeastFrom p es ⊎ NoneStarts p es
  least_from = by_cases (least_of starts es)
    where
      takes : (h : HasLeast starts es) → TakesLeastFrom p es h.first h.others
      takes h = record {
        starts = same_place-is h.first.a p h.passes;
        taken = h.taken;
        least = All-weaker (NotLess starts h.first) (λ f. f.a ≡ p → is_less f h.first ≡ false)
            (λ f n s. n (passes_start f s)) h.others h.least;
      }

      by_cases : HasLeast starts es ⊎ NonePasses starts es → HasLeastFrom p es ⊎ NoneStarts p es
      by_cases (inl h) = inl (record { first = h.first; others = h.others; takes = takes h })
      by_cases (inr none) =
          inr (All-weaker (λ f. starts f ≡ false) (λ f. f.a ≡ p → ⊥)
          (λ f n s. true≢false (sym (passes_start f s) ∙ n)) es none)

-- ---- a way back to the start, edge by edge
record HasWay (start at : Pt) (es : List Edge) : Type 0 where
  way : List Pt
  left : List Edge
  back : LeadsBack start way at es left
  balanced : IsBalanced (segments left)
  fewer : length left ≤ length es

fewer_others : (n k l : ℕ) → k ≤ suc n → suc l ≡ k → l ≤ n
fewer_others n k l h e = omega arith

module _ (start at : Pt) (es : List Edge) (b : IsBalanced (segments (edge start at ∷ es))) where
  is_back : at ≡ start → HasWay start at es
  is_back h = record {
    way = [];
    left = es;
    back = (h, refl);
    balanced = comes_back start at es h b;
    fewer = omega arith;
  }

  module _ (away : at ≡ start → ⊥) where
    -- an edge starts there
    further : HasLeastFrom at es
    further = by_cases (least_from at es)
      where
        by_cases : HasLeastFrom at es ⊎ NoneStarts at es → HasLeastFrom at es
        by_cases (inl h) = h
        by_cases (inr none) = absurd (one_starts start at es b away none)

    size : suc (length further.others) ≡ length es
    size = length_permutation es (further.first ∷ further.others) further.takes.taken

    some_left : length es ≤ 0 → ⊥
    some_left l = let n = size in omega arith

    one_more : HasWay start further.first.b further.others → HasWay start at es
    one_more w = record {
      way = at ∷ w.way;
      left = w.left;
      back = (refl, away, (further.first, further.others, further.takes, w.back));
      balanced = w.balanced;
      fewer = let n = size in let m = w.fewer in omega arith;
    }

not_at : (p q : Pt) → same_place p q ≡ false → p ≡ q → ⊥
not_at p q e h = true≢false (sym (same_place-itself q) ∙ ap (λ (r : Pt). same_place r q) (sym h) ∙ e)

way_back : (n : ℕ) (start at : Pt) (es : List Edge) → length es ≤ n → IsBalanced (segments (edge start at ∷ es))
    → HasWay start at es
way_back zero start at es l b = by_test (same_place at start) refl
  where
    by_test : (t : Bool) → same_place at start ≡ t → HasWay start at es
    by_test true e = is_back start at es b (same_place-is at start e)
    by_test false e = absurd (some_left start at es b (not_at at start e) l)
way_back (suc n) start at es l b = by_test (same_place at start) refl (way_back n start)
  where
    by_test : (t : Bool) → same_place at start ≡ t
        → ((at : Pt) (es : List Edge) → length es ≤ n → IsBalanced (segments (edge start at ∷ es)) → HasWay start at es)
        → HasWay start at es
    by_test true e on = is_back start at es b (same_place-is at start e)
    by_test false e on =
        let away : at ≡ start → ⊥ = not_at at start e in
        let h : HasLeastFrom at es = further start at es b away in
        let few : length h.others ≤ n = fewer_others n (length es) (length h.others) l (size start at es b away) in
        one_more start at es b away (on h.first.b h.others few (goes_on start at es h.first h.others b h.takes))

-- ---- loop after loop
record HasLoop (es : List Edge) : Type 0 where
  loop : List Pt
  left : List Edge
  is_loop : IsLoop es loop left
  balanced : IsBalanced (segments left)
  fewer : length left < length es

any : Edge → Bool
any e = true

closed : (es : List Edge) → IsBalanced (segments es) → HasLeast any es → HasLoop es
unfolding any
closed es b h =
    let size = length_permutation es (h.first ∷ h.others) h.taken in
    let all : IsBalanced (segments (h.first ∷ h.others)) = balanced_permuted es (h.first ∷ h.others) h.taken b in
    let w : HasWay h.first.a h.first.b h.others =
    way_back (length h.others) h.first.a h.first.b h.others (omega arith) all in
    let fewer = w.fewer in
    record {
      loop = h.first.a ∷ w.way;
      left = w.left;
      is_loop = record {
        first = h.first;
        others = h.others;
        way = w.way;
        least = record {
          taken = h.taken;
          least = All-weaker (NotLess any h.first) (λ f. is_less f h.first ≡ false) (λ f n. n refl) h.others h.least;
        };
        back = w.back;
        vertices = refl;
      };
      balanced = w.balanced;
      fewer = omega arith;
    }

loop_of : (e : Edge) (es : List Edge) → IsBalanced (segments (e ∷ es)) → HasLoop (e ∷ es)
unfolding any
loop_of e es b = by_cases (least_of any (e ∷ es))
  where
    by_cases : HasLeast any (e ∷ es) ⊎ NonePasses any (e ∷ es) → HasLoop (e ∷ es)
    by_cases (inl h) = closed (e ∷ es) b h
    by_cases (inr none) = absurd (true≢false (All-head (λ (f : Edge). any f ≡ false) e es none))

pub record HasDrawing (es : List Edge) : Type 0 where
  pub loops : List (List Pt)
  pub drawn : AreDrawn es loops

drawing : (n : ℕ) (es : List Edge) → length es ≤ n → IsBalanced (segments es) → HasDrawing es
drawing n [] l b = record { loops = []; drawn = refl }
drawing zero (e ∷ es) l b = absurd (omega arith)
drawing (suc n) (e ∷ es) l b =
    let h : HasLoop (e ∷ es) = loop_of e es b in
    let fewer = h.fewer in
    let rest : HasDrawing h.left = drawing n h.left (omega arith) h.balanced in
    record { loops = h.loop ∷ rest.loops; drawn = (h.left, h.is_loop, rest.drawn) }

pub balanced_drawn : (es : List Edge) → IsBalanced (segments es) → HasDrawing es
balanced_drawn es b = drawing (length es) es (omega arith) b
