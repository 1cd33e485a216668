-- The stretches that sorted steps of all sides say are deep are the runs.
use Rattle.std.proofs.Common.{◌≡◌, ◌≢◌, ◌⊎◌, inl, inr, ℕ, zero, suc, true, not, List, [], ◌∷◌, ◌++◌, refl, sym, ap, ◌∙◌, subst, arith, flat_map, ℤ, pos, negsuc, ◌+ℤ◌, ◌-ℤ◌, ◌<ℤ◌}
use Rattle.std.specs.Prelude.{int_le, if◌then◌else◌, All}
use Rattle.std.specs.List.{AllByRecursion}
use Rattle.std.specs.List.Sorted.{IsPermutation}
use Rattle.std.proofs.lemmas.Int.{ints}
use Rattle.std.proofs.lemmas.Bool.{and_parts, false≢true}
use Rattle.std.proofs.lemmas.List.Elements.{recursion_from_All, All-from_recursion}
use Rattle.std.proofs.lemmas.List.Sorted.{All-permutation}
use Rattle.scad_geom.specs.declared.point.Pt.{Pt}
use Rattle.scad_geom.specs.declared.point.Edge.{Edge}
use Rattle.scad_geom.specs.Loop.{path, sides}
use Rattle.scad_geom.specs.Point.{whole}
use Rattle.scad_geom.specs.Sign.{is_zero}
use Rattle.scad_geom.specs.Winding.{counted, is_over, passage_by, wind}
use Rattle.scad_geom.specs.Segment.{segments}
use Rattle.scad_geom.proofs.Sums.{sum_z, sum_z-permutation}
use Rattle.plan_infill.specs.declared.line.Line.{Line}
use Rattle.plan_infill.specs.declared.line.Line.TheVariants.{Row, Column}
use Rattle.plan_infill.specs.declared.run.Run.{Run}
use Rattle.plan_infill.specs.declared.step.Step.{Step}
use Rattle.plan_infill.specs.Runs.{IsDeep, point_on, AreRuns}
use Rattle.plan_infill.specs.Steps.{up_to, all_of, turns_before, IsApart, IsStep, AreSteps}
use Rattle.plan_infill.specs.Sweep.{is_deep_at, AreStretches}
use Rattle.scad_geom.proofs.Signs.{zero_true}
use Rattle.plan_infill.proofs.DeepRuns.{are_runs}

-- ---- far before a line closed outlines don't turn
over : ℤ → Pt → ℤ
over y p = counted (is_over true (whole (point_on (Row y) (pos 0))) (whole p))

passage_is : (y : ℤ) (e : Edge) → passage_by true (whole (point_on (Row y) (pos 0))) (whole e.a) (whole e.b)
    ≡ over y e.b -ℤ over y e.a
unfolding passage_by over
passage_is y e = refl

path_before : (y : ℤ) (from : Pt) (ps : List Pt) (last : Pt) (es : List Edge)
    → turns_before (Row y) (path from ps last ++ es) ≡ (over y last -ℤ over y from) +ℤ turns_before (Row y) es
path_before y from [] last es = let p = passage_is y (record { a = from; b = last }) in omega (arith, ints, p)
path_before y from (q ∷ ps) last es = let p = passage_is y (record { a = from; b = q }) in let h = path_before y q ps last es in omega (arith, ints, p, h)

pub none_before : (line : Line) (ls : List (List Pt)) → turns_before line (flat_map sides ls) ≡ pos 0
none_before (Row y) [] = refl
none_before (Row y) ([] ∷ ls) = none_before (Row y) ls
none_before (Row y) ((p ∷ ps) ∷ ls) = let a = path_before y p ps p (flat_map sides ls) in let h = none_before (Row y) ls in omega (arith, ints, a, h)
none_before (Column x) ls = by_edges (flat_map sides ls)
  where
    by_edges : (es : List Edge) → turns_before (Column x) es ≡ pos 0
    by_edges [] = refl
    by_edges (e ∷ es) = let h = by_edges es in omega (arith, ints, h)

-- ---- sorted steps sum to the same
as_sum : (f : Step → ℤ) (z : ℤ) (ss : List Step)
    → up_to f z ss ≡ sum_z (λ s. if int_le s.at z then f s else pos 0) ss
as_sum f z [] = refl
as_sum f z (s ∷ ss) = ap (λ (x : ℤ). (if int_le s.at z then f s else pos 0) +ℤ x) (as_sum f z ss)

same_up_to : (f : Step → ℤ) (z : ℤ) (xs ys : List Step) → IsPermutation xs ys → up_to f z ys ≡ up_to f z xs
same_up_to f z xs ys p = as_sum f z ys ∙ sum_z-permutation (λ s. if int_le s.at z then f s else pos 0) xs ys p
    ∙ sym (as_sum f z xs)

all_as_sum : (f : Step → ℤ) (ss : List Step) → all_of f ss ≡ sum_z f ss
all_as_sum f [] = refl
all_as_sum f (s ∷ ss) = ap (λ (x : ℤ). f s +ℤ x) (all_as_sum f ss)

same_all : (f : Step → ℤ) (xs ys : List Step) → IsPermutation xs ys → all_of f ys ≡ all_of f xs
same_all f xs ys p = all_as_sum f ys ∙ sum_z-permutation f xs ys p ∙ sym (all_as_sum f xs)

-- ---- what the steps say of a point
not_zero : (z : ℤ) → not (is_zero z) ≡ true → z ≢ pos 0
not_zero z h e = false≢true (subst (λ (x : ℤ). not (is_zero x) ≡ true) e h)

is_not_zero : (z : ℤ) → z ≢ pos 0 → not (is_zero z) ≡ true
is_not_zero (pos zero) h = absurd (h refl)
is_not_zero (pos (suc n)) h = refl
is_not_zero (negsuc n) h = refl

module _ (c : ℕ) (line : Line) (outlines : List (List Pt)) (steps sorted : List Step) (k : AreSteps c line (flat_map sides outlines) steps) (p : IsPermutation steps sorted) where
  pub all_steps : All IsStep sorted
  all_steps = All-permutation IsStep steps sorted p k.each

  pub none_behind : all_of (λ s. s.turns) sorted ≡ pos 0
  none_behind = let a = same_all (λ s. s.turns) steps sorted p in let b = k.behind in let z = none_before line outlines in omega (arith, ints, a, b, z)

  turns_at : (z : ℤ) → up_to (λ s. s.turns) z sorted
      ≡ wind (whole (point_on line z)) (segments (flat_map sides outlines))
  turns_at z = let a = same_up_to (λ s. s.turns) z steps sorted p in let b = k.turns z in let n = none_before line outlines in omega (arith, ints, a, b, n)

  deep_if : (z : ℤ) → is_deep_at sorted z ≡ true → IsDeep outlines c (point_on line z)
  deep_if z h =
      let q = and_parts (not (is_zero (up_to (λ s. s.turns) z sorted))) (is_zero (up_to (λ s. s.near) z sorted)) h in
      record {
        inside = λ e. not_zero (up_to (λ s. s.turns) z sorted) q.0 (turns_at z ∙ e);
        apart = by_near (sym (same_up_to (λ s. s.near) z steps sorted p)
            ∙ zero_true (up_to (λ s. s.near) z sorted) q.1) (k.near z);
      }
    where
      by_near : up_to (λ s. s.near) z steps ≡ pos 0
          → ((pos 0 <ℤ up_to (λ s. s.near) z steps)
          × (AllByRecursion (IsApart c line z) (flat_map sides outlines) → ⊥))
          ⊎ ((up_to (λ s. s.near) z steps ≡ pos 0) × AllByRecursion (IsApart c line z) (flat_map sides outlines))
          → All (IsApart c line z) (flat_map sides outlines)
      by_near e (inl a) = absurd (let b = a.0 in omega (arith, ints, e, b))
      by_near e (inr a) = All-from_recursion (IsApart c line z) (flat_map sides outlines) a.1

  if_deep : (z : ℤ) → IsDeep outlines c (point_on line z) → is_deep_at sorted z ≡ true
  if_deep z d =
      let t = is_not_zero (up_to (λ s. s.turns) z sorted) (λ e. d.inside (sym (turns_at z) ∙ e)) in
      let n : up_to (λ s. s.near) z sorted ≡ pos 0 = same_up_to (λ s. s.near) z steps sorted p ∙ by_near (k.near z) in
      rw (t, n) refl
    where
      by_near : ((pos 0 <ℤ up_to (λ s. s.near) z steps)
          × (AllByRecursion (IsApart c line z) (flat_map sides outlines) → ⊥))
          ⊎ ((up_to (λ s. s.near) z steps ≡ pos 0) × AllByRecursion (IsApart c line z) (flat_map sides outlines))
          → up_to (λ s. s.near) z steps ≡ pos 0
      by_near (inl a) = absurd (a.1 (recursion_from_All (IsApart c line z) (flat_map sides outlines) d.apart))
      by_near (inr a) = a.0

  pub all_runs : (least : ℕ) (rs : List Run) → AreStretches (is_deep_at sorted) least rs
      → AreRuns outlines c line least rs
  all_runs least rs s = are_runs outlines c line (is_deep_at sorted) deep_if if_deep least rs s
