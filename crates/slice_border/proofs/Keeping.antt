-- A shape's leaves follow their winding numbers.
use Rattle.std.proofs.Common.{◌≡◌, ℕ, ◌+◌, ◌<◌, Bool, true, false, not, List, length, get_or, refl, sym, ap, ◌∙◌, subst, arith}
use mathlib.Core.Bool.{beq}
use mathlib.Core.Path.{fun_ext}
use lib.IntN.{ℤ, pos, negsuc, ◌+ℤ◌, +ℤ_idl}
use mir.Syntax.{w64}
use mir.Val.{to_z, of_z}
use Rattle.std.proofs.Math.ListN.{set}
use Rattle.std.proofs.lemmas.Int.{ints}
use Rattle.std.proofs.lemmas.List.{get_or-set_same, get_or-set_other}
use Rattle.std.specs.Prelude.{◌==◌, ◌≤◌, int_lt, if◌then◌else◌, unsigned_abs}
use Rattle.std.proofs.Math.IntN.{+ℤ_comm}
use Rattle.scad_geom.specs.declared.point.Edge.{Edge}
use Rattle.scad_geom.specs.declared.shape.Shape.{Shape}
use Rattle.scad_geom.specs.Sign.{is_zero}
use Rattle.scad_geom.specs.Line.{heading}
use Rattle.slice_held.specs.declared.kept_shape.Held.{Held}
use Rattle.slice_held.specs.Held.{leaf_count, IsReady, Shows, SetsLeaf, with_leaf}
use Rattle.slice_border.specs.Tally.{IsTally}
use Rattle.slice_border.specs.Keeping.{in_by, KeepsUp}

pub same_leaf : (m n : ℕ) → (m == n) ≡ true → m ≡ n
same_leaf m n e = grind arith

other_leaf : (m n : ℕ) → (m == n) ≡ false → n ≡ m → ⊥
other_leaf m n e same = grind arith

-- one leaf's number is changed
pub set_tally : (turns : List ℤ) (leaf : ℕ) (z by : ℤ) → leaf < length turns → z ≡ get_or turns leaf (pos 0) +ℤ by
    → IsTally (set turns leaf z) (λ k. get_or turns k (pos 0) +ℤ (if leaf == k then by else pos 0))
set_tally turns leaf z by there is k = by_test (leaf == k) refl
  where
    by_test : (t : Bool) → (leaf == k) ≡ t
        → get_or (set turns leaf z) k (pos 0) ≡ get_or turns k (pos 0) +ℤ (if t then by else pos 0)
    by_test true e =
        subst (λ (j : ℕ). get_or (set turns leaf z) j (pos 0) ≡ get_or turns j (pos 0) +ℤ by) (same_leaf leaf k e)
        (get_or-set_same turns leaf z (pos 0) there ∙ is)
    by_test false e =
        get_or-set_other turns leaf k z (pos 0) (other_leaf leaf k e)
        ∙ sym (+ℤ_comm (get_or turns k (pos 0)) (pos 0) ∙ +ℤ_idl (get_or turns k (pos 0)))

same_answer : (a b : Bool) → not (beq a b) ≡ false → a ≡ b
same_answer true true e = refl
same_answer true false e = absurd cc
same_answer false true e = absurd cc
same_answer false false e = refl

pub keeps_both : (turns mid news : List ℤ) (h g k : Held) → KeepsUp turns mid h g → KeepsUp mid news g k
    → KeepsUp turns news h k
keeps_both turns mid news h g k a b =
    record { ready = b.ready; size = b.size ∙ a.size; shows = λ shape s. b.shows shape (a.shows shape s) }

module _ (turns news : List ℤ) (leaf : ℕ) (by : ℤ)
    (moved : IsTally news (λ k. get_or turns k (pos 0) +ℤ (if leaf == k then by else pos 0))) where
  elsewhere : (k : ℕ) → (leaf == k) ≡ false → in_by news k ≡ in_by turns k
  elsewhere k e =
      ap (λ (z : ℤ). not (is_zero z))
      (moved k ∙ ap (λ (t : Bool). get_or turns k (pos 0) +ℤ (if t then by else pos 0)) e
      ∙ +ℤ_comm (get_or turns k (pos 0)) (pos 0) ∙ +ℤ_idl (get_or turns k (pos 0)))

  -- with the leaf's own answer, all are as the numbers say
  answers : (k : ℕ) → with_leaf leaf (in_by news leaf) (in_by turns) k ≡ in_by news k
  answers k = by_test (leaf == k) refl
    where
      by_test : (t : Bool) → (leaf == k) ≡ t → (if t then in_by news leaf else in_by turns k) ≡ in_by news k
      by_test true e = ap (in_by news) (same_leaf leaf k e)
      by_test false e = sym (elsewhere k e)

  pub keeps_set : (h g : Held) (inside : Bool) → inside ≡ in_by news leaf → IsReady g
      → leaf_count g ≡ leaf_count h → SetsLeaf leaf inside h g → KeepsUp turns news h g
  keeps_set h g inside e r n s =
      record {
        ready = r;
        size = n;
        shows = λ shape shown. subst (λ (f : ℕ → Bool). Shows shape f g) (fun_ext answers)
            (subst (λ (b : Bool). Shows shape (with_leaf leaf b (in_by turns)) g) e (s shape (in_by turns) shown));
      }

  pub keeps_as : (h : Held) (before inside : Bool) → before ≡ in_by turns leaf → inside ≡ in_by news leaf
      → not (beq inside before) ≡ false → IsReady h → KeepsUp turns news h h
  keeps_as h before inside b i e r =
      record {
        ready = r;
        size = refl;
        shows = λ shape shown. subst (λ (f : ℕ → Bool). Shows shape f h)
            (fun_ext (λ k. by_test k (leaf == k) refl)) shown;
      }
    where
      by_test : (k : ℕ) (t : Bool) → (leaf == k) ≡ t → in_by turns k ≡ in_by news k
      by_test k true q = ap (in_by turns) (sym (same_leaf leaf k q)) ∙ sym b ∙ sym (same_answer inside before e)
          ∙ i ∙ ap (in_by news) (same_leaf leaf k q)
      by_test k false q = sym (elsewhere k q)

-- all are out where all numbers are 0
pub keeps_first : (turns : List ℤ) (shape : Shape) (h : Held) → IsTally turns (λ leaf. pos 0)
    → Shows shape (λ leaf. false) h → Shows shape (in_by turns) h
keeps_first turns shape h z s =
    subst (λ (f : ℕ → Bool). Shows shape f h)
    (fun_ext (λ leaf. sym (ap (λ (z : ℤ). not (is_zero z)) (z leaf)))) s

pub heading_size : (e : Edge) → unsigned_abs (heading e) ≤ 1
heading_size e = by_test (int_lt e.b.y e.a.y)
  where
    by_test : (t : Bool) → unsigned_abs (if t then negsuc 0 else pos 1) ≤ 1
    by_test true = omega arith
    by_test false = omega arith

pub sum_on : (old new z : ℤ) (t : Bool) (rest before whole : ℤ) → new ≡ old +ℤ (if t then z else pos 0)
    → before ≡ (if t then z else pos 0) +ℤ rest → old +ℤ before ≡ whole → new +ℤ rest ≡ whole
sum_on old new z true rest before whole e f g = omega (arith, ints)
sum_on old new z false rest before whole e f g = omega (arith, ints)

pub size_on : (old new z : ℤ) (t : Bool) (most : ℕ) → new ≡ old +ℤ (if t then z else pos 0)
    → unsigned_abs z ≤ 1 → unsigned_abs old ≤ most → unsigned_abs new ≤ most + 1
size_on old new z true most e h k = omega (arith, ints)
size_on old new z false most e h k = omega (arith, ints)

pub keeps_still : (turns : List ℤ) (h : Held) → IsReady h → KeepsUp turns turns h h
keeps_still turns h r = record { ready = r; size = refl; shows = λ shape shown. shown }

-- a number that was passed to a call
pub passed : (z : ℤ) → unsigned_abs z ≤ 1 → to_z w64 (of_z w64 z) ≡ z
passed z h = omega (arith, ints)
