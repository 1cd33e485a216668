-- Headings that are added and taken away.
use Rattle.std.proofs.Common.{◌≡◌, ℕ, suc, ◌+◌, ◌^◌, ◌≤◌, Bool, true, false, not, List, [], ◌∷◌, ◌++◌, length, get_or, ap, ◌∙◌, arith}
use mathlib.Core.Path.{fun_ext}
use lib.IntN.{ℤ, pos, ◌+ℤ◌, ◌-ℤ◌, neg_ℤ}
use Rattle.std.specs.Prelude.{◌==◌, if◌then◌else◌, unsigned_abs}
use Rattle.std.proofs.lemmas.Int.{ints}
use Rattle.scad_geom.specs.declared.level.LeafEdge.{LeafEdge}
use Rattle.scad_geom.specs.declared.shape.Shape.{Shape}
use Rattle.scad_geom.specs.Shape.{shape_holds}
use Rattle.scad_geom.specs.Sign.{is_zero}
use Rattle.scad_geom.specs.Line.{heading}
use Rattle.slice_bundles.specs.Bundles.{no_edge}
use Rattle.slice_border.specs.Tally.{IsTally, headings}
use Rattle.slice_border.specs.Keeping.{in_by, Tells, AreSmall}
use Rattle.slice_border.proofs.Keeping.{heading_size}
use Rattle.slice_border.specs.declared.tally.Tally.{Tally}

-- ---- sums of headings
regroup : (a b c : ℤ) → a +ℤ (b +ℤ c) ≡ (a +ℤ b) +ℤ c
regroup a b c = omega (arith, ints)

nothing_more : (a : ℤ) → a ≡ pos 0 +ℤ a
nothing_more a = omega (arith, ints)

pub headings_append : (es : List LeafEdge) (leaf : ℕ) (ks js : List ℕ)
    → headings es leaf (ks ++ js) ≡ headings es leaf ks +ℤ headings es leaf js
headings_append es leaf [] js = nothing_more (headings es leaf js)
headings_append es leaf (k ∷ ks) js =
    let e : LeafEdge = get_or es k no_edge in
    let h : ℤ = if e.leaf == leaf then heading e.edge else pos 0 in
    ap (λ (z : ℤ). h +ℤ z) (headings_append es leaf ks js) ∙ regroup h (headings es leaf ks) (headings es leaf js)

one_size : (t : Bool) (z rest : ℤ) (n : ℕ) → unsigned_abs z ≤ 1 → unsigned_abs rest ≤ n
    → unsigned_abs ((if t then z else pos 0) +ℤ rest) ≤ suc n
one_size true z rest n h k = omega (arith, ints)
one_size false z rest n h k = omega (arith, ints)

headings_size : (es : List LeafEdge) (leaf : ℕ) (ks : List ℕ) → unsigned_abs (headings es leaf ks) ≤ length ks
headings_size es leaf [] = omega arith
headings_size es leaf (k ∷ ks) =
    let e : LeafEdge = get_or es k no_edge in
    one_size (e.leaf == leaf) (heading e.edge) (headings es leaf ks) (length ks) (heading_size e.edge)
    (headings_size es leaf ks)

size_by : (z w : ℤ) (n : ℕ) → z ≡ w → unsigned_abs w ≤ n → unsigned_abs z ≤ n
size_by z w n e h = omega (arith, ints)

-- what tells few edges has room for few more
pub are_small : (es : List LeafEdge) (shape : Shape) (ks js : List ℕ) (t : Tally) → Tells es shape ks t
    → length ks + length js ≤ 2 ^ 62 → AreSmall es js t
are_small es shape ks js t h few = record {
  ready = h.ready;
  size = h.size;
  leaves = h.leaves;
  room = λ leaf.
      let s : unsigned_abs (get_or t.turns.items leaf (pos 0)) ≤ length ks =
      size_by (get_or t.turns.items leaf (pos 0)) (headings es leaf ks) (length ks) (h.turns leaf)
      (headings_size es leaf ks) in
      omega (arith, s, few);
}

-- ---- one edge after another
pub negated : (old new by z : ℤ) (t : Bool) → new ≡ old +ℤ (if t then by else pos 0) → by ≡ neg_ℤ z
    → new ≡ old -ℤ (if t then z else pos 0)
negated old new by z true e f = omega (arith, ints)
negated old new by z false e f = omega (arith, ints)

-- what is left to add, and what was added
pub taken_on : (old new z : ℤ) (t : Bool) (rest before whole : ℤ) → new ≡ old -ℤ (if t then z else pos 0)
    → before ≡ (if t then z else pos 0) +ℤ rest → old ≡ whole +ℤ before → new ≡ whole +ℤ rest
taken_on old new z true rest before whole e f g = omega (arith, ints)
taken_on old new z false rest before whole e f g = omega (arith, ints)

pub size_down : (old new z : ℤ) (t : Bool) (most : ℕ) → new ≡ old -ℤ (if t then z else pos 0)
    → unsigned_abs z ≤ 1 → unsigned_abs old ≤ most → unsigned_abs new ≤ most + 1
size_down old new z true most e h k = omega (arith, ints)
size_down old new z false most e h k = omega (arith, ints)

pub added_all : (new rest old own others whole : ℤ) → new +ℤ rest ≡ old +ℤ own → rest ≡ pos 0 → old ≡ others
    → whole ≡ own +ℤ others → new ≡ whole
added_all new rest old own others whole e f g h = omega (arith, ints)

pub taken_all : (new rest old own others whole base : ℤ) → new ≡ base +ℤ rest → rest ≡ pos 0 → old ≡ base +ℤ own
    → old ≡ whole → whole ≡ own +ℤ others → new ≡ others
taken_all new rest old own others whole base e f g h k = omega (arith, ints)

pub as_whole : (old own : ℤ) → old ≡ (old -ℤ own) +ℤ own
as_whole old own = omega (arith, ints)

-- ---- the value
pub held_by : (es : List LeafEdge) (shape : Shape) (ks : List ℕ) (turns : List ℤ)
    → IsTally turns (λ leaf. headings es leaf ks)
    → shape_holds (in_by turns) shape ≡ shape_holds (λ leaf. not (is_zero (headings es leaf ks))) shape
held_by es shape ks turns h =
    ap (λ (f : ℕ → Bool). shape_holds f shape) (fun_ext (λ leaf. ap (λ (z : ℤ). not (is_zero z)) (h leaf)))
