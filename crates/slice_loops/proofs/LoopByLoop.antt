-- Outlines are made loop by loop: whatever outlines the remaining edges make, those so far and these are the outlines
-- of all.
use Rattle.std.proofs.Common.{◌≡◌, ℕ, ◌+◌, ◌≤◌, ◌<◌, ◌⊎◌, inl, inr, Bool, true, false, cond, List, [], ◌∷◌, ◌++◌, length, nat_le, refl, sym, ap, ◌∙◌, subst, arith, append_assoc, append-nil, le-leb, leb-true}
use Rattle.std.proofs.lemmas.Bool.{false_from_ne_true, cases_lt}
use Rattle.std.specs.Prelude.{IsPermutation}
use Rattle.std.proofs.lemmas.List.Sorted.{IsPermutation-trans, length_permutation}
use Rattle.scad_geom.specs.declared.point.Pt.{Pt}
use Rattle.scad_geom.specs.declared.point.Edge.{Edge}
use Rattle.scad_geom.specs.Segment.{segments}
use Rattle.scad_geom.specs.Balance.{IsBalanced}
use Rattle.slice_loops.specs.declared.remainder.Remaining.{Remaining}
use Rattle.slice_loops.specs.Remaining.{remaining, taken_at, IsInOrder, AllTakenTo, StayTaken}
use Rattle.slice_loops.proofs.LoopClosure.{balanced_permuted}
use Rattle.slice_loops.proofs.Marks.{all_taken}
use Rattle.slice_loops.specs.Drawing.{IsLoop, AreDrawn}
use Rattle.slice_loops.specs.Corners.{corners}
use Rattle.slice_loops.specs.Outlines.{outlines_of, AreOutlines, AddsOutline}

abbrev pub Makes : List Edge → List (List Pt) → List Edge → Type 0
Makes edges outlines left = (more : List (List Pt)) → AreOutlines left more → AreOutlines edges (outlines ++ more)

-- ---- the order of the edges doesn't matter
empty : (es : List Edge) → length es ≡ 0 → es ≡ []
empty [] h = refl
empty (e ∷ es) h = absurd (omega arith)

drawn_permuted : (es fs : List Edge) → IsPermutation es fs → (loops : List (List Pt)) → AreDrawn fs loops
    → AreDrawn es loops
drawn_permuted es fs m [] d = empty es (sym (length_permutation es fs m) ∙ ap (λ (l : List Edge). length l) d)
drawn_permuted es fs m (l ∷ ls) d =
    let loop = d.1 in (
      d.0,
      record {
        first = loop.first;
        others = loop.others;
        way = loop.way;
        least = record {
          taken = IsPermutation-trans es fs (loop.first ∷ loop.others) m loop.least.taken;
          least
              = loop.least.least;
        };
        back = loop.back;
        vertices = loop.vertices;
      },
      d.2,
    )

pub makes_none : (es fs : List Edge) → IsPermutation es fs → Makes es [] fs
makes_none es fs m = λ more a. record {
  loops = a.loops;
  drawn = drawn_permuted es fs m a.loops a.drawn;
  kept
      = a.kept;
}

-- ---- one more loop
one_more : (es : List Edge) (v : List Pt) (left : List Edge) (c : List Pt) (is : Bool) → IsLoop es v left
    → c ≡ corners v → nat_le 3 (length c) ≡ is → (more : List (List Pt)) → AreOutlines left more
    → AreOutlines es (cond is (c ∷ more) more)
one_more es v left c is loop h t more a =
    let test : nat_le 3 (length (corners v)) ≡ is = ap (λ (l : List Pt). nat_le 3 (length l)) (sym h) ∙ t in
    record {
      loops = v ∷ a.loops;
      drawn = (left, loop, a.drawn);
      kept = ap (λ (ms : List (List Pt)). cond is (c ∷ ms) ms) a.kept
          ∙ ap (λ (l : List Pt). cond is (l ∷ outlines_of a.loops) (outlines_of a.loops)) h
          ∙ ap (λ (b : Bool). cond b (corners v ∷ outlines_of a.loops) (outlines_of a.loops)) (sym test);
    }

joined_on : (is : Bool) (c : List Pt) (outlines more : List (List Pt))
    → (outlines ++ cond is (c ∷ []) []) ++ more ≡ outlines ++ cond is (c ∷ more) more
joined_on true c outlines more = append_assoc outlines (c ∷ []) more
joined_on false c outlines more = ap (λ (os : List (List Pt)). os ++ more) (append-nil outlines)

pub makes_added : (edges : List Edge) (outlines : List (List Pt)) (es left : List Edge) (now : List (List Pt))
    → Makes edges outlines es → AddsOutline es outlines left now → Makes edges now left
makes_added edges outlines es left now made h =
    let c : List Pt = corners h.vertices in
    let is : Bool = nat_le 3 (length c) in
    λ more a. subst (AreOutlines edges) (sym
    (ap (λ (os : List (List Pt)). os ++ more) h.added ∙ joined_on is c outlines more))
    (made (cond is (c ∷ more) more) (one_more es h.vertices left c is h.drawn refl refl more a))

pub adds_one : (es : List Edge) (v : List Pt) (left : List Edge) (c k : List Pt) (outlines now : List (List Pt))
    → IsLoop es v left → c ≡ corners v → k ≡ c → 3 ≤ length c → now ≡ outlines ++ (k ∷ [])
    → AddsOutline es outlines left now
adds_one es v left c k outlines now loop h same many is =
    let test : nat_le 3 (length (corners v)) ≡ true = ap (λ (l : List Pt). nat_le 3 (length l)) (sym h) ∙ le-leb 3 (length c) many in
    record {
      vertices = v;
      drawn = loop;
      added = is ∙ ap (λ (l : List Pt). outlines ++ (l ∷ [])) (same ∙ h)
          ∙ ap (λ (b : Bool). outlines ++ cond b (corners v ∷ []) []) (sym test);
    }

pub adds_nothing : (es : List Edge) (v : List Pt) (left : List Edge) (c : List Pt) (outlines now : List (List Pt))
    → IsLoop es v left → c ≡ corners v → length c < 3 → now ≡ outlines → AddsOutline es outlines left now
adds_nothing es v left c outlines now loop h few is =
    let none : nat_le 3 (length c) ≡ false = false_from_ne_true (nat_le 3 (length c)) (λ e. let many = leb-true 3 (length c) e in omega arith) in
    let test : nat_le 3 (length (corners v)) ≡ false = ap (λ (l : List Pt). nat_le 3 (length l)) (sym h) ∙ none in
    record {
      vertices = v;
      drawn = loop;
      added = is ∙ sym (append-nil outlines)
          ∙ ap (λ (b : Bool). outlines ++ cond b (corners v ∷ []) []) (sym test);
    }

-- ---- all are drawn
pub makes_all : (edges : List Edge) (outlines : List (List Pt)) (left : List Edge) → left ≡ []
    → Makes edges outlines left → AreOutlines edges outlines
makes_all edges outlines left h made = subst (AreOutlines edges) (append-nil outlines)
    (made [] (record { loops = []; drawn = h; kept = refl }))

-- ---- place by place
-- all edges before a place are taken, and the outlines so far are of their loops
pub record Drawn (edges : List Edge) (left : Remaining) (outlines : List (List Pt)) (place end : ℕ) : Type 0 where
  pub made : Makes edges outlines (remaining left)
  pub order : IsInOrder left
  pub balanced : IsBalanced (segments (remaining left))
  pub taken : AllTakenTo left place
  pub count : length left.edges.items ≡ end

pub none_drawn : (edges : List Edge) (left : Remaining) (outlines : List (List Pt)) (end : ℕ) → outlines ≡ []
    → IsInOrder left
    → IsPermutation edges (remaining left) → IsBalanced (segments edges) → end ≡ length left.edges.items
    → Drawn edges left outlines 0 end
none_drawn edges left outlines end none order all balanced count = record {
  made = subst (λ (os : List (List Pt)). Makes edges os (remaining left)) (sym none)
      (makes_none edges (remaining left) all);
  order = order;
  balanced = balanced_permuted edges (remaining left) all balanced;
  taken = λ k l. absurd (omega arith);
  count = sym count;
}

pub one_drawn : (edges : List Edge) (old new : Remaining) (outlines now : List (List Pt)) (place end : ℕ)
    → Drawn edges old outlines place end
    → AddsOutline (remaining old) outlines (remaining new) now → IsInOrder new
    → IsBalanced (segments (remaining new)) → StayTaken old new → AllTakenTo new (place + 1)
    → Drawn edges new now (place + 1) end
one_drawn edges old new outlines now place end d added order balanced stay taken = record {
  made = makes_added edges outlines (remaining old) (remaining new) now d.made added;
  order = order;
  balanced = balanced;
  taken = taken;
  count = ap (λ (es : List Edge). length es) stay.edges ∙ d.count;
}

pub passed_by : (edges : List Edge) (left : Remaining) (outlines : List (List Pt)) (place end : ℕ)
    → Drawn edges left outlines place end
    → taken_at left.taken.items place ≡ true → Drawn edges left outlines (place + 1) end
passed_by edges left outlines place end d here = record {
  made = d.made;
  order = d.order;
  balanced = d.balanced;
  taken = λ k l. by_place k l (cases_lt k place);
  count = d.count;
}
  where
    by_place : (k : ℕ) → k < place + 1 → (k < place) ⊎ (place ≤ k) → taken_at left.taken.items k ≡ true
    by_place k l (inl b) = d.taken k b
    by_place k l (inr a) = let same : place ≡ k = omega arith in subst (λ (j : ℕ). taken_at left.taken.items j ≡ true) same here

pub all_drawn : (edges : List Edge) (left : Remaining) (outlines : List (List Pt)) (place end : ℕ)
    → Drawn edges left outlines place end → end ≤ place → AreOutlines edges outlines
all_drawn edges left outlines place end d h =
    makes_all edges outlines (remaining left)
    (all_taken left.taken.items left.edges.items (λ k l. d.taken k (omega (arith, d.count)))) d.made
