-- Values written, one after another.
use Rattle.std.proofs.Common.{◌≡◌, ℕ, zero, suc, ◌+◌, ◌<◌, ◌≤◌, Bool, List, [], ◌∷◌, length, refl, sym, ap, ◌∙◌, subst, arith}
use borrow.Author.Count.{below_more}
use Rattle.std.proofs.lemmas.List.{length-set, take-set-le, drop-set-lt}
use Rattle.slice_outlines.specs.declared.mark.Mark.{Mark}
use Rattle.slice_outlines.specs.declared.run.Run.{Run}
use Rattle.slice_outlines.specs.Marks.{mark_at}
use Rattle.slice_outlines.specs.MarkValue.{valued}
use Rattle.slice_outlines.specs.Heights.{KeepsMarks}

-- ---- one value
name_kept : (ms : List Mark) (i j : ℕ) (v : Bool) → (mark_at (valued i v ms) j).name ≡ (mark_at ms j).name
name_kept [] i j v = refl
name_kept (m ∷ ms) zero zero v = refl
name_kept (m ∷ ms) zero (suc j) v = refl
name_kept (m ∷ ms) (suc i) zero v = refl
name_kept (m ∷ ms) (suc i) (suc j) v = name_kept ms i j v

from_kept : (ms : List Mark) (i j : ℕ) (v : Bool) → (mark_at (valued i v ms) j).from ≡ (mark_at ms j).from
from_kept [] i j v = refl
from_kept (m ∷ ms) zero zero v = refl
from_kept (m ∷ ms) zero (suc j) v = refl
from_kept (m ∷ ms) (suc i) zero v = refl
from_kept (m ∷ ms) (suc i) (suc j) v = from_kept ms i j v

left_kept : (ms : List Mark) (i j : ℕ) (v : Bool) → j < i → (mark_at (valued i v ms) j).left ≡ (mark_at ms j).left
left_kept [] i j v o = refl
left_kept (m ∷ ms) zero j v o = absurd (omega arith)
left_kept (m ∷ ms) (suc i) zero v o = refl
left_kept (m ∷ ms) (suc i) (suc j) v o = left_kept ms i j v (omega arith)

pub left_is : (ms : List Mark) (i : ℕ) (v : Bool) → i < length ms → (mark_at (valued i v ms) i).left ≡ v
left_is [] i v o = absurd (omega arith)
left_is (m ∷ ms) zero v o = refl
left_is (m ∷ ms) (suc i) v o = left_is ms i v (omega arith)

-- ---- values of a part
pub keeps_all : (run : Run) (ms : List Mark) → KeepsMarks run ms ms
keeps_all run ms = record { size = refl; names = λ i. refl; starts = λ i. refl; left = refl; right = refl }

pub keeps_more : (run : Run) (old now new : List Mark) (i : ℕ) (v : Bool) → KeepsMarks run old now → run.above ≤ i
    → i < run.above_to → new ≡ valued i v now → KeepsMarks run old new
keeps_more run old now new i v k o l e = subst (KeepsMarks run old) (sym e) (record {
  size = length-set now i (record (mark_at now i) { left = v }) ∙ k.size;
  names = λ j. name_kept now i j v ∙ k.names j;
  starts = λ j. from_kept now i j v ∙ k.starts j;
  left = take-set-le run.above now i (record (mark_at now i) { left = v }) o ∙ k.left;
  right = drop-set-lt run.above_to now i (record (mark_at now i) { left = v }) l ∙ k.right;
})

pub valued_more : (Q : ℕ → Bool) (from i : ℕ) (old new : List Mark) → i < length old → new ≡ valued i (Q i) old
    → ((j : ℕ) → from ≤ j → j < i → (mark_at old j).left ≡ Q j)
    → (j : ℕ) → from ≤ j → j < i + 1 → (mark_at new j).left ≡ Q j
valued_more Q from i old new o e h j a l =
    below_more (λ (k : ℕ). from ≤ k → (mark_at new k).left ≡ Q k) i
    (λ k q b. ap (λ (ms : List Mark). (mark_at ms k).left) e ∙ left_kept old i k (Q i) q ∙ h k b q)
    (λ b. ap (λ (ms : List Mark). (mark_at ms i).left) e ∙ left_is old i (Q i) o) j l a

pub valued_one : (Q : ℕ → Bool) (from to : ℕ) (old new : List Mark) → from + 1 ≡ to → from < length old
    → new ≡ valued from (Q from) old → (j : ℕ) → from ≤ j → j < to → (mark_at new j).left ≡ Q j
valued_one Q from to old new t o e j a l =
    valued_more Q from from old new o e (λ k b q. absurd (omega arith)) j a (omega (arith, t, l))
