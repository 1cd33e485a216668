-- A place between strands that don't meet at a height is between two groups of it.
use Rattle.std.proofs.Common.{◌≡◌, ℕ, zero, suc, ◌+◌, ◌-◌, ◌<◌, ◌≤◌, List, [], ◌∷◌, ◌++◌, length, drop, get_or, refl, sym, ap, ◌∙◌, subst, inl, inr, arith}
use Rattle.std.specs.List.{AllByRecursion}
use Rattle.std.proofs.lemmas.Bool.{cases_lt}
use Rattle.std.proofs.lemmas.List.{get_or-drop, length-append, length-drop}
use Rattle.scad_geom.specs.declared.point.Edge.{Edge}
use Rattle.scad_geom.specs.declared.level.Level.{Level}
use Rattle.scad_geom.specs.declared.level.LeafEdge.{LeafEdge}
use Rattle.scad_geom.proofs.Order.{front}
use Rattle.slice_bundles.specs.Bundles.{edge_at}
use Rattle.slice_bundles.specs.KeptOrder.{IsSamePlaceAt}
use Rattle.slice_sweep.specs.Strands.{head}
use Rattle.slice_sweep.specs.Changes.{Group, all_below, all_at, Stand, IsTogetherAt}
use Rattle.slice_outlines.specs.declared.mark.Mark.{Mark}
use Rattle.slice_outlines.specs.Marks.{mark_at, no_mark, IsNamed}
use Rattle.slice_outlines.specs.Cursor.{IsApartAt, Fit}
use Rattle.slice_outlines.proofs.Placing.{AreNamed}

-- ---- marks and bundles
pub named_past : (ms : List Mark) (bs cs : List (List ℕ)) → AreNamed ms (bs ++ cs) → AreNamed (drop (length bs) ms) cs
named_past ms [] cs z = z
named_past [] (b ∷ bs) cs z = absurd z
named_past (m ∷ ms) (b ∷ bs) cs z = named_past ms bs cs z.1

pub named_size : (ms : List Mark) (bs : List (List ℕ)) → AreNamed ms bs → length ms ≡ length bs
named_size [] [] z = refl
named_size [] (b ∷ bs) z = absurd z
named_size (m ∷ ms) [] z = absurd z
named_size (m ∷ ms) (b ∷ bs) z = ap suc (named_size ms bs z.1)

named_head : (es : List LeafEdge) (k : ℕ) (b : List ℕ) → IsNamed k b → head es b ≡ edge_at es k
named_head es k [] h = absurd h
named_head es k (j ∷ js) h = ap (λ (i : ℕ). edge_at es i) (sym h)

-- the first edge of a bundle is the one that its mark names
pub head_at : (es : List LeafEdge) (ms : List Mark) (bs : List (List ℕ)) (i : ℕ) → AreNamed ms bs → i < length ms
    → head es (get_or bs i []) ≡ edge_at es (mark_at ms i).name
head_at es [] bs i z o = absurd (omega (arith, o))
head_at es (m ∷ ms) [] i z o = absurd z
head_at es (m ∷ ms) (b ∷ bs) zero z o = named_head es m.name b z.0
head_at es (m ∷ ms) (b ∷ bs) (suc i) z o = head_at es ms bs i z.1 (omega (arith, o))

bundle_at : (P : List ℕ → Type 0) (ms : List Mark) (bs cs : List (List ℕ)) (i : ℕ) → AreNamed ms (bs ++ cs)
    → AllByRecursion P bs → i < length bs → (b : List ℕ) × IsNamed (mark_at ms i).name b × P b
bundle_at P ms [] cs i z a o = absurd (omega (arith, o))
bundle_at P [] (b ∷ bs) cs i z a o = absurd z
bundle_at P (m ∷ ms) (b ∷ bs) cs zero z a o = (b, z.0, a.0)
bundle_at P (m ∷ ms) (b ∷ bs) cs (suc i) z a o = bundle_at P ms bs cs i z.1 a.1 (omega (arith, o))

-- the strands of a group are at one place
same_place : (es : List LeafEdge) (l : Level) (g : Group) (gs : List Group) (ms : List Mark) (i j : ℕ)
    → AreNamed ms (all_below (g ∷ gs)) → Stand (IsTogetherAt es l) g g → i < length g.below → j < length g.below
    → IsSamePlaceAt l (edge_at es (mark_at ms i).name) (edge_at es (mark_at ms j).name)
same_place es l g gs ms i j z t o o' =
    let x = bundle_at (λ b. AllByRecursion (IsTogetherAt es l b) (all_at g)) ms g.below (all_below gs) i z
    (front (λ b. AllByRecursion (IsTogetherAt es l b) (all_at g)) g.below g.above t) o in
    let b : List ℕ = x.0 in
    let y = bundle_at (IsTogetherAt es l b) ms g.below (all_below gs) j z
    (front (IsTogetherAt es l b) g.below g.above x.2) o' in
    subst (λ (e : Edge). IsSamePlaceAt l e (edge_at es (mark_at ms j).name)) (named_head es (mark_at ms i).name b x.1)
    (subst (IsSamePlaceAt l (head es b)) (named_head es (mark_at ms j).name y.0 y.1) y.2)

apart_past : (es : List LeafEdge) (l : Level) (ms : List Mark) (k n j : ℕ) → k + j ≡ n → IsApartAt es l ms n
    → IsApartAt es l (drop k ms) j
apart_past es l ms k n j e a = λ i f o same.
    a (k + i) (omega (arith, e, f)) (omega (arith, e, o, length-drop k ms))
    (subst (λ (m : Mark). IsSamePlaceAt l (edge_at es (mark_at ms (k + i)).name) (edge_at es m.name))
    (get_or-drop k ms j no_mark ∙ ap (λ (d : ℕ). mark_at ms d) e)
    (subst (λ (m : Mark). IsSamePlaceAt l (edge_at es m.name) (edge_at es (mark_at (drop k ms) j).name))
    (get_or-drop k ms i no_mark) same))

-- ---- between groups
pub fits_apart : (es : List LeafEdge) (l : Level) (gs : List Group) (ms : List Mark) (n : ℕ)
    → AreNamed ms (all_below gs) → AllByRecursion (λ g. Stand (IsTogetherAt es l) g g) gs
    → n ≤ length (all_below gs) → IsApartAt es l ms n → Fit gs n
fits_apart es l [] ms n z t o a = ([], [], refl, omega (arith, o))
fits_apart es l (g ∷ gs) ms zero z t o a = ([], g ∷ gs, refl, refl)
fits_apart es l (g ∷ gs) ms (suc n) z t o a = elim (cases_lt (suc n) (length g.below)) [
  | inl i ↦
      let size : length ms ≡ length (g.below ++ all_below gs) = named_size ms (g.below ++ all_below gs) z in
      absurd (a n (omega arith) (omega (arith, size, i, length-append g.below (all_below gs)))
      (same_place es l g gs ms n (suc n) z t.0 (omega (arith, i)) i))
  | inr i ↦
      let k : ℕ = length g.below in
      let rest : Fit gs (suc n - k) = fits_apart es l gs (drop k ms) (suc n - k) (named_past ms g.below
      (all_below gs) z)
      t.1 (omega (arith, o, i, length-append g.below (all_below gs)))
      (apart_past es l ms k (suc n) (suc n - k) (omega (arith, i)) a) in
      let left : length (all_below rest.0) ≡ suc n - k = rest.3 in (
        g ∷ rest.0,
        rest.1,
        ap (λ (hs : List Group). g ∷ hs) rest.2,
        omega (arith, left, i, length-append g.below (all_below rest.0)),
      )
]
