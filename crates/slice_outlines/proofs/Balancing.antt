-- One value below a height and above it, beside what lies ahead.
use Rattle.std.proofs.Common.{◌≡◌, ℕ, zero, suc, Bool, true, false, List, [], ◌∷◌, ◌++◌, drop, refl, sym, ap, ◌∙◌, true≢false}
use Rattle.std.specs.Prelude.{⊤, if◌then◌else◌}
use Rattle.std.specs.List.{AllByRecursion}
use Rattle.scad_geom.specs.declared.level.LeafEdge.{LeafEdge}
use Rattle.scad_geom.specs.declared.shape.Shape.{Shape}
use Rattle.scad_geom.specs.Point.{Point}
use Rattle.slice_sweep.specs.Front.{bundles_in}
use Rattle.slice_border.specs.Beside.{left_value, passing, is_right_of}
use Rattle.slice_border.proofs.BundleValues.{outside_right}
use Rattle.sweep_laws.specs.Fronts.{Strand, bundles_of, AreValued}
use Rattle.slice_outlines.specs.declared.mark.Mark.{Mark}
use Rattle.slice_outlines.specs.declared.height.Height.{Height}
use Rattle.slice_outlines.specs.Marks.{left_of_first, AreKept}
use Rattle.slice_outlines.specs.Heights.{IsBalancedBefore}
use Rattle.slice_outlines.specs.Ahead.{between}
use Rattle.slice_outlines.proofs.Onward.{kept_drop}

-- ---- below the height
valued_drop : (es : List LeafEdge) (shape : Shape) (n : ℕ) (ss : List Strand) → AreValued es shape ss
    → AreValued es shape (drop n ss)
valued_drop es shape zero ss a = a
valued_drop es shape (suc n) [] a = tt
valued_drop es shape (suc n) (s ∷ ss) a = valued_drop es shape n ss a.1

first_valued : (es : List LeafEdge) (shape : Shape) (ms : List Mark) (ss : List Strand) → AreKept false ms ss
    → AreValued es shape ss → left_of_first ms false ≡ left_value es shape (bundles_of ss)
first_valued es shape [] [] k a = sym (outside_right es shape)
first_valued es shape [] (s ∷ ss) k a = absurd k
first_valued es shape (m ∷ ms) [] k a = absurd k
first_valued es shape (m ∷ ms) (s ∷ ss) k a = k.0.left ∙ a.0

-- where the shape's value to the left of the strands ahead is one below the height and above it
pub balanced_by : (h : Height) (shape : Shape) (ss : List Strand) (n m : ℕ) → AreKept false h.below.now ss
    → AreValued h.edges.now shape ss
    → left_value h.edges.now shape (bundles_of (drop n ss))
    ≡ left_value h.edges.now shape (drop m (bundles_in h.front.now)) → IsBalancedBefore h shape (between n m)
balanced_by h shape ss n m k a e =
    first_valued h.edges.now shape (drop n h.below.now) (drop n ss) (kept_drop false n h.below.now ss k)
    (valued_drop h.edges.now shape n ss a) ∙ e

-- ---- to the right of a point
-- the first of these is to the right of a point, if there are any
abbrev pub IsFirstRight : List LeafEdge → Point → List (List ℕ) → Type 0
IsFirstRight es p [] = ⊤
IsFirstRight es p (b ∷ bs) = is_right_of es p b ≡ true

first_right : (es : List LeafEdge) (p : Point) (bs : List (List ℕ)) → IsFirstRight es p bs → passing es true p bs ≡ bs
first_right es p [] a = refl
first_right es p ([] ∷ bs) a = absurd (true≢false (sym a))
first_right es p ((k ∷ ks) ∷ bs) a =
    ap (λ (t : Bool). if t then (k ∷ ks) ∷ bs else passing es true p bs) a

-- behind those that aren't
pub right_part : (es : List LeafEdge) (p : Point) (bs cs : List (List ℕ))
    → AllByRecursion (λ b. is_right_of es p b ≡ false) bs → IsFirstRight es p cs → passing es true p (bs ++ cs) ≡ cs
right_part es p [] cs a b = first_right es p cs b
right_part es p ([] ∷ bs) cs a b = right_part es p bs cs a.1 b
right_part es p ((k ∷ ks) ∷ bs) cs a b =
    ap (λ (t : Bool). if t then (k ∷ ks) ∷ (bs ++ cs) else passing es true p (bs ++ cs)) a.0
    ∙ right_part es p bs cs a.1 b
