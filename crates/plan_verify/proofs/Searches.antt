-- What the search of an index finds.
use Rattle.std.proofs.Common.{◌≡◌, ℕ, zero, suc, ◌+◌, ◌<◌, ◌≤◌, Bool, true, [], ◌∷◌, ◌++◌, List, length, take, get_or, refl, ap, ap₂, sym, subst, ◌∙◌, arith, ℤ, pos, ◌+ℤ◌}
use Rattle.std.specs.Prelude.{All, unsigned_abs}
use Rattle.std.specs.List.{Any}
use Rattle.std.proofs.lemmas.List.{take_all}
use Rattle.std.proofs.lemmas.List.Elements.{All-weaker, All-more}
use Rattle.scad_geom.specs.declared.point.Pt.{Pt}
use Rattle.scad_geom.specs.declared.point.Edge.{Edge}
use Rattle.scad_geom.specs.declared.half.Half.TheVariants.{Whole}
use Rattle.scad_geom.specs.Half.{meant}
use Rattle.scad_geom.specs.Point.{Point}
use Rattle.scad_geom.specs.Segment.{segments}
use Rattle.scad_geom.specs.Winding.{wind}
use Rattle.plan_verify.specs.declared.extent.Extent.{Extent}
use Rattle.plan_verify.specs.declared.index.Tree.{Tree}
use Rattle.plan_verify.specs.declared.trial.Trial.{Trial}
use Rattle.plan_verify.specs.Extent.{IsIn, Covers, is_beyond, is_off}
use Rattle.plan_verify.specs.Index.{sides_in, extent_in, IsBoxed}
use Rattle.plan_verify.specs.Trial.{IsTrial, IsApart}
use Rattle.plan_verify.proofs.Extents.{in_covered, beyond_apart, off_wind}
use Rattle.plan_verify.proofs.Indexes.{root_holds}
use Rattle.plan_verify.proofs.Windings.{wind_both, wind_size}

-- ---- rectangles
pub round_more : (x y z : Extent) (es : List Edge) (k : ℕ) (d : Edge) → k < length es → Covers z x → Covers z y
    → IsIn y (get_or es k d) → All (IsIn x) (take k es) → All (IsIn z) (take (k + 1) es)
round_more x y z es k d l before new inside all = All-more (IsIn z) es k d l
    (All-weaker (IsIn x) (IsIn z) (λ e o. in_covered z x e before o) (take k es) all)
    (in_covered z y (get_or es k d) new inside)

-- ---- nearness
pub one_apart : (t : Trial) (x : Extent) (e : Edge) (r : Bool) → IsTrial t → IsIn x e → r ≡ is_beyond x t.reach
    → r ≡ true → IsApart t e
one_apart t x e r sound inside is sure = beyond_apart t.s t.u t.reach t.line sound.reach x e inside (sym is ∙ sure)

pub all_apart : (tree : Tree) (t : Trial) (x : Extent) (r : Bool) → IsBoxed tree → IsTrial t
    → x ≡ extent_in tree → r ≡ is_beyond x t.reach → r ≡ true → All (IsApart t) (sides_in tree)
all_apart tree t x r boxed sound same is sure = All-weaker (IsIn (extent_in tree)) (IsApart t)
    (λ e inside. one_apart t (extent_in tree) e r sound inside (is ∙ ap (λ (y : Extent). is_beyond y t.reach) same)
    sure)
    (sides_in tree) (root_holds tree boxed)

-- ---- winding numbers
pub off_tree : (tree : Tree) (p : Pt) (x : Extent) (r : Bool) → IsBoxed tree → x ≡ extent_in tree
    → r ≡ is_off x p → r ≡ true → wind (meant Whole p) (segments (sides_in tree)) ≡ pos 0
off_tree tree p x r boxed same is sure = off_wind (extent_in tree) p (sides_in tree)
    (ap (λ (y : Extent). is_off y p) (sym same) ∙ sym is ∙ sure) (root_holds tree boxed)

pub sized : (z : ℤ) (p : Point) (es : List Edge) → z ≡ wind p (segments es) → unsigned_abs z ≤ length es
sized z p es e = subst (λ (y : ℤ). unsigned_abs y ≤ length es) (sym e) (wind_size p es)

pub wind_of_both : (x y z : ℤ) (p : Point) (es fs gs : List Edge) → gs ≡ es ++ fs → x ≡ wind p (segments es)
    → y ≡ wind p (segments fs) → z ≡ x +ℤ y → z ≡ wind p (segments gs)
wind_of_both x y z p es fs gs are first second sum =
    sum ∙ ap₂ (λ (v w : ℤ). v +ℤ w) first second ∙ sym (wind_both p es fs)
    ∙ ap (λ (hs : List Edge). wind p (segments hs)) (sym are)

-- ---- items of a list
item_same : {X : Type 0} (xs : List X) (k : ℕ) (d e : X) → k < length xs → get_or xs k d ≡ get_or xs k e
item_same [] k d e l = absurd (omega (arith, l))
item_same (x ∷ xs) zero d e l = refl
item_same (x ∷ xs) (suc k) d e l = item_same xs k d e (omega (arith, l))

pub any_item : {X : Type 0} (P : X → Type 0) (xs : List X) (k : ℕ) (d : X) → k < length xs → P (get_or xs k d)
    → Any P xs
any_item P xs k d l p = (k, get_or xs k d, l, item_same xs k (get_or xs k d) d l, p)

pub any_at : {X : Type 0} (P : X → Type 0) (xs : List X) (k : ℕ) (x : X) → k < length xs → x ≡ get_or xs k x
    → P x → Any P xs
any_at P xs k x l e p = (k, x, l, sym e, p)

pub none_any : {X : Type 0} (P : X → Type 0) (xs : List X) → All (λ x. P x → ⊥) xs → Any P xs → ⊥
none_any P xs all (k, x, l, e, p) = all k x l (subst P (sym e) p)

pub all_taken : {X : Type 0} (P : X → Type 0) (xs : List X) (k : ℕ) → length xs ≤ k → All P (take k xs)
    → All P xs
all_taken {X = X} P xs k l all = subst (λ (ys : List X). All P ys) (take_all k xs l) all
