-- What lies on both sides of a level: the bundles there with the values beside them.
use Rattle.std.proofs.Common.{◌≡◌, ℕ, Bool, true, false, List, [], ◌∷◌, refl, sym, ap, subst}
use Rattle.std.specs.Prelude.{if◌then◌else◌}
use Rattle.std.specs.List.{AllByRecursion, concat}
use Rattle.scad_geom.specs.declared.level.Level.{Level}
use Rattle.scad_geom.specs.declared.level.LeafEdge.{LeafEdge}
use Rattle.scad_geom.specs.declared.shape.Shape.{Shape}
use Rattle.scad_geom.specs.Point.{Point}
use Rattle.scad_geom.proofs.Order.{front, back}
use Rattle.slice_bundles.specs.Bundles.{AreBundles}
use Rattle.slice_bundles.proofs.Live.{IsLive, live_bundles}
use Rattle.slice_bool.specs.declared.beside.Valued.{Valued}
use Rattle.slice_bool.specs.LeftValues.{AreLeftValues}
use Rattle.slice_border.specs.Beside.{RisesFirst, passing, is_right_of, TellBeside}
use Rattle.slice_bool.specs.BothSides.{IsSide}
use Rattle.slice_border.proofs.BundleValues.{rises_first}
use Rattle.slice_bool.proofs.LeftValues.{first_value}

firsts_of : (es : List LeafEdge) (l u : Level) (bs : List (List ℕ)) → AllByRecursion (IsLive es l u) (concat bs)
    → AllByRecursion (RisesFirst es) bs
firsts_of es l u [] h = tt
firsts_of es l u (b ∷ bs) h = (
  rises_first es l u b (front (IsLive es l u) b (concat bs) h),
  firsts_of es l u bs (back (IsLive es l u) b (concat bs) h),
)

pub slab_side : (above : Bool) (es : List LeafEdge) (shape : Shape) (l u at : Level) (v : Valued)
    → AreBundles es l u v.bundles.items
    → AreLeftValues es shape v.bundles.items v.values.items → TellBeside above es shape at v.bundles.items
    → IsSide above es shape at v
slab_side above es shape l u at v b values tell = record {
  values = values;
  firsts = firsts_of es l u v.bundles.items (live_bundles es l u v.bundles.items b);
  tell = tell;
}

pub nothing_side : (above : Bool) (es : List LeafEdge) (shape : Shape) (at : Level) (v : Valued)
    → v.bundles.items ≡ []
    → v.values.items ≡ false ∷ [] → TellBeside above es shape at [] → IsSide above es shape at v
nothing_side above es shape at v e f tell = record {
  values = subst (λ (bs : List (List ℕ)). AreLeftValues es shape bs v.values.items) (sym e)
      (subst (AreLeftValues es shape []) (sym f)
      (record { size = refl; each = λ k h. first_value es shape [] (false ∷ []) k refl h }));
  firsts = subst (AllByRecursion (RisesFirst es)) (sym e) tt;
  tell = subst (TellBeside above es shape at) (sym e) tell;
}

-- ---- the bundles to the right of a spot
pub pass_on : (es : List LeafEdge) (p : Point) (b : List ℕ) (bs : List (List ℕ)) → is_right_of es p b ≡ false
    → passing es true p (b ∷ bs) ≡ passing es true p bs
pass_on es p [] bs h = refl
pass_on es p (k ∷ ks) bs h = ap (λ (t : Bool). if t then (k ∷ ks) ∷ bs else passing es true p bs) h

pub pass_here : (es : List LeafEdge) (p : Point) (b : List ℕ) (bs : List (List ℕ)) → is_right_of es p b ≡ true
    → passing es true p (b ∷ bs) ≡ b ∷ bs
pass_here es p [] bs h = absurd cc
pass_here es p (k ∷ ks) bs h = ap (λ (t : Bool). if t then (k ∷ ks) ∷ bs else passing es true p bs) h
