-- Points and edges that compare as equal are one; the order of edges is total.
use Rattle.std.proofs.Common.{◌≡◌, Bool, true, false, not, ap, sym, ◌∙◌, true≢false}
use Rattle.std.specs.Cmp.{IsTotalOrder, IsStrictWeakOrder}
use Rattle.std.proofs.lemmas.Cmp.{then_total, on_total}
use Rattle.std.proofs.lemmas.List.Sorted.{ranks_by}
use Rattle.std.proofs.lemmas.Bool.{not-false, false_from_ne_true}
use Rattle.scad_geom.specs.declared.point.Pt.{Pt}
use Rattle.scad_geom.specs.declared.point.Edge.{Edge}
use Rattle.scad_geom.proofs.Balance.{same_place, same_place-is, same_place-itself}
use Rattle.scad_geom.proofs.PointOrder.{point_total}
use Rattle.slice_loops.specs.Order.{edge_cmp, is_less}

pub differ : (p q : Pt) → (p ≡ q → ⊥) → same_place p q ≡ false
differ p q h = false_from_ne_true (same_place p q) (λ e. h (same_place-is p q e))

-- what a test for differing points tells
pub differ_by : (p q : Pt) (t : Bool) → t ≡ not (same_place p q) → t ≡ true → p ≡ q → ⊥
differ_by p q t e h s = true≢false (sym h ∙ e ∙ ap not (ap (same_place p) (sym s) ∙ same_place-itself p))

pub equal_by : (p q : Pt) (t : Bool) → t ≡ not (same_place p q) → t ≡ false → p ≡ q
equal_by p q t e h = same_place-is p q (not-false (same_place p q) (sym e ∙ h))

pub edge_total : IsTotalOrder edge_cmp
edge_total = then_total (on_total (λ (e : Edge). e.a) point_total) (on_total (λ (e : Edge). e.b) point_total)

pub less_order : IsStrictWeakOrder is_less
less_order = ranks_by edge_total (λ (e : Edge). e)
