-- From stop to stop, the first bundle to its right.
use Rattle.std.proofs.Common.{◌≡◌, ℕ, ◌-◌, ◌<◌, ◌≤◌, ◌++◌, ◌∷◌, [], Bool, true, false, List, length, get_or, sym, ap, ◌∙◌, arith, subst}
use Rattle.scad_geom.specs.Point.{Point}
use Rattle.slice_pieces.specs.Spots.{point_of}
use Rattle.slice_border.specs.declared.stop.Stop.{Stop}
use Rattle.slice_border.specs.Beside.{left_value, passing, is_right_of}
use Rattle.slice_bool.proofs.Along.{any_stop, from_first, passed_both, passed_next, value_more}
use Rattle.slice_bool.proofs.LeftValues.{value_beside, any_default, length_more}
use Rattle.slice_bool.proofs.beside.values_beside.Goals as goal

pub stops-init : goal.stops-init
stops-init c = record {
  there = omega arith;
  passed = λ j d e h o. absurd (omega arith);
  size = ap length c.new-values.ensures.items;
  each = λ k d h. absurd (omega arith);
}

pub stops-preserved : goal.stops-preserved
stops-preserved c =
    let es = c.args.sweep.now.edges.now in
    let shape = c.args.sweep.now.shape.now in
    let bs : List (List ℕ) = c.args.side.now.bundles.items in
    let vs : List Bool = c.args.side.now.values.items in
    let ss : List Stop = c.args.stops.now in
    let i : ℕ = c.stops.s-index in
    let s : Stop = c.s-item.result in
    let p : Point = point_of s.spot in
    let k : ℕ = c.first_right-from.result in
    let v : Bool = c.index.result.now in
    let are : c.deref.result.now ≡ bs = c.deref.ensures.value in
    let there : k ≤ length bs = subst (λ (bs : List (List ℕ)). k ≤ length bs) are c.first_right-from.ensures.there in
    let gone : (j : ℕ) (d : List ℕ) → j < k → is_right_of es p (get_or bs j d) ≡ false =
    passed_both es bs ss i c.stops.from k s c.s-item.is c.stops-test.true c.stops.invariant.passed
    (subst (λ (bs : List (List ℕ)). (j : ℕ) (d : List ℕ) → c.stops.from ≤ j → j < k
    → is_right_of es p (get_or bs j d) ≡ false)
    are c.first_right-from.ensures.passed) in
    let next : (d : List ℕ) → k < length bs → is_right_of es p (get_or bs k d) ≡ true =
    subst (λ (bs : List (List ℕ)). (d : List ℕ) → k < length bs → is_right_of es p (get_or bs k d) ≡ true)
    are c.first_right-from.ensures.next in
    let items : c.push.new.self.items ≡ c.stops.values.items ++ (v ∷ []) = c.in_ok-push.ensures.items in
    let size = c.requires.values.size in
    let len = c.len.ensures in
    let counted : c.len.result ≡ length bs = omega (arith, len) in
    let value : v ≡ left_value es shape (passing es true p bs) =
    c.index.ensures
    ∙ ap (λ (n : ℕ). get_or vs (n - k) v) counted
    ∙ any_default vs (length bs - k) v false (omega (arith, size))
    ∙ value_beside es shape bs vs k (length bs - k) c.requires.values (omega arith) (omega (arith, there))
    ∙ sym (ap (left_value es shape) (from_first es p bs k there gone next)) in
    record {
      there = there;
      passed = passed_next es bs ss i k s c.s-item.is c.requires.stops c.requires.firsts there gone;
      size = length_more c.stops.values.items c.push.new.self.items v i items c.stops.invariant.size;
      each = λ k d h. ap (λ (vs : List Bool). get_or vs k false) items
          ∙ value_more (λ k. left_value es shape (passing es true (point_of (get_or ss k d).spot) bs))
          c.stops.values.items
          v i c.stops.invariant.size (λ k h. c.stops.invariant.each k d h)
          (value ∙ ap (λ (s : Stop). left_value es shape (passing es true (point_of s.spot) bs))
          (c.s-item.is ∙ any_stop ss i s d c.stops-test.true)) k h;
    }

pub returns : goal.returns
returns c = record {
  size = c.stops.invariant.size ∙ omega (arith, c.stops-test.false, c.stops.auto);
  each = λ k d h. c.stops.invariant.each k d (omega (arith, c.stops-test.false));
}
