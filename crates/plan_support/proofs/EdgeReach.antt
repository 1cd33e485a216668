-- The places that an edge reaches, by its ends and by its line.
use Rattle.std.proofs.Common.{◌≡◌, ℕ, Bool, true, false, Some, None, [], ◌∷◌, refl, arith, ℤ, pos, ◌+ℤ◌, ◌-ℤ◌, ◌*ℤ◌, ◌<ℤ◌}
use lib.Signed.{◌≤ℤ◌}
use Rattle.std.specs.Prelude.{int_le, ◌||◌, ◌&&◌}
use Rattle.std.specs.Int.{int_min, int_max}
use Rattle.std.proofs.lemmas.Int.{ints}
use Rattle.std.proofs.lemmas.Bool.{both_ways, and_parts}
use Rattle.std.proofs.lemmas.List.Elements.{All-nil, All-cons}
use Rattle.scad_geom.specs.declared.point.Edge.{Edge}
use Rattle.scad_geom.specs.Line.{low, high, rise, x_at}
use Rattle.scad_geom.proofs.Rising.{by_order, order}
use Rattle.plan_infill.specs.Quotient.{IsFloor, IsCeiling}
use Rattle.plan_infill.proofs.Quotients.{at_most_times, after_floor, before_ceiling}
use Rattle.plan_infill.specs.declared.run.Run.{Run}
use Rattle.plan_support.specs.On.{is_on}
use Rattle.plan_infill.proofs.Elements.{first_in}
use Rattle.plan_support.proofs.Canonical.{place_on}
use Rattle.plan_support.specs.declared.reach.Reach.{Reach}
use Rattle.plan_support.specs.Near.{IsBesideEnds, line_reach, IsReach, IsClipped}
use Rattle.plan_infill.proofs.Extents.{lesser, greater}

from_ceiling : (n d r x : ℤ) → pos 0 <ℤ d → IsCeiling n d r → r ≤ℤ x → n ≤ℤ (x *ℤ d)
from_ceiling n d r x h c k =
    let m = c.most in
    let t = at_most_times r x d h k in
    omega (arith, ints, m, t)

to_ceiling : (n d r x : ℤ) → pos 0 <ℤ d → IsCeiling n d r → n ≤ℤ (x *ℤ d) → r ≤ℤ x
to_ceiling n d r x h c k = by_order (order r x) (λ o. o)
    (λ o. let b = before_ceiling n d r x h c o in absurd (omega (arith, ints, b, k)))

from_floor : (n d r x : ℤ) → pos 0 <ℤ d → IsFloor n d r → x ≤ℤ r → (x *ℤ d) ≤ℤ n
from_floor n d r x h f k =
    let l = f.least in
    let t = at_most_times x r d h k in
    omega (arith, ints, l, t)

to_floor : (n d r x : ℤ) → pos 0 <ℤ d → IsFloor n d r → (x *ℤ d) ≤ℤ n → x ≤ℤ r
to_floor n d r x h f k = by_order (order x r) (λ o. o)
    (λ o. let a = after_floor n d r x h f (omega (arith, ints, o)) in absurd (omega (arith, ints, a, k)))

module _ (e : Edge) (y : ℤ) (gap : ℕ) (ends : Reach) (from : ends.from ≡ int_min (low e).x (high e).x -ℤ pos gap)
    (to : ends.to ≡ int_max (low e).x (high e).x +ℤ pos gap) where
  ends_if : (x : ℤ) → ends.from ≤ℤ x → x ≤ℤ ends.to → IsBesideEnds e gap x
  ends_if x a b = record { from = omega (arith, ints, a, from); to = omega (arith, ints, b, to) }

  pub within_ends : (pos 0 <ℤ rise e → ⊥) → IsReach e y gap ends
  within_ends flat x = (
    (λ i. (ends_if x i.from i.to, λ r. absurd (flat r))),
    (λ k. let a = k.0.from in let b = k.0.to in
        record { from = omega (arith, ints, a, from); to = omega (arith, ints, b, to) }),
  )

  pub within_both : (line both : Reach) → pos 0 <ℤ rise e
      → IsCeiling (x_at e y (pos 1) -ℤ line_reach e gap) (rise e) line.from
      → IsFloor (x_at e y (pos 1) +ℤ line_reach e gap) (rise e) line.to
      → both.from ≡ int_max ends.from line.from → both.to ≡ int_min ends.to line.to → IsReach e y gap both
  within_both line both rises c f bf bt x =
      let g = greater ends.from line.from both.from bf in
      let l = lesser ends.to line.to both.to bt in
      let g1 = g.first in
      let g2 = g.second in
      let l1 = l.first in
      let l2 = l.second in (
        (λ i.
            let a = i.from in
            let b = i.to in (
              ends_if x (omega (arith, ints, a, g1)) (omega (arith, ints, b, l1)),
              λ r. record {
                from = from_ceiling (x_at e y (pos 1) -ℤ line_reach e gap) (rise e) line.from x rises c
                    (omega (arith, ints, a, g2));
                to = from_floor (x_at e y (pos 1) +ℤ line_reach e gap) (rise e) line.to x rises f
                    (omega (arith, ints, b, l2));
              },
            )),
        (λ k.
            let a = k.0.from in
            let b = k.0.to in
            let s = k.1 rises in
            record {
              from = g.least x (omega (arith, ints, a, from))
                  (to_ceiling (x_at e y (pos 1) -ℤ line_reach e gap) (rise e) line.from x rises c s.from);
              to = l.greatest x (omega (arith, ints, b, to))
                  (to_floor (x_at e y (pos 1) +ℤ line_reach e gap) (rise e) line.to x rises f s.to);
            }),
      )

-- ---- clipped to the places that a run can have
module _ (from to first last : ℤ) (f : first ≡ int_max from (pos 0 -ℤ pos 2147483648))
    (t : last ≡ int_min to (pos 2147483647)) where
  pub clipped_some : first ≤ℤ last → IsClipped from to (Some (record { from = first; to = last }))
  clipped_some o =
      let g = greater from (pos 0 -ℤ pos 2147483648) first f in
      let l = lesser to (pos 2147483647) last t in
      let g1 = g.first in
      let l1 = l.first in
      record {
        some = All-cons (λ (r : Run). r.from ≤ℤ r.to) (record { from = first; to = last }) [] o
            (All-nil (λ (r : Run). r.from ≤ℤ r.to));
        is = λ x p. (
          (λ h.
              let a = place_from x h in
              let b = place_to x h in
              (omega (arith, ints, a, g1), omega (arith, ints, b, l1))),
          (λ k.
              let a = g.least x k.0 p.from in
              let b = l.greatest x k.1 p.to in
              place_on (record { from = first; to = last } ∷ []) (record { from = first; to = last }) x
              (first_in (record { from = first; to = last }) []) a b),
        );
      }
    where
      or_false : (b : Bool) → (b || false) ≡ true → b ≡ true
      or_false true h = refl
      or_false false h = h

      place_from : (x : ℤ) → is_on (record { from = first; to = last } ∷ []) x ≡ true → first ≤ℤ x
      place_from x h =
          let p = (and_parts (int_le first x) (int_le x last) (or_false (int_le first x && int_le x last) h)).0 in
          omega (arith, ints, p)

      place_to : (x : ℤ) → is_on (record { from = first; to = last } ∷ []) x ≡ true → x ≤ℤ last
      place_to x h =
          let p = (and_parts (int_le first x) (int_le x last) (or_false (int_le first x && int_le x last) h)).1 in
          omega (arith, ints, p)

  pub clipped_none : last <ℤ first → IsClipped from to None
  clipped_none o =
      let g = greater from (pos 0 -ℤ pos 2147483648) first f in
      let l = lesser to (pos 2147483647) last t in
      record {
        some = All-nil (λ (r : Run). r.from ≤ℤ r.to);
        is = λ x p. (
          (λ h. absurd (both_ways _ refl h)),
          (λ k.
              let a = g.least x k.0 p.from in
              let b = l.greatest x k.1 p.to in
              absurd (omega (arith, ints, o, a, b))),
        );
      }
