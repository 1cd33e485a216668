-- A search among stays in order ends at the first that lies past an edge.
use Rattle.std.proofs.Common.{◌≡◌, ℕ, ◌+◌, ◌<◌, false, List, ◌∷◌, length, get_or, drop, All, sym, subst}
use Rattle.std.specs.List.{AllByRecursion}
use Rattle.std.proofs.lemmas.List.{drop_more}
use Rattle.std.proofs.lemmas.List.Elements.{recursion_from_All, All-from_recursion, All-drop}
use Rattle.scad_geom.specs.declared.point.Edge.{Edge}
use Rattle.slice_events.specs.declared.stay.Stay.{Stay}
use Rattle.slice_events.specs.declared.comparison.Found.{Found}
use Rattle.slice_events.specs.Boxes.{boxes_meet}
use Rattle.slice_events.specs.Stays.{comes_before, AreInOrder, IsStayOf, at_home}
use Rattle.slice_events.specs.Yields.{Yield, and_then, yield_at, yield_with, HasRoom, HasYielded, IsLeft}
use Rattle.slice_events.proofs.InOrder.{IsPast, none_past, in_order-drop}
use Rattle.slice_events.proofs.Yields.{left_none, left_more, left_room, with_none, with_more}

module _ (es : List Edge) (s : Stay) (later : List Stay) (j : ℕ) (d : Stay) (before now : Found) (l : j < length later)
    (left : IsLeft before now (yield_with es s (drop j later)) (yield_with es s later)) where
  rest_home : All (IsStayOf es) later → AreInOrder (s ∷ later) → IsPast es s (get_or later j d)
      → AllByRecursion (λ t. at_home boxes_meet es s t ≡ false) (drop j later)
  rest_home stays order past =
      let here : drop j later ≡ get_or later j d ∷ drop (j + 1) later = drop_more later j d l in
      let after : AreInOrder (get_or later j d ∷ drop (j + 1) later) = subst AreInOrder here (in_order-drop later j order.1) in
      subst (AllByRecursion (λ t. at_home boxes_meet es s t ≡ false)) (sym here)
      (none_past es s (get_or later j d) (drop (j + 1) later) past
      (All-from_recursion (λ t. comes_before t s ≡ false) later order.0 j d l)
      (stays j d l) after.0
      (recursion_from_All (IsStayOf es) (drop (j + 1) later) (All-drop (IsStayOf es) (j + 1) later stays)))

  pub ends_early : All (IsStayOf es) later → AreInOrder (s ∷ later) → IsPast es s (get_or later j d)
      → HasYielded before now (yield_with es s later)
  ends_early stays order past =
      left_none before now (yield_with es s later)
      (subst (λ (y : Yield). IsLeft before now y (yield_with es s later))
      (with_none es s (drop j later) (rest_home stays order past)) left)

  one_and_rest : IsLeft before now (and_then (yield_at es s (get_or later j d)) (yield_with es s (drop (j + 1) later)))
      (yield_with es s later)
  one_and_rest = subst (λ (y : Yield). IsLeft before now y (yield_with es s later)) (with_more es s later j d l) left

  pub room_for_one : HasRoom before (yield_with es s later) → HasRoom now (yield_at es s (get_or later j d))
  room_for_one room = left_room before now (yield_at es s (get_or later j d)) (yield_with es s (drop (j + 1) later))
      (yield_with es s later) room one_and_rest

  pub one_more : (next : Found) → HasYielded now next (yield_at es s (get_or later j d))
      → IsLeft before next (yield_with es s (drop (j + 1) later)) (yield_with es s later)
  one_more next y = left_more before now next (yield_at es s (get_or later j d)) (yield_with es s (drop (j + 1) later))
      (yield_with es s later) one_and_rest y
