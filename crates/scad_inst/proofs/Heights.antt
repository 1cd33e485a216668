-- `linear_extrude` goes on with the height that its arguments say, or stops at their fault.
use Rattle.std.proofs.Common.{◌≡◌, ℤ, Bool, ◌∙◌}
use Rattle.scad_fault.specs.declared.place.Place.{Place}
use Rattle.scad_machine.specs.declared.fault.EvalFault.{EvalFault}
use Rattle.scad_expr.specs.State.{State, Action, gives, refuses, ◌>>=◌, ◌>>◌}
use Rattle.scad_expr.proofs.Loops.{goes, stops}
use Rattle.scad_tree.specs.Solid.{Solid}
use Rattle.scad_leaves.specs.declared.space.Space.{Space}
use Rattle.scad_leaves.specs.Products.{judge_solid}

module _ (at : Place) (space : Space) (height : Action (ℤ × Bool)) (rest : ℤ × Bool → Action Solid) (s : State) (outside : judge_solid at space s ≡ gives (tt {0}) s) where
  pub height-stops : (e : EvalFault) → height s ≡ refuses e s → (judge_solid at space >> (height >>= rest)) s
      ≡ refuses e s
  height-stops e refused =
      goes (judge_solid at space s) (λ (u : Unit {0}). height >>= rest) (tt {0}) s outside ∙ stops (height s) rest e s
      refused

  pub height-goes : (h : ℤ × Bool) → height s ≡ gives h s → (judge_solid at space >> (height >>= rest)) s ≡ rest h s
  height-goes h given =
      goes (judge_solid at space s) (λ (u : Unit {0}). height >>= rest) (tt {0}) s outside ∙ goes (height s) rest h s
      given
