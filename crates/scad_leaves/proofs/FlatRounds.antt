-- One more leaf of a flat shape, and the end of them, in terms of what all of them give.
use Rattle.std.proofs.Common.{◌≡◌, ℕ, zero, ◌+◌, ◌<◌, ◌≤◌, true, List, [], ◌∷◌, ◌++◌, length, get_or, drop, suc, sym, ap, ◌∙◌, arith}
use Rattle.std.specs.List.{list_all}
use Rattle.std.proofs.lemmas.Bool.{and_parts}
use Rattle.std.proofs.lemmas.List.{drop_more, drop_all}
use Rattle.scad_fault.specs.declared.place.Place.{Place}
use Rattle.scad_modules.specs.declared.outline.Outline.{Outline}
use Rattle.scad_modules.specs.Outline.{is_outline}
use Rattle.scad_modules.specs.View.{outline, outlines}
use Rattle.scad_tree.specs.declared.node.Node.{Node}
use Rattle.scad_tree.specs.Solid.{Solid}
use Rattle.scad_tree.specs.View.{solid_of, solids}
use Rattle.scad_machine.specs.declared.fault.EvalFault.{EvalFault}
use Rattle.scad_machine.specs.State.{State, Outcome, gives, refuses, Action, and_then}
use Rattle.scad_leaves.specs.declared.space.Where.{Where}
use Rattle.scad_leaves.specs.FlatLeaves.{leaf_in, flat_leaves}
use Rattle.scad_leaves.proofs.MadeTrees.{solids-push}

-- the outline of a place, and those behind it
next : (all : List Outline) (i : ℕ) (o : Outline) → i < length all → o ≡ get_or all i o → outlines (drop i all)
    ≡ outline o ∷ outlines (drop (i + 1) all)
next all i o below is = ap outlines (drop_more all i o below) ∙ ap (λ p. outline p ∷ outlines (drop (i + 1) all))
    (sym is)

-- it is an outline
pub outline-at : (all : List Outline) (n : ℕ) (o : Outline) → n < length all → o ≡ get_or all n o
    → list_all is_outline (outlines all) ≡ true → is_outline (outline o) ≡ true
outline-at [] n o below is e = absurd (omega (arith, below))
outline-at (p ∷ all) zero o below is e = ap (λ q. is_outline (outline q)) is ∙ (and_parts (is_outline (outline p))
    (list_all is_outline (outlines all)) e).0
outline-at (p ∷ all) (suc n) o below is e = outline-at all n o (omega (arith, below)) is
    (and_parts (is_outline (outline p)) (list_all is_outline (outlines all)) e).1

module _ (at : Place) (name : List ℕ) (w : Where) (all : List Outline) (i : ℕ) (o : Outline) (there : i < length all) (is : o ≡ get_or all i o) (so_far : List Node) (s : State) (given : Outcome (List Solid)) (left : flat_leaves at name w (outlines (drop i all)) (solids so_far) s ≡ given) where
  abbrev rest : Solid → Action (List Solid)
  rest t = flat_leaves at name w (outlines (drop (i + 1) all)) (solids so_far ++ t ∷ [])

  leaf-next : given ≡ and_then (leaf_in at name (outline o) w.whole w.space s) rest
  unfolding flat_leaves
  leaf-next = sym left ∙ ap (λ l. flat_leaves at name w l (solids so_far) s) (next all i o there is)

  pub leaf-goes : (t : Node) (s2 : State) → leaf_in at name (outline o) w.whole w.space s ≡ gives (solid_of t) s2
      → flat_leaves at name w (outlines (drop (i + 1) all)) (solids (so_far ++ t ∷ [])) s2 ≡ given
  leaf-goes t s2 e =
      ap (λ l. flat_leaves at name w (outlines (drop (i + 1) all)) l s2) (solids-push so_far t)
      ∙ sym (leaf-next ∙ ap (λ (p : Outcome Solid). and_then p rest) e)

  pub leaf-stops : (f : EvalFault) (s2 : State) → leaf_in at name (outline o) w.whole w.space s ≡ refuses f s2
      → given ≡ refuses f s2
  leaf-stops f s2 e = leaf-next ∙ ap (λ (p : Outcome Solid). and_then p rest) e

pub leaves-end : (at : Place) (name : List ℕ) (w : Where) (all : List Outline) (i : ℕ) (so_far : List Solid) (s : State)
    → length all ≤ i → flat_leaves at name w (outlines (drop i all)) so_far s ≡ gives so_far s
unfolding flat_leaves
leaves-end at name w all i so_far s past = ap (λ l. flat_leaves at name w (outlines l) so_far s) (drop_all i all past)
