-- Depth, and where an expression in memory stands.
use Rattle.std.proofs.Common.{◌≡◌, ◌≢◌, ℕ, zero, suc, ◌-◌, List, refl, ap, arith}
use Rattle.scad_fault.specs.declared.budget.BudgetKind.TheVariants.{Depth}
use Rattle.scad_ast.specs.declared.expression.Expr.{Expr}
use Rattle.scad_ast.specs.declared.expression.Node.{Node, Undef, Bool, Number, Str, Name, List', Range', Unary', Binary', Choose', Index', Member', Call', Let', Assert', Echo', Node-Range-1-None', Node-Range-1-Some'}
use Rattle.scad_ast.specs.Tree.{Expression, Element}
use Rattle.scad_ast.specs.View.{expression_at, expression_of}
use Rattle.scad_fault.specs.declared.place.Place.{Place}
use Rattle.scad_value.specs.Datum.{Datum}
use Rattle.scad_scope.specs.Env.{Env}
use Rattle.scad_machine.specs.State.{State, over}
use Rattle.scad_stack.specs.Places.{place, element_place}
use Rattle.scad_stack.specs.Meaning.{meaning, value, value_layer, element_node}

-- past the limit of depth
pub value_none : (d : ℕ) (env along : Env) (e : Expression) (s : State) → d ≡ 0 → value d env along e s
    ≡ over Depth (place e) s
unfolding meaning
value_none zero env along e s none = refl
value_none (suc d) env along e s none = absurd (let no : ⊥ = omega (arith, none) in no)

-- one level deeper
pub value_more : (d : ℕ) (env along : Env) (e : Expression) (s : State) → d ≢ 0
    → value d env along e s ≡ value_layer
    (meaning (d - 1)) env along e s
unfolding meaning
value_more zero env along e s some = absurd (some refl)
value_more (suc d) env along e s some = ap (λ n. value_layer (meaning n) env along e s) (omega arith)

place_at : (at : Place) (n : Node) → place (expression_at at n) ≡ at
place_at at Undef = refl
place_at at (Bool b) = refl
place_at at (Number z) = refl
place_at at (Str chars) = refl
place_at at (Name word) = refl
place_at at (List' shape all) = refl
place_at at (Range' p a s Node-Range-1-None' q b e) = refl
place_at at (Range' p a s (Node-Range-1-Some' r c n) q b e) = refl
place_at at (Unary' op p a n) = refl
place_at at (Binary' op p a x q b n) = refl
place_at at (Choose' p a l q b x r c n) = refl
place_at at (Index' p a x q b n) = refl
place_at at (Member' p a n word) = refl
place_at at (Call' word shape all) = refl
place_at at (Let' shape all p a n) = refl
place_at at (Assert' shape all p a n) = refl
place_at at (Echo' shape all p a n) = refl

pub place_of : (e : Expr) → place (expression_of e) ≡ e.at
place_of e = place_at e.at e.node

pub ruleset depths = (value_none, value_more, place_of)

-- the same of elements
pub element_none : (d : ℕ) (env along : Env) (e : Element) (so_far : List Datum) (s : State) → d ≡ 0
    → (meaning d).element env along e so_far s ≡ over Depth (element_place e) s
unfolding meaning
element_none zero env along e so_far s none = refl
element_none (suc d) env along e so_far s none = absurd (let no : ⊥ = omega (arith, none) in no)

pub element_more : (d : ℕ) (env along : Env) (e : Element) (so_far : List Datum) (s : State) → d ≢ 0
    → (meaning d).element env along e so_far s ≡ element_node (meaning (d - 1)) env along e so_far s
unfolding meaning
element_more zero env along e so_far s some = absurd (some refl)
element_more (suc d) env along e so_far s some = ap (λ n. element_node (meaning n) env along e so_far s) (omega arith)

pub ruleset elements = (element_none, element_more)
