-- How the worked examples are written.
use Rattle.std.proofs.Common.{ℕ, ◌+◌, ℤ, List, [], ◌∷◌, ◌++◌, length, Option, map}
use Rattle.std.specs.Prelude.{encode_utf8_all}
use Rattle.std.specs.Int.{int_min, int_max}
use Rattle.scad_fault.specs.declared.place.Place.{Place}
use Rattle.scad_fault.specs.declared.fault.FaultKind.{FaultKind}
use Rattle.scad_fault.specs.declared.budget.BudgetKind.{BudgetKind}
use Rattle.scad_geom.specs.declared.point3.Pt3.{Pt3}
use Rattle.scad_solid.specs.declared.triangle.Triangle.{Triangle}
use Rattle.scad_ast.specs.Tree.{Expression, Parameter, Items}
use Rattle.scad_tree.specs.Solid.{Solid, Solids, nothing, surface, union, intersection, difference, none, member}
use Rattle.scad_machine.specs.declared.fault.EvalFault.{EvalFault}
use Rattle.scad_machine.specs.declared.fault.EvalFault.TheVariants.{Fault, Over}
use Rattle.scad_expr.specs.State.{Outcome, gives, refuses}
use Rattle.scad_members.specs.Meaning.{means}

-- in line 1
abbrev pub at : ℕ → Place
at column = record { line = 1; col = column }

abbrev pub parameter : List ℕ → Option Expression → Parameter
parameter name default = record { name = name; default = default }

abbrev pub quote : ℕ
quote = 34

abbrev pub point : ℤ → ℤ → ℤ → Pt3
point x y z = record { x = x; y = y; z = z }

-- a node of a tree, with its level: of a leaf also the number of triangles, and the least and the greatest coordinates
pub data Node : Type 0 where
  Empty : ℕ → Node
  Leaf : ℕ → ℕ → Pt3 → Pt3 → Node
  Union : ℕ → Node
  Intersection : ℕ → Node
  Difference : ℕ → Node

abbrev least : Pt3 → Pt3 → Pt3
least p q = point (int_min p.x q.x) (int_min p.y q.y) (int_min p.z q.z)

abbrev greatest : Pt3 → Pt3 → Pt3
greatest p q = point (int_max p.x q.x) (int_max p.y q.y) (int_max p.z q.z)

abbrev least_of : Pt3 → List Triangle → Pt3
least_of p [] = p
least_of p (t ∷ ts) = least_of (least p (least t.a (least t.b t.c))) ts

abbrev greatest_of : Pt3 → List Triangle → Pt3
greatest_of p [] = p
greatest_of p (t ∷ ts) = greatest_of (greatest p (greatest t.a (greatest t.b t.c))) ts

abbrev leaf_of : ℕ → List Triangle → Node
leaf_of level [] = Empty level
leaf_of level (t ∷ ts) = Leaf level (length (t ∷ ts)) (least_of t.a (t ∷ ts)) (greatest_of t.a (t ∷ ts))

abbrev mutual
  pub nodes : ℕ → Solid → List Node
  nodes level nothing = Empty level ∷ []
  nodes level (surface ts) = leaf_of level ts ∷ []
  nodes level (union ms) = Union level ∷ nodes_of (level + 1) ms
  nodes level (intersection ms) = Intersection level ∷ nodes_of (level + 1) ms
  nodes level (difference first rest) = Difference level ∷ (nodes (level + 1) first ++ nodes_of (level + 1) rest)

  pub nodes_of : ℕ → Solids → List Node
  nodes_of level none = []
  nodes_of level (member s rest) = nodes level s ++ nodes_of level rest

-- what is seen of an outcome
pub data Seen : Type 0 where
  -- the steps, leaves and triangles, the lines and the tree
  seen : ℕ → ℕ → ℕ → List (List ℕ) → List Node → Seen
  -- the first fault or budget, and the lines before it
  refused : EvalFault → List (List ℕ) → Seen

abbrev seen_of : Outcome Solid → Seen
seen_of (gives s t) = seen t.steps t.leaves t.triangles t.echoes (nodes 0 s)
seen_of (refuses e t) = refused e t.echoes

-- what a program means, as far as it is seen
abbrev pub shown : Items → Seen
shown program = seen_of (means program)

abbrev pub made : ℕ → ℕ → ℕ → List (List ℕ) → List Node → Seen
made steps leaves triangles lines all = seen steps leaves triangles (map encode_utf8_all lines) all

abbrev pub faulted : FaultKind → Place → List ℕ → List (List ℕ) → Seen
faulted kind place name lines = refused (Fault (record { kind = kind; at = place; name = name }))
    (map encode_utf8_all lines)

abbrev pub passed : BudgetKind → Place → List (List ℕ) → Seen
passed kind place lines = refused (Over (record { kind = kind; at = place; layer = 0; count = 0 }))
    (map encode_utf8_all lines)
