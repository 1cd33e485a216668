-- The syntax tree as a value, apart from where it lies in memory: each part with its place.
use Rattle.std.specs.Prelude.{ℕ, ℤ, Bool, List, Option}
use Rattle.scad_fault.specs.declared.place.Place.{Place}
use Rattle.scad_ast.specs.declared.operator.UnOp.{UnOp}
use Rattle.scad_ast.specs.declared.operator.BinOp.{BinOp}

mutual
  -- an expression
  pub data Expression : Type 0 where
    undef : Place → Expression
    boolean : Place → Bool → Expression
    number : Place → ℤ → Expression
    string : Place → List ℕ → Expression
    name : Place → List ℕ → Expression
    vector : Place → Elements → Expression
    -- start, end
    range : Place → Expression → Expression → Expression
    -- start, step, end
    stepped : Place → Expression → Expression → Expression → Expression
    unary : Place → UnOp → Expression → Expression
    binary : Place → BinOp → Expression → Expression → Expression
    -- test, chosen, other
    choose : Place → Expression → Expression → Expression → Expression
    index : Place → Expression → Expression → Expression
    member : Place → Expression → List ℕ → Expression
    call : Place → List ℕ → Arguments → Expression
    let_in : Place → Arguments → Expression → Expression
    assert_in : Place → Arguments → Expression → Expression
    echo_in : Place → Arguments → Expression → Expression

  -- the arguments of a call, each with its name where one is written
  pub data Arguments : Type 0 where
    no_arguments : Arguments
    argument : Option (List ℕ) → Expression → Arguments → Arguments

  -- what stands between the brackets of a vector
  pub data Elements : Type 0 where
    no_elements : Elements
    element : Element → Elements → Elements

  pub data Element : Type 0 where
    item : Expression → Element
    each : Place → Element → Element
    for_each : Place → Arguments → Element → Element
    -- start, test, step
    for_loop : Place → Arguments → Expression → Arguments → Element → Element
    let_element : Place → Arguments → Element → Element
    if_element : Place → Expression → Element → Element
    if_else : Place → Expression → Element → Element → Element

-- a parameter, with its default where one is written
pub record Parameter : Type 0 where
  pub name : List ℕ
  pub default : Option Expression

mutual
  -- what stands in a scope
  pub data Items : Type 0 where
    no_items : Items
    entry : Item → Items → Items

  pub data Item : Type 0 where
    assignment : Place → List ℕ → Expression → Item
    module_of : Place → List ℕ → List Parameter → Items → Item
    function_of : Place → List ℕ → List Parameter → Expression → Item
    -- the marks `%` and `#`, the name, the arguments, the children
    call_of : Place → Bool → Bool → List ℕ → Arguments → Items → Item
    -- the marks, the test, the children where it holds and where it doesn't
    choice : Place → Bool → Bool → Expression → Items → Items → Item
