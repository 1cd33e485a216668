-- What a source can mean. A meaning of sources is a relation between sources and these.
use Rattle.std.specs.Prelude.{◌≡◌, List, ℕ}
use Rattle.scad_fault.specs.declared.budget.Budget.{Budget}
use Rattle.scad_fault.specs.declared.fault.Fault.{Fault}
use Rattle.scad_tree.specs.Solid.{Solid}

-- a tree, a fault, or a budget that its evaluation passes
pub data Meant : Type 0 where
  meant_tree : Solid → Meant
  meant_fault : Fault → Meant
  meant_budget : Budget → Meant

-- by such a relation each source means something, and nothing else
abbrev pub EachMeansOne : (List ℕ → Meant → Type 0) → Type 0
EachMeansOne Means =
    (source : List ℕ) → (meant : Meant) × Means source meant × ((other : Meant) → Means source other → other ≡ meant)
