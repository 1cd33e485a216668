-- Loops drawn from directed edges, each edge once.
use Rattle.std.specs.Prelude.{◌≡◌, false, List, [], ◌∷◌, All}
use Rattle.std.specs.List.Sorted.{IsPermutation}
use Rattle.scad_geom.specs.declared.point.Pt.{Pt}
use Rattle.scad_geom.specs.declared.point.Edge.{Edge}
use Rattle.slice_loops.specs.Order.{is_less}

-- e is the least edge of a list, and the others remain
pub record TakesLeast (edges : List Edge) (e : Edge) (others : List Edge) : Type 0 where
  pub taken : IsPermutation edges (e ∷ others)
  pub least : All (λ f. is_less f e ≡ false) others

-- e is the least of those edges of a list that start at p, and all the others remain
pub record TakesLeastFrom (p : Pt) (edges : List Edge) (e : Edge) (others : List Edge) : Type 0 where
  pub starts : e.a ≡ p
  pub taken : IsPermutation edges (e ∷ others)
  pub least : All (λ f. f.a ≡ p → is_less f e ≡ false) others

-- a way through these vertices from a point to the start of its loop: at each point, until it is the start, the least
-- edge
-- that starts there is taken from the remaining edges, and leads to the next point. At last `left` remain
abbrev pub LeadsBack : Pt → List Pt → Pt → List Edge → List Edge → Type 0
LeadsBack start [] p edges left = (p ≡ start) × (edges ≡ left)
LeadsBack start (v ∷ vs) p edges left =
    (v ≡ p) × (p ≡ start → ⊥)
    × ((e : Edge) × (others : List Edge) × TakesLeastFrom p edges e others × LeadsBack start vs e.b others left)

-- a loop drawn from edges: it begins with the least one, and leads from its end back to its start
pub record IsLoop (edges : List Edge) (loop : List Pt) (left : List Edge) : Type 0 where
  pub first : Edge
  pub others : List Edge
  pub way : List Pt
  pub least : TakesLeast edges first others
  pub back : LeadsBack first.a way first.b others left
  pub vertices : loop ≡ first.a ∷ way

-- loops drawn one after another until no edge remains
abbrev pub AreDrawn : List Edge → List (List Pt) → Type 0
AreDrawn edges [] = edges ≡ []
AreDrawn edges (l ∷ ls) = (left : List Edge) × IsLoop edges l left × AreDrawn left ls
