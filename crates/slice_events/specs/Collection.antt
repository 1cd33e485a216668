-- The levels in a list of bounded ones.
use Rattle.std.specs.Prelude.{List, [], ◌∷◌, map, ⊤, Bool, ℤ, ◌*ℤ◌, int_lt}
use Rattle.scad_geom.specs.Level.{level_of, IsAtMost}
use Rattle.scad_geom.specs.declared.level.Level.{Level}
use Rattle.scad_geom.specs.declared.level.LeafEdge.{LeafEdge}
use Rattle.slice_events.specs.declared.height.Height.{Height}

abbrev pub levels_in : List Height → List Level
levels_in hs = map (λ h. h.level) hs

-- whether p lies lower than q
abbrev pub is_lower : Level → Level → Bool
is_lower p q = int_lt (p.n *ℤ q.d) (q.n *ℤ p.d)

-- none lies above the next
abbrev pub IsClimbing : List Level → Type 0
IsClimbing [] = ⊤
IsClimbing (p ∷ []) = ⊤
IsClimbing (p ∷ (q ∷ hs)) = IsAtMost p q × IsClimbing (q ∷ hs)

-- the y of all ends
abbrev pub end_ys : List LeafEdge → List ℤ
end_ys [] = []
end_ys (e ∷ es) = e.edge.a.y ∷ e.edge.b.y ∷ end_ys es

-- the heights of all ends
abbrev pub end_levels : List LeafEdge → List Level
end_levels [] = []
end_levels (e ∷ es) = level_of e.edge.a.y ∷ level_of e.edge.b.y ∷ end_levels es
