-- Edges that compare as equal are one.
use Rattle.std.proofs.Common.{◌≡◌, Bool, true, ◌&&◌, ap₂}
use Rattle.std.proofs.lemmas.Bool.{and_parts}
use Rattle.scad_geom.specs.declared.point.Edge.{Edge}
use Rattle.scad_geom.proofs.Balance.{same_place, same_place-is, same_place-itself}

-- two edges have the same ends
abbrev pub same_edge : Edge → Edge → Bool
same_edge e f = same_place e.a f.a && same_place e.b f.b

pub same_edge_then_equal : (e f : Edge) → same_edge e f ≡ true → e ≡ f
same_edge_then_equal e f h =
    let both = and_parts (same_place e.a f.a) (same_place e.b f.b) h in
    let a = same_place-is e.a f.a both.0 in
    let b = same_place-is e.b f.b both.1 in
    λ i. record { a = a i; b = b i }

pub same_edge_itself : (e : Edge) → same_edge e e ≡ true
same_edge_itself e = ap₂ (λ (a b : Bool). a && b) (same_place-itself e.a) (same_place-itself e.b)
