-- A shape over leaves that are added one by one.
use Rattle.std.proofs.Common.{◌≡◌, ℕ, suc, ◌+◌, ◌-◌, ◌<◌, Bool, ◌||◌, List, [], ◌∷◌, ◌++◌, sym, ap}
use Rattle.std.proofs.Common.{◌∙◌, arith}
use Rattle.std.proofs.Math.Bool.{or_assoc, or-false}
use Rattle.scad_geom.specs.declared.shape.Shape.{Shape, Leaf}
use Rattle.scad_geom.specs.Shape.{shape_holds, any_holds}
use Rattle.plan_walls.specs.Walls.{some_inside}

any-last : (inside : ℕ → Bool) (members : List Shape) (last : Shape)
    → any_holds inside (members ++ last ∷ []) ≡ (any_holds inside members || shape_holds inside last)
any-last inside [] last = or-false (shape_holds inside last)
any-last inside (m ∷ ms) last =
    ap (λ (t : Bool). shape_holds inside m || t) (any-last inside ms last)
    ∙ sym (or_assoc (shape_holds inside m) (any_holds inside ms) (shape_holds inside last))

-- of the leaves from 1 on, those in the list so far and those to come are all n
abbrev pub AddsUp : ℕ → ℕ → List Shape → Type 0
AddsUp n leaf members = (inside : ℕ → Bool)
    → (any_holds inside members || some_inside inside (leaf + 1) (n - leaf)) ≡ some_inside inside 1 n

pub one_more : (n leaf : ℕ) (members : List Shape) → leaf < n → AddsUp n leaf members
    → AddsUp n (leaf + 1) (members ++ Leaf (leaf + 1) ∷ [])
one_more n leaf members h a inside =
    ap (λ (t : Bool). t || some_inside inside (leaf + 1 + 1) (n - (leaf + 1)))
    (any-last inside members (Leaf (leaf + 1)))
    ∙ or_assoc (any_holds inside members) (inside (leaf + 1)) (some_inside inside (leaf + 1 + 1) (n - (leaf + 1)))
    ∙ ap (λ (t : Bool). any_holds inside members || t) (sym (next (n - leaf) (n - (leaf + 1)) (omega (arith, h))))
    ∙ a inside
  where
    next : (m r : ℕ) → m ≡ r + 1
        → some_inside inside (leaf + 1) m ≡ (inside (leaf + 1) || some_inside inside (leaf + 1 + 1) r)
    next m r e = let f : m ≡ suc r = omega (arith, e) in ap (λ (k : ℕ). some_inside inside (leaf + 1) k) f

pub all_added : (n : ℕ) (members : List Shape) → AddsUp n n members → (inside : ℕ → Bool)
    → any_holds inside members ≡ some_inside inside 1 n
all_added n members a inside =
    sym (or-false (any_holds inside members))
    ∙ ap (λ (k : ℕ). any_holds inside members || some_inside inside (n + 1) k) (sym none)
    ∙ a inside
  where
    none : n - n ≡ 0
    none = omega arith
