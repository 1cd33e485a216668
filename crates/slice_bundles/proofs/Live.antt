-- The numbers in the bundles between two heights are those of edges that reach both.
use Rattle.std.proofs.Common.{◌≡◌, ℕ, zero, suc, ◌+◌, ◌<◌, Bool, true, false, List, [], ◌∷◌, length, get_or, refl, sym, arith, subst}
use Rattle.std.proofs.lemmas.Bool.{and_parts}
use lib.IntN.{pos, ◌*ℤ◌}
use Rattle.std.specs.Prelude.{int_lt, int_le, if◌then◌else◌, ◌&&◌}
use Rattle.std.specs.List.{AllByRecursion, concat}
use Rattle.std.proofs.lemmas.Int.{ints}
use Rattle.std.proofs.lemmas.List.Elements.{recursion_from_All, All-from_recursion}
use Rattle.std.proofs.lemmas.List.Sorted.{All-permutation}
use Rattle.scad_geom.specs.declared.point.Edge.{Edge}
use Rattle.scad_geom.specs.declared.level.Level.{Level}
use Rattle.scad_geom.specs.declared.level.LeafEdge.{LeafEdge}
use Rattle.scad_geom.specs.Line.{low, high, rise}
use Rattle.scad_geom.proofs.Heights.{Reaches}
use Rattle.slice_bundles.specs.Bundles.{no_edge, edge_at, reaches, reaching, AreBundles}

pub reaches_is : (e : Edge) (l u : Level) → reaches e l u ≡ true → Reaches e l u
unfolding reaches
reaches_is e l u h =
    let p = and_parts (int_lt (pos 0) (rise e)) (int_le ((low e).y *ℤ l.d) l.n && int_le u.n ((high e).y *ℤ u.d)) h in
    let q = and_parts (int_le ((low e).y *ℤ l.d) l.n) (int_le u.n ((high e).y *ℤ u.d)) p.1 in
    let p0 = p.0 in let q0 = q.0 in let q1 = q.1 in
    record { rises = omega (arith, ints); from = omega (arith, ints); to = omega (arith, ints) }

-- an edge's number, where the edge reaches the two heights
pub record IsLive (es : List LeafEdge) (l u : Level) (k : ℕ) : Type 0 where
  pub there : k < length es
  pub reaches : Reaches (edge_at es k) l u

live_from : (es all : List LeafEdge) (l u : Level) (k : ℕ) → ((i : ℕ) → i < length es → (k + i < length all)
    × (get_or all (k + i) no_edge ≡ get_or es i no_edge)) → AllByRecursion (IsLive all l u) (reaching k es l u)
live_from [] all l u k h = tt
live_from (e ∷ es) all l u k h =
    let r : AllByRecursion (IsLive all l u) (reaching (k + 1) es l u) = live_from es all l u (k + 1)
    (λ i o. let t = h (suc i) (omega arith) in let e : k + suc i ≡ k + 1 + i = omega arith in rw e at t) in
    by_test (reaches e.edge l u) refl r
  where
    by_test : (t : Bool) → reaches e.edge l u ≡ t → AllByRecursion (IsLive all l u) (reaching (k + 1) es l u)
        → AllByRecursion (IsLive all l u) (if t then k ∷ reaching (k + 1) es l u else reaching (k + 1) es l u)
    by_test true q r =
        let t = h zero (omega arith) in
        let z : k + zero ≡ k = omega arith in
        let t' = rw z at t in (
          record {
            there = t'.0;
            reaches = subst (λ (e : LeafEdge). Reaches e.edge l u) (sym t'.1)
                (reaches_is e.edge l u q);
          },
          r,
        )
    by_test false q r = r

pub live_reaching : (es : List LeafEdge) (l u : Level) → AllByRecursion (IsLive es l u) (reaching 0 es l u)
live_reaching es l u = live_from es es l u 0 (λ i o. let z : 0 + i ≡ i = omega arith in rw z (o, refl))

pub live_bundles : (es : List LeafEdge) (l u : Level) (bs : List (List ℕ)) → AreBundles es l u bs
    → AllByRecursion (IsLive es l u) (concat bs)
live_bundles es l u bs b =
    let P : ℕ → Type 0 = IsLive es l u in
    recursion_from_All P (concat bs) (All-permutation P (reaching 0 es l u) (concat bs) b.members
    (All-from_recursion P (reaching 0 es l u) (live_reaching es l u)))
