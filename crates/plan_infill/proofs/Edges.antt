-- The steps of edges one after another.
use Rattle.std.proofs.Common.{◌≡◌, ◌⊎◌, inl, inr, ℕ, suc, ◌+◌, ◌<◌, length, get_or, drop, append_assoc, add-one, Bool, true, false, List, [], ◌∷◌, ◌++◌, refl, sym, ap, ◌∙◌, subst, arith, ℤ, pos, ◌+ℤ◌, ◌<ℤ◌}
use Rattle.std.specs.Prelude.{int_le, if◌then◌else◌}
use Rattle.std.specs.List.{AllByRecursion}
use Rattle.std.proofs.lemmas.Int.{ints}
use Rattle.std.proofs.lemmas.List.Elements.{recursion_from_All, All-from_recursion}
use Rattle.std.proofs.Math.Seq.{drop-cons}
use Rattle.scad_base.proofs.Lists.{AllByRecursion-append}
use Rattle.scad_geom.specs.declared.point.Edge.{Edge}
use Rattle.plan_infill.specs.declared.line.Line.{Line}
use Rattle.plan_infill.specs.declared.step.Step.{Step}
use Rattle.plan_infill.specs.Steps.{up_to, all_of, ComesNear, IsApart, IsStep, AreTurnSteps, AreNearSteps, AreSteps}
use Rattle.plan_infill.proofs.RowReach.{not_near}

up_to-append : (f : Step → ℤ) (z : ℤ) (xs ys : List Step)
    → up_to f z (xs ++ ys) ≡ up_to f z xs +ℤ up_to f z ys
up_to-append f z [] ys = omega (arith, ints)
up_to-append f z (s ∷ xs) ys = let h = up_to-append f z xs ys in omega (arith, ints, h)

all_of-append : (f : Step → ℤ) (xs ys : List Step) → all_of f (xs ++ ys) ≡ all_of f xs +ℤ all_of f ys
all_of-append f [] ys = omega (arith, ints)
all_of-append f (s ∷ xs) ys = let h = all_of-append f xs ys in omega (arith, ints, h)

up_to-none : (f : Step → ℤ) (z : ℤ) (xs : List Step) → AllByRecursion (λ s. f s ≡ pos 0) xs
    → up_to f z xs ≡ pos 0
up_to-none f z [] h = refl
up_to-none f z (s ∷ xs) h =
    let r = up_to-none f z xs h.1 in
    let one : (t : Bool) → (if t then f s else pos 0) ≡ pos 0 = λ t. by_test t in
    let o = one (int_le s.at z) in
    omega (arith, ints, r, o)
  where
    by_test : (t : Bool) → (if t then f s else pos 0) ≡ pos 0
    by_test true = h.0
    by_test false = refl

all_of-none : (f : Step → ℤ) (xs : List Step) → AllByRecursion (λ s. f s ≡ pos 0) xs → all_of f xs ≡ pos 0
all_of-none f [] h = refl
all_of-none f (s ∷ xs) h = let r = all_of-none f xs h.1 in let o = h.0 in omega (arith, ints, r, o)

pub no_steps : (c : ℕ) (line : Line) → AreSteps c line [] []
no_steps c line = record {
  turns = λ z. refl;
  behind = refl;
  near = λ z. inr (refl, tt);
  each
      = All-from_recursion IsStep [] tt;
}

pub more_steps : (c : ℕ) (line : Line) (e : Edge) (es : List Edge) (a b more : List Step) → AreTurnSteps line e a
    → AreNearSteps c line e b → AreSteps c line es more → AreSteps c line (e ∷ es) (a ++ (b ++ more))
more_steps c line e es a b more t n r = record {
  turns = λ z.
      let p = t.give.each z in
      let q = r.turns z in
      let u = up_to-append (λ s. s.turns) z a (b ++ more) in
      let v = up_to-append (λ s. s.turns) z b more in
      let w = up_to-none (λ s. s.turns) z b no_turns in
      omega (arith, ints, p, q, u, v, w);
  behind =
      let p = t.give.behind in
      let q = r.behind in
      let u = all_of-append (λ s. s.turns) a (b ++ more) in
      let v = all_of-append (λ s. s.turns) b more in
      let w = all_of-none (λ s. s.turns) b no_turns in
      omega (arith, ints, p, q, u, v, w);
  near = λ z.
      let u = up_to-append (λ s. s.near) z a (b ++ more) in
      let v = up_to-append (λ s. s.near) z b more in
      let w = up_to-none (λ s. s.near) z a no_near in
      near z u v w (n.give z) (r.near z);
  each = All-from_recursion IsStep (a ++ (b ++ more))
      (AllByRecursion-append IsStep a (b ++ more) (recursion_from_All IsStep a t.each)
      (AllByRecursion-append IsStep b more (recursion_from_All IsStep b n.each)
      (recursion_from_All IsStep more r.each)));
}
  where
    no_turns : AllByRecursion (λ s. s.turns ≡ pos 0) b
    no_turns = recursion_from_All (λ s. s.turns ≡ pos 0) b n.other

    no_near : AllByRecursion (λ s. s.near ≡ pos 0) a
    no_near = recursion_from_All (λ s. s.near ≡ pos 0) a t.other

    near : (z : ℤ) → up_to (λ s. s.near) z (a ++ (b ++ more))
        ≡ up_to (λ s. s.near) z a +ℤ up_to (λ s. s.near) z (b ++ more)
        → up_to (λ s. s.near) z (b ++ more) ≡ up_to (λ s. s.near) z b +ℤ up_to (λ s. s.near) z more
        → up_to (λ s. s.near) z a ≡ pos 0
        → ((up_to (λ s. s.near) z b ≡ pos 1) × ComesNear c line z e)
        ⊎ ((up_to (λ s. s.near) z b ≡ pos 0) × IsApart c line z e)
        → ((pos 0 <ℤ up_to (λ s. s.near) z more) × (AllByRecursion (IsApart c line z) es → ⊥))
        ⊎ ((up_to (λ s. s.near) z more ≡ pos 0) × AllByRecursion (IsApart c line z) es)
        → ((pos 0 <ℤ up_to (λ s. s.near) z (a ++ (b ++ more)))
        × (AllByRecursion (IsApart c line z) (e ∷ es) → ⊥))
        ⊎ ((up_to (λ s. s.near) z (a ++ (b ++ more)) ≡ pos 0) × AllByRecursion (IsApart c line z) (e ∷ es))
    near z u v w (inl p) (inl q) = let i = p.0 in let j = q.0 in inl (omega (arith, ints, u, v, w, i, j), λ k. not_near c line z e k.0 p.1)
    near z u v w (inl p) (inr q) = let i = p.0 in let j = q.0 in inl (omega (arith, ints, u, v, w, i, j), λ k. not_near c line z e k.0 p.1)
    near z u v w (inr p) (inl q) = let i = p.0 in let j = q.0 in inl (omega (arith, ints, u, v, w, i, j), λ k. q.1 k.1)
    near z u v w (inr p) (inr q) = let i = p.0 in let j = q.0 in inr (omega (arith, ints, u, v, w, i, j), (p.1, q.1))

-- one more of a list of edges
pub one_more : (c : ℕ) (line : Line) (sides : List Edge) (i : ℕ) (d : Edge) (steps s1 s2 a b : List Step)
    → i < length sides
    → ((more : List Step) → AreSteps c line (drop i sides) more → AreSteps c line sides (steps ++ more))
    → AreTurnSteps line (get_or sides i d) a → s1 ≡ steps ++ a → AreNearSteps c line (get_or sides i d) b
    → s2 ≡ s1 ++ b
    → (more : List Step) → AreSteps c line (drop (i + 1) sides) more → AreSteps c line sides (s2 ++ more)
one_more c line sides i d steps s1 s2 a b h all t p n q more k =
    let k' : AreSteps c line (drop (suc i) sides) more = rw add-one at k in
    let rest : AreSteps c line (drop i sides) (a ++ (b ++ more)) = subst (λ (es : List Edge). AreSteps c line es (a ++ (b ++ more))) (sym (drop-cons sides i d h)) (more_steps c line (get_or sides i d) (drop (suc i) sides) a b more t n k') in
    let same : s2 ++ more ≡ steps ++ (a ++ (b ++ more)) =
    ap (λ (xs : List Step). xs ++ more) (q ∙ ap (λ (xs : List Step). xs ++ b) p)
    ∙ append_assoc (steps ++ a) b more ∙ append_assoc steps a (b ++ more) in
    subst (λ (xs : List Step). AreSteps c line sides xs) (sym same) (all (a ++ (b ++ more)) rest)
