-- The children that frames keep, from a frame outwards.
use Rattle.std.proofs.Common.{◌≡◌, ℕ, ◌<◌, ◌≤◌, List, length, take, Some, None, refl, sym, ap, ◌∙◌, arith}
use Rattle.std.proofs.lemmas.List.{get_or_past}
use Rattle.scad_scope.specs.Env.{outside, no_children, children}
use Rattle.scad_scope.specs.FrameStore.{Stored, StoredChildren, stored_at, env_at, env_round, envs, children_in}
use Rattle.scad_scope.proofs.Outwards.{length-envs, round-before, round-past}
use Rattle.scad_members.specs.Modules.{kept_or, kept_children}
use Rattle.scad_expr.proofs.Homes.{at_number}

past : (all : List Stored) (n : ℕ) → length all ≤ n → env_at (envs all) n ≡ outside
past all n over = get_or_past (envs all) n outside (let many = length-envs all in omega (arith, many))

pub kept-past : (all : List Stored) (n : ℕ) → length all ≤ n → kept_children (env_at (envs all) n) ≡ no_children
unfolding kept_children
kept-past all n over = ap kept_children (past all n over)

module _ (all : List Stored) (n : ℕ) (below : n < length all) where
  there : (k : StoredChildren) → (stored_at all n).kept ≡ Some k → kept_children (env_at (envs all) n)
      ≡ children k.statements (env_at (take n (envs all)) k.home)
  unfolding kept_children
  there k is =
      ap kept_children (at_number all n below)
      ∙ ap (λ o. kept_or (children_in (take n (envs all)) o)
      (kept_children (env_round (take n (envs all)) (stored_at all n).parent))) is

  pub reached-before : (k : StoredChildren) → (stored_at all n).kept ≡ Some k → k.home < n
      → children_in (envs all) (Some k) ≡ kept_children (env_at (envs all) n)
  reached-before k is less =
      sym (there k is ∙ ap (children k.statements) (round-before (envs all) (Some k.home) n k.home refl less))

  pub reached-past : (k : StoredChildren) (j : StoredChildren) → (stored_at all n).kept ≡ Some k → n ≤ k.home
      → j.statements ≡ k.statements → length all ≤ j.home → children_in (envs all) (Some j) ≡ kept_children
      (env_at (envs all) n)
  reached-past k j is over same far =
      ap (children j.statements) (past all j.home far)
      ∙ ap (λ s. children s outside) same
      ∙ sym (there k is ∙ ap (children k.statements) (round-past (envs all) (Some k.home) n k.home refl over))

  -- it keeps none
  round : (stored_at all n).kept ≡ None → kept_children (env_at (envs all) n) ≡ kept_children
      (env_round (take n (envs all)) (stored_at all n).parent)
  unfolding kept_children
  round none =
      ap kept_children (at_number all n below)
      ∙ ap (λ o. kept_or (children_in (take n (envs all)) o)
      (kept_children (env_round (take n (envs all)) (stored_at all n).parent))) none

  pub kept-round : (p : ℕ) → (stored_at all n).kept ≡ None → (stored_at all n).parent ≡ Some p → p < n
      → kept_children (env_at (envs all) n) ≡ kept_children (env_at (envs all) p)
  kept-round p none is less = round none ∙ ap kept_children (round-before (envs all) (stored_at all n).parent n p is
      less)

  pub kept-round_past : (p : ℕ) → (stored_at all n).kept ≡ None → (stored_at all n).parent ≡ Some p → n ≤ p
      → kept_children (env_at (envs all) n) ≡ no_children
  unfolding kept_children
  kept-round_past p none is over = round none ∙ ap kept_children (round-past (envs all) (stored_at all n).parent n p is
      over)

  pub kept-outermost : (stored_at all n).kept ≡ None → (stored_at all n).parent ≡ None
      → kept_children (env_at (envs all) n) ≡ no_children
  unfolding kept_children
  kept-outermost none is = round none ∙ ap (λ p. kept_children (env_round (take n (envs all)) p)) is

pub ruleset reaches = (reached-before, reached-past)

pub ruleset rounds = (kept-past, kept-round, kept-round_past, kept-outermost)
