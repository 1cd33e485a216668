-- Items of a scope by their kinds.
use Rattle.std.proofs.Common.{◌≡◌, ℕ, zero, suc, ◌<◌, ◌≤◌, true, List, [], ◌∷◌, length, get_or, Some, None, refl, ap, sym, arith}
use Rattle.scad_ast.specs.declared.statement.Item.{Item, Run}
use Rattle.scad_ast.specs.declared.statement.Stmt.{Stmt}
use Rattle.scad_ast.specs.declared.statement.StmtBody.{StmtBody, Call', If'}
use Rattle.scad_ast.specs.Scope.{item_of, body_of, items}
use Rattle.scad_ast.proofs.ScopeRows.{module_view}
use Rattle.scad_expr.specs.Arguments.{is_statement}
use Rattle.scad_members.specs.Scopes.{item_place, is_marked, item_at}

module _ (s : Stmt) where
  pub place-run : item_place (item_of (Run s)) ≡ s.at
  place-run = by s.body
    where
      by : (b : StmtBody) → item_place (body_of s.at s.percent s.hash b) ≡ s.at
      by (Call' word args shape all) = refl
      by (If' test shape held more other) = refl

  pub marked-run : is_marked (item_of (Run s)) ≡ s.percent
  marked-run = by s.body
    where
      by : (b : StmtBody) → is_marked (body_of s.at s.percent s.hash b) ≡ s.percent
      by (Call' word args shape all) = refl
      by (If' test shape held more other) = refl

  pub statement-run : is_statement (item_of (Run s)) ≡ true
  statement-run = by s.body
    where
      by : (b : StmtBody) → is_statement (body_of s.at s.percent s.hash b) ≡ true
      by (Call' word args shape all) = refl
      by (If' test shape held more other) = refl

pub ruleset kinds = (place-run, marked-run, statement-run, module_view)

-- ---- items by their places
pub item-at : (all : List Item) (n : ℕ) (i : Item) → n < length all → i ≡ get_or all n i → item_at (items all) n
    ≡ Some (item_of i)
item-at [] n i below is = absurd (let no : ⊥ = omega (arith, below) in no)
item-at (j ∷ all) zero i below is = ap (λ k. Some (item_of k)) (sym is)
item-at (j ∷ all) (suc n) i below is = item-at all n i (omega arith) is

pub item-past : (all : List Item) (n : ℕ) → length all ≤ n → item_at (items all) n ≡ None
item-past [] n past = refl
item-past (j ∷ all) zero past = absurd (let no : ⊥ = omega (arith, past) in no)
item-past (j ∷ all) (suc n) past = item-past all n (omega arith)

pub ruleset placed = (item-at, item-past)
