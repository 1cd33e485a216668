-- A name is found in a table exactly where the last item that defines it is found in the scope.
use Rattle.std.proofs.Common.{◌≡◌, ℕ, ◌+◌, suc, Bool, true, false, List, [], ◌∷◌, map, length, get_or, Option, Some, None, is_some, option_map, IfSome, if◌then◌else◌, Vec, Global, Bor, refl, sym, ap, ◌∙◌, arith}
use Rattle.std.specs.Prelude.{nat_lt, slice_get, option_and_then}
use Rattle.std.specs.Cmp.Lexicographic.{bytes_decides}
use Rattle.std.proofs.lemmas.Bool.{ltb-true, ltb-false}
use Rattle.std.proofs.lemmas.Option.{slice_get_past, slice_get_read}
use Rattle.scad_fault.specs.declared.place.Place.{Place}
use Rattle.scad_ast.specs.declared.statement.Item.{Item, Module, Run}
use Rattle.scad_ast.specs.declared.statement.Param.{Param}
use Rattle.scad_ast.specs.declared.statement.Stmt.{Stmt}
use Rattle.scad_ast.specs.declared.statement.StmtBody.{StmtBody, Call', If'}
use Rattle.scad_ast.specs.Scope.{item_of, body_of, items}
use Rattle.scad_ast.specs.Tree.{Item as TreeItem}
use Rattle.scad_ast.proofs.ScopeRows.{module_view}
use Rattle.scad_scope.specs.Names.{is_same_name}
use Rattle.scad_bindings.specs.NamePlaces.{value_in}
use Rattle.scad_bindings.specs.Notes.{Places, with_place, noted, noted_all, placed}
use Rattle.scad_scope.specs.Definitions.{function_word, module_word, is_word, last_item}
use Rattle.scad_scope.specs.Tables.{words_by, tabled, place_of, item_at, item_by}

-- ---- what items define
pub function-module : (word : List ℕ) (params : Vec Param Global) (scope : Vec Item Global) (at : Place)
    → function_word (item_of (Module word params scope at)) ≡ None
function-module word params scope at = ap function_word (module_view word params scope at)

pub module-module : (word : List ℕ) (params : Vec Param Global) (scope : Vec Item Global) (at : Place)
    → module_word (item_of (Module word params scope at)) ≡ Some word
module-module word params scope at = ap module_word (module_view word params scope at)

pub function-statement : (s : Stmt) → function_word (item_of (Run s)) ≡ None
function-statement s = by s.body
  where
    by : (b : StmtBody) → function_word (body_of s.at s.percent s.hash b) ≡ None
    by (Call' word args shape all) = refl
    by (If' test shape held more other) = refl

pub module-statement : (s : Stmt) → module_word (item_of (Run s)) ≡ None
module-statement s = by s.body
  where
    by : (b : StmtBody) → module_word (body_of s.at s.percent s.hash b) ≡ None
    by (Call' word args shape all) = refl
    by (If' test shape held more other) = refl

pub ruleset words = (function-module, module-module, function-statement, module-statement)

-- ---- what is found in a table
same : (name m : List ℕ) (i : ℕ) (p : List ℕ × ℕ) (more : Places) → m ≡ p.0 → place_of name ((p.0, i) ∷ more)
    ≡ (if is_same_name name m then Some i else place_of name (p ∷ more))
same name m i p more is =
    by (is_same_name name p.0)
    ∙ ap (λ n. if is_same_name name n then Some i else place_of name (p ∷ more)) (sym is)
  where
    by : (b : Bool) → (if b then Some i else place_of name more) ≡ (if b then Some i else (if b then Some p.1 else
        place_of name more))
    by true = refl
    by false = refl

-- a name that was noted is found at its place, and any other as before
found-with_place : (name m : List ℕ) (i : ℕ) (rows : Places) → place_of name (with_place m i rows)
    ≡ (if is_same_name name m then Some i else place_of name rows)
found-with_place name m i [] = refl
found-with_place name m i (p ∷ more) = by (found-with_place name m i more) (is_same_name m p.0) refl
  where
    apart : (a b : Bool) → is_same_name name p.0 ≡ a → is_same_name name m ≡ b → is_same_name m p.0 ≡ false
        → (if a then Some p.1 else (if b then Some i else place_of name more)) ≡ (if b then Some i else (if a then Some
        p.1 else place_of name more))
    apart true true e f differ =
        let both : is_same_name m p.0 ≡ true = ap (λ n. is_same_name n p.0) (sym ((bytes_decides name m).0 f)) ∙ e in
        cc
    apart true false e f differ = refl
    apart false b e f differ = refl

    by : place_of name (with_place m i more) ≡ (if is_same_name name m then Some i else place_of name more)
        → (b : Bool) → is_same_name m p.0 ≡ b → place_of name (if b then (p.0, i) ∷ more else p ∷ with_place m i more)
        ≡ (if is_same_name name m then Some i else place_of name (p ∷ more))
    by rest true e = same name m i p more ((bytes_decides m p.0).0 e)
    by rest false e =
        ap (λ o. if is_same_name name p.0 then Some p.1 else o) rest ∙ apart (is_same_name name p.0)
        (is_same_name name m) refl refl e

-- the items in their order
module _ (word_of : TreeItem → Option (List ℕ)) (name : List ℕ) (all : List Item) where
  next : (k : ℕ) (i : Item) (rows : Places) (word : Option (List ℕ)) → slice_get all k ≡ Some i
      → item_by all (noted rows k word) name ≡ (if is_word name word then Some (item_of i) else item_by all rows name)
  next k i rows None is = refl
  next k i rows (Some m) is = ap (option_and_then (item_at all)) (found-with_place name m k rows) ∙ by
      (is_same_name name m)
    where
      by : (b : Bool) → option_and_then (item_at all) (if b then Some k else place_of name rows)
          ≡ (if b then Some (item_of i) else item_by all rows name)
      by true = ap (option_map item_of) is
      by false = refl

  walk : (rest : List Item) (k : ℕ) (rows : Places) → ((j : ℕ) → slice_get all (k + j) ≡ slice_get rest j)
      → item_by all (noted_all rows k (words_by word_of (items rest))) name
      ≡ last_item word_of name (item_by all rows name) (items rest)
  walk [] k rows are = refl
  walk (i ∷ rest) k rows are =
      walk rest (k + 1) (noted rows k (word_of (item_of i)))
      (λ j. ap (slice_get all) (let turned : k + 1 + j ≡ k + suc j = omega arith in turned) ∙ are (suc j))
      ∙ ap (λ o. last_item word_of name o (items rest)) (next k i rows (word_of (item_of i))
      (ap (slice_get all) (let none : k ≡ k + 0 = omega arith in none) ∙ are 0))

-- the table of a whole scope
pub found : (word_of : TreeItem → Option (List ℕ)) (name : List ℕ) (all : List Item) (rows : Places)
    → rows ≡ tabled word_of (items all) → item_by all rows name ≡ last_item word_of name None (items all)
found word_of name all rows is =
    ap (λ r. item_by all r name) is ∙ walk word_of name all all 0 []
    (λ j. ap (slice_get all) (let none : 0 + j ≡ j = omega arith in none))

-- ---- in memory
pub item-lent : (all : List Item) (place : ℕ) (r : Option (Bor Item)) → is_some r ≡ nat_lt place (length all)
    → IfSome r (λ i. i.now ≡ get_or all place i.now) → option_map (λ i. item_of i.now) r ≡ item_at all place
item-lent all place None there is = sym (ap (option_map item_of) (slice_get_past all place (ltb-false place (length all) (sym there))))
item-lent all place (Some i) there is =
    sym (ap (option_map item_of) (slice_get_read all (length all) place i.now refl (ltb-true place (length all) (sym there)) is))

pub place-got : (name : List ℕ) (es : List (Bor (List ℕ) × ℕ)) → value_in name es ≡ place_of name (map placed es)
place-got name [] = refl
place-got name (e ∷ es) = ap (λ o. if is_same_name name e.0.now then Some e.1 else o) (place-got name es)
