-- Arguments that are given one by one.
use Rattle.std.proofs.Common.{◌≡◌, ℕ, zero, suc, ◌+◌, ◌<◌, ◌≤◌, ◌||◌, Bool, true, false, List, [], ◌∷◌, ◌++◌, map, length, get_or, set, drop, Option, Some, None, is_some, if◌then◌else◌, refl, sym, ap, ap₂, ◌∙◌, arith}
use Rattle.std.proofs.lemmas.List.{drop_more, drop_all, length-map, map-append, append-nil}
use Rattle.std.proofs.lemmas.Bool.{ltb-true, ltb-false, lt-ltb, false_from_ne_true}
use Rattle.std.specs.Borrow.{Bor}
use Rattle.std.specs.Cmp.Lexicographic.{bytes_decides}
use Rattle.std.specs.Prelude.{nat_lt, slice_get}
use Rattle.scad_ast.specs.declared.expression.Arg.{Arg}
use Rattle.scad_ast.specs.declared.statement.Param.{Param}
use Rattle.scad_ast.specs.declared.statement.Item.{Item}
use Rattle.scad_ast.specs.Tree.{Arguments, no_arguments, argument}
use Rattle.scad_ast.specs.View.{expression_of, arguments}
use Rattle.scad_ast.specs.Scope.{parameter, item_of, items}
use Rattle.scad_value.specs.Datum.{Datum}
use Rattle.scad_value.specs.View.{datum_of}
use Rattle.scad_value.specs.declared.value.Value.{Value}
use Rattle.scad_scope.specs.Names.{Names, is_same_name, place_in, value_of_name, with_name}
use Rattle.scad_bindings.specs.NamePlaces.{put_in, value_in}
use Rattle.scad_scope.proofs.Few.{few-set, set-unplaced}
use Rattle.scad_machine.specs.Arguments.{given_from, is_given, is_parameter, is_statement, statements}
use Rattle.scad_machine.specs.Parameters.{parameter_names, shown, with_argument, unnamed_before_next}
use Rattle.scad_machine.proofs.Homes.{items-drop, items-drop_all}
use Rattle.scad_value.proofs.Lists.{arguments-drop, arguments-drop_all}

pub nothing-left : {A : Type 0} (all : List A) → length all ≤ 0 → all ≡ []
nothing-left [] none = refl
nothing-left (a ∷ all) none = absurd (let no : ⊥ = omega arith in no)

-- ---- the parameters that are left in a loop
pub names-drop : (all : List Param) (i : ℕ) (p : Param) → i < length all → p ≡ get_or all i p
    → parameter_names (drop i all) ≡ p.name ∷ parameter_names (drop (i + 1) all)
names-drop all i p below is = ap parameter_names (drop_more all i p below) ∙ ap
    (λ q. q.name ∷ parameter_names (drop (i + 1) all)) (sym is)

pub names-drop_all : (all : List Param) (i : ℕ) → length all ≤ i → parameter_names (drop i all) ≡ []
names-drop_all all i past = ap parameter_names (drop_all i all past)

pub parameters-drop : (all : List Param) (i : ℕ) (p : Param) → i < length all → p ≡ get_or all i p
    → map parameter (drop i all) ≡ parameter p ∷ map parameter (drop (i + 1) all)
parameters-drop all i p below is = ap (map parameter) (drop_more all i p below)
    ∙ ap (λ q. parameter q ∷ map parameter
    (drop (i + 1) all)) (sym is)

pub parameters-drop_all : (all : List Param) (i : ℕ) → length all ≤ i → map parameter (drop i all) ≡ []
parameters-drop_all all i past = ap (map parameter) (drop_all i all past)

pub name_there : (all : List Param) (i : ℕ) (p : Param) → i < length all → p ≡ get_or all i p
    → slice_get (parameter_names all) i ≡ Some p.name
name_there [] i p below is = absurd (omega arith)
name_there (q ∷ all) zero p below is = ap (λ x. Some x.name) (sym is)
name_there (q ∷ all) (suc i) p below is = name_there all i p (omega arith) is

pub name_past : (all : List Param) (i : ℕ) → length all ≤ i → slice_get (parameter_names all) i ≡ None
name_past [] i past = refl
name_past (q ∷ all) zero past = absurd (omega arith)
name_past (q ∷ all) (suc i) past = name_past all i (omega arith)

pub names-parameters : (all : List Param) → map (λ p. p.name) (map parameter all) ≡ parameter_names all
names-parameters [] = refl
names-parameters (p ∷ all) = ap (λ l. p.name ∷ l) (names-parameters all)

-- ---- names in a map
pub shown_put : (key : Bor (List ℕ)) (v : Value) (es : List (Bor (List ℕ) × Value))
    → map shown (put_in es key v) ≡ with_name key.now (datum_of v) (map shown es)
shown_put key v [] = refl
shown_put key v (e ∷ es) = by (shown_put key v es) (is_same_name key.now e.0.now)
  where
    by : map shown (put_in es key v) ≡ with_name key.now (datum_of v) (map shown es) → (b : Bool)
        → map shown (if b then (e.0, v) ∷ es else e ∷ put_in es key v)
        ≡ (if b then (e.0.now, datum_of v) ∷ map shown es else shown e
        ∷ with_name key.now (datum_of v) (map shown es))
    by rest true = refl
    by rest false = ap (λ l. shown e ∷ l) rest

pub given_in : (name : List ℕ) (es : List (Bor (List ℕ) × Value))
    → is_some (value_in name es) ≡ is_given name (map shown es)
given_in name [] = refl
given_in name (e ∷ es) = by (given_in name es) (is_same_name name e.0.now)
  where
    by : is_some (value_in name es) ≡ is_given name (map shown es) → (b : Bool)
        → is_some (if b then Some e.1 else value_in name es)
        ≡ is_some (if b then Some (datum_of e.1) else value_of_name name (map shown es))
    by rest true = refl
    by rest false = rest

or_false : (a : Bool) → (a || false) ≡ a
or_false true = refl
or_false false = refl

or_assoc : (a b c : Bool) → ((a || b) || c) ≡ (a || (b || c))
or_assoc true b c = refl
or_assoc false b c = refl

module _ {V : Type 0} where
  put-has : (name : List ℕ) (key : Bor (List ℕ)) (v : V) (es : List (Bor (List ℕ) × V))
      → is_some (value_in name (put_in es key v)) ≡ (is_some (value_in name es) || is_same_name name key.now)
  put-has name key v [] = by (is_same_name name key.now)
    where
      by : (b : Bool) → is_some (if b then Some v else None) ≡ b
      by true = refl
      by false = refl
  put-has name key v (e ∷ es) = by (put-has name key v es) (is_same_name key.now e.0.now) refl
    where
      here : (s : Bool) → is_some (if s then Some v else value_in name es)
          ≡ (is_some (if s then Some e.1 else value_in name es) || s)
      here true = refl
      here false = sym (or_false (is_some (value_in name es)))

      behind : is_some (value_in name (put_in es key v)) ≡ (is_some (value_in name es) || is_same_name name key.now)
          → (s : Bool) → is_some (if s then Some e.1 else value_in name (put_in es key v))
          ≡ (is_some (if s then Some e.1 else value_in name es) || is_same_name name key.now)
      behind rest true = refl
      behind rest false = rest

      by : is_some (value_in name (put_in es key v)) ≡ (is_some (value_in name es) || is_same_name name key.now)
          → (b : Bool) → is_same_name key.now e.0.now ≡ b
          → is_some (value_in name (if b then (e.0, v) ∷ es else e ∷ put_in es key v))
          ≡ (is_some (value_in name (e ∷ es)) || is_same_name name key.now)
      by rest true same = here (is_same_name name e.0.now)
          ∙ ap (λ k. is_some (value_in name (e ∷ es)) || is_same_name name k)
          (sym ((bytes_decides key.now e.0.now).0 same))
      by rest false other = behind rest (is_same_name name e.0.now)

  -- a table with the names of the parameters before a place, and the names of those that are left
  pub table-next : (all : List Param) (i : ℕ) (p : Param) (key : Bor (List ℕ)) (v : V)
      (old new : List (Bor (List ℕ) × V)) (name : List ℕ) (has : Bool) → i < length all → p ≡ get_or all i p
      → key.now ≡ p.name → new ≡ put_in old key v
      → (is_some (value_in name old) || is_parameter name (parameter_names (drop i all))) ≡ has
      → (is_some (value_in name new) || is_parameter name (parameter_names (drop (i + 1) all))) ≡ has
  table-next all i p key v old new name has below is word put before =
      let rest : Bool = is_parameter name (parameter_names (drop (i + 1) all)) in
      ap (λ t. is_some (value_in name t) || rest) put
      ∙ ap (λ b. b || rest) (put-has name key v old)
      ∙ or_assoc (is_some (value_in name old)) (is_same_name name key.now) rest
      ∙ ap (λ w. is_some (value_in name old) || (is_same_name name w || rest)) word
      ∙ sym (ap (λ l. is_some (value_in name old) || is_parameter name l) (names-drop all i p below is))
      ∙ before

-- ---- names in a list
next : (name : List ℕ) (all : List (Bor (List ℕ) × Value)) (i : ℕ) (e : Bor (List ℕ) × Value)
    → i < length all → e ≡ get_or all i e → place_in name (map shown (drop i all))
    ≡ (if is_same_name name e.0.now then 0 else suc (place_in name (map shown (drop (i + 1) all))))
next name all i e below is =
    ap (λ l. place_in name (map shown l)) (drop_more all i e below)
    ∙ ap (λ p. place_in name (shown p ∷ map shown (drop (i + 1) all))) (sym is)

pub place-here : (name : List ℕ) (all : List (Bor (List ℕ) × Value)) (i : ℕ) (e : Bor (List ℕ) × Value)
    → i < length all → e ≡ get_or all i e → is_same_name name e.0.now ≡ true
    → place_in name (map shown (drop i all)) ≡ 0
place-here name all i e below is same =
    next name all i e below is
    ∙ ap (λ b. if b then 0 else suc (place_in name (map shown (drop (i + 1) all)))) same

pub place-past : (name : List ℕ) (all : List (Bor (List ℕ) × Value)) (i : ℕ) (e : Bor (List ℕ) × Value)
    → i < length all → e ≡ get_or all i e → is_same_name name e.0.now ≡ false
    → place_in name (map shown (drop i all)) ≡ suc (place_in name (map shown (drop (i + 1) all)))
place-past name all i e below is other =
    next name all i e below is
    ∙ ap (λ b. if b then 0 else suc (place_in name (map shown (drop (i + 1) all)))) other

pub place-none : (name : List ℕ) (all : List (Bor (List ℕ) × Value)) (i : ℕ) → length all ≤ i
    → place_in name (map shown (drop i all)) ≡ 0
place-none name all i past = ap (λ l. place_in name (map shown l)) (drop_all i all past)

pub put-there : (name : List ℕ) (v : Value) (all : List (Bor (List ℕ) × Value)) (i : ℕ)
    (old : Bor (List ℕ) × Value) → i ≡ place_in name (map shown all) → i < length all → old ≡ get_or all i old
    → map shown (set all i (old.0, v)) ≡ with_name name (datum_of v) (map shown all)
put-there name v all i old at low is =
    sym (append-nil (map shown (set all i (old.0, v))))
    ∙ few-set shown name (datum_of v) all [] i old (old.0, v) refl at low is
    ∙ ap (with_name name (datum_of v)) (append-nil (map shown all))

pub put-last : (key : Bor (List ℕ)) (v : Value) (all : List (Bor (List ℕ) × Value)) (i : ℕ)
    → i ≡ place_in key.now (map shown all) → length all ≤ i
    → map shown (all ++ (key, v) ∷ []) ≡ with_name key.now (datum_of v) (map shown all)
put-last key v all i at past =
    let many = length-map all shown in
    map-append shown all ((key, v) ∷ [])
    ∙ set-unplaced key.now (datum_of v) (map shown all) [] (omega (arith, many, at, past))
    ∙ ap (with_name key.now (datum_of v)) (append-nil (map shown all))

one-on : (i n : ℕ) (b : Bool) → nat_lt i n ≡ b → nat_lt (suc i) (suc n) ≡ b
one-on i n true low = let under = ltb-true i n low in lt-ltb (suc i) (suc n) (omega (arith, under))
one-on i n false past =
    let over = ltb-false i n past in
    false_from_ne_true (nat_lt (suc i) (suc n)) (λ e. let under = ltb-true (suc i) (suc n) e in omega (arith, over, under))

is_placed : (name : List ℕ) (all : Names) → nat_lt (place_in name all) (length all) ≡ is_given name all
is_placed name [] = refl
is_placed name (p ∷ all) = by (is_placed name all) (is_same_name name p.0)
  where
    by : nat_lt (place_in name all) (length all) ≡ is_given name all → (b : Bool)
        → nat_lt (if b then 0 else suc (place_in name all)) (suc (length all))
        ≡ is_some (if b then Some p.1 else value_of_name name all)
    by rest true = lt-ltb 0 (suc (length all)) (omega arith)
    by rest false = one-on (place_in name all) (length all) (is_given name all) rest

pub placed-given : (name : List ℕ) (all : List (Bor (List ℕ) × Value)) (i n : ℕ)
    → i ≡ place_in name (map shown all) → n ≡ length all → nat_lt i n ≡ is_given name (map shown all)
placed-given name all i n at many =
    ap₂ nat_lt at (many ∙ sym (length-map all shown)) ∙ is_placed name (map shown all)

-- ---- the arguments that are left
with-one-argument : (names : List (List ℕ)) (i : ℕ) (word : Option (List ℕ)) (e : _) (more : Arguments) (d : Datum)
    (values : List Datum) (so_far : Names) → given_from names i (argument word e more) (d ∷ values) so_far
    ≡ given_from names (unnamed_before_next word i) more values (with_argument names i word d so_far)
with-one-argument names i None e more d values so_far = refl
with-one-argument names i (Some name) e more d values so_far = refl

pub given-next : (names : List (List ℕ)) (i : ℕ) (all : List Arg) (at : ℕ) (a : Arg) (d : Datum)
    (values : List Datum)
    (so_far : Names) → at < length all → a ≡ get_or all at a
    → given_from names i (arguments (drop at all)) (d ∷ values)
    so_far ≡ given_from names (unnamed_before_next a.name i) (arguments (drop (at + 1) all)) values
    (with_argument names i a.name d so_far)
given-next names i all at a d values so_far below is =
    ap (λ args. given_from names i args (d ∷ values) so_far) (arguments-drop all at a below is)
    ∙ with-one-argument names i a.name (expression_of a.value) (arguments (drop (at + 1) all)) d values so_far

pub one-more_at_most : (word : Option (List ℕ)) (i later at : ℕ) → later ≡ unnamed_before_next word i → i ≤ at
    → later ≤ at + 1
one-more_at_most None i later at is low = omega (arith, is, low)
one-more_at_most (Some name) i later at is low = omega (arith, is, low)

pub given-past : (names : List (List ℕ)) (i : ℕ) (all : List Arg) (at : ℕ) (values : List Datum) (so_far : Names)
    → length all ≤ at → given_from names i (arguments (drop at all)) values so_far ≡ so_far
given-past names i all at values so_far past = ap (λ args. given_from names i args values so_far)
    (arguments-drop_all all at past)

no_values : (names : List (List ℕ)) (i : ℕ) (args : Arguments) (so_far : Names)
    → given_from names i args [] so_far ≡ so_far
no_values names i no_arguments so_far = refl
no_values names i (argument word e more) so_far = refl

pub given-end : (names : List (List ℕ)) (i : ℕ) (args : Arguments) (values : List Datum) (so_far : Names)
    → values ≡ [] → given_from names i args values so_far ≡ so_far
given-end names i args values so_far none = ap (λ vs. given_from names i args vs so_far) none
    ∙ no_values names i args
    so_far

-- ---- child statements that are left
pub statements-next : (all : List Item) (i : ℕ) (v : Item) → i < length all → v ≡ get_or all i v
    → statements (items (drop i all)) ≡ (if is_statement (item_of v) then 1 else 0) + statements
    (items (drop (i + 1) all))
statements-next all i v below is = ap statements (items-drop all i v below is)

pub statements-end : (all : List Item) (i : ℕ) → length all ≤ i → statements (items (drop i all)) ≡ 0
statements-end all i past = ap statements (items-drop_all all i past)

pub ruleset names = (names-drop, names-drop_all, name_there, name_past)

pub ruleset places = (place-here, place-past, place-none)

pub ruleset listed = (put-there, put-last)

pub ruleset has = (placed-given, given_in)

pub ruleset misses = (parameters-drop, parameters-drop_all)

pub ruleset gives = (given-next, given-past, given-end)

pub ruleset counts = (statements-next, statements-end)
