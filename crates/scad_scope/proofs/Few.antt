-- Where a name stands among the few of a frame, and what it is to set it and to seek it there.
use Rattle.std.proofs.Common.{◌≡◌, ℕ, ◌+◌, ◌<◌, ◌≤◌, suc, Bool, true, false, List, [], ◌∷◌, ◌++◌, map, length, drop, get_or, set, Some, None, if◌then◌else◌, refl, sym, ap, ◌∙◌, arith}
use Rattle.std.proofs.lemmas.List.{map-append, map-set, get_or-map, length-map, append-nil, drop_more, drop_all}
use Rattle.scad_value.specs.Datum.{Datum}
use Rattle.scad_value.specs.declared.value.Value.{Value}
use Rattle.scad_scope.specs.declared.word.Word.{Word}
use Rattle.scad_value.specs.View.{datum_of}
use Rattle.scad_scope.specs.Names.{Names, is_same_name, place_in, value_of_name, with_name}
use Rattle.scad_scope.specs.FrameNames.{named}
use Rattle.scad_bindings.specs.NamePlaces.{before}

-- ---- a name that stands there
set-placed : (name : List ℕ) (d : Datum) (xs more : Names) (q : List ℕ × Datum) → place_in name xs < length xs
    → set xs (place_in name xs) ((get_or xs (place_in name xs) q).0, d) ++ more ≡ with_name name d (xs ++ more)
set-placed name d [] more q low = absurd (omega (arith, low))
set-placed name d (p ∷ xs) more q low = by (set-placed name d xs more q) (is_same_name name p.0) low
  where
    by : (place_in name xs < length xs → set xs (place_in name xs) ((get_or xs (place_in name xs) q).0, d) ++ more
        ≡ with_name name d (xs ++ more)) → (b : Bool)
        → (if b then 0 else suc (place_in name xs)) < length (p ∷ xs)
        → set (p ∷ xs) (if b then 0 else suc (place_in name xs))
        ((get_or (p ∷ xs) (if b then 0 else suc (place_in name xs)) q).0, d) ++ more
        ≡ (if b then (p.0, d) ∷ xs ++ more else p ∷ with_name name d (xs ++ more))
    by rest true low = refl
    by rest false low = ap (λ l. p ∷ l) (rest (omega (arith, low)))

value-placed : (name : List ℕ) (xs more : Names) (q : List ℕ × Datum) → place_in name xs < length xs
    → Some (get_or xs (place_in name xs) q).1 ≡ value_of_name name (xs ++ more)
value-placed name [] more q low = absurd (omega (arith, low))
value-placed name (p ∷ xs) more q low = by (value-placed name xs more q) (is_same_name name p.0) low
  where
    by : (place_in name xs < length xs → Some (get_or xs (place_in name xs) q).1 ≡ value_of_name name (xs ++ more))
        → (b : Bool) → (if b then 0 else suc (place_in name xs)) < length (p ∷ xs)
        → Some (get_or (p ∷ xs) (if b then 0 else suc (place_in name xs)) q).1
        ≡ (if b then Some p.1 else value_of_name name (xs ++ more))
    by rest true low = refl
    by rest false low = rest (omega (arith, low))

-- ---- a name that doesn't stand there
pub set-unplaced : (name : List ℕ) (d : Datum) (xs more : Names) → length xs ≤ place_in name xs
    → xs ++ with_name name d more ≡ with_name name d (xs ++ more)
set-unplaced name d [] more past = refl
set-unplaced name d (p ∷ xs) more past = by (set-unplaced name d xs more) (is_same_name name p.0) past
  where
    by : (length xs ≤ place_in name xs → xs ++ with_name name d more ≡ with_name name d (xs ++ more))
        → (b : Bool) → length (p ∷ xs) ≤ (if b then 0 else suc (place_in name xs))
        → p ∷ xs ++ with_name name d more
        ≡ (if b then (p.0, d) ∷ xs ++ more else p ∷ with_name name d (xs ++ more))
    by rest true past = absurd (omega (arith, past))
    by rest false past = ap (λ l. p ∷ l) (rest (omega (arith, past)))

pub value-unplaced : (name : List ℕ) (xs more : Names) → length xs ≤ place_in name xs
    → value_of_name name more ≡ value_of_name name (xs ++ more)
value-unplaced name [] more past = refl
value-unplaced name (p ∷ xs) more past = by (value-unplaced name xs more) (is_same_name name p.0) past
  where
    by : (length xs ≤ place_in name xs → value_of_name name more ≡ value_of_name name (xs ++ more)) → (b : Bool)
        → length (p ∷ xs) ≤ (if b then 0 else suc (place_in name xs))
        → value_of_name name more ≡ (if b then Some p.1 else value_of_name name (xs ++ more))
    by rest true past = absurd (omega (arith, past))
    by rest false past = rest (omega (arith, past))

-- ---- entries in memory
module _ {A : Type 0} (view : A → List ℕ × Datum) where
  -- one is set
  pub few-set : (name : List ℕ) (d : Datum) (all : List A) (more : Names) (i : ℕ) (old new : A)
      → view new ≡ ((view old).0, d) → i ≡ place_in name (map view all) → i < length all → old ≡ get_or all i old
      → map view (set all i new) ++ more ≡ with_name name d (map view all ++ more)
  few-set name d all more i old new made at low is =
      let many = length-map all view in
      ap (λ l. l ++ more) (map-set view all i new ∙ ap (set (map view all) i)
      (made ∙ ap (λ p. (p.0, d)) (ap view is ∙ sym (get_or-map view all i old (view old) low))))
      ∙ ap (λ j. set (map view all) j ((get_or (map view all) j (view old)).0, d) ++ more) at
      ∙ set-placed name d (map view all) more (view old) (omega (arith, many, at, low))

  -- one is sought
  pub few-value : (name : List ℕ) (all : List A) (more : Names) (i : ℕ) (e : A) → i ≡ place_in name (map view all)
      → i < length all → e ≡ get_or all i e → Some (view e).1 ≡ value_of_name name (map view all ++ more)
  few-value name all more i e at low is =
      let many = length-map all view in
      ap (λ p. Some p.1) (ap view is ∙ sym (get_or-map view all i e (view e) low))
      ∙ ap (λ j. Some (get_or (map view all) j (view e)).1) at
      ∙ value-placed name (map view all) more (view e) (omega (arith, many, at, low))

-- one goes behind them
pub few-push : (name : List ℕ) (v : Value) (all : List (Word × Value)) (more : Names)
    → length (map named all) ≤ place_in name (map named all) → more ≡ []
    → map named (all ++ (name, v) ∷ []) ++ more ≡ with_name name (datum_of v) (map named all ++ more)
few-push name v all more past none =
    ap (λ m. map named (all ++ (name, v) ∷ []) ++ m) none
    ∙ append-nil (map named (all ++ (name, v) ∷ [])) ∙ map-append named all ((name, v) ∷ [])
    ∙ set-unplaced name (datum_of v) (map named all) [] past
    ∙ ap (λ m. with_name name (datum_of v) (map named all ++ m)) (sym none)

-- ---- those behind the first ones, whose places are in a table
abbrev pub word_of : Word × Value → List ℕ
word_of e = e.0

pub before-named : (name : List ℕ) (es : List (Word × Value))
    → before word_of name es ≡ place_in name (map named es)
before-named name [] = refl
before-named name (e ∷ es) = ap (λ n. if is_same_name name e.0 then 0 else suc n) (before-named name es)

pub further-set : (name : List ℕ) (v : Value) (es : List (Word × Value)) (i : ℕ)
    (old : Word × Value) → i ≡ before word_of name es → i < length es → old ≡ get_or es i old
    → map named (set es i (old.0, v)) ≡ with_name name (datum_of v) (map named es)
further-set name v es i old at low is =
    sym (append-nil (map named (set es i (old.0, v))))
    ∙ few-set named name (datum_of v) es [] i old (old.0, v) refl (at ∙ before-named name es) low is
    ∙ ap (with_name name (datum_of v)) (append-nil (map named es))

pub further-push : (name : List ℕ) (v : Value) (es : List (Word × Value))
    → before word_of name es ≡ length es
    → map named (es ++ (name, v) ∷ []) ≡ with_name name (datum_of v) (map named es)
further-push name v es none =
    let many = length-map es named in
    let at = before-named name es in
    sym (append-nil (map named (es ++ (name, v) ∷ [])))
    ∙ few-push name v es [] (omega (arith, none, many, at)) refl
    ∙ ap (with_name name (datum_of v)) (append-nil (map named es))

pub further-value : (name : List ℕ) (es : List (Word × Value)) (i : ℕ) (e : Word × Value)
    → i ≡ before word_of name es → i < length es → e ≡ get_or es i e
    → Some (datum_of e.1) ≡ value_of_name name (map named es)
further-value name es i e at low is =
    few-value named name es [] i e (at ∙ before-named name es) low is
    ∙ ap (value_of_name name) (append-nil (map named es))

pub further-none : (name : List ℕ) (es : List (Word × Value))
    → before word_of name es ≡ length es → None ≡ value_of_name name (map named es)
further-none name es none =
    let many = length-map es named in
    let at = before-named name es in
    value-unplaced name (map named es) [] (omega (arith, none, many, at))
    ∙ ap (value_of_name name) (append-nil (map named es))

-- ---- the search
next : (name : List ℕ) (all : List (Word × Value)) (i : ℕ) (e : Word × Value)
    → i < length all → e ≡ get_or all i e → place_in name (map named (drop i all))
    ≡ (if is_same_name name e.0 then 0 else suc (place_in name (map named (drop (i + 1) all))))
next name all i e below is =
    ap (λ l. place_in name (map named l)) (drop_more all i e below)
    ∙ ap (λ p. place_in name (named p ∷ map named (drop (i + 1) all))) (sym is)

pub place-here : (name : List ℕ) (all : List (Word × Value)) (i : ℕ) (e : Word × Value)
    → i < length all → e ≡ get_or all i e → is_same_name name e.0 ≡ true
    → place_in name (map named (drop i all)) ≡ 0
place-here name all i e below is same =
    next name all i e below is
    ∙ ap (λ b. if b then 0 else suc (place_in name (map named (drop (i + 1) all)))) same

pub place-past : (name : List ℕ) (all : List (Word × Value)) (i : ℕ) (e : Word × Value)
    → i < length all → e ≡ get_or all i e → is_same_name name e.0 ≡ false
    → place_in name (map named (drop i all)) ≡ suc (place_in name (map named (drop (i + 1) all)))
place-past name all i e below is other =
    next name all i e below is
    ∙ ap (λ b. if b then 0 else suc (place_in name (map named (drop (i + 1) all)))) other

pub place-none : (name : List ℕ) (all : List (Word × Value)) (i : ℕ) → length all ≤ i
    → place_in name (map named (drop i all)) ≡ 0
place-none name all i past = ap (λ l. place_in name (map named l)) (drop_all i all past)

pub ruleset unplaced = (set-unplaced, value-unplaced)
