-- Where a name stands in a list, and what it is to put one there and to read it.
use Rattle.std.proofs.Common.{◌≡◌, ℕ, ◌+◌, ◌<◌, ◌≤◌, zero, suc, Bool, true, false, List, [], ◌∷◌, ◌++◌, length, get_or, set, Option, Some, None, if◌then◌else◌, Vec, Global, Bor, refl, sym, ap, ap₂, ◌∙◌, arith}
use Rattle.std.specs.Prelude.{nat_lt, is_some, unwrap_or}
use Rattle.std.specs.Cmp.Lexicographic.{nat_list_eq_equiv, bytes_decides}
use Rattle.std.proofs.lemmas.Bool.{ltb-true, ltb-false, lt-ltb, false_from_ne_true, true≢false, false≢true}
use Rattle.std.specs.HashMap.{HashMap, get_by, UpdatesBy}
use Rattle.std.specs.Map.{KeepsOthers}
use Rattle.std.proofs.lemmas.List.{length-append, length-set}
use Rattle.scad_bindings.specs.Names.{is_same_name}
use Rattle.scad_bindings.specs.NamePlaces.{put_in, value_in, before, place_in, HasPlaces}

same_turned : (a b : List ℕ) → is_same_name a b ≡ is_same_name b a
same_turned a b = nat_list_eq_equiv.symm a b

if-below : (i n : ℕ) → i < n → (if nat_lt i n then Some i else None) ≡ Some i
if-below i n low = ap (λ b. if b then Some i else None) (lt-ltb i n low)

if-past : (i n : ℕ) → n ≤ i → (if nat_lt i n then Some i else None) ≡ None
if-past i n past =
    ap (λ b. if b then Some i else None)
    (false_from_ne_true (nat_lt i n) (λ e. let low = ltb-true i n e in omega (arith, past, low)))

module _ {A : Type 0} (word : A → List ℕ) where
  before-within : (name : List ℕ) (all : List A) → before word name all ≤ length all
  before-within name [] = omega arith
  before-within name (a ∷ all) = by (before-within name all) (is_same_name name (word a))
    where
      by : before word name all ≤ length all → (b : Bool)
          → (if b then 0 else suc (before word name all)) ≤ length (a ∷ all)
      by within true = omega arith
      by within false = omega (arith, within)

  -- what a place that is told says
  pub place-told : (name : List ℕ) (all : List A) (i : ℕ) → Some i ≡ place_in word name all
      → (i ≡ before word name all) × (before word name all < length all)
  place-told name all i told = by (nat_lt (before word name all) (length all)) refl told
    where
      by : (b : Bool) → nat_lt (before word name all) (length all) ≡ b
          → Some i ≡ (if b then Some (before word name all) else None)
          → (i ≡ before word name all) × (before word name all < length all)
      by true low told = (ap (λ o. unwrap_or o 0) told, ltb-true _ _ low)
      by false past told = absurd (true≢false (ap is_some told))

  pub place-untold : (name : List ℕ) (all : List A) → None ≡ place_in word name all
      → before word name all ≡ length all
  place-untold name all told = by (nat_lt (before word name all) (length all)) refl told
    where
      by : (b : Bool) → nat_lt (before word name all) (length all) ≡ b
          → None ≡ (if b then Some (before word name all) else None)
          → before word name all ≡ length all
      by true low told = absurd (false≢true (ap is_some told))
      by false past told =
          let up = ltb-false _ _ past in
          let within = before-within name all in
          omega (arith, up, within)

  pub place-unfound : (name : List ℕ) (all : List A) → false ≡ is_some (place_in word name all)
      → before word name all ≡ length all
  place-unfound name all told = by (place_in word name all) refl told
    where
      by : (o : Option ℕ) → place_in word name all ≡ o → false ≡ is_some o → before word name all ≡ length all
      by None is told = place-untold name all (sym is)
      by (Some i) is told = absurd (false≢true told)

  -- ---- one more goes last
  before-found : (name : List ℕ) (all : List A) (a : A) → before word name all < length all
      → before word name (all ++ a ∷ []) ≡ before word name all
  before-found name [] a low = absurd (omega (arith, low))
  before-found name (c ∷ all) a low = by (before-found name all a) (is_same_name name (word c)) low
    where
      by : (before word name all < length all → before word name (all ++ a ∷ []) ≡ before word name all) → (b : Bool)
          → (if b then 0 else suc (before word name all)) < length (c ∷ all)
          → (if b then 0 else suc (before word name (all ++ a ∷ []))) ≡ (if b then 0 else suc (before word name all))
      by rest true low = refl
      by rest false low = ap suc (rest (omega (arith, low)))

  before-last : (name : List ℕ) (all : List A) (a : A) → before word name all ≡ length all
      → before word name (all ++ a ∷ []) ≡ length all + (if is_same_name name (word a) then 0 else 1)
  before-last name [] a none = by (is_same_name name (word a))
    where
      by : (b : Bool) → (if b then 0 else 1) ≡ 0 + (if b then 0 else 1)
      by true = refl
      by false = refl
  before-last name (c ∷ all) a none = by (before-last name all a) (is_same_name name (word c)) none
    where
      by : (before word name all ≡ length all
          → before word name (all ++ a ∷ []) ≡ length all + (if is_same_name name (word a) then 0 else 1)) → (b : Bool)
          → (if b then 0 else suc (before word name all)) ≡ length (c ∷ all)
          → (if b then 0 else suc (before word name (all ++ a ∷ [])))
          ≡ suc (length all) + (if is_same_name name (word a) then 0 else 1)
      by rest true none = absurd (omega (arith, none))
      by rest false none = let found = rest (omega (arith, none)) in omega (arith, found)

  place-other : (name : List ℕ) (all : List A) (a : A) → is_same_name name (word a) ≡ false
      → place_in word name (all ++ a ∷ []) ≡ place_in word name all
  place-other name all a other = by (nat_lt (before word name all) (length all)) refl
    where
      long : length (all ++ a ∷ []) ≡ length all + 1
      long = length-append all (a ∷ [])

      by : (b : Bool) → nat_lt (before word name all) (length all) ≡ b
          → place_in word name (all ++ a ∷ []) ≡ (if b then Some (before word name all) else None)
      by true low =
          let there = before-found name all a (ltb-true _ _ low) in
          let under : before word name (all ++ a ∷ []) < length (all ++ a ∷ [])
          = let l = ltb-true _ _ low in omega (arith, there, long, l) in
          if-below (before word name (all ++ a ∷ [])) (length (all ++ a ∷ [])) under ∙ ap Some there
      by false past =
          let within = before-within name all in
          let up = ltb-false _ _ past in
          let none : before word name all ≡ length all = omega (arith, within, up) in
          let there = before-last name all a none ∙ ap (λ b. length all + (if b then 0 else 1)) other in
          if-past (before word name (all ++ a ∷ [])) (length (all ++ a ∷ [])) (omega (arith, there, long))

  place-same : (name : List ℕ) (all : List A) (a : A) → is_same_name name (word a) ≡ true
      → before word name all ≡ length all → place_in word name (all ++ a ∷ []) ≡ Some (length all)
  place-same name all a same none =
      let long : length (all ++ a ∷ []) ≡ length all + 1 = length-append all (a ∷ []) in
      let there = before-last name all a none ∙ ap (λ b. length all + (if b then 0 else 1)) same in
      if-below (before word name (all ++ a ∷ [])) (length (all ++ a ∷ [])) (omega (arith, there, long))
      ∙ ap Some (omega (arith, there))

  -- the places once one that wasn't there is last
  pub place-more : (name : List ℕ) (all : List A) (a : A) → before word (word a) all ≡ length all
      → (if is_same_name (word a) name then Some (length all) else place_in word name all)
      ≡ place_in word name (all ++ a ∷ [])
  place-more name all a none = by (is_same_name (word a) name) refl
    where
      by : (b : Bool) → is_same_name (word a) name ≡ b
          → (if b then Some (length all) else place_in word name all) ≡ place_in word name (all ++ a ∷ [])
      by true same =
          sym (place-same name all a (same_turned name (word a) ∙ same)
          (ap (λ n. before word n all) (sym ((bytes_decides (word a) name).0 same)) ∙ none))
      by false other = sym (place-other name all a (same_turned name (word a) ∙ other))

-- ---- one changes, its name stays
module _ {A : Type 0} (word : A → List ℕ) where
  before-set : (name : List ℕ) (all : List A) (i : ℕ) (old new : A) → old ≡ get_or all i old → word new ≡ word old
      → before word name all ≡ before word name (set all i new)
  before-set name [] i old new is same = refl
  before-set name (a ∷ all) zero old new is same =
      ap (λ w. if is_same_name name w then 0 else suc (before word name all)) (sym (same ∙ ap word is))
  before-set name (a ∷ all) (suc i) old new is same =
      ap (λ n. if is_same_name name (word a) then 0 else suc n) (before-set name all i old new is same)

  pub place-set : (name : List ℕ) (all : List A) (i : ℕ) (old new : A) → old ≡ get_or all i old → word new ≡ word old
      → place_in word name all ≡ place_in word name (set all i new)
  place-set name all i old new is same =
      ap₂ (λ j n. if nat_lt j n then Some j else None) (before-set name all i old new is same)
      (sym (length-set all i new))

-- ---- a table that has one name more
module _ {K S : Type 0} (word : K → List ℕ) (old new : HashMap K ℕ S) (key : K) where
  kept : KeepsOthers (λ a b. is_same_name (word a) (word b)) (λ k. is_same_name (word key) (word k)) old.entries
      new.entries → (name : List ℕ) → is_same_name (word key) name ≡ false
      → get_by (λ k. is_same_name name (word k)) new ≡ get_by (λ k. is_same_name name (word k)) old
  unfolding KeepsOthers
  kept keeps name other =
      keeps (λ k. is_same_name name (word k)) (λ x y. nat_list_eq_equiv.congr name (word x) (word y))
      (λ k same. nat_list_eq_equiv.symm name (word k) ∙ sym (nat_list_eq_equiv.congr (word key) (word k) name same)
      ∙ other)

  pub found-after : (i : ℕ) → UpdatesBy (λ a b. is_same_name (word a) (word b))
      (λ k. is_same_name (word key) (word k)) old new (Some i) → (name : List ℕ)
      → get_by (λ k. is_same_name name (word k)) new
      ≡ (if is_same_name (word key) name then Some i else get_by (λ k. is_same_name name (word k)) old)
  found-after i updates name = by (is_same_name (word key) name) refl
    where
      by : (b : Bool) → is_same_name (word key) name ≡ b → get_by (λ k. is_same_name name (word k)) new
          ≡ (if b then Some i else get_by (λ k. is_same_name name (word k)) old)
      by true same =
          ap (λ n. get_by (λ k. is_same_name n (word k)) new) (sym ((bytes_decides (word key) name).0 same)) ∙ updates.1
      by false other = kept updates.3 name other

-- a list and a table that both have it
pub places-more : {A K S : Type 0} (word : A → List ℕ) (key : K → List ℕ) (all more : List A) (a : A)
    (old new : HashMap K ℕ S) (k : K) (i : ℕ) → key k ≡ word a → i ≡ length all → before word (word a) all ≡ length all
    → more ≡ all ++ a ∷ [] → HasPlaces word key all old
    → UpdatesBy (λ x y. is_same_name (key x) (key y)) (λ y. is_same_name (key k) (key y)) old new (Some i)
    → HasPlaces word key more new
places-more word key all more a old new k i same many none is has updates = λ name.
    found-after key old new k i updates name
    ∙ ap₂ (λ w j. if is_same_name w name then Some j else get_by (λ y. is_same_name name (key y)) old) same many
    ∙ ap (λ o. if is_same_name (word a) name then Some (length all) else o) (has name)
    ∙ place-more word name all a none ∙ ap (place_in word name) (sym is)

-- ---- names as keys: those that are held, and those that are lent
abbrev pub word_in : Vec ℕ Global → List ℕ
word_in w = w.items

abbrev pub lent_name : Bor (List ℕ) → List ℕ
lent_name n = n.now

-- ---- entries
module _ {V : Type 0} where
  abbrev pub name_in : Bor (List ℕ) × V → List ℕ
  name_in e = e.0.now

  pub put-there : (name : Bor (List ℕ)) (v : V) (es : List (Bor (List ℕ) × V)) (d : Bor (List ℕ) × V)
      → before name_in name.now es < length es
      → set es (before name_in name.now es) ((get_or es (before name_in name.now es) d).0, v) ≡ put_in es name v
  put-there name v [] d low = absurd (omega (arith, low))
  put-there name v (e ∷ es) d low = by (put-there name v es d) (is_same_name name.now e.0.now) low
    where
      by : (before name_in name.now es < length es
          → set es (before name_in name.now es) ((get_or es (before name_in name.now es) d).0, v) ≡ put_in es name v)
          → (b : Bool) → (if b then 0 else suc (before name_in name.now es)) < length (e ∷ es)
          → set (e ∷ es) (if b then 0 else suc (before name_in name.now es))
          ((get_or (e ∷ es) (if b then 0 else suc (before name_in name.now es)) d).0, v)
          ≡ (if b then (e.0, v) ∷ es else e ∷ put_in es name v)
      by rest true low = refl
      by rest false low = ap (λ l. e ∷ l) (rest (omega (arith, low)))

  pub put-last : (name : Bor (List ℕ)) (v : V) (es : List (Bor (List ℕ) × V))
      → before name_in name.now es ≡ length es → es ++ (name, v) ∷ [] ≡ put_in es name v
  put-last name v [] none = refl
  put-last name v (e ∷ es) none = by (put-last name v es) (is_same_name name.now e.0.now) none
    where
      by : (before name_in name.now es ≡ length es → es ++ (name, v) ∷ [] ≡ put_in es name v) → (b : Bool)
          → (if b then 0 else suc (before name_in name.now es)) ≡ length (e ∷ es)
          → e ∷ es ++ (name, v) ∷ [] ≡ (if b then (e.0, v) ∷ es else e ∷ put_in es name v)
      by rest true none = absurd (omega (arith, none))
      by rest false none = ap (λ l. e ∷ l) (rest (omega (arith, none)))

  -- the names stay where the value of one changes
  before-kept : (other : List ℕ) (name : Bor (List ℕ)) (v : V) (es : List (Bor (List ℕ) × V))
      → before name_in name.now es < length es
      → (before name_in other (put_in es name v) ≡ before name_in other es) × (length (put_in es name v) ≡ length es)
  before-kept other name v [] low = absurd (omega (arith, low))
  before-kept other name v (e ∷ es) low = by (before-kept other name v es) (is_same_name name.now e.0.now) low
    where
      by : (before name_in name.now es < length es
          → (before name_in other (put_in es name v) ≡ before name_in other es)
          × (length (put_in es name v) ≡ length es))
          → (b : Bool) → (if b then 0 else suc (before name_in name.now es)) < length (e ∷ es)
          → (before name_in other (if b then (e.0, v) ∷ es else e ∷ put_in es name v) ≡ before name_in other (e ∷ es))
          × (length (if b then (e.0, v) ∷ es else e ∷ put_in es name v) ≡ length (e ∷ es))
      by rest true low = (refl, refl)
      by rest false low =
          let kept = rest (omega (arith, low)) in
          (ap (λ n. if is_same_name other e.0.now then 0 else suc n) kept.0, ap suc kept.1)

  pub place-kept : (other : List ℕ) (name : Bor (List ℕ)) (v : V) (es : List (Bor (List ℕ) × V))
      → before name_in name.now es < length es
      → place_in name_in other es ≡ place_in name_in other (put_in es name v)
  place-kept other name v es low =
      let kept = before-kept other name v es low in
      ap₂ (λ i n. if nat_lt i n then Some i else None) (sym kept.0) (sym kept.1)

  pub value-there : (name : List ℕ) (es : List (Bor (List ℕ) × V)) (d : Bor (List ℕ) × V)
      → before name_in name es < length es → Some (get_or es (before name_in name es) d).1 ≡ value_in name es
  value-there name [] d low = absurd (omega (arith, low))
  value-there name (e ∷ es) d low = by (value-there name es d) (is_same_name name e.0.now) low
    where
      by : (before name_in name es < length es → Some (get_or es (before name_in name es) d).1 ≡ value_in name es)
          → (b : Bool) → (if b then 0 else suc (before name_in name es)) < length (e ∷ es)
          → Some (get_or (e ∷ es) (if b then 0 else suc (before name_in name es)) d).1
          ≡ (if b then Some e.1 else value_in name es)
      by rest true low = refl
      by rest false low = rest (omega (arith, low))

  pub value-none : (name : List ℕ) (es : List (Bor (List ℕ) × V)) → before name_in name es ≡ length es
      → None ≡ value_in name es
  value-none name [] none = refl
  value-none name (e ∷ es) none = by (value-none name es) (is_same_name name e.0.now) none
    where
      by : (before name_in name es ≡ length es → None ≡ value_in name es) → (b : Bool)
          → (if b then 0 else suc (before name_in name es)) ≡ length (e ∷ es)
          → None ≡ (if b then Some e.1 else value_in name es)
      by rest true none = absurd (omega (arith, none))
      by rest false none = rest (omega (arith, none))
