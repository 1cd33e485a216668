-- The names of a frame: those at places, and behind them those by name.
use Rattle.std.proofs.Common.{◌≡◌, ℕ, ◌≤◌, Bool, true, false, List, [], ◌∷◌, ◌++◌, map, length, Option, Some, None, if◌then◌else◌, refl, sym, ap, ap₂, ◌∙◌, arith}
use Rattle.std.specs.Prelude.{is_some, ◌&&◌, ◌==◌}
use Rattle.std.specs.Cmp.Lexicographic.{bytes_decides}
use Rattle.std.proofs.lemmas.Bool.{eq-eqb, eqb-true, false_from_ne_true, false≢true}
use Rattle.std.proofs.lemmas.List.{append-nil}
use Rattle.std.proofs.lemmas.Option.{none-some}
use Rattle.scad_value.specs.Datum.{Datum}
use Rattle.scad_value.specs.declared.value.Value.{Value}
use Rattle.scad_scope.specs.Chain.{are_listed, names_held}
use Rattle.scad_scope.specs.FrameNames.{is_nil}
use Rattle.scad_scope.specs.Listing.{Listing, place_of}
use Rattle.scad_scope.specs.Names.{Names, is_same_name, place_in, value_of_name, with_name}
use Rattle.scad_scope.specs.ListedValues.{ArePlaces, first_place, name_placed, or_unlisted, place_in_entry}
use Rattle.scad_scope.proofs.Few.{set-unplaced}
use Rattle.scad_scope.proofs.ListedValues.{first, others}

-- ---- no names behind the placed ones
pub alone : (xs ys : Names) → is_nil ys ≡ true → xs ++ ys ≡ xs
alone xs [] none = append-nil xs
alone xs (p ∷ ys) none = absurd (false≢true none)

-- a value is put at a free place
pub placed-push : (name n : List ℕ) (d : Datum) (xs ys zs : Names) → zs ≡ xs ++ (n, d) ∷ [] → n ≡ name
    → length xs ≤ place_in name xs → is_nil ys ≡ true → zs ++ ys ≡ with_name name d (xs ++ ys)
placed-push name n d xs ys zs put same absent none =
    alone zs ys none ∙ put ∙ ap (λ m. xs ++ (m, d) ∷ []) same
    ∙ set-unplaced name d xs [] absent
    ∙ ap (with_name name d) (append-nil xs ∙ sym (alone xs ys none))

-- ---- the first name behind the placed ones stays
pub first-more : (l : Listing) (name : List ℕ) (d : Datum) (all : Names) → first_place l all ≡ None
    → is_nil all ≡ false → first_place l (with_name name d all) ≡ None
first-more l name d [] is none = absurd (false≢true (sym none))
first-more l name d (p ∷ all) is none = by (is_same_name name p.0)
  where
    by : (b : Bool) → first_place l (if b then (p.0, d) ∷ all else p ∷ with_name name d all) ≡ None
    by true = is
    by false = is

pub first-other : (l : Listing) (name : List ℕ) (d : Datum) (all : Names) → first_place l all ≡ None
    → place_of name l ≡ None → first_place l (with_name name d all) ≡ None
first-other l name d [] is other = other
first-other l name d (p ∷ all) is other = first-more l name d (p ∷ all) is refl

-- ---- whether all names are listed
placed-listed : (l : Listing) (es : List (ℕ × Value)) → ArePlaces l (map place_in_entry es)
    → are_listed l (map (name_placed l) es) ≡ true
placed-listed l [] are = refl
placed-listed l (e ∷ es) are =
    let qs = map place_in_entry es in
    ap₂ (λ a b. is_some a && b) (first l e.0 qs are) (placed-listed l es (others l e.0 qs are))

other-unlisted : (l : Listing) (xs ys : Names) → first_place l ys ≡ None → is_nil ys ≡ false
    → are_listed l (xs ++ ys) ≡ false
other-unlisted l [] [] is some = absurd (false≢true (sym some))
other-unlisted l [] (p ∷ ys) is some = ap (λ o. is_some o && are_listed l ys) is
other-unlisted l (x ∷ xs) ys is some =
    ap (λ b. is_some (place_of x.0 l) && b) (other-unlisted l xs ys is some) ∙ by (is_some (place_of x.0 l))
  where
    by : (b : Bool) → (b && false) ≡ false
    by true = refl
    by false = refl

held-all : (o : Option Listing) (all : Names) → are_listed (or_unlisted o) all ≡ true → o ≡ names_held o all
held-all None all are = refl
held-all (Some l) all are = sym (ap (λ b. if b then Some l else None) are)

held-none : (o : Option Listing) (all : Names) → are_listed (or_unlisted o) all ≡ false → None ≡ names_held o all
held-none None all are = refl
held-none (Some l) all are = sym (ap (λ b. if b then Some l else None) are)

-- the names that are told
pub names-alone : (o : Option Listing) (es : List (ℕ × Value)) (ys : Names)
    → ArePlaces (or_unlisted o) (map place_in_entry es) → is_nil ys ≡ true
    → o ≡ names_held o (map (name_placed (or_unlisted o)) es ++ ys)
names-alone o es ys are none =
    held-all o (map (name_placed (or_unlisted o)) es) (placed-listed (or_unlisted o) es are)
    ∙ ap (names_held o) (sym (alone (map (name_placed (or_unlisted o)) es) ys none))

pub names-other : (o : Option Listing) (xs ys : Names) → first_place (or_unlisted o) ys ≡ None → is_nil ys ≡ false
    → None ≡ names_held o (xs ++ ys)
names-other o xs ys is some = held-none o (xs ++ ys) (other-unlisted (or_unlisted o) xs ys is some)

abbrev or_no_names : Option Listing → Listing
or_no_names None = []
or_no_names (Some l) = l

pub held-listing : (o : Option Listing) (all : Names) (l : Listing) → names_held o all ≡ Some l
    → (or_unlisted o ≡ l) × (are_listed l all ≡ true)
held-listing None all l is = absurd (none-some l is)
held-listing (Some m) all l is = by (are_listed m all) refl is
  where
    by : (b : Bool) → are_listed m all ≡ b → (if b then Some m else None) ≡ Some l → (m ≡ l) × (are_listed l all ≡ true)
    by true are same = (ap or_no_names same, ap (λ k. are_listed k all) (sym (ap or_no_names same)) ∙ are)
    by false are same = absurd (none-some l same)

-- where the names are told, no other stands behind the placed ones
pub held-alone : (o : Option Listing) (xs ys : Names) (l : Listing) → first_place (or_unlisted o) ys ≡ None
    → names_held o (xs ++ ys) ≡ Some l → is_nil ys ≡ true
held-alone o xs ys l is told = by (is_nil ys) refl
  where
    by : (b : Bool) → is_nil ys ≡ b → b ≡ true
    by true none = refl
    by false some = absurd (none-some l (names-other o xs ys is some ∙ told))

-- a name that isn't listed has no value where all names are
pub unlisted-absent : (name : List ℕ) (l : Listing) (all : Names) → are_listed l all ≡ true → place_of name l ≡ None
    → value_of_name name all ≡ None
unlisted-absent name l [] are none = refl
unlisted-absent name l (p ∷ all) are none =
    by (unlisted-absent name l all) (place_of p.0 l) refl are (is_same_name name p.0) refl
  where
    by : (are_listed l all ≡ true → place_of name l ≡ None → value_of_name name all ≡ None) → (o : Option ℕ)
        → place_of p.0 l ≡ o → (is_some o && are_listed l all) ≡ true → (b : Bool) → is_same_name name p.0 ≡ b
        → (if b then Some p.1 else value_of_name name all) ≡ None
    by rest None at are b same = absurd (false≢true are)
    by rest (Some q) at are true same =
        absurd (none-some q (sym none ∙ ap (λ n. place_of n l) ((bytes_decides name p.0).0 same) ∙ at))
    by rest (Some q) at are false same = rest are none

-- ---- whether there are names
pub none-front : (xs ys : Names) → is_nil xs ≡ true → is_nil ys ≡ is_nil (xs ++ ys)
none-front [] ys none = refl
none-front (p ∷ xs) ys none = absurd (false≢true none)

pub some-front : (xs ys : Names) → is_nil xs ≡ false → false ≡ is_nil (xs ++ ys)
some-front [] ys some = absurd (false≢true (sym some))
some-front (p ∷ xs) ys some = refl

module _ {A : Type 0} (view : A → List ℕ × Datum) where
  pub nil-counted : (xs : List A) (n : ℕ) → n ≡ length xs → (n == 0) ≡ is_nil (map view xs)
  nil-counted [] n is = eq-eqb n 0 is
  nil-counted (x ∷ xs) n is = false_from_ne_true (n == 0)
      (λ e. let zero = eqb-true n 0 e in let no : ⊥ = omega (arith, is, zero) in no)

pub ruleset sets = (placed-push, first-more, first-other)

pub ruleset told = (names-alone, names-other)
