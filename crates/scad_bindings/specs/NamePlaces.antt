-- Values by names that are lent, in the order in which the names first came.
use Rattle.std.specs.Prelude.{◌≡◌, ℕ, suc, List, [], ◌∷◌, length, Option, Some, None, if◌then◌else◌, nat_lt}
use Rattle.std.specs.Borrow.{Bor}
use Rattle.std.specs.HashMap.{HashMap, get_by}
use Rattle.scad_bindings.specs.Names.{is_same_name}

module _ {V : Type 0} where
  -- a name that is there takes the value, another one goes last with it
  abbrev pub put_in : List (Bor (List ℕ) × V) → Bor (List ℕ) → V → List (Bor (List ℕ) × V)
  put_in [] name v = (name, v) ∷ []
  put_in (e ∷ es) name v = if is_same_name name.now e.0.now then (e.0, v) ∷ es else e ∷ put_in es name v

  -- the value of a name
  abbrev pub value_in : List ℕ → List (Bor (List ℕ) × V) → Option V
  value_in name [] = None
  value_in name (e ∷ es) = if is_same_name name e.0.now then Some e.1 else value_in name es

-- how many names stand before a name in a list: all of them where it isn't there
abbrev pub before : {A : Type 0} → (A → List ℕ) → List ℕ → List A → ℕ
before word name [] = 0
before word name (a ∷ all) = if is_same_name name (word a) then 0 else suc (before word name all)

-- the place of a name, where it is there
abbrev pub place_in : {A : Type 0} → (A → List ℕ) → List ℕ → List A → Option ℕ
place_in word name all = if nat_lt (before word name all) (length all) then Some (before word name all) else None

-- a table has the place of each name, and of no other
abbrev pub HasPlaces : {A K S : Type 0} → (A → List ℕ) → (K → List ℕ) → List A → HashMap K ℕ S → Type 0
HasPlaces word key all places =
    (name : List ℕ) → get_by (λ k. is_same_name name (key k)) places ≡ place_in word name all
