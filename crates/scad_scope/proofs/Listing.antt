-- Names in memory, and the places of those that are listed.
use Rattle.std.proofs.Common.{◌≡◌, ℕ, ◌+◌, suc, Bool, true, false, cond, List, [], ◌∷◌, ◌++◌, map, Some, None, if◌then◌else◌, Vec, Global, refl, sym, ap, ap₂, ◌∙◌, arith}
use Rattle.std.specs.Prelude.{nat_lt, is_some, not}
use Rattle.std.specs.List.{prefix_len}
use Rattle.std.proofs.lemmas.List.{length-map, map-append}
use Rattle.scad_scope.specs.Names.{is_same_name}
use Rattle.scad_bindings.specs.NamePlaces.{before, place_in}
use Rattle.scad_scope.specs.Listing.{Listing, place_of, with_listed}

-- the names of words in memory
abbrev pub words : List (Vec ℕ Global) → Listing
words = map (λ w. w.items)

before-word : (name : List ℕ) (ws : List (Vec ℕ Global)) → before (λ w. w.items) name ws
    ≡ prefix_len (λ n. not (is_same_name name n)) (words ws)
before-word name [] = refl
before-word name (w ∷ ws) = by (before-word name ws) (is_same_name name w.items)
  where
    by : before (λ v. v.items) name ws ≡ prefix_len (λ n. not (is_same_name name n)) (words ws) → (b : Bool)
        → (if b then 0 else suc (before (λ v. v.items) name ws))
        ≡ cond (not b) (1 + prefix_len (λ n. not (is_same_name name n)) (words ws)) 0
    by rest true = refl
    by rest false = omega (arith, rest)

-- a name is sought among words in memory
pub place-word : (name : List ℕ) (ws : List (Vec ℕ Global)) → place_in (λ w. w.items) name ws ≡ place_of name (words ws)
place-word name ws =
    ap₂ (λ i n. cond (nat_lt i n) (Some i) None) (before-word name ws) (sym (length-map ws (λ w. w.items)))

-- ---- a name more
-- one that is listed
pub word-there : (name : List ℕ) (ws : List (Vec ℕ Global)) → true ≡ is_some (place_in (λ w. w.items) name ws)
    → words ws ≡ with_listed name (words ws)
word-there name ws told =
    ap (λ b. if b then words ws else words ws ++ name ∷ []) (told ∙ ap is_some (place-word name ws))

-- one that isn't
pub word-last : (w : Vec ℕ Global) (ws : List (Vec ℕ Global)) → false ≡ is_some (place_in (λ v. v.items) w.items ws)
    → words (ws ++ w ∷ []) ≡ with_listed w.items (words ws)
word-last w ws told =
    map-append (λ v. v.items) ws (w ∷ [])
    ∙ ap (λ b. if b then words ws else words ws ++ w.items ∷ []) (told ∙ ap is_some (place-word w.items ws))
