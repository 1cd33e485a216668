-- Frames in memory and the environments that they stand for.
use Rattle.std.proofs.Common.{◌≡◌, ℕ, ◌+◌, ◌-◌, ◌<◌, ◌≤◌, List, [], ◌∷◌, ◌++◌, map, length, take, drop, get_or, set, Option, Some, None, option_map, Bor, refl, sym, ap, ◌∙◌, append_assoc, arith}
use Rattle.std.specs.Prelude.{option_copied}
use Rattle.std.proofs.lemmas.List.{map-set, length-map, get_or-take, get_or_past, get_or-map, set-get_or, drop_more, length-append, length-take, length-take-le, take-append-drop, take_at, append-nil}
use Rattle.std.proofs.Math.Seq.{get_or-append_seam, map-set_same}
use Rattle.scad_value.specs.Datum.{Datum}
use Rattle.scad_value.specs.declared.value.Value.{Value}
use Rattle.scad_value.specs.View.{datum_of}
use Rattle.scad_scope.specs.declared.frame.Frame.{Frame}
use Rattle.scad_scope.specs.Names.{value_of_name}
use Rattle.scad_scope.specs.Env.{Env, outside, sought, or_else}
use Rattle.scad_scope.specs.FrameStore.{Stored, pushed, stored_at, with_name_in, with_name_in_last, env_at, env_round, env_of, envs_onto, envs}
use Rattle.scad_scope.specs.View.{frame_listed, frame_stored}

-- ---- one frame of a list is written
pub stored-written : (fs : List Frame) (i : ℕ) (old new : Frame) (d : Stored) (f : Stored → Stored) → i < length fs
    → old ≡ get_or fs i old → frame_stored new ≡ f (frame_stored old) → map frame_stored (set fs i new)
    ≡ set (map frame_stored fs) i (f (get_or (map frame_stored fs) i d))
stored-written fs i old new d f below is made =
    map-set frame_stored fs i new ∙ ap (set (map frame_stored fs) i)
    (made ∙ ap f (ap frame_stored is ∙ sym (get_or-map frame_stored fs i old d below)))

pub stored-same : (fs : List Frame) (i : ℕ) (old new : Frame) → i < length fs → old ≡ get_or fs i old → frame_stored new
    ≡ frame_stored old → map frame_stored (set fs i new) ≡ map frame_stored fs
stored-same fs i old new below is same =
    map-set frame_stored fs i new ∙ ap (set (map frame_stored fs) i) (same ∙ ap frame_stored is ∙ sym
    (get_or-map frame_stored fs i old (frame_stored old) below)) ∙ set-get_or (map frame_stored fs) i
    (frame_stored old)

-- what a frame was pushed with stays
pub listed-same : (fs : List Frame) (i : ℕ) (old new : Frame) → old ≡ get_or fs i old
    → frame_listed new ≡ frame_listed old → map frame_listed (set fs i new) ≡ map frame_listed fs
listed-same fs i old new is same = map-set_same frame_listed fs i new old (same ∙ ap frame_listed is)

-- a value that is lent is a value
pub lent : (r : Option (Bor Value)) → option_map (λ v. datum_of v.now) r ≡ option_map datum_of (option_copied r)
lent None = refl
lent (Some v) = refl

-- a frame of a list, as it is stored
pub stored-index : (fs : List Frame) (n : ℕ) (f : Frame) → n < length fs → f ≡ get_or fs n f
    → frame_stored f ≡ get_or (map frame_stored fs) n (frame_stored f)
stored-index fs n f below is = ap frame_stored is ∙ sym (get_or-map frame_stored fs n f (frame_stored f) below)

-- the name is set in the last frame
pub stored-last : (fs : List Frame) (i : ℕ) (name : List ℕ) (d : Datum) (old new : Frame) → i ≡ length fs - 1
    → i < length fs → old ≡ get_or fs i old → frame_stored new ≡ with_name_in name d (frame_stored old)
    → map frame_stored (set fs i new) ≡ with_name_in_last name d (map frame_stored fs)
stored-last fs i name d old new last below is made =
    stored-written fs i old new (pushed None None None) (with_name_in name d) below is made
    ∙ ap (λ j. set (map frame_stored fs) j (with_name_in name d (stored_at (map frame_stored fs) j)))
    (last ∙ ap (λ m. m - 1) (sym (length-map fs frame_stored)))

pub ruleset writes = (stored-written, stored-same, listed-same, length-map)

-- ---- the environment of a number
split : (before : List Env) (xs ys : List Stored) → envs_onto before (xs ++ ys) ≡ envs_onto (envs_onto before xs) ys
split before [] ys = refl
split before (f ∷ xs) ys = split (before ++ env_of before f ∷ []) xs ys

-- later frames change no environment
grows : (before : List Env) (all : List Stored) → (rest : List Env) × (envs_onto before all ≡ before ++ rest)
grows before [] = ([], sym (append-nil before))
grows before (f ∷ all) =
    let r = grows (before ++ env_of before f ∷ []) all in
    (env_of before f ∷ r.0, r.1 ∙ append_assoc before (env_of before f ∷ []) r.0)

length-envs_onto : (before : List Env) (all : List Stored) → length (envs_onto before all) ≡ length before + length all
length-envs_onto before [] = omega arith
length-envs_onto before (f ∷ all) =
    let rest = length-envs_onto (before ++ env_of before f ∷ []) all in
    let one = length-append before (env_of before f ∷ []) in
    omega (arith, rest, one)

pub length-envs : (all : List Stored) → length (envs all) ≡ length all
length-envs all = let all_of = length-envs_onto [] all in omega (arith, all_of)

-- an environment behind others
pub envs-push : (all : List Stored) (f : Stored) → envs (all ++ f ∷ []) ≡ envs all ++ env_of (envs all) f ∷ []
envs-push all f = split [] all (f ∷ [])

module _ (all : List Stored) (n : ℕ) (f : Stored) (below : n < length all) (is : f ≡ get_or all n f) where
  first : List Env
  first = envs (take n all)

  parts : all ≡ take n all ++ f ∷ drop (n + 1) all
  parts = sym (take-append-drop n all) ∙ ap (λ l. take n all ++ l)
      (drop_more all n f below ∙ ap (λ g. g ∷ drop (n + 1) all) (sym is))

  later : List Env
  later = (grows (envs (take n all) ++ env_of (envs (take n all)) f ∷ []) (drop (n + 1) all)).0

  whole : envs all ≡ envs (take n all) ++ env_of (envs (take n all)) f ∷ later
  unfolding later
  whole =
      ap envs parts ∙ split [] (take n all) (f ∷ drop (n + 1) all)
      ∙ (grows (envs (take n all) ++ env_of (envs (take n all)) f ∷ []) (drop (n + 1) all)).1
      ∙ append_assoc (envs (take n all)) (env_of (envs (take n all)) f ∷ []) later

  many : length (envs (take n all)) ≡ n
  many = length-envs (take n all) ∙ length-take-le n all (omega arith)

  front : take n (envs all) ≡ envs (take n all)
  front = ap (take n) whole ∙ take_at (envs (take n all)) (env_of (envs (take n all)) f ∷ later) n many

  -- the environment of a frame stands on those of the frames before it
  pub env_at-number : env_at (envs all) n ≡ env_of (take n (envs all)) f
  env_at-number =
      ap (λ l. get_or l n outside) whole
      ∙ ap (λ m. get_or (envs (take n all) ++ env_of (envs (take n all)) f ∷ later) m outside) (sym many)
      ∙ get_or-append_seam (envs (take n all)) (env_of (envs (take n all)) f) later outside
      ∙ ap (λ l. env_of l f) (sym front)

  -- a name that the frame has
  pub sought-there : (name : List ℕ) (d : Datum) → value_of_name name f.names ≡ Some d
      → sought name (env_at (envs all) n) ≡ Some d
  sought-there name d found = ap (sought name) env_at-number ∙ ap
      (λ o. or_else o (sought name (env_round (take n (envs all)) f.parent))) found

  -- a name that the frame doesn't have
  pub sought-round : (name : List ℕ) → value_of_name name f.names ≡ None → sought name (env_at (envs all) n)
      ≡ sought name (env_round (take n (envs all)) f.parent)
  sought-round name found = ap (sought name) env_at-number ∙ ap
      (λ o. or_else o (sought name (env_round (take n (envs all)) f.parent))) found

-- the environments before a number
pub round-before : (es : List Env) (parent : Option ℕ) (n p : ℕ) → parent ≡ Some p → p < n
    → env_round (take n es) parent ≡ env_at es p
round-before es parent n p is before = ap (env_round (take n es)) is ∙ get_or-take n es p outside before

pub round-past : (es : List Env) (parent : Option ℕ) (n p : ℕ) → parent ≡ Some p → n ≤ p → env_round (take n es) parent
    ≡ outside
round-past es parent n p is past = ap (env_round (take n es)) is ∙ get_or_past (take n es) p outside (let some = length-take n es in omega (arith, some))

-- no frame has the number
pub sought-past : (all : List Stored) (n : ℕ) (name : List ℕ) → length all ≤ n → sought name (env_at (envs all) n)
    ≡ None
sought-past all n name past = ap (sought name) (get_or_past (envs all) n outside (let many = length-envs all in omega (arith, many)))
