-- The points of the profiles inside `rotate_extrude` whose leaves stand in trees. A tree tells nothing of the profile
-- that a leaf was turned from; so they are kept beside it, in the order in which the leaves were made. A statement
-- whose tree is empty keeps none of its own: operations drop leaves only by making an empty tree, so a tree that is
-- made by union alone has exactly the leaves whose points its statement kept.
use Rattle.std.specs.Prelude.{ℕ, ◌++◌, List, length, take, drop, if◌then◌else◌}
use Rattle.scad_modules.specs.Outline.{Pair}
use Rattle.scad_tree.specs.Normal.{is_nothing}
use Rattle.scad_tree.specs.Solid.{Solid}
use Rattle.scad_machine.specs.State.{Action, gives}

-- how many there are
abbrev pub profile_count : Action ℕ
profile_count = λ s. gives (length s.profiles) s

-- those from a number on
abbrev pub profiles_from : ℕ → Action (List Pair)
profiles_from from = λ s. gives (drop from s.profiles) s

-- those of a profile more
abbrev pub keep_profile : List Pair → Action (Unit {0})
keep_profile ring = λ s. gives tt (record s { profiles = s.profiles ++ ring })

-- those of a profile in place of those from a number on
abbrev pub replace_profiles : ℕ → List Pair → Action (Unit {0})
replace_profiles from ring = λ s. gives tt (record s { profiles = take from s.profiles ++ ring })

-- the tree of a statement before which there were so many: where it is empty, there are no more
unfoldable pub with_its_profiles : ℕ → Solid → Action Solid
with_its_profiles from t = λ s.
    gives t (if is_nothing t then record s { profiles = take from s.profiles } else s)
