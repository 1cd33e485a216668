-- The points of profiles are no count.
use Rattle.std.proofs.Common.{ℕ, ℤ, Bool, true, false, List, ◌++◌, take, if◌then◌else◌, arith}
use Rattle.scad_modules.specs.Outline.{Pair}
use Rattle.scad_tree.specs.Normal.{is_nothing}
use Rattle.scad_tree.specs.Solid.{Solid}
use Rattle.scad_tree.specs.Solids.{AreSolids}
use Rattle.scad_expr.specs.State.{State}
use Rattle.scad_leaves.specs.Profiles.{profile_count, profiles_from, keep_profile, replace_profiles, with_its_profiles}
use Rattle.meaning_laws.specs.Counts.{Rises}
use Rattle.meaning_laws.proofs.Keeping.{Any, Keeps}

abbrev with_profiles : State → List (ℤ × ℤ) → State
with_profiles s ps = record s { profiles = ps }

rises-with : (s : State) (ps : List (ℤ × ℤ)) → Rises s (with_profiles s ps)
rises-with s ps =
    record {
      steps = omega arith;
      leaves = omega arith;
      triangles = omega arith;
      within = λ w. record { steps = w.steps; leaves = w.leaves; triangles = w.triangles };
    }

pub keeps-profile_count : Keeps Any profile_count
keeps-profile_count = record { each = λ s. (tt, rises-with s s.profiles) }

pub keeps-profiles_from : (from : ℕ) → Keeps Any (profiles_from from)
keeps-profiles_from from = record { each = λ s. (tt, rises-with s s.profiles) }

pub keeps-keep_profile : (ring : List Pair) → Keeps Any (keep_profile ring)
keeps-keep_profile ring = record { each = λ s. (tt, rises-with s (s.profiles ++ ring)) }

pub keeps-replace_profiles : (from : ℕ) (ring : List Pair) → Keeps Any (replace_profiles from ring)
keeps-replace_profiles from ring = record { each = λ s. (tt, rises-with s (take from s.profiles ++ ring)) }

pub keeps-with_its_profiles : (from : ℕ) (t : Solid) → AreSolids t → Keeps AreSolids (with_its_profiles from t)
unfolding with_its_profiles
keeps-with_its_profiles from t solid = record { each = λ s. (solid, by (is_nothing t) s) }
  where
    by : (b : Bool) (s : State) → Rises s (if b then with_profiles s (take from s.profiles) else s)
    by true s = rises-with s (take from s.profiles)
    by false s = rises-with s s.profiles
