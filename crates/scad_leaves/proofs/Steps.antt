-- The steps of leaves and hulls inside `rotate_extrude`, one after the other: what is left to do where the first ones
-- went, and the refusal of all by the first that is refused.
use Rattle.std.proofs.Common.{◌≡◌, ℕ, ◌++◌, List, Some, length, take, ap}
use Rattle.scad_fault.specs.declared.place.Place.{Place}
use Rattle.scad_matrix.specs.declared.matrix.Matrix.{Matrix}
use Rattle.scad_modules.specs.Outline.{Pair, Outline, points_in, ring_of}
use Rattle.scad_modules.specs.Profile.{profile_of}
use Rattle.scad_machine.specs.declared.fault.EvalFault.{EvalFault}
use Rattle.scad_machine.specs.State.{State, gives, refuses}
use Rattle.scad_leaves.specs.declared.space.Turning.{Turning}
use Rattle.scad_leaves.specs.FlatLeaves.{judge_points, judge_sides, swept, profile_turned, turned_leaf}
use Rattle.scad_leaves.specs.Hulls.{hull_profile}
use Rattle.scad_leaves.specs.Products.{count_leaf, argued}
use Rattle.scad_leaves.specs.Profiles.{keep_profile, replace_profiles}

-- ---- a placed profile
module _ (at : Place) (ring : List Pair) (t : Turning) (whole : Matrix) (s s1 : State) where
  pub sides-refused : (why : EvalFault) → judge_sides t.word ring s ≡ refuses why s1
      → profile_turned at ring t whole s ≡ refuses why s1
  unfolding profile_turned
  sides-refused why refused = rw refused

  pub keeping-refused : (why : EvalFault) → judge_sides t.word ring s ≡ gives tt s
      → keep_profile ring s ≡ refuses why s1 → profile_turned at ring t whole s ≡ refuses why s1
  keeping-refused why judged refused = absurd (cc)

  pub profile-kept : judge_sides t.word ring s ≡ gives tt s → keep_profile ring s ≡ gives tt s1
      → profile_turned at ring t whole s ≡ swept at ring t whole s1
  unfolding profile_turned
  profile-kept judged kept =
      let same : record s { profiles = s.profiles ++ ring } ≡ s1 = cc in
      rw judged (ap (λ (after : State). swept at ring t whole after) same)

-- ---- a leaf
module _ (at : Place) (name : List ℕ) (o : Outline) (t : Turning) (whole : Matrix) (s s1 : State) where
  pub leaf-refused : (why : EvalFault) → count_leaf at s ≡ refuses why s1
      → turned_leaf at name o t whole s ≡ refuses why s1
  unfolding turned_leaf
  leaf-refused why refused = rw refused

  pub points-refused : (n : ℕ) (s2 : State) (why : EvalFault) → count_leaf at s ≡ gives tt s1
      → judge_points at n s1 ≡ refuses why s2 → n ≡ points_in o → turned_leaf at name o t whole s ≡ refuses why s2
  unfolding turned_leaf
  points-refused n s2 why counted refused is = rw (counted, ← is, refused)

  pub outline-refused : (n : ℕ) (s2 : State) (why : EvalFault) → count_leaf at s ≡ gives tt s1
      → judge_points at n s1 ≡ gives tt s1 → argued at name (profile_of t.profile (ring_of o)) s1 ≡ refuses why s2
      → n ≡ points_in o → turned_leaf at name o t whole s ≡ refuses why s2
  unfolding turned_leaf
  outline-refused n s2 why counted few refused is = rw (counted, ← is, few, refused)

  pub leaf-placed : (n : ℕ) (ring : List Pair) → count_leaf at s ≡ gives tt s1
      → judge_points at n s1 ≡ gives tt s1 → argued at name (profile_of t.profile (ring_of o)) s1 ≡ gives ring s1
      → n ≡ points_in o → turned_leaf at name o t whole s ≡ profile_turned at ring t whole s1
  unfolding turned_leaf
  leaf-placed n ring counted few placed is = rw (counted, ← is, few, placed)

-- ---- a hull
module _ (at : Place) (from : ℕ) (t : Turning) (whole : Matrix) (ring : List Pair) (s s1 : State) where
  pub hull-refused : (why : EvalFault) → count_leaf at s ≡ refuses why s1
      → hull_profile at from t whole (Some ring) s ≡ refuses why s1
  unfolding hull_profile
  hull-refused why refused = rw refused

  pub hull-points-refused : (s2 : State) (why : EvalFault) → count_leaf at s ≡ gives tt s1
      → judge_points at (length ring) s1 ≡ refuses why s2
      → hull_profile at from t whole (Some ring) s ≡ refuses why s2
  unfolding hull_profile
  hull-points-refused s2 why counted refused = rw (counted, refused)

  pub hull-sides-refused : (s2 : State) (why : EvalFault) → count_leaf at s ≡ gives tt s1
      → judge_points at (length ring) s1 ≡ gives tt s1 → judge_sides t.word ring s1 ≡ refuses why s2
      → hull_profile at from t whole (Some ring) s ≡ refuses why s2
  unfolding hull_profile
  hull-sides-refused s2 why counted few refused = rw (counted, few, refused)

  pub hull-replaced : (s2 : State) → count_leaf at s ≡ gives tt s1
      → judge_points at (length ring) s1 ≡ gives tt s1 → judge_sides t.word ring s1 ≡ gives tt s1
      → replace_profiles from ring s1 ≡ gives tt s2
      → hull_profile at from t whole (Some ring) s ≡ swept at ring t whole s2
  unfolding hull_profile
  hull-replaced s2 counted few judged replaced =
      let same : record s1 { profiles = take from s1.profiles ++ ring } ≡ s2 = cc in
      rw (counted, few, judged) (ap (λ (after : State). swept at ring t whole after) same)
