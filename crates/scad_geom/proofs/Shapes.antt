-- A shape holds nothing where no leaf holds anything.
use Rattle.std.proofs.Common.{◌≡◌, ℕ, Bool, false, not, ◌&&◌, ◌||◌, refl, ap, rules}
use Rattle.scad_geom.specs.declared.shape.Shape.{Shape, Empty, Leaf, Union, Inter, Diff, items-the_row-Shape, Union', Inter', Diff', Row_of-Shape, end_of-Shape, more_of-Shape}
use Rattle.scad_geom.specs.declared.shape.Shape.{the_lemmas}
use Rattle.std.specs.Prelude.{Vec}
use Rattle.std.specs.declared.boxed.Box.{Box}
use Rattle.std.specs.Global.{Global}
use Rattle.scad_geom.specs.Shape.{shape_holds, some_hold, all_hold, has_member, any_holds, all_holds, has_items}

mutual
  pub nothing_held : (s : Shape) → shape_holds (λ leaf. false) s ≡ false
  nothing_held Empty = refl
  nothing_held (Leaf leaf) = refl
  nothing_held (Union' list members) = none_held members
  nothing_held (Inter' list members) = not_all_held members
  nothing_held (Diff' box first list rest) = rw (nothing_held first) refl

  none_held : {m : _} → (r : Row_of-Shape m) → some_hold (λ leaf. false) r ≡ false
  none_held end_of-Shape = refl
  none_held (more_of-Shape member rest) = rw (nothing_held member, none_held rest) refl

  not_all_held : {m : _} → (r : Row_of-Shape m) → (has_member r && all_hold (λ leaf. false) r) ≡ false
  not_all_held end_of-Shape = refl
  not_all_held (more_of-Shape member rest) = rw (nothing_held member) refl

-- ---- members as a list
pub any_row : (inside : ℕ → Bool) (m : _) (r : Row_of-Shape m) → some_hold inside r ≡ any_holds inside
    (items-the_row-Shape m r)
any_row inside m end_of-Shape = refl
any_row inside m (more_of-Shape member rest) = ap (λ (b : Bool). shape_holds inside member || b) (any_row inside _ rest)

pub all_row : (inside : ℕ → Bool) (m : _) (r : Row_of-Shape m) → all_hold inside r ≡ all_holds inside
    (items-the_row-Shape m r)
all_row inside m end_of-Shape = refl
all_row inside m (more_of-Shape member rest) = ap (λ (b : Bool). shape_holds inside member && b) (all_row inside _ rest)

pub has_row : (m : _) (r : Row_of-Shape m) → has_member r ≡ has_items (items-the_row-Shape m r)
has_row m end_of-Shape = refl
has_row m (more_of-Shape member rest) = refl

pub holds_union : (inside : ℕ → Bool) (v : Vec Shape Global) → shape_holds inside (Union v) ≡ any_holds inside v.items
holds_union inside v = search (rules, the_lemmas, any_row)

pub holds_inter : (inside : ℕ → Bool) (v : Vec Shape Global) → shape_holds inside (Inter v)
    ≡ (has_items v.items && all_holds inside v.items)
holds_inter inside v = search (rules, the_lemmas, all_row, has_row)

pub holds_diff : (inside : ℕ → Bool) (b : Box Shape Global) (v : Vec Shape Global) → shape_holds inside (Diff b v)
    ≡ (shape_holds inside b.value && not (any_holds inside v.items))
holds_diff inside b v = search (rules, the_lemmas, any_row)
