-- A tree in normal form has a top exactly where it isn't empty, and what a top says of the heights of its leaves.
use Rattle.std.proofs.Common.{◌≡◌, true, false, ◌&&◌, [], ◌∷◌, Option, Some, None, ℤ, refl}
use Rattle.std.proofs.lemmas.Bool.{and_parts}
use Rattle.std.specs.Prelude.{is_none, not}
use Rattle.scad_solid.specs.Height.{top_of as triangle_top, highest_of, higher_of}
use Rattle.scad_tree.specs.Solid.{Solid, nothing, surface, union, intersection, difference, none, member}
use Rattle.scad_tree.specs.Normal.{is_nothing, is_union, is_kept, are_kept, are_kept_apart, are_some, is_normal}
use Rattle.scad_tree.specs.Height.{lower_of, top_of, greatest, least}

higher_some : (a b : Option ℤ) → is_none a ≡ false → is_none (higher_of a b) ≡ false
higher_some None b some = absurd (cc)
higher_some (Some z) None some = refl
higher_some (Some z) (Some w) some = refl

lower_some : (a b : Option ℤ) → is_none a ≡ false → is_none (lower_of a b) ≡ false
lower_some None b some = absurd (cc)
lower_some (Some z) None some = refl
lower_some (Some z) (Some w) some = refl

pub kept_top : (s : Solid) → is_kept s ≡ true → is_none (top_of s) ≡ false
kept_top nothing kept = absurd (cc)
kept_top (surface []) kept = absurd (cc)
kept_top (surface (t ∷ ts)) kept = higher_some (Some (triangle_top t)) (highest_of ts) refl
kept_top (union none) kept = absurd (cc)
kept_top (union (member s rest)) kept =
    higher_some (top_of s) (greatest rest)
    (kept_top s (and_parts (not (is_union s)) (is_kept s) (and_parts (not (is_union s) && is_kept s)
    (are_kept_apart rest) (and_parts (are_some rest) _ kept).1).0).1)
kept_top (intersection none) kept = absurd (cc)
kept_top (intersection (member s rest)) kept =
    lower_some (top_of s) (least rest)
    (kept_top s (and_parts (is_kept s) (are_kept rest) (and_parts (are_some rest) _ kept).1).0)
kept_top (difference first rest) kept = kept_top first (and_parts (is_kept first) _ kept).0

pub none_of_nothing : (s : Solid) → is_normal s ≡ true → is_none (top_of s) ≡ is_nothing s
none_of_nothing nothing normal = refl
none_of_nothing (surface ts) normal = kept_top (surface ts) normal
none_of_nothing (union ms) normal = kept_top (union ms) normal
none_of_nothing (intersection ms) normal = kept_top (intersection ms) normal
none_of_nothing (difference first rest) normal = kept_top (difference first rest) normal
