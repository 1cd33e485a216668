-- The normal form of trees of set operations, and the operations that keep it.
use Rattle.std.specs.Prelude.{List, [], ◌∷◌, Bool, true, false, not, ◌&&◌, if◌then◌else◌, filter}
use Rattle.std.specs.List.{flat_map, list_any}
use Rattle.scad_solid.specs.declared.triangle.Triangle.{Triangle}
use Rattle.scad_tree.specs.Solid.{Solid, Solids, nothing, surface, union, intersection, difference, none, member, members, members_of}

abbrev pub is_nothing : Solid → Bool
is_nothing nothing = true
is_nothing (surface ts) = false
is_nothing (union ms) = false
is_nothing (intersection ms) = false
is_nothing (difference s ms) = false

abbrev pub is_union : Solid → Bool
is_union nothing = false
is_union (surface ts) = false
is_union (union ms) = true
is_union (intersection ms) = false
is_union (difference s ms) = false

abbrev pub has_triangles : List Triangle → Bool
has_triangles [] = false
has_triangles (t ∷ ts) = true

abbrev pub are_some : Solids → Bool
are_some none = false
are_some (member s rest) = true

-- two or more members
abbrev pub are_several : Solids → Bool
are_several none = false
are_several (member s rest) = are_some rest

-- normal forms other than the empty one: a surface has triangles, a union or an intersection has two or more members,
-- a difference takes something away; no part is empty, and no member of a union is a union
abbrev mutual
  pub is_kept : Solid → Bool
  is_kept nothing = false
  is_kept (surface ts) = has_triangles ts
  is_kept (union ms) = are_several ms && are_kept_apart ms
  is_kept (intersection ms) = are_several ms && are_kept ms
  is_kept (difference first rest) = is_kept first && (are_some rest && are_kept rest)

  pub are_kept : Solids → Bool
  are_kept none = true
  are_kept (member s rest) = is_kept s && are_kept rest

  pub are_kept_apart : Solids → Bool
  are_kept_apart none = true
  are_kept_apart (member s rest) = (not (is_union s) && is_kept s) && are_kept_apart rest

-- what may stand in a union
abbrev pub is_apart : Solid → Bool
is_apart s = not (is_union s) && is_kept s

-- a tree in normal form
abbrev pub is_normal : Solid → Bool
is_normal nothing = true
is_normal (surface ts) = is_kept (surface ts)
is_normal (union ms) = is_kept (union ms)
is_normal (intersection ms) = is_kept (intersection ms)
is_normal (difference first rest) = is_kept (difference first rest)

-- what a member adds to a union: nothing, the members of a union, else itself
abbrev pub parts : Solid → List Solid
parts nothing = []
parts (surface ts) = surface ts ∷ []
parts (union ms) = members_of ms
parts (intersection ms) = intersection ms ∷ []
parts (difference first rest) = difference first rest ∷ []

-- the union of parts: one part alone is itself
abbrev pub union_of : List Solid → Solid
union_of [] = nothing
union_of (s ∷ []) = s
union_of (s ∷ t ∷ rest) = union (members (s ∷ t ∷ rest))

-- the union in normal form
unfoldable pub united : List Solid → Solid
united ss = union_of (flat_map parts ss)

-- the intersection of members that aren't empty: one alone is itself
abbrev pub intersection_of : List Solid → Solid
intersection_of [] = nothing
intersection_of (s ∷ []) = s
intersection_of (s ∷ t ∷ rest) = intersection (members (s ∷ t ∷ rest))

-- the intersection in normal form: without members, or with an empty one, it is empty
unfoldable pub intersected : List Solid → Solid
intersected ss = if list_any is_nothing ss then nothing else intersection_of ss

-- a solid without others that aren't empty
abbrev pub without : Solid → List Solid → Solid
without first [] = first
without first (s ∷ rest) = difference first (members (s ∷ rest))

-- those that aren't empty
abbrev pub not_empty : List Solid → List Solid
not_empty ss = filter (λ s. not (is_nothing s)) ss

-- the difference in normal form: what is empty is neither taken from nor taken away
unfoldable pub subtracted : List Solid → Solid
subtracted [] = nothing
subtracted (first ∷ rest) = if is_nothing first then nothing else without first (not_empty rest)
