-- Edges in buckets of heights: one stay for each bucket that an edge reaches, and the pairs of stays that share a
-- bucket
-- in which one of the two edges starts.
use Rattle.std.specs.Prelude.{◌≡◌, ◌<◌, length, Bool, true, false, ◌&&◌, ◌||◌, ◌==◌, List, [], ◌∷◌, ◌++◌, ℕ, zero, suc, ◌-◌, ◌/◌, ℤ, pos, ◌+ℤ◌, unsigned_abs, slice_index_or, ⊤, not, int_lt}
use Rattle.std.specs.List.{AllByRecursion}
use Rattle.std.specs.Ordering.{nat_cmp, int_cmp, ordering_then, is_lt}
use Rattle.std.specs.declared.cmp.Ordering.{Ordering}
use Rattle.scad_geom.specs.Limits.{coordinate_limit}
use Rattle.scad_geom.specs.declared.point.Edge.{Edge}
use Rattle.scad_geom.specs.Line.{low, high}
use Rattle.slice_events.specs.declared.stay.Stay.{Stay}
use Rattle.slice_events.specs.Boxes.{left_end}

-- the bucket of a height
unfoldable pub bucket_of : ℕ → ℤ → ℕ
bucket_of tall y = unsigned_abs (y +ℤ pos coordinate_limit) / tall

-- the stays of an edge after its first, in this many buckets from the given one upwards
abbrev pub later_stays : ℕ → ℤ → ℕ → ℕ → List Stay
later_stays line left bucket zero = []
later_stays line left bucket (suc more) = record { bucket = bucket; left = left; line = line; starts = false }
    ∷ later_stays line left (suc bucket) more

-- the stays of an edge that starts in a bucket and goes on into this many
abbrev pub stays_from : ℕ → ℤ → ℕ → ℕ → List Stay
stays_from line left bucket more = record { bucket = bucket; left = left; line = line; starts = true }
    ∷ later_stays line left (suc bucket) more

abbrev pub stays_of : ℕ → ℕ → Edge → List Stay
stays_of tall line e = stays_from line (left_end e) (bucket_of tall (low e).y)
    (bucket_of tall (high e).y - bucket_of tall (low e).y)

-- those of edges numbered from a number on
abbrev pub all_stays : ℕ → ℕ → List Edge → List Stay
all_stays tall line [] = []
all_stays tall line (e ∷ es) = stays_of tall line e ++ all_stays tall (suc line) es

-- ---- their order
abbrev pub stay_cmp : Stay → Stay → Ordering
stay_cmp s t = ordering_then (nat_cmp s.bucket t.bucket) (int_cmp s.left t.left)

abbrev pub comes_before : Stay → Stay → Bool
comes_before s t = is_lt (stay_cmp s t)

-- none comes before an earlier one
abbrev pub AreInOrder : List Stay → Type 0
AreInOrder [] = ⊤
AreInOrder (s ∷ ss) = AllByRecursion (λ t. comes_before t s ≡ false) ss × AreInOrder ss

-- ---- pairs of stays
abbrev pub no_edge : Edge
no_edge = record { a = record { x = pos 0; y = pos 0 }; b = record { x = pos 0; y = pos 0 } }

abbrev pub edge_at : List Edge → ℕ → Edge
edge_at es i = slice_index_or es i no_edge

-- a stay's number is that of an edge, and its left that of the edge
abbrev pub IsStayOf : List Edge → Stay → Type 0
IsStayOf es s = (s.line < length es) × (s.left ≡ left_end (edge_at es s.line))

-- whether two stays share their bucket, and one of the two edges starts in it
abbrev pub are_at_home : Stay → Stay → Bool
are_at_home s t = (s.bucket == t.bucket) && (s.starts || t.starts)

-- and the edges stand in a relation
abbrev pub at_home : (Edge → Edge → Bool) → List Edge → Stay → Stay → Bool
at_home r es s t = are_at_home s t && r (edge_at es s.line) (edge_at es t.line)

-- whether a stay lies in another bucket than the first, or to the right of an x
abbrev pub lies_past : ℤ → Stay → Stay → Bool
lies_past right s t = not (s.bucket == t.bucket) || int_lt right t.left
