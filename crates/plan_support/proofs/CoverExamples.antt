-- What lies below higher layers, computed.
use Rattle.std.proofs.Common.{◌≡◌, true, false, List, [], ◌∷◌, ℤ, pos, refl}
use Rattle.plan_infill.specs.declared.run.Run.{Run}
use Rattle.plan_support.specs.Rows.{Row}
use Rattle.plan_support.specs.On.{is_covered}
use Rattle.plan_support.specs.Supports.{paths_of}
use Rattle.plan_support.specs.Spans.{point_at}

abbrev run : ℤ → ℤ → Run
run from to = record { from = from; to = to }

abbrev row : ℤ → List Run → Row
row y runs = record { y = y; runs = runs }

-- two runs stand above a foot, one above the other
abbrev stack : List (List Row)
stack = (row (pos 0) (run (pos 0) (pos 9) ∷ []) ∷ []) ∷ (row (pos 0) (run (pos 5) (pos 14) ∷ []) ∷ [])
    ∷ (row (pos 0) (run (pos 20) (pos 29) ∷ []) ∷ row (pos 500) (run (pos 0) (pos 1) ∷ []) ∷ []) ∷ []

-- a layer isn't covered by itself, nor by those below it
not_by_itself : is_covered stack 0 (pos 4) (pos 0) ≡ false
not_by_itself = refl

by_the_next : is_covered stack 0 (pos 14) (pos 0) ≡ true
by_the_next = refl

by_the_highest : is_covered stack 0 (pos 29) (pos 0) ≡ true
by_the_highest = refl

not_between : is_covered stack 0 (pos 15) (pos 0) ≡ false
not_between = refl

not_from_below : is_covered stack 1 (pos 5) (pos 0) ≡ false
not_from_below = refl

on_another_line : is_covered stack 1 (pos 1) (pos 500) ≡ true
on_another_line = refl

none_at_the_top : is_covered stack 2 (pos 20) (pos 0) ≡ false
none_at_the_top = refl

-- the support runs beside a foot of 2 mm under a plate of 6 mm, in their order: the second row goes back
two_ways : paths_of true
    (row (pos 0) (run (pos 2301) (pos 5999) ∷ []) ∷ row (pos 1000) (run (pos 2301) (pos 5999) ∷ []) ∷ [])
    ≡ (point_at (pos 2301) (pos 0) ∷ point_at (pos 5999) (pos 0) ∷ [])
    ∷ (point_at (pos 5999) (pos 1000) ∷ point_at (pos 2301) (pos 1000) ∷ []) ∷ []
two_ways = refl

-- the runs of a row that goes back are taken from the last
from_the_last : paths_of true
    (row (pos 0) (run (pos 0) (pos 1) ∷ []) ∷ row (pos 5) (run (pos 0) (pos 1) ∷ run (pos 7) (pos 9) ∷ []) ∷ [])
    ≡ (point_at (pos 0) (pos 0) ∷ point_at (pos 1) (pos 0) ∷ []) ∷
    (point_at (pos 9) (pos 5) ∷ point_at (pos 7) (pos 5) ∷ [])
    ∷ (point_at (pos 1) (pos 5) ∷ point_at (pos 0) (pos 5) ∷ []) ∷ []
from_the_last = refl
