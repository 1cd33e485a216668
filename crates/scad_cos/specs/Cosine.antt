-- Cosines in millionths, of angles in thousandths of a degree: from a table of whole degrees, by straight lines
-- between them (OpenSCAD User Manual, "cos" and "sin", in fixed-point numbers).
use Rattle.std.specs.Prelude.{ℕ, ◌+◌, ◌-◌, ◌*◌, ◌/◌, ◌%◌, List, [], ◌∷◌, slice_index, nat_le, if◌then◌else◌, ℤ, pos, neg_ℤ, ◌-ℤ◌, unsigned_abs}
use Rattle.std.specs.Int.{int_rem_euclid}

-- the cosines of 0 to 90 degrees
unfoldable pub cosines : List ℕ
cosines =
    1000000 ∷ 999848 ∷ 999391 ∷ 998630 ∷ 997564 ∷ 996195 ∷ 994522 ∷ 992546 ∷ 990268 ∷ 987688 ∷
    984808 ∷ 981627 ∷ 978148 ∷ 974370 ∷ 970296 ∷ 965926 ∷ 961262 ∷ 956305 ∷ 951057 ∷ 945519 ∷
    939693 ∷ 933580 ∷ 927184 ∷ 920505 ∷ 913545 ∷ 906308 ∷ 898794 ∷ 891007 ∷ 882948 ∷ 874620 ∷
    866025 ∷ 857167 ∷ 848048 ∷ 838671 ∷ 829038 ∷ 819152 ∷ 809017 ∷ 798636 ∷ 788011 ∷ 777146 ∷
    766044 ∷ 754710 ∷ 743145 ∷ 731354 ∷ 719340 ∷ 707107 ∷ 694658 ∷ 681998 ∷ 669131 ∷ 656059 ∷
    642788 ∷ 629320 ∷ 615661 ∷ 601815 ∷ 587785 ∷ 573576 ∷ 559193 ∷ 544639 ∷ 529919 ∷ 515038 ∷
    500000 ∷ 484810 ∷ 469472 ∷ 453990 ∷ 438371 ∷ 422618 ∷ 406737 ∷ 390731 ∷ 374607 ∷ 358368 ∷
    342020 ∷ 325568 ∷ 309017 ∷ 292372 ∷ 275637 ∷ 258819 ∷ 241922 ∷ 224951 ∷ 207912 ∷ 190809 ∷
    173648 ∷ 156434 ∷ 139173 ∷ 121869 ∷ 104528 ∷ 87156 ∷ 69756 ∷ 52336 ∷ 34899 ∷ 17452 ∷
    0 ∷ []

-- from 0 to 90 degrees, rounded to the nearest millionth, a half upwards
unfoldable pub first_quarter : ℕ → ℕ
first_quarter angle =
    let degree = angle / 1000 in
    let part = angle % 1000 in
    (slice_index cosines degree * (1000 - part) + slice_index cosines (degree + 1) * part + 500) / 1000

-- from 0 to 180 degrees
unfoldable pub half_turn : ℕ → ℤ
half_turn angle = if nat_le angle 90000 then pos (first_quarter angle) else neg_ℤ (pos (first_quarter (180000 - angle)))

-- from 0 up to 360 degrees
unfoldable pub full_turn : ℕ → ℤ
full_turn angle = if nat_le angle 180000 then half_turn angle else half_turn (360000 - angle)

unfoldable pub cosine : ℤ → ℤ
cosine angle = full_turn (unsigned_abs (int_rem_euclid angle (pos 360000)))

unfoldable pub sine : ℤ → ℤ
sine angle = cosine (angle -ℤ pos 90000)
