-- The text of a sample is short.
use Rattle.std.proofs.Common.{◌≡◌, ◌+◌, ◌*◌, ◌/◌, ◌%◌, ◌^◌, ◌<◌, ◌≤◌, ◌++◌, [], ◌∷◌, ℕ, zero, suc, length, flat_map, refl, arith}
use Rattle.std.specs.Prelude.{codes}
use Rattle.std.specs.Fmt.{decimal}
use Rattle.std.specs.List.{range_with_len}
use Rattle.std.proofs.lemmas.List.{length-append}
use Rattle.itoa.proofs.Decimal.{length_wide}
use Rattle.scad_base.specs.Characters.{point, digit_zero}
use Rattle.gcode_text.specs.Numeral.{last_digits, fixed}
use Rattle.scad_sample.specs.Sample.{plate_start, hole_start, hole_middle, hole_end, plate_end, across, along, after, radius, hole_text, hole, holes, sample_text}

last_length : (places n : ℕ) → length (last_digits places n) ≡ places
unfolding last_digits
last_length zero n = refl
last_length (suc places) n =
    let both = length-append (last_digits places (n / 10)) ((digit_zero + n % 10) ∷ []) in
    let before = last_length places (n / 10) in omega (arith, both, before)

fixed_short : (r : ℕ) → r ≤ 6000 → length (fixed 3 r) ≤ 43
unfolding fixed
fixed_short r low =
    let both = length-append (decimal (r / 10 ^ 3)) (point ∷ last_digits 3 (r % 10 ^ 3)) in
    let whole = length_wide (r / 10 ^ 3) (omega (arith, low)) in
    let behind = last_length 3 (r % 10 ^ 3) in omega (arith, both, whole, behind)

start_length : length hole_start ≡ 11
unfolding hole_start
start_length = refl

middle_length : length hole_middle ≡ 20
unfolding hole_middle
middle_length = refl

end_length : length hole_end ≡ 10
unfolding hole_end
end_length = refl

plate_start_length : length plate_start ≡ 32
unfolding plate_start
plate_start_length = refl

plate_end_length : length plate_end ≡ 2
unfolding plate_end
plate_end_length = refl

radius_low : (s : ℕ) → radius s ≤ 6000
radius_low s = omega arith

-- a line of a hole has at most 165 bytes
hole_short : (k r : ℕ) → k < 36 → r ≤ 6000 → length (hole_text k r) ≤ 165
hole_short k r few low =
    let one = hole_start ++ decimal (across k) in
    let two = one ++ codes "," in
    let three = two ++ decimal (along k) in
    let four = three ++ hole_middle in
    let five = four ++ fixed 3 r in
    let a : length one ≡ length hole_start + length (decimal (across k)) = length-append hole_start (decimal (across k)) in
    let b : length two ≡ length one + 1 = length-append one (codes ",") in
    let c : length three ≡ length two + length (decimal (along k)) = length-append two (decimal (along k)) in
    let d : length four ≡ length three + length hole_middle = length-append three hole_middle in
    let e : length five ≡ length four + length (fixed 3 r) = length-append four (fixed 3 r) in
    let f : length (hole_text k r) ≡ length five + length hole_end = length-append five hole_end in
    let x = length_wide (across k) (omega (arith, few)) in
    let y = length_wide (along k) (omega (arith, few)) in
    let z = fixed_short r low in
    omega (arith, a, b, c, d, e, f, x, y, z, start_length, middle_length, end_length)

holes_short : (n i count : ℕ) → i + count ≤ 36 → length (flat_map (hole n) (range_with_len i count)) ≤ 165 * count
holes_short n i zero within = omega arith
holes_short n i (suc count) within =
    let both : length (flat_map (hole n) (range_with_len i (suc count))) ≡ length (hole n i) + length (flat_map (hole n) (range_with_len (i + 1) count))
    = length-append (hole n i) (flat_map (hole n) (range_with_len (i + 1) count)) in
    let here = hole_short i (radius (after n (i + 1))) (omega (arith, within)) (radius_low (after n (i + 1))) in
    let behind = holes_short n (i + 1) count (omega (arith, within)) in omega (arith, both, here, behind)

all_short : (n : ℕ) → length (holes n 36) ≤ 5940
unfolding holes
all_short n = let lines = holes_short n 0 36 (omega arith) in omega (arith, lines)

pub sample_is_short : (n : ℕ) → length (sample_text n) ≤ 8192
sample_is_short n =
    let a : length (sample_text n) ≡ length (plate_start ++ holes n 36) + length plate_end = length-append (plate_start ++ holes n 36) plate_end in
    let b : length (plate_start ++ holes n 36) ≡ length plate_start + length (holes n 36) = length-append plate_start (holes n 36) in
    let c = all_short n in omega (arith, a, b, c, plate_start_length, plate_end_length)
