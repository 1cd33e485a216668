-- No value that a module of the language asks for is refused for want of memory.
use Rattle.std.proofs.Common.{ℕ, ◌/◌, ◌%◌, ◌==◌, ◌&&◌, ◌++◌, ℤ, pos, negsuc, List, [], ◌∷◌, nat_le, nat_lt, Option}
use Rattle.std.proofs.Common.{Some, None, Err}
use Rattle.std.specs.Prelude.{int_lt}
use Rattle.scad_num.specs.Number.{one}
use Rattle.scad_value.specs.Datum.{Datum, undef, boolean, number, string, vector, range, Elements, no_elements, element}
use Rattle.scad_value.specs.Products.{nth, count}
use Rattle.scad_modules.specs.declared.fault.ArgumentFault.{ArgumentFault}
use Rattle.scad_modules.specs.declared.fault.ArgumentFault.TheVariants.{BadArgument, LeftOut, NumberRange, Memory}
use Rattle.scad_modules.specs.Reading.{Read, Triple, as_number, as_vector, if_size, size_of, needed, number_at}
use Rattle.scad_modules.specs.Reading.{triple_at}
use Rattle.scad_modules.specs.Reading.{coordinates, point_of, points_onto, some_points, whole_below, index_of}
use Rattle.scad_modules.specs.Reading.{indices_onto, three_indices, face_of, faces_onto, some_faces, half_or, radius_or}
use Rattle.meaning_laws.proofs.Faults.{Faults, ok, err, bind, either}

-- a fault of the source
abbrev pub OfArguments : ArgumentFault → Type 0
OfArguments BadArgument = Unit {0}
OfArguments LeftOut = Unit {0}
OfArguments NumberRange = Unit {0}
OfArguments Memory = ⊥

-- what is read, or a fault of the source
abbrev pub Reads : {A : Type 0} → Read A → Type 0
Reads r = Faults OfArguments r

pub bad : {A : Type 0} → Reads {A = A} (Err BadArgument)
bad = err tt

-- ---- numbers
pub reads-number : (d : Datum) → Reads (as_number d)
reads-number (number z) = ok
reads-number undef = bad
reads-number (boolean b) = bad
reads-number (string chars) = bad
reads-number (vector all) = bad
reads-number (range a s b) = bad

pub reads-vector : (d : Datum) → Reads (as_vector d)
reads-vector (vector all) = ok
reads-vector undef = bad
reads-vector (boolean b) = bad
reads-vector (string chars) = bad
reads-vector (number z) = bad
reads-vector (range a s b) = bad

pub reads-size : (z : ℤ) → Reads (if_size z)
reads-size z = either (int_lt z (pos 0)) bad ok

pub reads-size_of : (d : Datum) → Reads (size_of d)
reads-size_of d = bind (reads-number d) reads-size

pub reads-needed : (d : Option Datum) → Reads (needed d)
reads-needed None = bad
reads-needed (Some d) = ok

pub reads-at : (all : Elements) (i : ℕ) (missing : ℤ) → Reads (number_at all i missing)
reads-at all i missing = either (nat_lt i (count all)) (reads-number (nth all i)) ok

reads-triple : (all : Elements) (missing : ℤ) → Reads (triple_at all missing)
reads-triple all missing =
    bind (reads-at all 0 missing) (λ x. bind (reads-at all 1 missing) (λ y. bind (reads-at all 2 missing) (λ z. ok)))

pub reads-coordinates : (missing : ℤ) (d : Datum) → Reads (coordinates missing d)
reads-coordinates missing d =
    bind (reads-vector d)
    (λ all. either (nat_le 1 (count all) && nat_le (count all) 3) (reads-triple all missing) bad)

pub reads-point : (d : Datum) → Reads (point_of d)
reads-point d = bind (reads-vector d) (λ all. either (count all == 3) (reads-triple all (pos 0)) bad)

-- ---- lists
reads-points : (so_far : List Triple) (all : Elements) → Reads (points_onto so_far all)
reads-points so_far no_elements = ok
reads-points so_far (element d more) = bind (reads-point d) (λ p. reads-points (so_far ++ p ∷ []) more)

pub reads-some_points : (all : Elements) → Reads (some_points all)
reads-some_points all = either (nat_le 1 (count all)) (reads-points [] all) bad

reads-whole : (limit : ℕ) (z : ℤ) → Reads (whole_below limit z)
reads-whole limit (pos n) = either ((n % one == 0) && nat_lt (n / one) limit) ok bad
reads-whole limit (negsuc n) = bad

reads-index : (limit : ℕ) (d : Datum) → Reads (index_of limit d)
reads-index limit d = bind (reads-number d) (reads-whole limit)

reads-indices : (limit : ℕ) (so_far : List ℕ) (all : Elements) → Reads (indices_onto limit so_far all)
reads-indices limit so_far no_elements = ok
reads-indices limit so_far (element d more) =
    bind (reads-index limit d) (λ i. reads-indices limit (so_far ++ i ∷ []) more)

pub reads-three : (limit : ℕ) (all : Elements) → Reads (three_indices limit all)
reads-three limit all = either (nat_le 3 (count all)) (reads-indices limit [] all) bad

pub reads-face : (limit : ℕ) (d : Datum) → Reads (face_of limit d)
reads-face limit d = bind (reads-vector d) (reads-three limit)

reads-faces : (limit : ℕ) (so_far : List (List ℕ)) (all : Elements) → Reads (faces_onto limit so_far all)
reads-faces limit so_far no_elements = ok
reads-faces limit so_far (element d more) =
    bind (reads-face limit d) (λ f. reads-faces limit (so_far ++ f ∷ []) more)

pub reads-some_faces : (limit : ℕ) (all : Elements) → Reads (some_faces limit all)
reads-some_faces limit all = either (nat_le 1 (count all)) (reads-faces limit [] all) bad

-- ---- radii
pub reads-half : (d : Option Datum) (other : Read ℤ) → Reads other → Reads (half_or d other)
reads-half None other reads = reads
reads-half (Some d) other reads = bind (reads-size_of d) (λ z. ok)

pub reads-radius : (d : Option Datum) (other : Read ℤ) → Reads other → Reads (radius_or d other)
reads-radius None other reads = reads
reads-radius (Some d) other reads = reads-size_of d
