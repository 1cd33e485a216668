-- A value is of one of six kinds.
use Rattle.std.proofs.Common.{◌≡◌, ◌≢◌, false, ℕ, ℤ, List, Global, refl}
use Rattle.std.proofs.Common.{Bool as Boolean}
use Rattle.std.specs.declared.rc.Rc.{Rc}
use Rattle.scad_value.specs.declared.value.Value.{Value, Undef, Bool, Number, Str, List', Range}
use Rattle.scad_value.specs.Datum.{Datum, undef, boolean, number, string, vector, range, Elements}
use Rattle.scad_value.specs.Kinds.{is_number}
use Rattle.scad_value.specs.View.{datum_of}

-- what holds of each other kind holds of a value that isn't `undef`
pub but-undef : (P : Datum → Type 0) → ((b : Boolean) → P (boolean b)) → ((z : ℤ) → P (number z))
    → ((cs : List ℕ) → P (string cs)) → ((es : Elements) → P (vector es)) → ((s t e : ℤ) → P (range s t e))
    → (v : Value) → v ≢ Undef → P (datum_of v)
but-undef P b n cs es r Undef isnt = absurd (isnt refl)
but-undef P b n cs es r (Bool x) isnt = b x
but-undef P b n cs es r (Number x) isnt = n x
but-undef P b n cs es r (Str x) isnt = cs x.value
but-undef P b n cs es r (List' block shape all) isnt = es _
but-undef P b n cs es r (Range s t e) isnt = r s t e

pub but-boolean : (P : Datum → Type 0) → P undef → ((z : ℤ) → P (number z)) → ((cs : List ℕ) → P (string cs))
    → ((es : Elements) → P (vector es)) → ((s t e : ℤ) → P (range s t e)) → (v : Value) → ((b : Boolean) → v ≢ Bool b)
    → P (datum_of v)
but-boolean P u n cs es r Undef isnt = u
but-boolean P u n cs es r (Bool x) isnt = absurd (isnt x refl)
but-boolean P u n cs es r (Number x) isnt = n x
but-boolean P u n cs es r (Str x) isnt = cs x.value
but-boolean P u n cs es r (List' block shape all) isnt = es _
but-boolean P u n cs es r (Range s t e) isnt = r s t e

pub but-number : (P : Datum → Type 0) → P undef → ((b : Boolean) → P (boolean b)) → ((cs : List ℕ) → P (string cs))
    → ((es : Elements) → P (vector es)) → ((s t e : ℤ) → P (range s t e)) → (v : Value) → ((z : ℤ) → v ≢ Number z)
    → P (datum_of v)
but-number P u b cs es r Undef isnt = u
but-number P u b cs es r (Bool x) isnt = b x
but-number P u b cs es r (Number x) isnt = absurd (isnt x refl)
but-number P u b cs es r (Str x) isnt = cs x.value
but-number P u b cs es r (List' block shape all) isnt = es _
but-number P u b cs es r (Range s t e) isnt = r s t e

pub but-string : (P : Datum → Type 0) → P undef → ((b : Boolean) → P (boolean b)) → ((z : ℤ) → P (number z))
    → ((es : Elements) → P (vector es)) → ((s t e : ℤ) → P (range s t e)) → (v : Value)
    → ((cs : Rc (List ℕ) Global) → v ≢ Str cs) → P (datum_of v)
but-string P u b n es r Undef isnt = u
but-string P u b n es r (Bool x) isnt = b x
but-string P u b n es r (Number x) isnt = n x
but-string P u b n es r (Str x) isnt = absurd (isnt x refl)
but-string P u b n es r (List' block shape all) isnt = es _
but-string P u b n es r (Range s t e) isnt = r s t e

pub but-range : (P : Datum → Type 0) → P undef → ((b : Boolean) → P (boolean b)) → ((z : ℤ) → P (number z))
    → ((cs : List ℕ) → P (string cs)) → ((es : Elements) → P (vector es)) → (v : Value)
    → ((s t e : ℤ) → v ≢ Range s t e) → P (datum_of v)
but-range P u b n cs es Undef isnt = u
but-range P u b n cs es (Bool x) isnt = b x
but-range P u b n cs es (Number x) isnt = n x
but-range P u b n cs es (Str x) isnt = cs x.value
but-range P u b n cs es (List' block shape all) isnt = es _
but-range P u b n cs es (Range s t e) isnt = absurd (isnt s t e refl)

-- what holds of each other kind holds of a datum that is no number
pub not-number : (P : Datum → Type 0) → P undef → ((b : Boolean) → P (boolean b)) → ((cs : List ℕ) → P (string cs))
    → ((es : Elements) → P (vector es)) → ((s t e : ℤ) → P (range s t e)) → (d : Datum) → is_number d ≡ false → P d
not-number P u b cs es r undef isnt = u
not-number P u b cs es r (boolean x) isnt = b x
not-number P u b cs es r (number x) isnt = absurd (cc)
not-number P u b cs es r (string x) isnt = cs x
not-number P u b cs es r (vector x) isnt = es x
not-number P u b cs es r (range s t e) isnt = r s t e
