-- Results of reading, taken apart.
use Rattle.std.proofs.Common.{◌≡◌, ℕ, Bool, true, false, cond, Option, Some, None, Result, Ok, Err, refl}
use Rattle.cli_read.specs.declared.fault.CliFault.{CliFault}
use Rattle.cli_read.specs.Reading.{◌>>=◌, or_bad}

-- the value of a step that didn't fail
pub bind_ok : {A B : Type 0} (r : Result A CliFault) (f : A → Result B CliFault) (y : B) → (r >>= f) ≡ Ok y
    → (x : A) × (r ≡ Ok x) × (f x ≡ Ok y)
bind_ok (Ok x) f y e = (x, refl, e)
bind_ok (Err d) f y e = absurd cc

-- the same, handed on: what follows holds of a variable, however long the way to it was
pub bound : {A B P : Type 0} (r : Result A CliFault) (f : A → Result B CliFault) (y : B) → (r >>= f) ≡ Ok y
    → ((x : A) → r ≡ Ok x → f x ≡ Ok y → P) → P
bound (Ok x) f y e then = then x refl e
bound (Err d) f y e then = absurd cc

abbrev done : {A : Type 0} → A → Result A CliFault
done x = Ok x

pub ok_is : {A : Type 0} (x y : A) → done x ≡ done y → x ≡ y
ok_is x y e = cc

-- a test that was passed
pub passed : {A : Type 0} (b : Bool) (d : CliFault) (x y : A) → cond b (Ok x) (Err d) ≡ Ok y → (b ≡ true) × (x ≡ y)
passed true d x y e = (refl, cc)
passed false d x y e = absurd cc

pub or_bad_ok : {A : Type 0} (n : ℕ) (o : Option A) (a : A) → or_bad n o ≡ Ok a → o ≡ Some a
or_bad_ok n (Some b) a e = cc
or_bad_ok n None a e = absurd cc
