-- The input read to its end, or not.
use Rattle.std.specs.Prelude.{◌≡◌, ◌+◌, ◌<◌, ◌≤◌, ℕ, Bool, false, List, length, Option, IfSome}
use Rattle.scad_io.specs.Desk.{View, taken}

-- the text is all that was left, and is within the limit
pub record ReadsAll (limit : Option ℕ) (text : List ℕ) (old new : View) : Type 0 where
  pub all : IfSome old.input.bytes (λ rest. text ≡ rest)
  pub within : IfSome limit (λ most. length text ≤ most)
  pub view : new ≡ taken (length text) false old

-- more bytes than this were left, and the first one past it was read
pub record ReadsPast (most : ℕ) (old new : View) : Type 0 where
  pub more : IfSome old.input.bytes (λ rest. most < length rest)
  pub view : new ≡ taken (most + 1) false old

-- some of what was left was read, and the input has this mark of failure
pub record ReadsPart (failed : Bool) (old new : View) : Type 0 where
  pub count : ℕ
  pub there : IfSome old.input.bytes (λ rest. count ≤ length rest)
  pub view : new ≡ taken count failed old
