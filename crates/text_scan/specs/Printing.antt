-- What was printed piece by piece. Behind a want of memory nothing is said of it but how it begins.
use Rattle.std.specs.Prelude.{◌≡◌, ℕ, Bool, true, List, ◌++◌}
use Rattle.scad_base.specs.Appends.{BeginsWith}

-- a text so far, and whether there was memory for all of it
pub record Printed : Type 0 where
  pub text : List ℕ
  pub is_whole : Bool

-- all of a text was printed
pub record Holds (text : List ℕ) (p : Printed) : Type 0 where
  pub whole : p.is_whole ≡ true
  pub text_is : p.text ≡ text

-- a piece was printed, if there was memory for all so far
pub record Adds (piece : List ℕ) (old new : Printed) : Type 0 where
  pub whole : new.is_whole ≡ true → old.is_whole ≡ true
  pub text_is : new.is_whole ≡ true → new.text ≡ old.text ++ piece
  pub begins : BeginsWith old.text new.text
