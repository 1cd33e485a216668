-- A value of the language, apart from where it lies in memory (OpenSCAD User Manual, "Values and data types").
use Rattle.std.specs.Prelude.{ℕ, ℤ, Bool, List}

mutual
  pub data Datum : Type 0 where
    undef : Datum
    boolean : Bool → Datum
    -- its millionths
    number : ℤ → Datum
    -- the code points of its characters
    string : List ℕ → Datum
    vector : Elements → Datum
    -- start, step, end
    range : ℤ → ℤ → ℤ → Datum

  -- what stands between the brackets of a vector
  pub data Elements : Type 0 where
    no_elements : Elements
    element : Datum → Elements → Elements
