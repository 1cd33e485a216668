-- How a part of a script leaves its desk.
use Rattle.std.specs.Prelude.{◌≡◌, ◌≤◌, ℕ, Result, OnOk}
use Rattle.scad_io.specs.Desk.{Files, View}
use Rattle.scad_script.specs.declared.stop.Stop.{Stop}
use Rattle.scad_script.specs.Play.{HasRisen}
use Rattle.scad_script.specs.Run.{Sound, CreatesNone}

-- A desk is kept, of which this is told: what the names contain, its objects, and how many faults there were. Where
-- the part was played no object has failed and no output was created. However it ends, the files stand, and the count
-- of faults doesn't fall; it rose where the part stopped because an object failed.
pub record Keeps {Self T : Type 0} (contents : Self → Files) (view : Self → View) (faults : Self → ℕ) (old new : Self)
    (result : Result T Stop) : Type 0 where
  pub sound : OnOk result (Sound (view new))
  pub creates : OnOk result (CreatesNone (view old) (view new))
  pub files : contents new ≡ contents old
  pub later : faults old ≤ faults new
  pub cause : HasRisen result (faults old) (faults new)

-- Of a desk that may have failed or created an output, the part of this that holds however a script goes: the files
-- stand, and the count of faults doesn't fall.
pub record KeepsFiles {Self : Type 0} (contents : Self → Files) (faults : Self → ℕ) (old new : Self) : Type 0 where
  pub files : contents new ≡ contents old
  pub later : faults old ≤ faults new

-- And where a part stopped because an object failed, the count rose.
pub record Leaves {Self T : Type 0} (contents : Self → Files) (faults : Self → ℕ) (old new : Self)
    (result : Result T Stop) : Type 0 where
  pub files : contents new ≡ contents old
  pub later : faults old ≤ faults new
  pub cause : HasRisen result (faults old) (faults new)
