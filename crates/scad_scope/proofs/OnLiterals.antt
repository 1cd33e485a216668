-- Worked examples: the names of two frames, and where a name lies in them.
use Rattle.std.proofs.Common.{◌≡◌, List, [], ◌∷◌, Some, None, refl}
use Rattle.std.specs.Prelude.{codes}
use Rattle.scad_value.specs.Datum.{undef}
use Rattle.scad_scope.specs.Chain.{HoldNames, chain_at, names_at}
use Rattle.scad_scope.specs.Listing.{Listing, with_listed}
use Rattle.scad_scope.specs.Slots.{slots_of}
use Rattle.scad_scope.specs.FrameStore.{Stored}

abbrev program : Listing
program = codes "f" ∷ codes "g" ∷ []

abbrev call : Listing
call = codes "x" ∷ codes "f" ∷ []

-- a name that both list: the inner frame's place first
pub two_slots : slots_of (codes "f") (call ∷ program ∷ [])
    ≡ record { up = 0; place = 1 } ∷ record { up = 1; place = 0 } ∷ []
two_slots = refl

pub one_slot : slots_of (codes "g") (call ∷ program ∷ []) ≡ record { up = 1; place = 1 } ∷ []
one_slot = refl

pub no_slot : slots_of (codes "h") (call ∷ program ∷ []) ≡ []
no_slot = refl

pub listed_once : with_listed (codes "f") call ≡ call
listed_once = refl

pub listed_last : with_listed (codes "h") call ≡ codes "x" ∷ codes "f" ∷ codes "h" ∷ []
listed_last = refl

-- the program's frame, where f has a value, and a call's inside it, where nothing has
abbrev frames : List Stored
frames = record { names = (codes "f", undef) ∷ []; parent = None; scope = None; kept = None }
    ∷ record { names = []; parent = Some 0; scope = None; kept = None } ∷ []

pub call_outwards : chain_at frames 1 ≡ 1 ∷ 0 ∷ []
call_outwards = refl

pub names_are_held : HoldNames (call ∷ program ∷ []) (Some program ∷ Some call ∷ []) frames 1
names_are_held = refl

-- f isn't among these names
pub unlisted_name : names_at (Some [] ∷ []) frames 0 ≡ None
unlisted_name = refl

pub without_names : names_at (None ∷ []) frames 0 ≡ None
without_names = refl
