-- The frames that a value in memory is.
use Rattle.std.specs.Prelude.{List, ◌++◌, Option, Some, None, map, option_map}
use Rattle.scad_ast.specs.Scope.{items}
use Rattle.scad_ast.specs.Tree.{Items}
use Rattle.scad_scope.specs.declared.frame.Frame.{Frame}
use Rattle.scad_scope.specs.declared.frame_names.FrameNames.{FrameNames}
use Rattle.scad_scope.specs.declared.home.Home.{Home}
use Rattle.scad_scope.specs.declared.home.Home.TheVariants.{Unscoped, Searched, Tabled}
use Rattle.scad_scope.specs.declared.child_statements.Kept.{Kept}
use Rattle.scad_scope.specs.FrameNames.{named_in, placed_in}
use Rattle.scad_scope.specs.Listing.{Listing}
use Rattle.scad_scope.specs.Names.{Names}
use Rattle.scad_scope.specs.declared.frames.Frames.{Frames}
use Rattle.scad_scope.specs.FrameStore.{Stored, StoredChildren}

-- the names of a frame with their values
unfoldable pub names_in : FrameNames → Names
names_in n = placed_in n.placed ++ named_in n.named

abbrev pub children_stored : Kept → StoredChildren
children_stored k = record { statements = items k.scope.now.items; home = k.home }

-- the scope of a frame's functions and modules
abbrev pub scope_in : Home → Option Items
scope_in Unscoped = None
scope_in (Searched s searches) = Some (items s.now.items)
scope_in (Tabled t) = Some (items t.value.scope.now.items)

unfoldable pub frame_stored : Frame → Stored
frame_stored f = record {
  names = names_in f.names;
  parent = f.parent;
  scope = scope_in f.home;
  kept = option_map children_stored f.kept;
}

-- the frames by their numbers
unfoldable pub stored : Frames → List Stored
stored f = map frame_stored f.frames.items

-- the names that a frame was pushed with
unfoldable pub frame_listed : Frame → Option Listing
frame_listed f = option_map (λ n. n.now) f.names.placed.names

-- of each frame the names that it was pushed with, where it was pushed with names
unfoldable pub listed : Frames → List (Option Listing)
listed f = map frame_listed f.frames.items
