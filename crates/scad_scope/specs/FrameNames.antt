-- The names with their values that a frame holds in memory: some at the places of listed names, the others by name.
use Rattle.std.specs.Prelude.{ℕ, List, [], ◌∷◌, ◌++◌, Bool, true, false, Option, Some, None, map, option_map}
use Rattle.scad_value.specs.Datum.{Datum}
use Rattle.scad_value.specs.View.{datum_of}
use Rattle.scad_value.specs.declared.value.Value.{Value}
use Rattle.scad_scope.specs.declared.named_values.NamedValues.{NamedValues}
use Rattle.scad_scope.specs.declared.placed_values.PlacedValues.{PlacedValues}
use Rattle.scad_scope.specs.declared.word.Word.{Word}
use Rattle.scad_scope.specs.Listing.{Listing}
use Rattle.scad_scope.specs.Names.{Names}
use Rattle.scad_scope.specs.ListedValues.{or_unlisted, name_placed}

-- a name with its value
abbrev pub named : Word × Value → List ℕ × Datum
named p = (p.0, datum_of p.1)

-- the first of those by name
abbrev pub few_in : NamedValues → Names
few_in n = map named n.few.items

-- the names, where there are any
abbrev pub or_none : Option Names → Names
or_none None = []
or_none (Some all) = all

-- the names behind them
abbrev pub more_in : NamedValues → Names
more_in n = or_none (option_map (λ b. map named b.value) n.more)

unfoldable pub named_in : NamedValues → Names
named_in n = few_in n ++ more_in n

-- whether there are none
abbrev pub is_nil : Names → Bool
is_nil [] = true
is_nil (p ∷ more) = false

-- the names that have places
abbrev pub listing_of : PlacedValues → Listing
listing_of v = or_unlisted (option_map (λ n. n.now) v.names)

abbrev pub placed_in : PlacedValues → Names
placed_in v = map (name_placed (listing_of v)) v.entries.items
