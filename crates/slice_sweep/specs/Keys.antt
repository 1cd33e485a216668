-- Wake-up keys: heights in parts of a micrometre.
use Rattle.std.specs.Prelude.{ℤ, pos, negsuc, ◌*ℤ◌, ◌<ℤ◌}
use Rattle.scad_geom.specs.declared.level.Level.{Level}

-- how many parts a micrometre has
abbrev pub parts : ℤ
parts = pos 1048576

-- a height lies below a key
abbrev pub IsBelowKey : Level → ℤ → Type 0
IsBelowKey h key = (h.n *ℤ parts) <ℤ (key *ℤ h.d)

-- the key of what is looked at in any case, below all heights
abbrev pub stale : ℤ
stale = negsuc 4398046511103
