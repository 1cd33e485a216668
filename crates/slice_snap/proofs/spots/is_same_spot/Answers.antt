-- The levels and the places tell whether the spots are the same.
use Rattle.std.proofs.Common.{Bool, ◌&&◌, ap, sym, ◌∙◌}
use Rattle.slice_snap.proofs.SameSpots.{places_equal, same_by_parts}
use Rattle.slice_snap.proofs.spots.is_same_spot.Goals as goal

pub returns-then-is_same_level : goal.returns-then-is_same_level
returns-then-is_same_level c =
    let s = c.args.s.now in
    let t = c.args.t.now in
    c.is_same_place.ensures
    ∙ sym (ap (λ (b : Bool). b && places_equal s t) (sym c.is_same_level.ensures ∙ c.if-is_same_level.true))
    ∙ same_by_parts s t c.requires.s.level.positive c.requires.s.positive c.requires.t.level.positive
    c.requires.t.positive c.requires.level

pub returns-else-is_same_level : goal.returns-else-is_same_level
returns-else-is_same_level c =
    let s = c.args.s.now in
    let t = c.args.t.now in
    c.if-is_same_level.false
    ∙ sym (ap (λ (b : Bool). b && places_equal s t) (sym c.is_same_level.ensures ∙ c.if-is_same_level.false))
    ∙ same_by_parts s t c.requires.s.level.positive c.requires.s.positive c.requires.t.level.positive
    c.requires.t.positive c.requires.level
