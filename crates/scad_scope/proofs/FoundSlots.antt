-- The slots that are found so far.
use Rattle.std.proofs.Common.{◌≡◌, ℕ, ◌+◌, ◌<◌, ◌≤◌, List, [], ◌++◌, length, drop, get_or, Option, Some, None, refl, sym, ap, ◌∙◌, append_assoc}
use Rattle.std.proofs.lemmas.List.{drop_more, drop_all}
use Rattle.scad_scope.specs.declared.slot.Slot.{Slot}
use Rattle.scad_scope.specs.Listing.{Listing, place_of}
use Rattle.scad_scope.specs.Slots.{slot_onto, slots_from}

onto : (up : ℕ) (place : Option ℕ) (more : List Slot) → slot_onto up place [] ++ more ≡ slot_onto up place more
onto up None more = refl
onto up (Some place) more = refl

-- the next frame's slot is noted
pub slots-drop : (name : List ℕ) (up : ℕ) (all : List Listing) (i : ℕ) (l : Listing) (so_far : List Slot)
    → i < length all → l ≡ get_or all i l
    → (so_far ++ slot_onto up (place_of name l) []) ++ slots_from name (up + 1) (drop (i + 1) all)
    ≡ so_far ++ slots_from name up (drop i all)
slots-drop name up all i l so_far below is =
    let more = slots_from name (up + 1) (drop (i + 1) all) in
    append_assoc so_far (slot_onto up (place_of name l) []) more
    ∙ ap (λ s. so_far ++ s) (onto up (place_of name l) more
    ∙ ap (λ x. slot_onto up (place_of name x) more) is
    ∙ sym (ap (slots_from name up) (drop_more all i l below)))

pub slots-end : (name : List ℕ) (up : ℕ) (all : List Listing) (i : ℕ) → length all ≤ i
    → slots_from name up (drop i all) ≡ []
slots-end name up all i past = ap (slots_from name up) (drop_all i all past)
