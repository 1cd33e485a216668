-- The frame that is put behind the others, and the names that it was pushed with.
use Rattle.std.proofs.Common.{◌≡◌, ℕ, ◌++◌, ◌∷◌, [], List, Option, option_map, map, refl, sym, ap, ap₂, ◌∙◌}
use Rattle.std.proofs.lemmas.List.{length-map, map-append}
use Rattle.std.proofs.lemmas.Result.{err_from_is_err_and}
use Rattle.scad_ast.specs.Tree.{Items}
use Rattle.scad_scope.specs.declared.frame.Frame.{Frame}
use Rattle.scad_scope.specs.FrameStore.{Stored, StoredChildren}
use Rattle.scad_scope.specs.Names.{Names}
use Rattle.scad_scope.specs.View.{frame_listed, frame_stored, listed, stored, children_stored}
use Rattle.scad_scope.proofs.frames.Frames.put.Goals as goal

one-more : {B : Type 0} (view : Frame → B) (fs gs hs : List Frame) (f : Frame) (b : B) → hs ≡ gs ++ f ∷ [] → gs ≡ fs
    → view f ≡ b → map view hs ≡ map view fs ++ b ∷ []
one-more view fs gs hs f b put were is =
    ap (map view) (put ∙ ap (λ l. l ++ f ∷ []) were) ∙ map-append view fs (f ∷ [])
    ∙ ap (λ x. map view fs ++ x ∷ []) is

abbrev stored_as : Option ℕ → Option StoredChildren → Names → Option Items → Stored
stored_as parent kept names scope = record { names = names; parent = parent; scope = scope; kept = kept }

pub returns-clause-frame : goal.returns-clause-frame
unfolding stored frame_stored
returns-clause-frame c =
    one-more frame_stored _ _ _ _ _ c.push_reserved.ensures.items c.in_ok-reserve.ensures.items
    (ap₂ (stored_as c.args.parent (option_map children_stored c.args.kept)) c.new.ensures.empty c.of.ensures)

pub returns-clause-listed : goal.returns-clause-listed
unfolding listed frame_listed
returns-clause-listed c =
    one-more frame_listed _ _ _ _ _ c.push_reserved.ensures.items c.in_ok-reserve.ensures.items c.new.ensures.names

pub returns-clause-number : goal.returns-clause-number
unfolding stored
returns-clause-number c =
    c.len-number.ensures ∙ c.args.self.now.frames.ok.0 ∙ sym (length-map c.args.self.now.frames.items frame_stored)

pub returns-in_err-reserve-clause-refused : goal.returns-in_err-reserve-clause-refused
unfolding listed stored
returns-in_err-reserve-clause-refused c =
    let p = err_from_is_err_and c.from_residual.result c.from_residual.ensures.1 in
    rw p.1 (ap (map frame_stored) c.in_err-reserve.ensures.items, ap (map frame_listed) c.in_err-reserve.ensures.items)

pub returns-then-number-clause-refused : goal.returns-then-number-clause-refused
returns-then-number-clause-refused c = (refl, refl)
