-- A flat edge gives both its ends.
use Rattle.std.proofs.Common.{◌≡◌, ◌∷◌, [], ◌++◌, ◌∙◌, ap, ap₂, sym, List, append_assoc, true, Bool, ℤ, arith, refl}
use mir.Syntax.{w32}
use Rattle.scad_geom.proofs.Casts.{handed}
use Rattle.std.proofs.lemmas.Result.{on_ok_weaker}
use Rattle.std.specs.Prelude.{if◌then◌else◌}
use Rattle.slice_pieces.specs.declared.piece.Spot.{Spot}
use Rattle.slice_border.specs.Stops.{spots_in}
use Rattle.slice_border.specs.Pieces.{is_flat_at, passes_at, spot_on, whole_spot}
use Rattle.slice_bool.proofs.stops.push_spots.Goals as goal

pub returns-in_ok-push : goal.returns-in_ok-push
returns-in_ok-push c =
    let e = c.args.e.now in
    let at = c.args.at.now in
    let old : List Spot = spots_in c.args.out.now.items in
    let flat : is_flat_at e at ≡ true = sym c.is_flat_at.ensures ∙ c.if-is_flat_at.true in
    let left = ap (λ (x : ℤ). whole_spot x at) (handed w32 e.a.x (omega (arith, c.requires.edge.a.x)) refl) in
    let right = ap (λ (x : ℤ). whole_spot x at) (handed w32 e.b.x (omega (arith, c.requires.edge.b.x)) refl) in
    record {
      ok = on_ok_weaker c.push-then-is_flat_at.result
          (λ s. s
          ∙ ap₂ (λ (xs : List Spot) (t : Spot). xs ++ (t ∷ []))
          (c.in_ok-push.ensures.ok ∙ ap (λ (t : Spot). old ++ (t ∷ [])) (c.whole_spot.ensures ∙ left))
          (c.whole_spot-then-is_flat_at.ensures ∙ right)
          ∙ append_assoc old (whole_spot e.a.x at ∷ []) (whole_spot e.b.x at ∷ [])
          ∙ ap (λ (b : Bool). old ++ (if b then whole_spot e.a.x at
          ∷ (whole_spot e.b.x at ∷ []) else if passes_at e at
          then spot_on e at ∷ [] else [])) (sym flat))
          c.push-then-is_flat_at.ensures.ok;
    }
