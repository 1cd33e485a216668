-- Each height is put behind those before.
use Rattle.std.proofs.Common.{rules, ◌≡◌, refl, ◌∷◌, [], ◌++◌, ◌+◌, ℤ, pos, drop, get_or, map, sym, ap, ◌∙◌, List, w32, to_z, of_z}
use Rattle.std.proofs.lemmas.List.{at_drop_more}
use Rattle.scad_geom.specs.declared.level.Level.{Level}
use Rattle.scad_geom.specs.Level.{level_of}
use Rattle.scad_geom.proofs.Casts.{casts}
use Rattle.slice_events.specs.Collection.{levels_in}
use Rattle.slice_events.proofs.Loops.{put_step, last_step}
use Rattle.slice_events.proofs.ends.push_all.Goals as goal

pub ys-preserved : goal.ys-preserved
ys-preserved c =
    let ys : List ℤ = c.args.ys.now in
    let i = c.ys.y-index in
    let y : ℤ = get_or ys i (pos 0) in
    let value : to_z w32 (of_z w32 y) ≡ y = search (rules, casts) in
    let more : List Level = map level_of (drop (i + 1) ys) in
    ap (λ (hs : List Level). hs ++ more) c.in_ok-push_whole.ensures.ok
    ∙ put_step (levels_in c.ys.out.items) (level_of (to_z w32 (of_z w32 y)) ∷ []) _ _ _
    (at_drop_more (map level_of) ys i (pos 0) c.ys-test.true ∙ ap (λ (z : ℤ). level_of z ∷ more) (sym value))
    c.ys.invariant

pub returns : goal.returns
returns c = record { ok = last_step (map level_of) _ _ c.args.ys.now c.ys.y-index refl c.ys-test.false c.ys.invariant }
