-- The first two corners begin the way round, each corner further gives one bend more, and two bends close the ring.
use Rattle.std.proofs.Common.{◌≡◌, ◌+◌, ◌-◌, ◌≤◌, List, [], ◌∷◌, ◌++◌, length, get_or, take, drop, sym, ap, ◌∙◌}
use Rattle.std.proofs.Common.{arith, append_assoc, pos}
use Rattle.std.proofs.lemmas.List.{append-nil, at_drop_more, at_drop_all, take_all}
use Rattle.scad_geom.specs.declared.point3.Pt3.{Pt3}
use Rattle.scad_hull.specs.declared.wrapping.Bend.{Bend}
use Rattle.scad_hull.specs.Ring.{round}
use Rattle.scad_hull.specs.Wrapping.{bends_of}
use Rattle.scad_hull.proofs.MoreFaces.{no_bends}
use Rattle.scad_hull.proofs.wrapping.push_bends.Goals as goal

abbrev no_point : Pt3
no_point = record { x = pos 0; y = pos 0; z = pos 0 }

begun : (ring : List Pt3) → 2 ≤ length ring
    → get_or ring 0 no_point ∷ (get_or ring 1 no_point ∷ (take (length ring - 2) (drop 2 ring)
    ++ (get_or ring 0 no_point ∷ (get_or ring 1 no_point ∷ [])))) ≡ round ring
begun [] h = absurd (omega arith)
begun (p ∷ []) h = absurd (omega arith)
begun (p ∷ (q ∷ ps)) h =
    ap (λ (xs : List Pt3). p ∷ (q ∷ (xs ++ (p ∷ (q ∷ [])))))
    (take_all (length (p ∷ (q ∷ ps)) - 2) ps (omega arith))

more : (old new : List Bend) (from at to : Pt3) (way : List Pt3)
    → new ≡ old ++ (record { from = from; at = at; to = to } ∷ [])
    → new ++ bends_of (at ∷ (to ∷ way)) ≡ old ++ bends_of (from ∷ (at ∷ (to ∷ way)))
more old new from at to way e =
    ap (λ (bs : List Bend). bs ++ bends_of (at ∷ (to ∷ way))) e
    ∙ append_assoc old (record { from = from; at = at; to = to } ∷ []) (bends_of (at ∷ (to ∷ way)))

pub returns-in_default : goal.returns-in_default
returns-in_default c = no_bends c.args.bends.now.items c.args.ring.now c.in_default.len_below

pub corners-init : goal.corners-init
corners-init c =
    ap (λ (way : List Pt3). c.args.bends.now.items ++ bends_of way) (begun c.args.ring.now c.in-len2-up.len_at_least)

pub corners-preserved : goal.corners-preserved
corners-preserved c =
    let ring : List Pt3 = c.args.ring.now in
    let rest : List Pt3 = take (length ring - 2) (drop 2 ring) in
    let ends : List Pt3 = get_or ring 0 no_point ∷ (get_or ring 1 no_point ∷ []) in
    let i = c.corners.to-index in
    more c.corners.bends.items c.push.new.self.items c.corners.from c.corners.at (get_or rest i no_point)
    (drop (i + 1) rest ++ ends) c.in_ok-push.ensures.items
    ∙ sym (at_drop_more (λ (way : List Pt3). c.corners.bends.items
    ++ bends_of (c.corners.from ∷ (c.corners.at ∷ (way ++ ends)))) rest i no_point c.corners-test.true)
    ∙ c.corners.invariant

pub returns : goal.returns
returns c =
    let ring : List Pt3 = c.args.ring.now in
    let rest : List Pt3 = take (length ring - 2) (drop 2 ring) in
    let first = get_or ring 0 no_point in
    let second = get_or ring 1 no_point in
    sym (append-nil c.push-3.new.self.items)
    ∙ more c.push-2.new.self.items c.push-3.new.self.items c.corners.at first second [] c.in_ok-push-3.ensures.items
    ∙ more c.corners.bends.items c.push-2.new.self.items c.corners.from c.corners.at first (second ∷ [])
    c.in_ok-push-2.ensures.items
    ∙ sym (at_drop_all (λ (way : List Pt3). c.corners.bends.items
    ++ bends_of (c.corners.from ∷ (c.corners.at ∷ (way ++ (first ∷ (second ∷ [])))))) rest c.corners.to-index
    c.corners-test.false)
    ∙ c.corners.invariant
