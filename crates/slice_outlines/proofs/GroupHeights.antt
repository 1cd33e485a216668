-- The bundles of a group meet its height where it does.
use Rattle.std.proofs.Common.{◌≡◌, ℕ, true, List, [], ◌∷◌, sym, ap, ◌∙◌, subst}
use lib.IntN.{ℤ, pos, ◌*ℤ◌}
use lib.Signed.{◌<ℤ◌}
use Rattle.std.specs.List.{AllByRecursion}
use Rattle.scad_base.proofs.Products.{positive_product}
use Rattle.scad_geom.specs.declared.point.Edge.{Edge}
use Rattle.scad_geom.specs.declared.level.Level.{Level}
use Rattle.scad_geom.specs.declared.level.LeafEdge.{LeafEdge}
use Rattle.scad_geom.specs.Line.{rise, x_at}
use Rattle.scad_geom.proofs.Order.{front, back}
use Rattle.winding_laws.specs.Nearness.{IsPoint}
use Rattle.slice_bundles.specs.Bundles.{edge_at}
use Rattle.slice_bundles.specs.KeptOrder.{IsSamePlaceAt}
use Rattle.slice_pieces.specs.declared.piece.Spot.{Spot}
use Rattle.slice_pieces.specs.Spots.{point_of}
use Rattle.slice_border.specs.Pieces.{spot_on, passes_at, IsSameAcross}
use Rattle.slice_border.proofs.Winding.{IsSpotAt}
use Rattle.slice_border.proofs.Middle.{size_of}
use Rattle.slice_sweep.specs.Changes.{Group, all_below, all_above, all_at, Stand, IsTogetherAt, AreGroups}
use Rattle.sweep_laws.specs.Staying.{spot_of}
use Rattle.sweep_laws.proofs.Spots.{spot_at as edge_spot, same_place}
use Rattle.sweep_laws.proofs.Edges.{same_spots_round_alike}
use Rattle.slice_outlines.specs.declared.mark.Mark.{Mark}
use Rattle.slice_outlines.specs.declared.height.Height.{Height}
use Rattle.slice_outlines.specs.Ahead.{first_spot, IsSameSpot}
use Rattle.slice_outlines.proofs.EndPoints.{passes_then_rises}
use Rattle.slice_outlines.proofs.Placing.{AreNamed, all_append}
use Rattle.slice_outlines.proofs.LevelAhead.{IsMet}

-- ---- two edges
edges_round : (e f : Edge) (l : Level) → pos 0 <ℤ l.d → passes_at e l ≡ true → passes_at f l ≡ true
    → IsSamePlaceAt l e f → IsSameSpot (spot_on e l) (spot_on f l)
edges_round e f l d p q h =
    let s : Spot = spot_on e l in
    let t : Spot = spot_on f l in
    let ss : IsSpotAt l s = edge_spot e l (passes_then_rises e l p) in
    let ts : IsSpotAt l t = edge_spot f l (passes_then_rises f l q) in
    let same : IsSameAcross s t =
    ap (λ (r : ℤ). x_at e l.n l.d *ℤ r) (size_of (rise f) (passes_then_rises f l q)) ∙ h
    ∙ sym (ap (λ (r : ℤ). x_at f l.n l.d *ℤ r) (size_of (rise e) (passes_then_rises e l p))) in
    let sp : IsPoint (point_of s) = positive_product l.d (pos s.run) d ss.runs in
    let tp : IsPoint (point_of t) = positive_product l.d (pos t.run) d ts.runs in
    record { across = same; rounds = sym (same_spots_round_alike t s tp sp (same_place l t s ts ss same)) }

-- ---- bundles
-- the first edge of a bundle meets a height
abbrev pub HeadPasses : List LeafEdge → Level → List ℕ → Type 0
HeadPasses es l [] = ⊥
HeadPasses es l (k ∷ ks) = passes_at (edge_at es k) l ≡ true

bundles_round : (es : List LeafEdge) (l : Level) (b c : List ℕ) → pos 0 <ℤ l.d → HeadPasses es l b → HeadPasses es l c
    → IsTogetherAt es l b c → IsSameSpot (spot_of es l b) (spot_of es l c)
bundles_round es l [] c d p q h = absurd p
bundles_round es l (k ∷ ks) [] d p q h = absurd q
bundles_round es l (k ∷ ks) (j ∷ js) d p q h = edges_round (edge_at es k) (edge_at es j) l d p q h

to_first : (es : List LeafEdge) (l : Level) (c : List ℕ) (cs bs : List (List ℕ)) → pos 0 <ℤ l.d → HeadPasses es l c
    → AllByRecursion (HeadPasses es l) bs → AllByRecursion (λ b. AllByRecursion (IsTogetherAt es l b) (c ∷ cs)) bs
    → AllByRecursion (λ b. IsSameSpot (spot_of es l b) (spot_of es l c)) bs
to_first es l c cs [] d q p a = tt
to_first es l c cs (b ∷ bs) d q p a =
    (bundles_round es l b c d p.0 q a.0.0, to_first es l c cs bs d q p.1 a.1)

all_to_first : (es : List LeafEdge) (l : Level) (bs : List (List ℕ)) → pos 0 <ℤ l.d
    → AllByRecursion (HeadPasses es l) bs
    → AllByRecursion (λ b. AllByRecursion (IsTogetherAt es l b) bs) bs
    → AllByRecursion (λ b. IsSameSpot (spot_of es l b) (first_spot es l bs)) bs
all_to_first es l [] d p a = tt
all_to_first es l (c ∷ cs) d p a = to_first es l c cs (c ∷ cs) d p.0 p a

pub heads_pass : (es : List LeafEdge) (l : Level) (ms : List Mark) (bs : List (List ℕ)) → AreNamed ms bs
    → AllByRecursion (λ m. passes_at (edge_at es m.name) l ≡ true) ms → AllByRecursion (HeadPasses es l) bs
heads_pass es l [] [] z a = tt
heads_pass es l [] (b ∷ bs) z a = absurd z
heads_pass es l (m ∷ ms) [] z a = absurd z
heads_pass es l (m ∷ ms) ([] ∷ bs) z a = absurd z.0
heads_pass es l (m ∷ ms) ((k ∷ ks) ∷ bs) z a =
    (subst (λ (j : ℕ). passes_at (edge_at es j) l ≡ true) z.0 a.0, heads_pass es l ms bs z.1 a.1)

-- ---- groups
met_by : (h : Height) (gs : List Group) → pos 0 <ℤ h.at.now.d
    → AllByRecursion (HeadPasses h.edges.now h.at.now) (all_below gs)
    → AllByRecursion (HeadPasses h.edges.now h.at.now) (all_above gs) → AllByRecursion (λ g. all_at g ≡ [] → ⊥) gs
    → AllByRecursion (λ g. Stand (IsTogetherAt h.edges.now h.at.now) g g) gs → AllByRecursion (IsMet h) gs
met_by h [] d p q a t = tt
met_by h (g ∷ gs) d p q a t =
    let P : List ℕ → Type 0 = HeadPasses h.edges.now h.at.now in (
      record {
        some = a.0;
        at = all_to_first h.edges.now h.at.now (all_at g) d
            (all_append P g.below g.above (front P g.below (all_below gs) p) (front P g.above (all_above gs) q)) t.0;
      },
      met_by h gs d (back P g.below (all_below gs) p) (back P g.above (all_above gs) q) a.1 t.1,
    )

pub groups_met : (h : Height) (gs : List Group) → pos 0 <ℤ h.at.now.d → AreGroups h.edges.now h.at.now gs
    → AllByRecursion (HeadPasses h.edges.now h.at.now) (all_below gs)
    → AllByRecursion (HeadPasses h.edges.now h.at.now) (all_above gs) → AllByRecursion (IsMet h) gs
groups_met h gs d g p q = met_by h gs d p q g.some g.together
