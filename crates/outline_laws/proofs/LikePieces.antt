-- Pieces that are the same one by one merge alike, and make the same outlines.
use Rattle.std.proofs.Common.{◌≡◌, ℕ, ◌+◌, Bool, true, false, List, [], ◌∷◌, refl, sym, ap₂, ◌∙◌, subst}
use Rattle.std.specs.Prelude.{IsPermutation}
use Rattle.scad_geom.specs.declared.point.Pt.{Pt}
use Rattle.scad_geom.specs.declared.point.Edge.{Edge}
use Rattle.scad_geom.specs.Balance.{starts_at, ends_at}
use Rattle.scad_geom.proofs.Balance.{once, starts-cons, ends-cons}
use Rattle.winding_laws.proofs.Sameness.{same_through}
use Rattle.slice_pieces.specs.declared.piece.Spot.{Spot}
use Rattle.slice_pieces.specs.declared.piece.Piece.{Piece}
use Rattle.slice_pieces.specs.Spots.{point_of, is_same_spot}
use Rattle.slice_pieces.specs.Pieces.{way_of, ways_of}
use Rattle.slice_pieces.specs.Merging.{joined, MeetAlone, AreMerged, all_joined, two_join}
use Rattle.slice_pieces.specs.Cancelling.{AreCancelled}
use Rattle.slice_border.specs.Outlines.{AreMadeOf}
use Rattle.outline_laws.specs.Sameness.{AreSameSpot, AreSamePiece, ArePiecesSame}
use Rattle.outline_laws.proofs.Zips.{zip_permuted}
use Rattle.outline_laws.proofs.Same.{spot_turned, spot_chain, pieces_turned, edges_same}

-- ---- counts at a point
pub test_same : (s t u v : Spot) → AreSameSpot s t → AreSameSpot u v → is_same_spot s u ≡ is_same_spot t v
test_same s t u v h k =
    same_through (point_of s) (point_of u) (point_of v) k.first k.second k.same
    ∙ by_first (is_same_spot s v) (is_same_spot t v) refl refl
  where
    forth : is_same_spot s v ≡ true → is_same_spot t v ≡ true
    forth e = (spot_chain t s v (spot_turned s t h) (record { first = h.first; second = k.second; same = e })).same

    back : is_same_spot t v ≡ true → is_same_spot s v ≡ true
    back e = (spot_chain s t v h (record { first = h.second; second = k.second; same = e })).same

    by_first : (a b : Bool) → is_same_spot s v ≡ a → is_same_spot t v ≡ b → is_same_spot s v ≡ is_same_spot t v
    by_first true b x y = x ∙ sym (forth x)
    by_first false true x y = back y ∙ sym y
    by_first false false x y = x ∙ sym y

starts_same : (s t : Spot) → AreSameSpot s t → (qs rs : List Piece) → ArePiecesSame qs rs
    → starts_at (point_of s) (ways_of qs) ≡ starts_at (point_of t) (ways_of rs)
starts_same s t h [] [] k = refl
starts_same s t h [] (r ∷ rs) k = absurd k
starts_same s t h (q ∷ qs) [] k = absurd k
starts_same s t h (q ∷ qs) (r ∷ rs) k =
    starts-cons (point_of s) (way_of q) (ways_of qs)
    ∙ ap₂ (λ (b : Bool) (n : ℕ). once b + n) (test_same s t q.from r.from h k.0.from) (starts_same s t h qs rs k.1)
    ∙ sym (starts-cons (point_of t) (way_of r) (ways_of rs))

ends_same : (s t : Spot) → AreSameSpot s t → (qs rs : List Piece) → ArePiecesSame qs rs
    → ends_at (point_of s) (ways_of qs) ≡ ends_at (point_of t) (ways_of rs)
ends_same s t h [] [] k = refl
ends_same s t h [] (r ∷ rs) k = absurd k
ends_same s t h (q ∷ qs) [] k = absurd k
ends_same s t h (q ∷ qs) (r ∷ rs) k =
    ends-cons (point_of s) (way_of q) (ways_of qs)
    ∙ ap₂ (λ (b : Bool) (n : ℕ). once b + n) (test_same s t q.to r.to h k.0.to) (ends_same s t h qs rs k.1)
    ∙ sym (ends-cons (point_of t) (way_of r) (ways_of rs))

-- ---- two that meet alone
record MeetToo (rs : List Piece) (f s : Piece) (others : List Piece) : Type 0 where
  first : Piece
  second : Piece
  rest : List Piece
  meet : MeetAlone rs first second rest
  first_same : AreSamePiece f first
  second_same : AreSamePiece s second
  rest_same : ArePiecesSame others rest

meet_too : (qs rs : List Piece) → ArePiecesSame qs rs → (f s : Piece) (others : List Piece) → MeetAlone qs f s others
    → MeetToo rs f s others
meet_too qs rs h f s others m = by_order (zip_permuted AreSamePiece qs rs (f ∷ (s ∷ others)) h m.two)
  where
    found : (vs : List Piece) → IsPermutation rs vs → ArePiecesSame (f ∷ (s ∷ others)) vs → MeetToo rs f s others
    found [] p z = absurd z
    found (g ∷ []) p z = absurd z.1
    found (g ∷ (t ∷ rest)) p z = record {
      first = g;
      second = t;
      rest = rest;
      meet = record {
        two = p;
        name = sym z.0.name ∙ m.name ∙ z.1.0.name;
        meet = sym (test_same f.to g.to s.from t.from z.0.to z.1.0.from) ∙ m.meet;
        one_ends = sym (ends_same f.to g.to z.0.to qs rs h) ∙ m.one_ends;
        one_starts = sym (starts_same f.to g.to z.0.to qs rs h) ∙ m.one_starts;
      };
      first_same = z.0;
      second_same = z.1.0;
      rest_same = z.1.1;
    }

    by_order : (vs : List Piece) × IsPermutation rs vs × ArePiecesSame (f ∷ (s ∷ others)) vs → MeetToo rs f s others
    by_order r = found r.0 r.1 r.2

joined_same : (f s g t : Piece) → AreSamePiece f g → AreSamePiece s t → AreSamePiece (joined f s) (joined g t)
joined_same f s g t h k = record { name = h.name; from = h.from; to = k.to }

-- ---- merging
abbrev MergeToo : List Piece → List Piece → Type 0
MergeToo rs merged = (more : List Piece) × AreMerged rs more × ArePiecesSame merged more

merged_too : (qs merged : List Piece) → AreMerged qs merged → (rs : List Piece) → ArePiecesSame qs rs
    → MergeToo rs merged
merged_too qs merged (all_joined none p) rs h =
    let r = zip_permuted AreSamePiece qs rs merged h p in
    (r.0, all_joined (λ f s others m. let t = meet_too rs qs (pieces_turned qs rs h) f s others m in none t.first t.second t.rest t.meet) r.1, r.2)
merged_too qs merged (two_join f s others m a) rs h =
    let t = meet_too qs rs h f s others m in
    let r = merged_too (joined f s ∷ others) merged a (joined t.first t.second ∷ t.rest)
    (joined_same f s t.first t.second t.first_same t.second_same, t.rest_same) in
    (r.0, two_join t.first t.second t.rest t.meet r.1, r.2)

pub made_too : (qs rs : List Piece) → ArePiecesSame qs rs → (outlines : List (List Pt)) → AreMadeOf qs outlines
    → AreMadeOf rs outlines
made_too qs rs h outlines a =
    let r = merged_too qs a.merged a.are_merged rs h in
    record {
      merged = r.0;
      left = a.left;
      are_merged = r.1;
      are_left = subst (λ (es : List Edge). AreCancelled es a.left) (edges_same a.merged r.0 r.2) a.are_left;
      are_outlines = a.are_outlines;
    }
