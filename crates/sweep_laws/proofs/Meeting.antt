-- Where one way comes in and one goes out, of one name and direction, and no other piece has an
-- end, the two meet alone.
use Rattle.std.proofs.Common.{◌≡◌, ◌+◌, Bool, true, false, not, cond, true≢false, List, [], ◌∷◌, refl, sym, ap, ◌∙◌}
use Rattle.std.specs.List.{AllByRecursion}
use Rattle.std.specs.List.Sorted.{IsPermutation}
use Rattle.std.proofs.lemmas.List.Sorted.{IsPermutation-trans}
use Rattle.scad_geom.specs.Point.{Point}
use Rattle.scad_geom.proofs.Balance.{once}
use Rattle.winding_laws.specs.Nearness.{IsPoint}
use Rattle.slice_pieces.specs.declared.piece.Spot.{Spot}
use Rattle.slice_pieces.specs.declared.piece.Piece.{Piece}
use Rattle.slice_pieces.specs.Spots.{point_of}
use Rattle.slice_pieces.specs.Pieces.{ways_of}
use Rattle.slice_pieces.specs.Merging.{MeetAlone}
use Rattle.slice_pieces.proofs.ChainEnds.{point_alike}
use Rattle.slice_pieces.proofs.TwoPairs.{swap}
use Rattle.sweep_laws.specs.Ways.{Way, piece_of, IsAt, IsAway}
use Rattle.sweep_laws.specs.Visits.{IsOneCourse}
use Rattle.sweep_laws.proofs.Touches.{ComesIn, GoesOut, LiesAway, at_to, at_from}
use Rattle.sweep_laws.proofs.OnePlace.{ends_alike, starts_alike, ends_here, starts_here}

-- of the two, that which ends at the place, and that which starts there
abbrev pub ending : Bool → Way → Way → Piece
ending b v w = cond b (piece_of v) (piece_of w)

abbrev pub starting : Bool → Way → Way → Piece
starting b v w = cond b (piece_of w) (piece_of v)

one_by_flags : (f g : Bool) → f ≡ g → (once f + 0) + ((once (not g) + 0) + 0) ≡ 1
one_by_flags true true e = refl
one_by_flags true false e = absurd (true≢false e)
one_by_flags false true e = absurd (true≢false (sym e))
one_by_flags false false e = refl

other_by_flags : (f g : Bool) → f ≡ g → (once (not f) + 0) + ((once g + 0) + 0) ≡ 1
other_by_flags true true e = refl
other_by_flags true false e = absurd (true≢false e)
other_by_flags false true e = absurd (true≢false (sym e))
other_by_flags false false e = refl

pub by_end : (P : Spot → Type 0) (f : Bool) (s t : Spot) → P s → P t → P (cond f s t)
by_end P true s t h k = h
by_end P false s t h k = k

module _ (p : Point) (dp : IsPoint p) (all : List Piece) (v w : Way) (others : List Piece)
    (is : IsPermutation all (piece_of v ∷ (piece_of w ∷ others)))
    (hv : ComesIn p v) (hw : GoesOut p w) (ha : AllByRecursion (LiesAway p) others) (course : IsOneCourse v w)
    (b : Bool) (flag : v.forward ≡ b) where
  flag_w : w.forward ≡ b
  flag_w = sym course.forward ∙ flag

  two : IsPermutation all (ending b v w ∷ (starting b v w ∷ others))
  two = by_flag b
    where
      by_flag : (b : Bool) → IsPermutation all (ending b v w ∷ (starting b v w ∷ others))
      by_flag true = is
      by_flag false = IsPermutation-trans all (piece_of v ∷ (piece_of w ∷ others))
          (piece_of w ∷ (piece_of v ∷ others)) is
          (swap (piece_of v) (piece_of w) others)

  pub ends_there : IsAt p (ending b v w).to
  ends_there = by_flag b flag flag_w
    where
      by_flag : (b : Bool) → v.forward ≡ b → w.forward ≡ b → IsAt p (ending b v w).to
      by_flag true h k = at_to p v.forward v.near v.far hv.0 hv.1 ∙ h
      by_flag false h k = at_from p w.forward w.far w.near hw.0 hw.1 ∙ ap not k

  starts_there : IsAt p (starting b v w).from
  starts_there = by_flag b flag flag_w
    where
      by_flag : (b : Bool) → v.forward ≡ b → w.forward ≡ b → IsAt p (starting b v w).from
      by_flag true h k = at_to p w.forward w.far w.near hw.0 hw.1 ∙ k
      by_flag false h k = at_from p v.forward v.near v.far hv.0 hv.1 ∙ ap not h

  -- where the second ends, the place isn't
  pub starts_on : IsAway p (starting b v w).to
  starts_on = by_flag b flag flag_w
    where
      by_flag : (b : Bool) → v.forward ≡ b → w.forward ≡ b → IsAway p (starting b v w).to
      by_flag true h k = at_from p w.forward w.far w.near hw.0 hw.1 ∙ ap not k
      by_flag false h k = at_to p v.forward v.near v.far hv.0 hv.1 ∙ h

  pub ending_point : IsPoint (point_of (ending b v w).to)
  ending_point = by_flag b
    where
      by_flag : (b : Bool) → IsPoint (point_of (ending b v w).to)
      by_flag true = by_end (λ s. IsPoint (point_of s)) v.forward v.far v.near hv.2 hv.3
      by_flag false = by_end (λ s. IsPoint (point_of s)) w.forward w.far w.near hw.3 hw.2

  pub starting_point : IsPoint (point_of (starting b v w).from)
  starting_point = by_flag b
    where
      by_flag : (b : Bool) → IsPoint (point_of (starting b v w).from)
      by_flag true = by_end (λ s. IsPoint (point_of s)) w.forward w.near w.far hw.2 hw.3
      by_flag false = by_end (λ s. IsPoint (point_of s)) v.forward v.near v.far hv.3 hv.2

  names : (ending b v w).edge ≡ (starting b v w).edge
  names = by_flag b
    where
      by_flag : (b : Bool) → (ending b v w).edge ≡ (starting b v w).edge
      by_flag true = course.edge
      by_flag false = sym course.edge

  pub meet_alone : MeetAlone all (ending b v w) (starting b v w) others
  meet_alone = record {
    two = two;
    name = names;
    meet = sym (point_alike p (point_of (ending b v w).to) (point_of (starting b v w).from) dp ending_point ends_there)
        ∙ starts_there;
    one_ends = sym (ends_alike p (point_of (ending b v w).to) dp ending_point ends_there (ways_of all))
        ∙ ends_here p dp all (v ∷ []) (w ∷ []) others is (hv, tt) (hw, tt) ha
        ∙ one_by_flags v.forward w.forward course.forward;
    one_starts = sym (starts_alike p (point_of (ending b v w).to) dp ending_point ends_there (ways_of all))
        ∙ starts_here p dp all (v ∷ []) (w ∷ []) others is (hv, tt) (hw, tt) ha
        ∙ other_by_flags v.forward w.forward course.forward;
  }
