-- Pieces that compare as equal are one.
use Rattle.std.proofs.Common.{◌≡◌, Bool, true, ◌&&◌, ap₂, refl}
use Rattle.std.specs.Prelude.{◌==◌}
use Rattle.std.specs.Ordering.{int_eq}
use Rattle.std.specs.Cmp.{signed_Decides, unsigned_Decides}
use Rattle.std.proofs.lemmas.Bool.{and_parts}
use Rattle.scad_geom.specs.declared.level.Level.{Level}
use Rattle.slice_pieces.specs.declared.piece.Spot.{Spot}
use Rattle.slice_pieces.specs.declared.piece.Piece.{Piece}

abbrev same_level : Level → Level → Bool
same_level p q = int_eq p.n q.n && int_eq p.d q.d

level_is : (p q : Level) → same_level p q ≡ true → p ≡ q
level_is p q h =
    let both = and_parts (int_eq p.n q.n) (int_eq p.d q.d) h in
    let n = (signed_Decides p.n q.n).0 both.0 in
    let d = (signed_Decides p.d q.d).0 both.1 in
    λ i. record { n = n i; d = d i }

level_itself : (p : Level) → same_level p p ≡ true
level_itself p = ap₂ (λ (a b : Bool). a && b) ((signed_Decides p.n p.n).1 refl) ((signed_Decides p.d p.d).1 refl)

abbrev same_end : Spot → Spot → Bool
same_end s t = same_level s.at t.at && (int_eq s.x t.x && (s.run == t.run))

end_is : (s t : Spot) → same_end s t ≡ true → s ≡ t
end_is s t h =
    let both = and_parts (same_level s.at t.at) (int_eq s.x t.x && (s.run == t.run)) h in
    let rest = and_parts (int_eq s.x t.x) (s.run == t.run) both.1 in
    let at = level_is s.at t.at both.0 in
    let x = (signed_Decides s.x t.x).0 rest.0 in
    let run = (unsigned_Decides s.run t.run).0 rest.1 in
    λ i. record { at = at i; x = x i; run = run i }

end_itself : (s : Spot) → same_end s s ≡ true
end_itself s = ap₂ (λ (a b : Bool). a && b) (level_itself s.at)
    (ap₂ (λ (a b : Bool). a && b) ((signed_Decides s.x s.x).1 refl) ((unsigned_Decides s.run s.run).1 refl))

abbrev pub same_piece : Piece → Piece → Bool
same_piece q r = same_end q.from r.from && (same_end q.to r.to && (q.edge == r.edge))

pub piece_is : (q r : Piece) → same_piece q r ≡ true → q ≡ r
piece_is q r h =
    let both = and_parts (same_end q.from r.from) (same_end q.to r.to && (q.edge == r.edge)) h in
    let rest = and_parts (same_end q.to r.to) (q.edge == r.edge) both.1 in
    let from = end_is q.from r.from both.0 in
    let to = end_is q.to r.to rest.0 in
    let edge = (unsigned_Decides q.edge r.edge).0 rest.1 in
    λ i. record { from = from i; to = to i; edge = edge i }

pub piece_itself : (q : Piece) → same_piece q q ≡ true
piece_itself q = ap₂ (λ (a b : Bool). a && b) (end_itself q.from)
    (ap₂ (λ (a b : Bool). a && b) (end_itself q.to) ((unsigned_Decides q.edge q.edge).1 refl))
