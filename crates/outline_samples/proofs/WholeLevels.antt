-- Ends over the divisor 1 have one level where their heights are equal.
use Rattle.std.proofs.Common.{◌≡◌, List, All, ap, ◌∙◌, sym}
use lib.IntN.{ℤ, pos, ◌*ℤ◌}
use Rattle.std.proofs.lemmas.List.Elements.{All-weaker}
use Rattle.scad_geom.specs.declared.level.Level.{Level}
use Rattle.scad_geom.specs.Level.{IsSameHeight}
use Rattle.slice_pieces.specs.declared.piece.Spot.{Spot}
use Rattle.slice_pieces.specs.declared.piece.Piece.{Piece}
use Rattle.slice_pieces.specs.Pieces.{ends_of, HaveOneLevel}
use Rattle.slice_pieces.proofs.Pairs.{of_ends}
use Rattle.scad_geom.proofs.Signs.{mul-one}

one_level : (p q : Level) → p.d ≡ pos 1 → q.d ≡ pos 1 → IsSameHeight p q → p ≡ q
one_level p q h k e =
    let n : p.n ≡ q.n = sym (mul-one p.n) ∙ ap (λ (d : ℤ). p.n *ℤ d) (sym k) ∙ e
    ∙ ap (λ (d : ℤ). q.n *ℤ d) h ∙ mul-one q.n in
    let d : p.d ≡ q.d = h ∙ sym k in
    λ i. record { n = n i; d = d i }

pub whole_levels : (pieces : List Piece) → All (λ q. q.from.at.d ≡ pos 1) pieces → All (λ q. q.to.at.d ≡ pos 1) pieces → HaveOneLevel pieces
whole_levels pieces starts ends =
    let all : All (λ (s : Spot). s.at.d ≡ pos 1) (ends_of pieces) = of_ends (λ s. s.at.d ≡ pos 1) pieces (λ k d l. (starts k d l, ends k d l)) in
    record {
      each = All-weaker (λ s. s.at.d ≡ pos 1) (λ s. All (λ t. IsSameHeight s.at t.at → s.at ≡ t.at) (ends_of pieces))
          (λ s h. All-weaker (λ t. t.at.d ≡ pos 1) (λ t. IsSameHeight s.at t.at → s.at ≡ t.at) (λ t k. one_level s.at t.at h k) (ends_of pieces) all) (ends_of pieces) all;
    }
