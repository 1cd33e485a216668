-- Opposite edges can be cancelled, whatever the edges.
use Rattle.std.proofs.Common.{◌≡◌, ℕ, zero, suc, Bool, true, false, true≢false, ◌⊎◌, inl, inr, List, [], ◌∷◌, ◌++◌, All}
use Rattle.std.proofs.Common.{refl, sym, ap, ◌∙◌, subst, arith, append_assoc, append-nil}
use Rattle.std.specs.Prelude.{remove}
use Rattle.std.proofs.lemmas.List.Elements.{All-nil, All-cons}
use Rattle.scad_geom.specs.declared.point.Edge.{Edge}
use Rattle.scad_geom.proofs.Places.{same_edge, same_edge_then_equal, same_edge_itself}
use Rattle.winding_laws.specs.Edges.{turned}
use Rattle.slice_pieces.specs.Cancelling.{AreCancelled, IsOppositeAt}
use Rattle.slice_pieces.proofs.Opposite.{leaves_nothing, leaves_fewer, leaves_one_more}

-- ---- the opposite of an edge is there or not
record HasOpposite (e : Edge) (es : List Edge) : Type 0 where
  place : ℕ
  opposite : IsOppositeAt e es place

abbrev HasNone : Edge → List Edge → Type 0
HasNone e es = All (λ f. f ≡ turned e → ⊥) es

opposite_in : (e : Edge) (es : List Edge) → HasOpposite e es ⊎ HasNone e es
opposite_in e [] = inr (All-nil (λ f. f ≡ turned e → ⊥))
opposite_in e (f ∷ es) = by_test (same_edge f (turned e)) refl (opposite_in e es)
  where
    differ : same_edge f (turned e) ≡ false → f ≡ turned e → ⊥
    differ t s = true≢false (sym (same_edge_itself (turned e)) ∙ ap (λ (g : Edge). same_edge g (turned e)) (sym s) ∙ t)

    here : same_edge f (turned e) ≡ true → IsOppositeAt e (f ∷ es) zero
    here t = record { there = omega arith; opposite = λ d. same_edge_then_equal f (turned e) t }

    further : (h : HasOpposite e es) → IsOppositeAt e (f ∷ es) (suc h.place)
    further h = let l = h.opposite.there in record { there = omega arith; opposite = h.opposite.opposite }

    by_test : (b : Bool) → same_edge f (turned e) ≡ b → HasOpposite e es ⊎ HasNone e es
        → HasOpposite e (f ∷ es) ⊎ HasNone e (f ∷ es)
    by_test true t r = inl (record { place = zero; opposite = here t })
    by_test false t (inl h) = inl (record { place = suc h.place; opposite = further h })
    by_test false t (inr none) = inr (All-cons (λ g. g ≡ turned e → ⊥) f es (differ t) none)

-- ---- one edge after another
pub record HasCancelled (es : List Edge) : Type 0 where
  pub left : List Edge
  pub cancelled : AreCancelled es left

and_one : (es : List Edge) (e : Edge) → HasCancelled es → HasCancelled (es ++ (e ∷ []))
and_one es e h = by_cases (opposite_in e h.left)
  where
    by_cases : HasOpposite e h.left ⊎ HasNone e h.left → HasCancelled (es ++ (e ∷ []))
    by_cases (inl o) = record {
      left = remove h.left o.place;
      cancelled = leaves_fewer es h.left o.place e h.cancelled o.opposite;
    }
    by_cases (inr none) = record {
      left = h.left ++ (e ∷ []);
      cancelled = leaves_one_more es h.left e h.cancelled none;
    }

and_more : (es fs : List Edge) → HasCancelled es → HasCancelled (es ++ fs)
and_more es [] h = subst HasCancelled (sym (append-nil es)) h
and_more es (f ∷ fs) h =
    subst HasCancelled (append_assoc es (f ∷ []) fs) (and_more (es ++ (f ∷ [])) fs (and_one es f h))

pub edges_cancelled : (es : List Edge) → HasCancelled es
edges_cancelled es = and_more [] es (record { left = []; cancelled = leaves_nothing })
