-- The steps of the loops over edges and passages.
use Rattle.std.proofs.Common.{◌≡◌, ℕ, zero, suc, ◌+◌, ◌<◌, Bool, true, false, not, List, [], ◌∷◌, ◌++◌, length, get_or, drop, refl, sym, ap, ◌∙◌, arith, add-one, append_assoc}
use Rattle.std.specs.Prelude.{if◌then◌else◌}
use Rattle.scad_geom.specs.declared.level.Level.{Level}
use Rattle.scad_geom.specs.declared.level.LeafEdge.{LeafEdge}
use Rattle.slice_slab.specs.declared.passage.Passage.{Passage}
use Rattle.slice_bundles.specs.Bundles.{edge_at, reaches, reaching}
use Rattle.slice_bundles.specs.Joined.{joined, prefixed}
use Rattle.slice_bundles.proofs.Joined.{prefixed-nil, prefixed-joined}
use Rattle.slice_slab.specs.Passages.{is_aligned, bundles_of, ends_bundle}

reaching_at : (k : ℕ) (es : List LeafEdge) (i : ℕ) (l u : Level) → i < length es
    → reaching k (drop i es) l u ≡ (if reaches (edge_at es i) l u then k
    ∷ reaching (k + 1) (drop (suc i) es) l u else
    reaching (k + 1) (drop (suc i) es) l u)
reaching_at k [] i l u h = absurd (omega arith)
reaching_at k (e ∷ es) zero l u h = refl
reaching_at k (e ∷ es) (suc i) l u h = reaching_at k es i l u (omega arith)

pub reaching_yes : (es : List LeafEdge) (i : ℕ) (l u : Level) → i < length es
    → reaches (edge_at es i) l u ≡ true
    → reaching i (drop i es) l u ≡ i ∷ reaching (i + 1) (drop (i + 1) es) l u
reaching_yes es i l u h e = reaching_at i es i l u h ∙ rw (e, add-one) refl

pub reaching_no : (es : List LeafEdge) (i : ℕ) (l u : Level) → i < length es
    → reaches (edge_at es i) l u ≡ false → reaching i (drop i es) l u ≡ reaching (i + 1) (drop (i + 1) es) l u
reaching_no es i l u h e = reaching_at i es i l u h ∙ rw (e, add-one) refl

pub last_ends : (ps : List Passage) (i : ℕ) → i + 1 ≡ length ps → ends_bundle ps i ≡ true
last_ends [] i h = absurd (omega arith)
last_ends (p ∷ []) i h = refl
last_ends (p ∷ (q ∷ ps)) zero h = absurd (omega arith)
last_ends (p ∷ (q ∷ ps)) (suc i) h = last_ends (q ∷ ps) i (omega arith)

pub next_ends : (ps : List Passage) (i : ℕ) (d e : Passage) → suc i < length ps → ends_bundle ps i
    ≡ not (is_aligned (get_or ps i d) (get_or ps (suc i) e))
next_ends [] i d e h = absurd (omega arith)
next_ends (x ∷ []) i d e h = absurd (omega arith)
next_ends (x ∷ (y ∷ ps)) zero d e h = refl
next_ends (x ∷ (y ∷ ps)) (suc i) d e h = next_ends (y ∷ ps) i d e (omega arith)

has_first : (p : Passage) (ps : List Passage)
    → (b : List ℕ) × (bs : List (List ℕ)) × (bundles_of (p ∷ ps) ≡ b ∷ bs)
has_first p [] = (p.number ∷ [], [], refl)
has_first p (q ∷ ps) = by_test (is_aligned p q) (has_first q ps)
  where
    by_test : (t : Bool) → ((b : List ℕ) × (bs : List (List ℕ)) × (bundles_of (q ∷ ps) ≡ b ∷ bs))
        → (b : List ℕ) × (bs : List (List ℕ))
        × ((if t then joined p.number (bundles_of (q ∷ ps)) else (p.number ∷ []) ∷ bundles_of (q ∷ ps)) ≡ b
        ∷ bs)
    by_test true r = (p.number ∷ r.0, r.1, ap (joined p.number) r.2)
    by_test false r = (p.number ∷ [], bundles_of (q ∷ ps), refl)

-- a passage that ends its bundle
pub ended : (ks : List ℕ) (ps : List Passage) (i : ℕ) (d : Passage) → i < length ps → ends_bundle ps i ≡ true
    → prefixed ks (bundles_of (drop i ps)) ≡ (ks ++ ((get_or ps i d).number ∷ []))
    ∷ bundles_of (drop (suc i) ps)
ended ks [] i d h e = absurd (omega arith)
ended ks (p ∷ []) zero d h e = refl
ended ks (p ∷ []) (suc i) d h e = absurd (omega arith)
ended ks (p ∷ (q ∷ ps)) zero d h e = by_test (is_aligned p q) e
  where
    by_test : (t : Bool) → not t ≡ true → prefixed ks (if t then joined p.number (bundles_of (q ∷ ps)) else
        (p.number ∷ []) ∷ bundles_of (q ∷ ps)) ≡ (ks ++ (p.number ∷ [])) ∷ bundles_of (q ∷ ps)
    by_test true e = cc
    by_test false e = refl
ended ks (p ∷ (q ∷ ps)) (suc i) d h e = ended ks (q ∷ ps) i d (omega arith) e

-- one that doesn't
pub continued : (ks : List ℕ) (ps : List Passage) (i : ℕ) (d : Passage) → i < length ps
    → ends_bundle ps i ≡ false
    → prefixed ks (bundles_of (drop i ps)) ≡ prefixed (ks ++ ((get_or ps i d).number ∷ []))
    (bundles_of (drop (suc i) ps))
continued ks [] i d h e = absurd (omega arith)
continued ks (p ∷ []) i d h e = cc
continued ks (p ∷ (q ∷ ps)) zero d h e = by_test (is_aligned p q) e (has_first q ps)
  where
    by_test : (t : Bool) → not t ≡ false
        → ((b : List ℕ) × (bs : List (List ℕ)) × (bundles_of (q ∷ ps) ≡ b ∷ bs))
        → prefixed ks (if t then joined p.number (bundles_of (q ∷ ps)) else (p.number ∷ [])
        ∷ bundles_of (q ∷ ps))
        ≡ prefixed (ks ++ (p.number ∷ [])) (bundles_of (q ∷ ps))
    by_test true e r = rw r.2 (prefixed-joined ks p.number r.0 r.1)
    by_test false e r = cc
continued ks (p ∷ (q ∷ ps)) (suc i) d h e = continued ks (q ∷ ps) i d (omega arith) e

-- the loop's steps
pub close_step : (out : List (List ℕ)) (ks : List ℕ) (ps : List Passage) (i : ℕ) (d : Passage)
    (whole : List (List ℕ))
    → i < length ps → ends_bundle ps i ≡ true → out ++ prefixed ks (bundles_of (drop i ps)) ≡ whole
    → (out ++ ((ks ++ ((get_or ps i d).number ∷ [])) ∷ [])) ++ prefixed [] (bundles_of (drop (i + 1) ps))
    ≡ whole
close_step out ks ps i d whole h e w =
    rw (add-one, prefixed-nil (bundles_of (drop (suc i) ps)))
    (append_assoc out ((ks ++ ((get_or ps i d).number ∷ [])) ∷ []) (bundles_of (drop (suc i) ps)) ∙ ap
    (λ (xs : List (List ℕ)). out ++ xs) (sym (ended ks ps i d h e)) ∙ w)

pub open_step : (out : List (List ℕ)) (ks : List ℕ) (ps : List Passage) (i : ℕ) (d : Passage)
    (whole : List (List ℕ))
    → i < length ps → ends_bundle ps i ≡ false → out ++ prefixed ks (bundles_of (drop i ps)) ≡ whole
    → out ++ prefixed (ks ++ ((get_or ps i d).number ∷ [])) (bundles_of (drop (i + 1) ps)) ≡ whole
open_step out ks ps i d whole h e w = rw add-one
    (ap (λ (xs : List (List ℕ)). out ++ xs) (sym (continued ks ps i d h e))
    ∙ w)

pub start_step : (ps : List Passage) → [] ++ prefixed [] (bundles_of (drop 0 ps)) ≡ bundles_of ps
start_step ps = prefixed-nil (bundles_of ps)
