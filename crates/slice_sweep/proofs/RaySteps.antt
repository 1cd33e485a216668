-- The steps of the loop that puts rays into bundles.
use Rattle.std.proofs.Common.{◌≡◌, ℕ, zero, suc, ◌+◌, ◌<◌, Bool, true, false, not, List, [], ◌∷◌, ◌++◌, length, get_or, drop, refl, sym, ap, ◌∙◌, arith, add-one, append_assoc}
use Rattle.std.specs.Prelude.{if◌then◌else◌}
use Rattle.slice_bundles.specs.Joined.{joined, prefixed}
use Rattle.slice_bundles.proofs.Joined.{prefixed-nil, prefixed-joined}
use Rattle.slice_sweep.specs.declared.ray.Ray.{Ray}
use Rattle.slice_sweep.specs.Rays.{is_parallel, bundles_of, ends_bundle}

pub last_ends : (rs : List Ray) (i : ℕ) → i + 1 ≡ length rs → ends_bundle rs i ≡ true
last_ends [] i h = absurd (omega arith)
last_ends (r ∷ []) i h = refl
last_ends (r ∷ (s ∷ rs)) zero h = absurd (omega arith)
last_ends (r ∷ (s ∷ rs)) (suc i) h = last_ends (s ∷ rs) i (omega arith)

pub next_ends : (rs : List Ray) (i : ℕ) (d e : Ray) → suc i < length rs → ends_bundle rs i
    ≡ not (is_parallel (get_or rs i d) (get_or rs (suc i) e))
next_ends [] i d e h = absurd (omega arith)
next_ends (x ∷ []) i d e h = absurd (omega arith)
next_ends (x ∷ (y ∷ rs)) zero d e h = refl
next_ends (x ∷ (y ∷ rs)) (suc i) d e h = next_ends (y ∷ rs) i d e (omega arith)

has_first : (r : Ray) (rs : List Ray)
    → (b : List ℕ) × (bs : List (List ℕ)) × (bundles_of (r ∷ rs) ≡ b ∷ bs)
has_first r [] = (r.number ∷ [], [], refl)
has_first r (s ∷ rs) = by_test (is_parallel r s) (has_first s rs)
  where
    by_test : (t : Bool) → ((b : List ℕ) × (bs : List (List ℕ)) × (bundles_of (s ∷ rs) ≡ b ∷ bs))
        → (b : List ℕ) × (bs : List (List ℕ))
        × ((if t then joined r.number (bundles_of (s ∷ rs)) else (r.number ∷ []) ∷ bundles_of (s ∷ rs)) ≡ b
        ∷ bs)
    by_test true h = (r.number ∷ h.0, h.1, ap (joined r.number) h.2)
    by_test false h = (r.number ∷ [], bundles_of (s ∷ rs), refl)

-- a ray that ends its bundle
pub ended : (ks : List ℕ) (rs : List Ray) (i : ℕ) (d : Ray) → i < length rs → ends_bundle rs i ≡ true
    → prefixed ks (bundles_of (drop i rs)) ≡ (ks ++ ((get_or rs i d).number ∷ []))
    ∷ bundles_of (drop (suc i) rs)
ended ks [] i d h e = absurd (omega arith)
ended ks (r ∷ []) zero d h e = refl
ended ks (r ∷ []) (suc i) d h e = absurd (omega arith)
ended ks (r ∷ (s ∷ rs)) zero d h e = by_test (is_parallel r s) e
  where
    by_test : (t : Bool) → not t ≡ true → prefixed ks (if t then joined r.number (bundles_of (s ∷ rs)) else
        (r.number ∷ []) ∷ bundles_of (s ∷ rs)) ≡ (ks ++ (r.number ∷ [])) ∷ bundles_of (s ∷ rs)
    by_test true e = cc
    by_test false e = refl
ended ks (r ∷ (s ∷ rs)) (suc i) d h e = ended ks (s ∷ rs) i d (omega arith) e

-- one that doesn't
pub continued : (ks : List ℕ) (rs : List Ray) (i : ℕ) (d : Ray) → i < length rs
    → ends_bundle rs i ≡ false
    → prefixed ks (bundles_of (drop i rs)) ≡ prefixed (ks ++ ((get_or rs i d).number ∷ []))
    (bundles_of (drop (suc i) rs))
continued ks [] i d h e = absurd (omega arith)
continued ks (r ∷ []) i d h e = cc
continued ks (r ∷ (s ∷ rs)) zero d h e = by_test (is_parallel r s) e (has_first s rs)
  where
    by_test : (t : Bool) → not t ≡ false
        → ((b : List ℕ) × (bs : List (List ℕ)) × (bundles_of (s ∷ rs) ≡ b ∷ bs))
        → prefixed ks (if t then joined r.number (bundles_of (s ∷ rs)) else (r.number ∷ [])
        ∷ bundles_of (s ∷ rs))
        ≡ prefixed (ks ++ (r.number ∷ [])) (bundles_of (s ∷ rs))
    by_test true e h = rw h.2 (prefixed-joined ks r.number h.0 h.1)
    by_test false e h = cc
continued ks (r ∷ (s ∷ rs)) (suc i) d h e = continued ks (s ∷ rs) i d (omega arith) e

-- the loop's steps
pub close_step : (out : List (List ℕ)) (ks : List ℕ) (rs : List Ray) (i : ℕ) (d : Ray)
    (whole : List (List ℕ))
    → i < length rs → ends_bundle rs i ≡ true → out ++ prefixed ks (bundles_of (drop i rs)) ≡ whole
    → (out ++ ((ks ++ ((get_or rs i d).number ∷ [])) ∷ [])) ++ prefixed [] (bundles_of (drop (i + 1) rs))
    ≡ whole
close_step out ks rs i d whole h e w =
    rw (add-one, prefixed-nil (bundles_of (drop (suc i) rs)))
    (append_assoc out ((ks ++ ((get_or rs i d).number ∷ [])) ∷ []) (bundles_of (drop (suc i) rs)) ∙ ap
    (λ (xs : List (List ℕ)). out ++ xs) (sym (ended ks rs i d h e)) ∙ w)

pub open_step : (out : List (List ℕ)) (ks : List ℕ) (rs : List Ray) (i : ℕ) (d : Ray)
    (whole : List (List ℕ))
    → i < length rs → ends_bundle rs i ≡ false → out ++ prefixed ks (bundles_of (drop i rs)) ≡ whole
    → out ++ prefixed (ks ++ ((get_or rs i d).number ∷ [])) (bundles_of (drop (i + 1) rs)) ≡ whole
open_step out ks rs i d whole h e w = rw add-one
    (ap (λ (xs : List (List ℕ)). out ++ xs) (sym (continued ks rs i d h e))
    ∙ w)
