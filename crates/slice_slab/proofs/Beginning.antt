-- The steps of the loop over starts, and what sorting them gives.
use Rattle.std.proofs.Common.{◌≡◌, ℕ, zero, suc, ◌+◌, ◌<◌, Bool, true, false, List, [], ◌∷◌, length, get_or, drop, sym, ap, ◌∙◌, arith, add-one}
use Rattle.std.specs.Prelude.{int_lt, if◌then◌else◌}
use Rattle.std.specs.Cmp.{IsStrictWeakOrder}
use Rattle.std.specs.List.Sorted.{IsSortedBy}
use Rattle.std.proofs.lemmas.Int.{ints}
use Rattle.std.proofs.lemmas.List.{drop_more, get_or_default}
use Rattle.scad_geom.specs.declared.level.Level.{Level}
use Rattle.slice_bundles.specs.declared.start.Start.{Start}
use Rattle.slice_bundles.specs.Starts.{AreRising, is_begun, begun_at, pending_at}

-- ---- sorted starts
abbrev pub starts_first : Start → Start → Bool
starts_first s t = int_lt s.y t.y

pub start_order : IsStrictWeakOrder starts_first
start_order = record {
  one_way = λ s t h. sym (omega (arith, ints));
  chain = λ s t u h k. sym (omega (arith, ints));
}

rising_by : (ss : List Start) → ((k : ℕ) (d : Start) → suc k < length ss
    → starts_first (get_or ss (suc k) d) (get_or ss k d) ≡ false) → AreRising ss
rising_by [] h = tt
rising_by (s ∷ []) h = tt
rising_by (s ∷ (t ∷ ss)) h =
    let q : starts_first t s ≡ false = h zero s (omega arith) in
    (omega (arith, ints), rising_by (t ∷ ss) (λ k d b. h (suc k) d (omega arith)))

pub rising_from : (ss : List Start) → IsSortedBy starts_first ss → AreRising ss
rising_from ss h = rising_by ss (λ k d b. let t : starts_first (get_or ss (k + 1) d) (get_or ss k d) ≡ false = h k d (omega arith) (omega arith) in rw add-one at t)

-- ---- a start that has begun, and one that hasn't
module _ (at : Level) (ss : List Start) (i : ℕ) (s : Start) (there : i < length ss) (read : s ≡ get_or ss i s) where
  here : drop i ss ≡ s ∷ drop (i + 1) ss
  here = drop_more ss i s there ∙ ap (λ (t : Start). t ∷ drop (i + 1) ss) (sym read)

  pub read_again : (t : Start) → get_or ss i t ≡ s
  read_again t = get_or_default ss i t s there ∙ sym read

  module _ (begun : is_begun at s ≡ true) where
    pub begun_on : begun_at at (drop i ss) ≡ s ∷ begun_at at (drop (i + 1) ss)
    begun_on = ap (begun_at at) here
        ∙ ap (λ (b : Bool). if b then s ∷ begun_at at (drop (i + 1) ss) else []) begun

    pub pending_on : pending_at at (drop i ss) ≡ pending_at at (drop (i + 1) ss)
    pending_on = ap (pending_at at) here
        ∙ ap (λ (b : Bool). if b then pending_at at (drop (i + 1) ss) else s ∷ drop (i + 1) ss) begun

  module _ (later : is_begun at s ≡ false) where
    pub begun_until : begun_at at (drop i ss) ≡ []
    begun_until = ap (begun_at at) here
        ∙ ap (λ (b : Bool). if b then s ∷ begun_at at (drop (i + 1) ss) else []) later

    pub pending_from : pending_at at (drop i ss) ≡ drop i ss
    pending_from = ap (pending_at at) here
        ∙ ap (λ (b : Bool). if b then pending_at at (drop (i + 1) ss) else s ∷ drop (i + 1) ss) later ∙ sym here
