-- The passes of a new board come of splits alone.
use Rattle.std.proofs.Common.{◌≡◌, ℕ, zero, suc, ◌+◌, ◌-◌, ◌≤◌, List, [], ◌∷◌, ◌++◌, replicate, sym, refl, ap, ◌∙◌, subst, arith, Contains, map, length}
use Rattle.std.proofs.lemmas.List.{map-append}
use Rattle.layer_board.specs.declared.view.View.{View}
use Rattle.layer_board.specs.declared.board.Board.{Board}
use Rattle.layer_board.specs.declared.board.Pass.{Pass}
use Rattle.layer_board.specs.Pass.{empty, opened, gives, given}
use Rattle.layer_board.specs.Events.{BoardState, Event, Split, opening, Allowed, after, Runs, IsEmpty}
use Rattle.layer_board.specs.Calls.{view, IsOf, IsFresh, AreSplit, AreDealt}

-- one more event at the end
runs_more : (es : List Event) (e : Event) (s t : BoardState) → Runs es s t → Allowed e t
    → Runs (es ++ e ∷ []) s (after e t)
runs_more [] e s t r a = (subst (Allowed e) r a, ap (after e) r)
runs_more (d ∷ es) e s t r a = (r.0, runs_more es e (after d s) t r.1 a)

replicate_more : (n : ℕ) (e : Event) → replicate n e ++ e ∷ [] ≡ replicate (suc n) e
replicate_more zero e = refl
replicate_more (suc n) e = ap (λ es. e ∷ es) (replicate_more n e)

split_more : (c n : ℕ) (v : View) (vs : List View) → AreSplit c n v vs → Contains v.members 0 → IsEmpty v
    → AreSplit c (suc n) (gives v) (vs ++ given v ∷ [])
split_more c n v vs r first nothing =
    subst (λ es. Runs es (opening c) (record { next = 0; least = c; passes = gives v ∷ (vs ++ given v ∷ []) }))
    (replicate_more n (Split 0))
    (runs_more (replicate n (Split 0)) (Split 0) (opening c) (record { next = 0; least = c; passes = v ∷ vs }) r
    (first, nothing))

-- the loop's step, where the first pass is the opened one but for the numbers given
pub deals_more : (c made : ℕ) (v w : View) (ps : List Pass) (p : Pass) → 1 ≤ made
    → v ≡ record (opened c) { given = made } → w ≡ gives v → view p ≡ given v
    → AreSplit c (made - 1) v (map view ps) → AreSplit c (made + 1 - 1) w (map view (ps ++ p ∷ []))
deals_more c made v w ps p some e new other r =
    let first : Contains v.members 0 = subst (λ (x : View). Contains x.members 0) (sym e) (0, omega arith, refl) in
    let nothing : IsEmpty v = subst IsEmpty (sym e) (record {
      drawn = refl;
      pending = refl;
      finished = refl;
      failed =
          refl;
      skipped = refl;
    }) in
    let more : AreSplit c (suc (made - 1)) (gives v) (map view ps ++ given v ∷ []) = split_more c (made - 1) v
    (map view ps) r first nothing in
    let count : suc (made - 1) ≡ made + 1 - 1 = omega arith in
    let items : map view ps ++ given v ∷ [] ≡ map view (ps ++ p ∷ []) = ap (λ x. map view ps ++ x ∷ []) (sym other) ∙
    sym (map-append view ps (p ∷ [])) in
    subst (λ us. AreSplit c (made + 1 - 1) w us) items
    (subst (λ x. AreSplit c (made + 1 - 1) x (map view ps ++ given v ∷ [])) (sym new)
    (subst (λ m. AreSplit c m (gives v) (map view ps ++ given v ∷ [])) count more))

pub deals_all : (c made workers : ℕ) (v : View) (ps : List Pass) (p : Pass) → made ≡ workers → view p ≡ v
    → AreSplit c (made - 1) v (map view ps) → AreDealt c workers (map view (ps ++ p ∷ []))
deals_all c made workers v ps p e same r = (
  v,
  map view ps,
  map-append view ps (p ∷ []) ∙ ap (λ x. map view ps ++ x ∷ []) same,
  subst
      (λ m. AreSplit c (m - 1) v (map view ps)) e r,
)

-- a pass with one member that has drawn nothing
pub fresh_as : (b : Board) (p : Pass) (c k m : ℕ) → IsOf b p → view p ≡ empty c k (m ∷ []) → IsFresh b p
fresh_as b p c k m of' e = record {
  «of» = of';
  member = ap (λ (u : View). length u.members) e;
  nothing = record {
    drawn = ap (λ (u : View). u.drawn) e;
    pending = ap (λ (u : View). u.pending) e;
    finished = ap (λ (u : View). u.finished) e;
    failed = ap (λ (u : View). u.failed) e;
    skipped = ap (λ (u : View). u.skipped) e;
  };
  ended = ap (λ (u : View). u.ended) e;
}
