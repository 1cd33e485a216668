-- The lines with runs, found one after another.
use Rattle.std.proofs.Common.{◌≡◌, ◌⊎◌, inl, inr, ℕ, List, [], ◌∷◌, ◌++◌, map, sym, subst}
use Rattle.std.proofs.Common.{flat_map, arith, ℤ, pos, ◌+ℤ◌, ◌<ℤ◌}
use Rattle.std.specs.Prelude.{All, Contains}
use Rattle.std.proofs.lemmas.Int.{ints}
use Rattle.std.proofs.lemmas.List.{map-append, append-nil}
use Rattle.std.proofs.lemmas.List.Elements.{All-nil, All-head, All-tail, All-push, All-weaker, Contains-append_left}
use Rattle.std.proofs.lemmas.List.Elements.{Contains-push}
use Rattle.scad_geom.specs.declared.point.Pt.{Pt}
use Rattle.scad_geom.specs.Loop.{sides}
use Rattle.scad_geom.proofs.Rising.{order}
use Rattle.plan_infill.specs.declared.run.Run.{Run}
use Rattle.plan_infill.specs.Extent.{IsEdgeAmong}
use Rattle.plan_infill.specs.Multiple.{IsMultiple}
use Rattle.plan_infill.specs.Runs.{AreRuns}
use Rattle.plan_infill.proofs.Multiples.{multiples_apart}
use Rattle.scad_words.specs.declared.settings.Settings.{Settings}
use Rattle.plan_layer.specs.Infill.{has_rows, line_at, depth, IsLayerRun, LineRuns, IsFilled, AreUpwards, AreFilled}
use Rattle.plan_layer.specs.Infill.{line_of}
use Rattle.plan_layer.proofs.Beyond.{nothing_beyond}

-- those that lie before a coordinate
pub record FilledBefore (outlines : List (List Pt)) (layer : ℕ) (s : Settings) (place : ℤ)
    (lines : List LineRuns) : Type 0 where
  pub upwards : AreUpwards lines
  pub each : All (IsFilled outlines layer s) lines
  pub before : All (λ l. l.at <ℤ place) lines
  pub all : (z : ℤ) (r : Run) → z <ℤ place → IsMultiple s.infill_spacing z → IsLayerRun outlines layer s z r
      → Contains (map (λ (l : LineRuns). l.at) lines) z

upwards_push : (ls : List LineRuns) (l : LineRuns) → AreUpwards ls → All (λ m. m.at <ℤ l.at) ls
    → AreUpwards (ls ++ l ∷ [])
upwards_push [] l u b = (All-nil (λ m. l.at <ℤ m.at), tt)
upwards_push (k ∷ ks) l u b = (
  All-push (λ m. k.at <ℤ m.at) ks l u.0 (All-head (λ m. m.at <ℤ l.at) k ks b),
  upwards_push ks l u.1
      (All-tail (λ m. m.at <ℤ l.at) k ks b),
)

module _ (outlines : List (List Pt)) (layer : ℕ) (s : Settings) where
  module _ (low high : ℤ) (among : All (IsEdgeAmong (has_rows layer) low high) (flat_map sides outlines)) where
    run_beyond : (z : ℤ) (r : Run) → (z <ℤ low) ⊎ (high <ℤ z) → IsLayerRun outlines layer s z r → ⊥
    run_beyond z r o is =
        let long = is.long in nothing_beyond outlines layer low high z r.from o among (depth s)
        (is.deep r.from (omega (arith, ints)) (omega (arith, ints)))

    -- before the first multiple from the least coordinate on there is no line
    pub before_none : (place : ℤ) → IsMultiple s.infill_spacing place → place <ℤ (low +ℤ pos s.infill_spacing)
        → FilledBefore outlines layer s place []
    before_none place m first = record {
      upwards = tt;
      each = All-nil (IsFilled outlines layer s);
      before = All-nil (λ l. l.at <ℤ place);
      all = λ z r h n is. absurd (let a = multiples_apart s.infill_spacing z place n m h in run_beyond z r
          (inl (omega (arith, ints, a))) is);
    }

    -- behind the greatest coordinate neither
    pub before_all : (place : ℤ) (lines : List LineRuns) → high <ℤ place → FilledBefore outlines layer s place lines
        → AreFilled outlines layer s lines
    before_all place lines h f = record {
      upwards = f.upwards;
      each = f.each;
      all = λ z r n is. elim (order place z) [
        | inl o ↦ absurd (run_beyond z r (inr (omega (arith, ints))) is)
        | inr o ↦ f.all z r o n is
      ];
    }

  -- one more line
  module _ (place : ℤ) (lines : List LineRuns) (m : IsMultiple s.infill_spacing place)
      (f : FilledBefore outlines layer s place lines) where
    before_next : All (λ l. l.at <ℤ (place +ℤ pos s.infill_spacing)) lines
    before_next = All-weaker (λ l. l.at <ℤ place) (λ l. l.at <ℤ (place +ℤ pos s.infill_spacing))
        (λ l h. omega (arith, ints)) lines f.before

    -- a multiple before the next is the one that is added or one before it
    here_or_before : (z : ℤ) → IsMultiple s.infill_spacing z → z <ℤ (place +ℤ pos s.infill_spacing)
        → (z <ℤ place) ⊎ (z ≡ place)
    here_or_before z n h =
        elim (order place z) [
          | inr o ↦ inl o
          | inl o ↦ inr (elim (order z place) [
            | inl k ↦ omega (arith, ints)
            | inr k ↦ absurd (let a = multiples_apart s.infill_spacing place z m n k in omega (arith, ints, a))
          ])
        ]

    nothing_here : AreRuns outlines (depth s) (line_at layer place) s.line_width []
        → FilledBefore outlines layer s (place +ℤ pos s.infill_spacing) lines
    nothing_here none = record {
      upwards = f.upwards;
      each = f.each;
      before = before_next;
      all = λ z r h n is. elim (here_or_before z n h) [
        | inl o ↦ f.all z r o n is
        | inr e ↦ absurd (no_element r (none.all r (subst (λ (x : ℤ). IsLayerRun outlines layer s x r) e is)))
      ];
    }
      where
        no_element : (r : Run) → Contains [] r → ⊥
        no_element r c = let b = c.1 in omega arith

    one_here : (r : Run) (rs : List Run) → AreRuns outlines (depth s) (line_at layer place) s.line_width (r ∷ rs)
        → FilledBefore outlines layer s (place +ℤ pos s.infill_spacing)
        (lines ++ record { at = place; runs = r ∷ rs } ∷ [])
    one_here r rs some =
        let l : LineRuns = record { at = place; runs = r ∷ rs } in
        let spaced = m.spaced in
        record {
          upwards = upwards_push lines l f.upwards f.before;
          each = All-push (IsFilled outlines layer s) lines l f.each
              (record { multiple = m; runs = some; some = λ e. not_none e });
          before = All-push (λ k. k.at <ℤ (place +ℤ pos s.infill_spacing)) lines l before_next (omega (arith, ints));
          all = λ z q h n is. subst (λ (zs : List ℤ). Contains zs z)
              (sym (map-append (λ (k : LineRuns). k.at) lines (l ∷ [])))
              (elim (here_or_before z n h) [
                | inl o ↦ Contains-append_left (map (λ (k : LineRuns). k.at) lines) (place ∷ []) z (f.all z q o n is)
                | inr e ↦ subst (λ (x : ℤ). Contains (map (λ (k : LineRuns). k.at) lines ++ place ∷ []) x) (sym e)
                    (Contains-push (map (λ (k : LineRuns). k.at) lines) place)
              ]);
        }
      where
        not_none : r ∷ rs ≡ [] → ⊥
        not_none e = cc

    pub before_more : (rs : List Run) → AreRuns outlines (depth s) (line_at layer place) s.line_width rs
        → FilledBefore outlines layer s (place +ℤ pos s.infill_spacing) (lines ++ line_of place rs)
    before_more [] h =
        subst (λ (ls : List LineRuns). FilledBefore outlines layer s (place +ℤ pos s.infill_spacing) ls)
        (sym (append-nil lines)) (nothing_here h)
    before_more (r ∷ rs) h = one_here r rs h
