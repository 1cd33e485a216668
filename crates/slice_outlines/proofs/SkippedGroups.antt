-- Groups that are skipped.
use Rattle.std.proofs.Common.{◌≡◌, ◌⊎◌, inl, inr, ℕ, ◌+◌, ◌-◌, ◌<◌, ◌≤◌, List, [], ◌∷◌, ◌++◌, length, get_or, drop, refl, sym, ap, ap₂, ◌∙◌, subst, arith}
use Rattle.std.proofs.lemmas.List.{drop_more}
use Rattle.slice_sweep.specs.declared.change.Change.{Change}
use Rattle.slice_sweep.specs.Changes.{Group, all_below, all_above}
use Rattle.slice_outlines.specs.declared.mark.Mark.{Mark}
use Rattle.slice_outlines.specs.declared.run.Run.{Run}
use Rattle.slice_outlines.specs.declared.height.Height.{Height}
use Rattle.slice_outlines.specs.declared.groups.Passed.{Passed}
use Rattle.slice_outlines.specs.Runs.{after}
use Rattle.slice_outlines.specs.Ahead.{IsBehind, AreBetween, between, AreSkipped}
use Rattle.slice_outlines.proofs.Taking.{no_change}
use Rattle.slice_outlines.proofs.ChangesAhead.{first_equal, AllStay, NextChanges, next_or_none}
use Rattle.slice_outlines.proofs.NextGroup.{group_sizes, group_place, between_past}
use Rattle.slice_outlines.proofs.Passage.{only_below, only_above, IsNext}

none_there : (xs : List Mark) → length xs ≡ 0 → xs ≡ []
none_there [] e = refl
none_there (x ∷ xs) e = absurd (omega (arith, e))

module _ (h : Height) (ms : List Mark) (cs : List Change) (p : Passed) (limit : Run) (b : AreBetween h ms cs p limit)
    (r : Run) (o : p.count < length cs) (is : r ≡ after p.last (get_or cs p.count no_change)) where
  abbrev d : Change
  d = get_or cs p.count no_change

  here : drop p.count cs ≡ d ∷ drop (p.count + 1) cs
  here = drop_more cs p.count no_change o

  next_is : (x : NextChanges h b.rest b.above (drop p.count cs) b.groups (drop b.below h.below.now) (drop b.above ms))
      → (r ≡ after p.last x.change) × (x.later ≡ drop (p.count + 1) cs)
  next_is x =
      let same : d ∷ drop (p.count + 1) cs ≡ x.change ∷ x.later = sym here ∙ x.changes in
      (is ∙ ap (after p.last) (first_equal d x.change (drop (p.count + 1) cs) x.later same), sym (ap (drop 1) same))

  pub skip_next : (limit.below ≤ r.below → limit.above ≤ r.above → ⊥) → IsNext h ms cs p limit b r
  skip_next away =
      by_case (next_or_none h b.rest b.above (drop p.count cs) b.groups (drop b.below h.below.now)
      (drop b.above ms) b.ahead)
    where
      by_case : AllStay b.rest (drop p.count cs) b.groups (drop b.below h.below.now) (drop b.above ms)
          ⊎ NextChanges h b.rest b.above (drop p.count cs) b.groups (drop b.below h.below.now) (drop b.above ms)
          → IsNext h ms cs p limit b r
      by_case (inr x) = (x, (next_is x).0, (next_is x).1)
      by_case (inl x) =
          let behind : IsBehind limit (d ∷ drop (p.count + 1) cs) = subst (IsBehind limit) (sym x.last
          ∙ here) b.behind in
          let from = behind.0 in
          let low : b.below + length x.bundles ≡ limit.below =
          ap (λ (j : ℕ). b.below + j) (sym (ap (λ (gs : List Group). length (all_below gs)) x.groups
          ∙ ap length (only_below x.bundles))) ∙ b.to_below in
          let up : b.above + length x.bundles ≡ limit.above =
          ap (λ (j : ℕ). b.above + j) (sym (ap (λ (gs : List Group). length (all_above gs)) x.groups
          ∙ ap length (only_above x.bundles))) ∙ b.to_above in
          let alike = b.alike in
          let from_above = b.from_above in
          let below : r.below ≡ p.last.below_to + (d.from - p.last.above_to) = ap (λ (u : Run). u.below) is in
          let above : r.above ≡ d.from = ap (λ (u : Run). u.above) is in
          absurd (away (omega (arith, below, from, low, up, alike, from_above)) (omega (arith, above, from)))

  pub skip_end : limit.below ≤ r.below → limit.above ≤ r.above
      → AllStay b.rest (drop p.count cs) b.groups (drop b.below h.below.now) (drop b.above ms)
  skip_end low up =
      by_case (next_or_none h b.rest b.above (drop p.count cs) b.groups (drop b.below h.below.now)
      (drop b.above ms) b.ahead)
    where
      by_case : AllStay b.rest (drop p.count cs) b.groups (drop b.below h.below.now) (drop b.above ms)
          ⊎ NextChanges h b.rest b.above (drop p.count cs) b.groups (drop b.below h.below.now) (drop b.above ms)
          → AllStay b.rest (drop p.count cs) b.groups (drop b.below h.below.now) (drop b.above ms)
      by_case (inl x) = x
      by_case (inr x) =
          let place = group_place h ms cs p limit b x r (next_is x).0 in
          let sizes = group_sizes h ms cs p limit b x in
          let below = place.below in
          let above = place.above in
          let to_below = sizes.0 in
          let to_above = sizes.1 in
          let gone : length x.gone ≡ 0 = let g = x.gone_size in omega (arith, low, below, to_below, g) in
          let come : length x.come ≡ 0 = let g = x.come_size in omega (arith, up, above, to_above, g) in
          absurd (x.some (ap₂ (λ (us vs : List Mark). us ++ vs) (none_there x.gone gone) (none_there x.come come)))

-- so far as changes are skipped
abbrev pub IsSkipped : List Change → Run → Passed → Passed → Type 0
IsSkipped cs limit start p = (h : Height) (ms : List Mark) (w : AreBetween h ms cs start limit)
    → (b : AreBetween h ms cs p limit) × (b.rest ≡ w.rest)

pub skip_more : (cs : List Change) (limit : Run) (start p q : Passed) (r : Run) → p.count < length cs
    → r ≡ after p.last (get_or cs p.count no_change) → (limit.below ≤ r.below → limit.above ≤ r.above → ⊥)
    → q.last ≡ r → q.count ≡ p.count + 1 → IsSkipped cs limit start p → IsSkipped cs limit start q
unfolding between_past
skip_more cs limit start p q r o is away last count so_far h ms w =
    let b = so_far h ms w in
    let x = skip_next h ms cs p limit b.0 r o is away in (
      between_past h ms cs p limit b.0 x.0 r x.1 ms refl refl q last
          (x.2 ∙ ap (λ (n : ℕ). drop n cs) (sym count)),
      b.1,
    )

pub all_skipped : (cs : List Change) (run : Run) (start p : Passed) (h : Height) (ms : List Mark)
    (w : AreBetween h ms cs start (between run.below_to run.above_to))
    (b : AreBetween h ms cs p (between run.below_to run.above_to)) → b.rest ≡ w.rest
    → AllStay b.rest (drop p.count cs) b.groups (drop b.below h.below.now) (drop b.above ms)
    → AreSkipped cs w.rest run p
all_skipped cs run start p h ms w b e x =
    let below : b.below + length x.bundles ≡ run.below_to =
    ap (λ (j : ℕ). b.below + j) (sym (ap (λ (gs : List Group). length (all_below gs)) x.groups
    ∙ ap length (only_below x.bundles))) ∙ b.to_below in
    let above : b.above + length x.bundles ≡ run.above_to =
    ap (λ (j : ℕ). b.above + j) (sym (ap (λ (gs : List Group). length (all_above gs)) x.groups
    ∙ ap length (only_above x.bundles))) ∙ b.to_above in
    let from_below = b.from_below in
    let from_above = b.from_above in
    let alike = b.alike in
    record {
      later = x.last ∙ e;
      from_below = omega (arith, below, from_below);
      from_above = omega (arith, above, from_above);
      alike = omega (arith, below, above, alike);
    }
