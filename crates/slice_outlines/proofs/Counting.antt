-- Changes that are counted, one after another.
use Rattle.std.proofs.Common.{◌≡◌, ℕ, zero, suc, ◌+◌, ◌^◌, ◌<◌, ◌≤◌, List, [], ◌∷◌, length, get_or, drop, refl, sym, ap, ◌∙◌, subst, arith, add-one, length-append}
use Rattle.std.proofs.lemmas.List.{drop_more}
use Rattle.slice_sweep.specs.declared.change.Change.{Change}
use Rattle.slice_sweep.specs.Changes.{Group, all_below, all_above, Tell}
use Rattle.slice_sweep.specs.Changes.Tell.{stays, changes}
use Rattle.slice_outlines.specs.declared.run.Run.{Run}
use Rattle.slice_outlines.specs.declared.groups.Passed.{Passed}
use Rattle.slice_outlines.specs.Runs.{first, after, run_of}
use Rattle.slice_outlines.specs.Heights.{IsCountOf}
use Rattle.slice_outlines.specs.Arrival.{CanCount}
use Rattle.slice_outlines.proofs.Taking.{no_change}

-- ---- past a change
record Past (n : ℕ) (c : Change) (cs : List Change) (gs : List Group) : Type 0 where
  right : List Group
  told : Tell (c.from + c.come) cs right
  from : n ≤ c.from
  lower : length (all_below gs) + n ≡ c.from + c.gone + length (all_below right)
  upper : length (all_above gs) + n ≡ c.from + c.come + length (all_above right)

past : (n : ℕ) (c : Change) (cs : List Change) (gs : List Group) → Tell n (c ∷ cs) gs → Past n c cs gs
past n c cs gs (stays m ds b hs t) =
    let p : Past (n + 1) c cs hs = past (n + 1) c cs hs t in
    let from = p.from in
    let lower = p.lower in
    let upper = p.upper in
    record {
      right = p.right;
      told = p.told;
      from = omega (arith, from);
      lower = omega (arith, lower);
      upper = omega (arith, upper);
    }
past n c cs gs (changes d ds g hs e f t) = record {
  right = hs;
  told = t;
  from = omega arith;
  lower = omega (arith, e, length-append g.below (all_below hs));
  upper = omega (arith, f, length-append g.above (all_above hs));
}

-- ---- what is left behind a run
record IsLeft (below above : ℕ) (cs : List Change) (done : Run) : Type 0 where
  right : List Group
  told : Tell done.above_to cs right
  lower : length (all_below right) + done.below_to ≡ below
  upper : length (all_above right) + done.above_to ≡ above

left_after : (below above n : ℕ) (cs : List Change) (done : Run) → IsLeft below above cs done → n ≤ length cs
    → IsLeft below above (drop n cs) (run_of done n cs)
left_after below above zero cs done h o = h
left_after below above (suc n) [] done h o = absurd (omega arith)
left_after below above (suc n) (c ∷ cs) done h o =
    let p : Past done.above_to c cs h.right = past done.above_to c cs h.right h.told in
    let from = p.from in
    let lower = p.lower in
    let upper = p.upper in
    let lower' = h.lower in
    let upper' = h.upper in
    left_after below above n cs (after done c) (record {
      right = p.right;
      told = p.told;
      lower = omega (arith, from, lower, lower');
      upper = omega (arith, upper, upper');
    }) (omega arith)

pub record Fits (c : Change) (done : Run) : Type 0 where
  pub later : done.above_to ≤ c.from
  pub sizes : done.below_to + c.from + c.gone + c.come < 2 ^ 64

pub next_fits : (cs : List Change) (p : Passed) → IsCountOf cs p → CanCount cs → p.count < length cs
    → Fits (get_or cs p.count no_change) p.last
next_fits cs p k t o =
    let start : IsLeft (length (all_below t.groups)) (length (all_above t.groups)) cs first = record {
      right = t.groups;
      told = t.told;
      lower = omega arith;
      upper = omega arith;
    } in
    let h = left_after (length (all_below t.groups)) (length (all_above t.groups)) p.count cs first start
    (omega (arith, o)) in
    let here : IsLeft (length (all_below t.groups)) (length (all_above t.groups))
    (get_or cs p.count no_change ∷ drop (p.count + 1) cs) p.last =
    subst (λ (r : Run). IsLeft (length (all_below t.groups)) (length (all_above t.groups))
    (get_or cs p.count no_change ∷ drop (p.count + 1) cs) r) (sym k.last)
    (subst (λ (ds : List Change). IsLeft (length (all_below t.groups)) (length (all_above t.groups)) ds
    (run_of first p.count cs)) (drop_more cs p.count no_change o) h) in
    let q = past p.last.above_to (get_or cs p.count no_change) (drop (p.count + 1) cs) here.right here.told in
    let from = q.from in
    let lower = q.lower in
    let upper = q.upper in
    let lower' = here.lower in
    let upper' = here.upper in
    let few = t.few_below in
    let few' = t.few_above in
    record { later = from; sizes = omega (arith, from, lower, upper, lower', upper', few, few') }

-- ---- one more is counted
run_more : (done : Run) (n : ℕ) (cs : List Change) (d : Change) → n < length cs
    → run_of done (suc n) cs ≡ after (run_of done n cs) (get_or cs n d)
run_more done n [] d o = absurd (omega arith)
run_more done zero (c ∷ cs) d o = refl
run_more done (suc n) (c ∷ cs) d o = run_more (after done c) n cs d (omega arith)

pub count_more : (cs : List Change) (p : Passed) (last : Run) → IsCountOf cs p → p.count < length cs
    → last ≡ after p.last (get_or cs p.count no_change)
    → IsCountOf cs (record { count = p.count + 1; last = last })
count_more cs p last k o e = record {
  count = omega (arith, o);
  last = e ∙ ap (λ (r : Run). after r (get_or cs p.count no_change)) k.last
      ∙ sym (run_more first p.count cs no_change o)
      ∙ ap (λ (n : ℕ). run_of first n cs) (sym (add-one p.count));
}
