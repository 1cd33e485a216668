-- What two groups of workers have done, as one.
use Rattle.std.proofs.Common.{◌≡◌, ◌≤◌, ◌+◌, ◌-◌, ◌++◌, ℕ, List, Result, Ok, Err, IfOk, length, All, sym, ap, ap₂, ◌∙◌, subst}
use Rattle.std.proofs.lemmas.Grind.{flat_map-append}
use Rattle.std.proofs.lemmas.List.{length-append}
use Rattle.std.proofs.lemmas.List.Elements.{All-append}
use Rattle.layer_board.specs.declared.view.View.{View}
use Rattle.layer_board.specs.declared.board.Board.{Board}
use Rattle.layer_board.specs.declared.share.Share.{Share}
use Rattle.layer_board.specs.Pass.{joins}
use Rattle.layer_board.specs.Calls.{view, IsThrough}
use Rattle.slice_work.specs.declared.layer.Drawn.{Drawn}
use Rattle.slice_work.specs.Part.{Part, Ends, EndsWithin}
use Rattle.slice_work.specs.Shares.{if_made, if_over, made_numbers, over_numbers, IsNoted, AreDrawnOf, AreWithin}
use Rattle.slice_work.specs.Pools.{IsPool}

module _ (board : Board) (first m n : ℕ) (a b : Share Drawn)
    (p : IsPool board first m a) (q : IsPool board first n b) where
  noted_both : (s : Share Drawn) → view s.pass ≡ joins (view a.pass) (view b.pass)
      → s.done.items ≡ a.done.items ++ b.done.items → IsNoted first (view s.pass) s.done.items
  noted_both s joined done = record {
    finished = ap (λ (v : View). v.finished) joined
        ∙ ap₂ (λ (xs ys : List ℕ). xs ++ ys) p.share.noted.finished q.share.noted.finished
        ∙ sym (flat_map-append (λ (d : Drawn). if_made (d.layer - first) d.end) a.done.items b.done.items)
        ∙ ap (made_numbers first) (sym done);
    failed = ap (λ (v : View). v.failed) joined
        ∙ ap₂ (λ (xs ys : List ℕ). xs ++ ys) p.share.noted.failed q.share.noted.failed
        ∙ sym (flat_map-append (λ (d : Drawn). if_over (d.layer - first) d.end) a.done.items b.done.items)
        ∙ ap (over_numbers first) (sym done);
    from = subst (All (λ d. first ≤ d.layer)) (sym done)
        (All-append (λ d. first ≤ d.layer) a.done.items b.done.items p.share.noted.from q.share.noted.from);
  }

  pool_of : (s : Share Drawn) → IsThrough board s.pass → view s.pass ≡ joins (view a.pass) (view b.pass)
      → s.done.items ≡ a.done.items ++ b.done.items → IsPool board first (m + n) s
  pool_of s through joined done = record {
    share = record {
      through = through;
      noted = noted_both s joined done;
      within = subst AreWithin (sym done)
          (All-append (λ d. EndsWithin d.end) a.done.items b.done.items p.share.within q.share.within);
    };
    members = ap (λ (v : View). length v.members) joined
        ∙ length-append (view a.pass).members (view b.pass).members
        ∙ ap₂ (λ (j k : ℕ). j + k) p.members q.members;
  }

  pub pooled : {E : Type 0} (r : Result (Share Drawn) E) (total : ℕ) → total ≡ m + n
      → IfOk r (λ s. IsThrough board s.pass) → IfOk r (λ s. view s.pass ≡ joins (view a.pass) (view b.pass))
      → IfOk r (λ s. s.done.items ≡ a.done.items ++ b.done.items) → IfOk r (IsPool board first total)
  pooled (Ok s) total all through joined done =
      subst (λ (k : ℕ). IsPool board first k s) (sym all) (pool_of s through joined done)
  pooled (Err e) total all through joined done = tt

-- what workers have done of a round, where the part is drawn so
abbrev pub Worked : Board → ℕ → (Part → Type 0) → ℕ → Share Drawn → Type 0
Worked board first Draws workers s =
    IsPool board first workers s × ((part : Part) → Draws part → AreDrawnOf part s.done.items)

pub both_drawn : {E : Type 0} (Draws : Part → Type 0) (a b : Share Drawn) (r : Result (Share Drawn) E)
    → ((part : Part) → Draws part → AreDrawnOf part a.done.items)
    → ((part : Part) → Draws part → AreDrawnOf part b.done.items)
    → IfOk r (λ s. s.done.items ≡ a.done.items ++ b.done.items)
    → IfOk r (λ s. (part : Part) → Draws part → AreDrawnOf part s.done.items)
both_drawn Draws a b (Ok s) p q done = λ part draws.
    subst (AreDrawnOf part) (sym done)
    (All-append (λ d. Ends (part d.layer) d.end) a.done.items b.done.items (p part draws) (q part draws))
both_drawn Draws a b (Err e) p q done = tt
