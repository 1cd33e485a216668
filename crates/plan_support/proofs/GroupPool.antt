-- What two groups of workers have done, as one.
use Rattle.std.proofs.Common.{◌≡◌, ℕ, ◌+◌, ◌++◌, [], ◌∷◌, List, Result, Ok, Err}
use Rattle.std.proofs.Common.{IfOk, length, map, ℤ, sym, ap, ap₂, subst, ◌∙◌, All}
use Rattle.std.proofs.lemmas.List.{length-append, map-append}
use Rattle.std.proofs.lemmas.List.Elements.{All-append, All-head, All-tail}
use Rattle.layer_board.specs.declared.view.View.{View}
use Rattle.layer_board.specs.declared.board.Board.{Board}
use Rattle.layer_board.specs.declared.board.Pass.{Pass}
use Rattle.layer_board.specs.declared.share.Share.{Share}
use Rattle.layer_board.specs.Pass.{joins}
use Rattle.layer_board.specs.Calls.{view, IsThrough}
use Rattle.plan_support.specs.declared.line.Line.{Line}
use Rattle.plan_support.specs.declared.line.Want.{Want}
use Rattle.plan_support.specs.Rows.{Row}
use Rattle.plan_support.specs.Shares.{IsOwnLine, IsShare, IsPool}

module _ (board : Board) (layers : List (List Row)) (heights : List ℤ) (want : Want) (m n : ℕ) (a b : Share Line)
    (p : IsPool board layers heights want m a) (q : IsPool board layers heights want n b) where
  pool_of : (s : Share Line) → IsThrough board s.pass → view s.pass ≡ joins (view a.pass) (view b.pass)
      → s.done.items ≡ a.done.items ++ b.done.items → IsPool board layers heights want (m + n) s
  pool_of s through joined done = record {
    share = record {
      through = through;
      noted = ap (λ (v : View). v.drawn) joined
          ∙ ap₂ (λ (xs ys : List ℕ). xs ++ ys) p.share.noted q.share.noted
          ∙ sym (map-append (λ (l : Line). l.number) a.done.items b.done.items)
          ∙ ap (map (λ (l : Line). l.number)) (sym done);
      own = subst (All (IsOwnLine layers heights want)) (sym done)
          (All-append (IsOwnLine layers heights want) a.done.items b.done.items p.share.own q.share.own);
    };
    members = ap (λ (v : View). length v.members) joined
        ∙ length-append (view a.pass).members (view b.pass).members
        ∙ ap₂ (λ (j k : ℕ). j + k) p.members q.members;
  }

  pub pooled : {E : Type 0} (r : Result (Share Line) E) (total : ℕ) → total ≡ m + n
      → IfOk r (λ s. IsThrough board s.pass) → IfOk r (λ s. view s.pass ≡ joins (view a.pass) (view b.pass))
      → IfOk r (λ s. s.done.items ≡ a.done.items ++ b.done.items) → IfOk r (IsPool board layers heights want total)
  pooled (Ok s) total all through joined done =
      subst (λ (k : ℕ). IsPool board layers heights want k s) (sym all) (pool_of s through joined done)
  pooled (Err e) total all through joined done = tt

-- ---- what one worker has done
pub one_pool : (board : Board) (layers : List (List Row)) (heights : List ℤ) (want : Want) (n : ℕ) (p : Pass)
    {E : Type 0} (r : Result (Share Line) E) → length (view p).members ≡ n → IfOk r (IsShare board layers heights want)
    → IfOk r (λ s. (view s.pass).members ≡ (view p).members) → IfOk r (IsPool board layers heights want n)
one_pool board layers heights want n p (Ok s) count share same = record {
  share = share;
  members = ap length same ∙ count;
}
one_pool board layers heights want n p (Err e) count share same = tt

pub of_last : {A : Type 0} (P : A → Type 0) (rest : List A) (last : A) → All P (rest ++ last ∷ []) → P last
of_last P [] last a = All-head P last [] a
of_last P (x ∷ rest) last a = of_last P rest last (All-tail P x (rest ++ last ∷ []) a)
