-- What one more line keeps is added to the rows.
use Rattle.std.proofs.Common.{◌≡◌, ℕ, ◌+◌, ◌<◌, ◌≤◌, ◌++◌, List, [], length, get_or, drop}
use Rattle.std.proofs.Common.{ℤ, pos, sym, subst, ap, ap₂, append_assoc, ◌∙◌, FitsSigned, rules}
use Rattle.std.proofs.lemmas.Int.{to_z-of_z}
use mir.Syntax.{w32}
use Rattle.std.proofs.lemmas.List.{append-nil, drop_more, at_drop_all}
use Rattle.plan_support.specs.declared.line.Line.{Line}
use Rattle.plan_support.specs.Rows.{Row}
use Rattle.plan_support.specs.Lines.{kept_row, kept_rows}
use Rattle.plan_support.proofs.cover.rows_of.Goals as goal

module _ (n : ℕ) (ys : List ℤ) (ls : List Line) (i : ℕ) where
  kept_next : (d : ℤ) (e : Line) → i < length ys → i < length ls → kept_rows n (drop i ys) (drop i ls)
      ≡ kept_row n (get_or ys i d) (get_or ls i e).covers ++ kept_rows n (drop (i + 1) ys) (drop (i + 1) ls)
  kept_next d e h l = ap₂ (kept_rows n) (drop_more ys i d h) (drop_more ls i e l)

  kept_more : (d : ℤ) (e : Line) (all rows more : List Row) → i < length ys → i < length ls
      → rows ++ kept_rows n (drop i ys) (drop i ls) ≡ all
      → more ≡ rows ++ kept_row n (get_or ys i d) (get_or ls i e).covers
      → more ++ kept_rows n (drop (i + 1) ys) (drop (i + 1) ls) ≡ all
  kept_more d e all rows more h l before is =
      let later = kept_rows n (drop (i + 1) ys) (drop (i + 1) ls) in
      ap (λ (rs : List Row). rs ++ later) is
      ∙ append_assoc rows (kept_row n (get_or ys i d) (get_or ls i e).covers) later
      ∙ ap (λ (rs : List Row). rows ++ rs) (sym (kept_next d e h l))
      ∙ before

  kept_none : length ys ≤ i → kept_rows n (drop i ys) (drop i ls) ≡ []
  kept_none h = at_drop_all (λ (zs : List ℤ). kept_rows n zs (drop i ls)) ys i h

pub lines-init : goal.lines-init
lines-init c =
    ap (λ (rows : List Row). rows ++ kept_rows c.args.layer c.args.heights.now c.args.lines.now) c.new-rows.ensures

pub lines-preserved : goal.lines-preserved
lines-preserved c =
    let ys = c.args.heights.now in
    let ls = c.args.lines.now in
    let n = c.args.layer in
    let i = c.lines.i in
    let line = c.index-lines-i.result in
    let fits : FitsSigned w32 (get_or ys i (pos 0)) = search rules in
    kept_more n ys ls i (pos 0) line (kept_rows n ys ls) c.lines.rows c.push_kept.new.rows
    (subst (λ (k : ℕ). i < k) (sym c.requires) c.lines-test.true) c.lines-test.true c.lines.invariant
    (c.in_ok-push_kept.ensures
    ∙ ap (λ (y : ℤ). c.lines.rows ++ kept_row n y (get_or ls i line).covers)
    (to_z-of_z w32 (get_or ys i (pos 0)) fits))

pub returns : goal.returns
returns c =
    let ys = c.args.heights.now in
    let ls = c.args.lines.now in
    let n = c.args.layer in
    let past = subst (λ (k : ℕ). k ≤ c.lines.i) (sym c.requires) c.lines-test.false in
    c.shrink_to_fit.ensures
    ∙ sym (append-nil c.lines.rows)
    ∙ ap (λ (rows : List Row). c.lines.rows ++ rows) (sym (kept_none n ys ls c.lines.i past))
    ∙ c.lines.invariant
