-- The deepest of the elements so far goes on with the next one, both cut at the greatest number of the type.
use Rattle.std.proofs.Common.{◌≡◌, ℕ, ◌+◌, ◌-◌, ◌^◌, ◌<◌, min, max, drop, sym, ap, ◌∙◌, arith, rules}
use Rattle.scad_value.specs.declared.value.Value.TheViews.{the_lemmas}
use Rattle.scad_value.specs.Measures.{deepest, nesting}
use Rattle.scad_value.specs.View.{datum_of, elements}
use Rattle.scad_value.proofs.Rows.{at_vector, elements-drop, elements-drop_all, items_in}
use Rattle.scad_value.proofs.measures.+nesting.Goals as goal

abbrev top : ℕ
top = 2 ^ 32 - 1

cut : (depth next rest : ℕ) → min (max (max depth (min next top)) rest) top ≡ min (max depth (max next rest)) top
cut depth next rest = omega arith

one-more : (depth read next later rest left whole : ℕ) → later ≡ max depth read → read ≡ min next top
    → left ≡ max next rest → min (max depth left) top ≡ whole → min (max later rest) top ≡ whole
one-more depth read next later rest left whole now cut_at next_is so_far =
    ap (λ n. min (max n rest) top) (now ∙ ap (max depth) cut_at) ∙ cut depth next rest
    ∙ ap (λ n. min (max depth n) top) (sym next_is) ∙ so_far

at_end : (depth left whole : ℕ) → left ≡ 0 → depth < 2 ^ 32 → min (max depth left) top ≡ min whole top
    → depth ≡ min whole top
at_end depth left whole none low so_far = omega (arith, none, low, so_far)

outside : (inner whole : ℕ) → inner ≡ min whole top → min (inner + 1) top ≡ min (1 + whole) top
outside inner whole is = omega (arith, is)

pub deepest-loop-v-preserved : goal.deepest-loop-v-preserved
deepest-loop-v-preserved t c =
    let all = c.args.all.now in
    let i = c.loop-v.v-index in
    record {
      in_range = c.max-depth.type_inv;
      reached =
          one-more c.loop-v.depth c.nesting.result (nesting (datum_of c.v-item.result)) c.max-depth.result
          (deepest (elements (drop (i + 1) all))) (deepest (elements (drop i all))) _ c.max-depth.ensures
          c.nesting.ensures (ap deepest (elements-drop all i c.v-item.result c.loop-v-test.true c.v-item.is))
          c.loop-v.invariant.reached;
    }

pub deepest-returns : goal.deepest-returns
deepest-returns t c =
    at_end c.loop-v.depth _ (deepest (elements c.args.all.now))
    (ap deepest (elements-drop_all c.args.all.now c.loop-v.v-index c.loop-v-test.false)) c.loop-v.invariant.in_range
    c.loop-v.invariant.reached

pub nesting-returns-in-List : goal.nesting-returns-in-List
nesting-returns-in-List t c =
    let all = c.in-List.all.value in
    c.saturating_add.ensures
    ∙ outside c.deepest.result (deepest (elements all.items)) (c.deepest.ensures
    ∙ ap (λ vs. min (deepest (elements vs)) top) (items_in all c.deref.result.now c.as_slice.result.now c.deref.ensures
    c.as_slice.ensures.value))
    ∙ sym (ap (λ d. min (nesting d) top) (at_vector c.args.a.now c.in-List.all c.in-List.is))

pub nesting-returns-in_default : goal.nesting-returns-in_default
nesting-returns-in_default t c = search (rules, the_lemmas)
