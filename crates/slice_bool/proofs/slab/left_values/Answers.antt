-- From the right end on, each bundle's edges are added.
use Rattle.std.proofs.Common.{◌≡◌, ◌+◌, ◌-◌, ◌<◌, ℕ, Bool, false, List, [], ◌∷◌, ◌++◌, length, get_or, drop, sym, ap, ◌∙◌, arith, subst}
use Rattle.std.specs.List.{All, concat}
use Rattle.scad_geom.specs.declared.level.LeafEdge.{LeafEdge}
use Rattle.slice_border.specs.Beside.{left_value}
use Rattle.slice_border.specs.Keeping.{Tells, AreSmall}
use Rattle.slice_border.proofs.BundleValues.{there_at}
use Rattle.slice_bool.proofs.LeftValues.{all_dropped, bundle_on, is_small, one_more, first_value, length_more}
use Rattle.slice_bool.proofs.slab.left_values.Goals as goal

pub bundles-init : goal.bundles-init
bundles-init c =
    let es = c.args.sweep.now.edges.now in
    let shape = c.args.sweep.now.shape.now in
    let bs : List (List ℕ) = c.args.bundles.now in
    let items : c.push.new.self.items ≡ false ∷ [] = c.in_ok-push.ensures.items ∙ ap
    (λ (vs : List Bool). vs ++ (false ∷ [])) c.new-values.ensures.items in
    record {
      tells = subst (λ (bs : List (List ℕ)). Tells es shape (concat bs) c.args.tally.now) (sym (all_dropped bs))
          c.requires.tally;
      size = ap length items;
      each = λ k h. first_value es shape bs c.push.new.self.items k items h;
    }

pub add-requires-clause-there : goal.add-requires-clause-there
add-requires-clause-there c =
    let es = c.args.sweep.now.edges.now in
    let bs : List (List ℕ) = c.args.bundles.now in
    let b : List ℕ = c.index-bundles-bundles.result in
    subst (All (λ k. k < length es)) (sym (c.as_slice.ensures ∙ c.index-bundles-bundles.is))
    (there_at es bs (length bs - 1 - c.bundles.i) b (omega (arith, c.bundles-test.true)) c.requires.members)

pub add-requires-clause-small : goal.add-requires-clause-small
add-requires-clause-small c =
    let es = c.args.sweep.now.edges.now in
    let bs : List (List ℕ) = c.args.bundles.now in
    let b : List ℕ = c.index-bundles-bundles.result in
    subst (λ (ks : List ℕ). AreSmall es ks c.bundles.tally) (sym (c.as_slice.ensures ∙ c.index-bundles-bundles.is))
    (is_small es c.args.sweep.now.shape.now bs (length bs - c.bundles.i) (length bs - 1 - c.bundles.i) b
    c.bundles.tally (omega (arith, c.bundles-test.true)) c.requires.members c.args.sweep.now.few
    c.bundles.invariant.tells)

pub value-requires : goal.value-requires
value-requires c = (c.add.ensures c.args.sweep.now.shape.now _ c.bundles.invariant.tells).ready

pub bundles-preserved : goal.bundles-preserved
bundles-preserved c =
    let es : List LeafEdge = c.args.sweep.now.edges.now in
    let shape = c.args.sweep.now.shape.now in
    let bs : List (List ℕ) = c.args.bundles.now in
    let i : ℕ = c.bundles.i in
    let b : List ℕ = c.index-bundles-bundles.result in
    let items : c.push-in-bundles.new.self.items ≡ c.bundles.values.items ++ (c.value.result ∷ []) =
    c.in_ok-push-2.ensures.items in
    let tells : Tells es shape (concat (drop (length bs - (i + 1)) bs)) c.add.new.self =
    subst (λ (ks : List ℕ). Tells es shape ks c.add.new.self)
    (ap (λ (b : List ℕ). b ++ concat (drop (length bs - i) bs)) (c.as_slice.ensures ∙ c.index-bundles-bundles.is)
    ∙ bundle_on bs i b c.bundles-test.true)
    (c.add.ensures shape _ c.bundles.invariant.tells) in
    let value : c.value.result ≡ left_value es shape (drop (length bs - (i + 1)) bs) =
    c.value.ensures es shape (concat (drop (length bs - (i + 1)) bs)) tells in
    record {
      tells = tells;
      size = length_more c.bundles.values.items c.push-in-bundles.new.self.items c.value.result (i + 1) items
          c.bundles.invariant.size;
      each = λ k h. ap (λ (vs : List Bool). get_or vs k false) items
          ∙ one_more (λ k. left_value es shape (drop (length bs - k) bs)) c.bundles.values.items c.value.result i
          c.bundles.invariant.size c.bundles.invariant.each value k h;
    }

pub take_all-requires-clause-members : goal.take_all-requires-clause-members
take_all-requires-clause-members c = c.requires.members

pub take_all-requires-clause-tally : goal.take_all-requires-clause-tally
take_all-requires-clause-tally c =
    let bs : List (List ℕ) = c.args.bundles.now in
    let all : length bs - c.bundles.i ≡ 0 = omega (arith, c.bundles-test.false) in
    subst (λ (k : ℕ). Tells c.args.sweep.now.edges.now c.args.sweep.now.shape.now (concat (drop k bs)) c.bundles.tally)
    all c.bundles.invariant.tells

pub returns-clause-tally : goal.returns-clause-tally
returns-clause-tally c = c.take_all.ensures
