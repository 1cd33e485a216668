-- The values on both sides of a bundle give its piece.
use Rattle.std.proofs.Common.{◌≡◌, ◌+◌, ◌-◌, ◌++◌, ℕ, Bool, false, List, length, get_or, drop, sym, ap, ap₂, ◌∙◌, arith, subst, ◌<◌}
use Rattle.slice_pieces.specs.declared.piece.Piece.{Piece}
use Rattle.slice_border.specs.Pieces.{slab_pieces}
use Rattle.slice_border.specs.Beside.{left_value}
use Rattle.slice_border.specs.Beside.{RisesFirst}
use Rattle.slice_bool.specs.LeftValues.{piece_of}
use Rattle.slice_bool.proofs.LeftValues.{rises_at, piece_at, value_beside, any_default}
use Rattle.slice_bool.proofs.Stretches.{more_pieces}
use Rattle.slice_bool.proofs.slab.push_slab_pieces.Goals as goal

pub push_bundle-requires-clause-first : goal.push_bundle-requires-clause-first
push_bundle-requires-clause-first c =
    let es = c.args.sweep.now.edges.now in
    let size = c.len-count.ensures in
    let test : c.bundles.i < length c.args.slab.now.side.now.bundles.items = omega (arith, c.bundles-test.true, size) in
    subst (RisesFirst es) (sym c.index.ensures) (rises_at es c.args.slab.now.lower.now c.args.slab.now.upper.now
    c.args.slab.now.side.now.bundles.items c.bundles.i c.index.result.now test c.requires.bundles)

pub bundles-preserved : goal.bundles-preserved
bundles-preserved c =
    let es = c.args.sweep.now.edges.now in
    let shape = c.args.sweep.now.shape.now in
    let l = c.args.slab.now.lower.now in
    let u = c.args.slab.now.upper.now in
    let bs : List (List ℕ) = c.args.slab.now.side.now.bundles.items in
    let vs : List Bool = c.args.slab.now.side.now.values.items in
    let i : ℕ = c.bundles.i in
    let n : ℕ = length bs in
    let size : length vs ≡ n + 1 = c.requires.values.size in
    let b : List ℕ = c.index.result.now in
    let len = c.len-count.ensures in
    let counted : c.len-count.result ≡ n = omega (arith, len) in
    let test : i < n = omega (arith, c.bundles-test.true, counted) in
    let rest : List Piece = slab_pieces es shape l u (drop (i + 1) bs) in
    let left : c.index-left.result.now ≡ left_value es shape (drop i bs) =
    c.index-left.ensures ∙ ap (λ (m : ℕ). get_or vs (m - i) c.index-left.result.now) counted
    ∙ any_default vs (n - i) c.index-left.result.now false
    (omega (arith, test, size))
    ∙ value_beside es shape bs vs i (n - i) c.requires.values (omega arith) (omega (arith, test)) in
    let right : c.index-right.result.now ≡ left_value es shape (drop (i + 1) bs) =
    c.index-right.ensures ∙ ap (λ (m : ℕ). get_or vs (m - i - 1) c.index-right.result.now) counted
    ∙ any_default vs (n - i - 1) c.index-right.result.now false
    (omega (arith, test, size))
    ∙ value_beside es shape bs vs (i + 1) (n - i - 1) c.requires.values (omega arith)
    (omega (arith, test)) in
    let piece : piece_of es l u c.index-left.result.now c.index-right.result.now b ≡ piece_of es l u
    (left_value es shape (drop i bs)) (left_value es shape (drop (i + 1) bs)) (get_or bs i b) =
    ap₂ (λ (v w : Bool). piece_of es l u v w b) left right ∙ ap (piece_of es l u (left_value es shape (drop i bs))
    (left_value es shape (drop (i + 1) bs))) c.index.ensures in
    let step = piece_at es shape l u c.requires.neighbours bs c.requires.bundles i b test in
    more_pieces c.bundles.out.items c.push_bundle.new.out.items (piece_of es l u c.index-left.result.now
    c.index-right.result.now b) rest _
    c.in_ok-push_bundle.ensures
    (ap (λ (ps : List Piece). c.bundles.out.items ++ ps) (ap (λ (ps : List Piece). ps ++ rest) piece ∙ sym step) ∙
    c.bundles.invariant)
