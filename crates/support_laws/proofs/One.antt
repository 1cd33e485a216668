-- What stands below higher layers, and the support runs of a layer, are one.
use Rattle.std.proofs.Common.{true, [], ap, sym, ◌∙◌, arith}
use Rattle.std.proofs.lemmas.List.{ext_get_or}
use Rattle.plan_support.specs.Supports.{paths_of}
use Rattle.support_laws.specs.Supports.{IsOverhung, NeedsSupport}
use Rattle.support_laws.specs.Laws.{OverhungAreOne, SupportsAreOne}
use Rattle.std.specs.Prelude.{drop, ◌+◌, slice_index_or}
use Rattle.support_laws.proofs.Rows.{rows_are_one}

pub overhung_are_one : OverhungAreOne
overhung_are_one all spacing a b h k =
    let m = h.as_many in
    let n = k.as_many in
    ext_get_or [] a b (omega (arith, m, n)) (λ i l.
    rows_are_one (IsOverhung (drop (i + 1) all) spacing) 0 (slice_index_or a i []) (slice_index_or b i [])
    (h.each i (omega (arith, l, m))) (k.each i (omega (arith, l, m))))

pub supports_are_one : SupportsAreOne
supports_are_one above outlines spacing gap least a b h k =
    h.paths_are
    ∙ ap (paths_of true)
    (rows_are_one (NeedsSupport above outlines spacing gap) least h.rows k.rows h.are_rows k.are_rows)
    ∙ sym k.paths_are
