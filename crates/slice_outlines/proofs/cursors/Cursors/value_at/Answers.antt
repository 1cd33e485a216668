-- The one that goes stands at the place, all others where they stood.
use Rattle.std.proofs.Common.{◌<◌, ℕ, List, length, sym, subst, arith}
use Rattle.std.proofs.lemmas.List.{length-set}
use Rattle.std.proofs.lemmas.List.Elements.{All-set}
use Rattle.slice_sweep.specs.Front.{bundles_in}
use Rattle.slice_outlines.specs.declared.cursor.Cursor.{Cursor}
use Rattle.slice_outlines.specs.Cursor.{StandsOn}
use Rattle.slice_outlines.proofs.cursors.Cursors.value_at.Goals as goal

pub returns-clause-stands : goal.returns-clause-stands
returns-clause-stands c = λ shape s.
    let es = c.args.edges.now in
    let bs : List (List ℕ) = bundles_in c.args.front.now in
    let all : List Cursor = c.args.self.now.all.items in
    let i : ℕ = c.cursor_of-i.result in
    let size = length-set all i c.value_at.new.self in
    let l : i < length all = omega (arith, c.cursor_of-i.ensures, c.len.ensures) in
    record {
      some = omega (arith, size, s.some);
      each = All-set (StandsOn es shape bs) all i c.value_at.new.self (c.value_at.ensures.stands shape
          (subst (StandsOn es shape bs) (sym c.index_mut.ensures.value) (s.each i c.index_mut.result.now l))) s.each;
    }
