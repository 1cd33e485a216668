-- A sweep height by height.
use Rattle.std.proofs.Common.{List, [], ◌∷◌, ◌++◌, refl, sym, ap, ◌∙◌, subst, append_assoc}
use Rattle.std.specs.List.Sorted.{IsPermutation}
use Rattle.std.proofs.lemmas.List.{append-nil}
use Rattle.slice_pieces.specs.Rounding.{rounded_edges}
use Rattle.sweep_laws.specs.Ways.{Way, pieces_of}
use Rattle.sweep_laws.specs.Crossing.{all_closed}
use Rattle.sweep_laws.specs.Sweeps.{closed_in, SweepsBegin, SweepsGoOn, SweepsEnd}
use Rattle.sweep_laws.proofs.Sweeping.{sweeps_merge}

pub sweeps_begin : SweepsBegin
sweeps_begin es shape levels = λ later s. (later, s, refl)

pub sweeps_go_on : SweepsGoOn
sweeps_go_on es shape levels l u ls below closed places before x f = λ later s.
    let all = before (places ∷ later) (x, f, s) in
    (all.0, all.1, all.2 ∙ sym (append_assoc closed (all_closed places) (closed_in later)))

pub sweeps_end : SweepsEnd
sweeps_end = record {
  last = λ es shape levels l below closed places given v before x p.
      let all = before (places ∷ []) (x, refl) in
      sweeps_merge es shape levels all.0 given v all.1
      (subst (λ (ws : List Way). IsPermutation (rounded_edges (pieces_of ws)) given)
      (sym (all.2 ∙ ap (λ (ws : List Way). closed ++ ws) (append-nil (all_closed places)))) p);
  none = λ es shape given v p. sweeps_merge es shape [] [] given v refl p;
}
