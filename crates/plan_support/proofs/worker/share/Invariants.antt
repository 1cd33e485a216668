use Rattle.std.proofs.Common.{◌≡◌, ◌-◌, length, map, All, None}
use Rattle.layer_board.specs.Calls.{view, layers_of, IsOf}
use Rattle.plan_support.specs.declared.line.Line.{Line}
use Rattle.plan_support.specs.Shares.{IsOwnLine}
use Rattle.plan_support.proofs.worker.share.Given as goal

abbrev pub invariant-lines : goal.invariant-lines
invariant-lines l = record {
  «of» : IsOf l.board l.pass;
  free : (view l.pass).pending ≡ None;
  members : (view l.pass).members ≡ (view l.fn.pass).members;
  noted : (view l.pass).drawn ≡ map (λ (d : Line). d.number) l.done.items;
  own : All (IsOwnLine l.layers l.heights l.want) l.done.items;
}

abbrev pub decreases-lines : goal.decreases-lines
decreases-lines l = layers_of l.board - length (view l.pass).drawn
