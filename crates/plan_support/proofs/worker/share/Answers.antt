-- One more line is noted as drawn, and its work kept.
use Rattle.std.proofs.Common.{◌≡◌, ◌≤◌, ◌++◌, ◌∷◌, [], length, map, refl, sym, subst, ap, ◌∙◌, All, arith}
use Rattle.std.proofs.lemmas.List.Elements.{All-nil, All-push, All-same}
use Rattle.std.proofs.lemmas.List.{length_push}
use Rattle.layer_board.specs.declared.view.View.{View}
use Rattle.layer_board.specs.Pass.{draws, ends, finishes}
use Rattle.layer_board.specs.Calls.{view, layers_of}
use Rattle.plan_support.specs.declared.line.Line.{Line}
use Rattle.plan_support.specs.Shares.{IsOwnLine}
use Rattle.plan_support.proofs.InTurn.{noted_more}
use Rattle.plan_support.proofs.worker.share.Goals as goal

pub lines-init : goal.lines-init
lines-init c =
    let own = IsOwnLine c.args.layers.now c.args.heights.now c.args.want in
    record {
      «of» = c.requires.of;
      free = c.requires.empty.pending;
      members = refl;
      noted = c.requires.empty.drawn ∙ ap (map (λ (l : Line). l.number)) (sym c.new-done.ensures.items);
      own = subst (All own) (sym c.new-done.ensures.items) (All-nil own);
    }

pub lines-preserved : goal.lines-preserved
lines-preserved c =
    let v = view c.lines.pass in
    let n = c.in-Layer.n in
    let line = c.in_ok-line.line in
    let done = c.lines.done.items in
    let own = IsOwnLine c.args.layers.now c.args.heights.now c.args.want in
    let kept = c.lines.invariant in
    let now : view c.finish.new.pass ≡ finishes (draws n v) =
    c.finish.ensures.event ∙ ap finishes c.in-Layer.ensures.event.2 in
    let more : c.push.new.self.items ≡ done ++ line ∷ [] = c.in_ok-push.ensures.items in
    record {
      «of» = c.finish.ensures.of;
      free = ap (λ (w : View). w.pending) now;
      members = ap (λ (w : View). w.members) now ∙ kept.members;
      noted = ap (λ (w : View). w.drawn) now
          ∙ noted_more v.drawn done c.push.new.self.items line n kept.noted c.in_ok-line.ensures.number more;
      own = All-same own c.push.new.self.items (done ++ line ∷ []) more
          (All-push own done line kept.own c.in_ok-line.ensures.line);
    }

pub lines-smaller : goal.lines-smaller
lines-smaller c =
    let v = view c.lines.pass in
    let n = c.in-Layer.n in
    let drawn : (view c.finish.new.pass).drawn ≡ v.drawn ++ n ∷ [] =
    ap (λ (w : View). w.drawn) (c.finish.ensures.event ∙ ap finishes c.in-Layer.ensures.event.2) in
    let few : length (v.drawn ++ n ∷ []) ≤ layers_of c.args.board.now =
    subst (λ (w : View). length w.drawn ≤ layers_of c.args.board.now) c.in-Layer.ensures.event.2
    (c.in-Layer.ensures.few c.in-Layer.ensures.event.0) in
    let more = length_push v.drawn n in
    let count = ap length drawn in
    omega (arith, few, more, count)

pub returns : goal.returns
returns c =
    let kept = c.lines.invariant in
    let now : view c.claim.new.pass ≡ ends (view c.lines.pass) = c.in_default.ensures.event in
    record {
      share = record {
        through = record {
          «of» = c.in_default.ensures.of;
          free = ap (λ (w : View). w.pending) now ∙ kept.free;
          ended = ap (λ (w : View). w.ended) now;
        };
        noted = ap (λ (w : View). w.drawn) now ∙ kept.noted;
        own = kept.own;
      };
      members = ap (λ (w : View). w.members) now ∙ kept.members;
    }
