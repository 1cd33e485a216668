use Rattle.std.proofs.Common.{◌≡◌, ◌+◌, ◌++◌, ◌∷◌, [], sym, refl, ap, ◌∙◌, subst, rules, Contains}
use Rattle.std.proofs.lemmas.List.Elements.{All-push, All-same}
use Rattle.layer_board.specs.declared.view.View.{View}
use Rattle.layer_board.specs.Pass.{draws, skips}
use Rattle.layer_board.specs.Calls.{view, Looks}
use Rattle.slice_work.specs.declared.layer.Drawn.{Drawn}
use Rattle.slice_work.specs.Part.{Ends, EndsWithin}
use Rattle.slice_work.specs.Shares.{IsNoted, SkipsAbove, settled}
use Rattle.slice_work.proofs.Noting.{IsDrawnBefore, noted_layer, drawn_notes, skipped_notes, none_failed, settled_skips, skipped_before, settled_before, settled_free, settled_members}
use Rattle.slice_work.proofs.worker.share.Goals as goal

pub layers-preserved-then-look : goal.layers-preserved-then-look
layers-preserved-then-look g c =
    let v = view c.layers.pass in
    let n = c.in-Layer.n in
    let kept = c.layers.invariant in
    let drawn : view c.claim.new.pass ≡ draws n v = c.in-Layer.ensures.event.2 in
    let skipped : view c.look.new.pass ≡ skips (view c.claim.new.pass) =
    subst (λ b. Looks (view c.claim.new.pass) b (view c.look.new.pass)) c.if-look.true c.look.ensures.event
    in
    let now : view c.look.new.pass ≡ skips (draws n v) = skipped ∙ ap skips drawn in
    record {
      «of» = c.look.ensures.of;
      free = ap (λ (w : View). w.pending) now;
      members = ap (λ (w : View). w.members) now ∙ kept.members;
      noted = subst (λ (w : View). IsNoted c.args.first w c.layers.done.items) (sym now)
          (skipped_notes c.args.first n v c.layers.done.items kept.noted);
      drawn = kept.drawn;
      within = kept.within;
      skips = subst SkipsAbove (sym now) kept.skips;
      before = subst IsDrawnBefore (sym now) (skipped_before n v kept.before);
    }

pub layers-preserved : goal.layers-preserved
layers-preserved g c =
    let v = view c.layers.pass in
    let n = c.in-Layer.n in
    let end = c.in_ok-end.end in
    let kept = c.layers.invariant in
    let d : Drawn = record { layer = c.args.first + n; end = end } in
    let drawn : view c.claim.new.pass ≡ draws n v = c.in-Layer.ensures.event.2 in
    let looked : view c.look.new.pass ≡ view c.claim.new.pass =
    subst (λ b. Looks (view c.claim.new.pass) b (view c.look.new.pass)) c.if-look.false c.look.ensures.event
    in
    let now : view c.settle.new.pass ≡ settled end (draws n v) = c.settle.ensures.settled
    ∙ ap (settled end) (looked ∙ drawn) in
    let more : c.push.new.self.items ≡ c.layers.done.items ++ d ∷ [] = search rules in
    let none = none_failed n v kept.before c.in-Layer.ensures.ascends (λ m there less.
    let here = subst (λ (w : View). Contains w.failed m) (sym drawn) there in
    sym c.if-look.false ∙ c.look.ensures.failed m here less)
    in
    record {
      «of» = c.settle.ensures.of;
      free = ap (λ (w : View). w.pending) now ∙ settled_free end (draws n v);
      members = ap (λ (w : View). w.members) now ∙ settled_members end (draws n v) ∙ kept.members;
      noted = subst (λ (w : View). IsNoted c.args.first w c.push.new.self.items) (sym now)
          (subst (IsNoted c.args.first (settled end (draws n v))) (sym more)
          (noted_layer c.args.first n (c.args.first + n) end (draws n v) c.layers.done.items refl refl
          (drawn_notes c.args.first n v c.layers.done.items kept.noted)));
      drawn = λ part draws_so.
          All-same (λ (e : Drawn). Ends (part e.layer) e.end) c.push.new.self.items (c.layers.done.items ++ d ∷ []) more
          (All-push (λ (e : Drawn). Ends (part e.layer) e.end) c.layers.done.items d (kept.drawn part draws_so)
          (c.in_ok-end.ensures.end part draws_so));
      within = All-same (λ (e : Drawn). EndsWithin e.end) c.push.new.self.items (c.layers.done.items ++ d ∷ []) more
          (All-push (λ (e : Drawn). EndsWithin e.end) c.layers.done.items d kept.within c.in_ok-end.ensures.within);
      skips = subst SkipsAbove (sym now) (settled_skips n end v kept.before c.in-Layer.ensures.ascends none);
      before = subst IsDrawnBefore (sym now) (settled_before n end v kept.before);
    }
