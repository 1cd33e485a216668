-- The item is one of the frame of the number, which stays as it is stored.
use Rattle.std.proofs.Common.{◌≡◌, ℕ, ◌<◌, ◌≤◌, None, length, map, sym, ap, ◌∙◌, arith}
use Rattle.std.proofs.lemmas.List.{get_or-map, get_or_past, length-map}
use Rattle.std.proofs.lemmas.Result.{IfOk-weaker}
use Rattle.scad_scope.specs.Definitions.{item_in, word_of_kind}
use Rattle.scad_scope.specs.FrameStore.{Stored, pushed}
use Rattle.scad_scope.specs.View.{frame_stored, listed, stored}
use Rattle.scad_scope.proofs.Outwards.{listed-same, stored-same}
use Rattle.scad_scope.proofs.frames.Frames.item.Goals as goal

inside : (n count len many : ℕ) → n < count → count ≡ len → len ≡ many → n < many
inside n count len many low e f = omega (arith, low, e, f)

past : (n count len many more : ℕ) → count ≤ n → count ≡ len → len ≡ many → more ≡ many → more ≤ n
past n count len many more high e f g = omega (arith, high, e, f, g)

pub returns-clause-found : goal.returns-clause-found
unfolding stored
returns-clause-found c =
    let fs = c.args.self.now.frames.items in
    let below = inside c.args.at _ _ (length fs) c.if-len-at.false c.len.ensures c.args.self.now.frames.ok.0 in
    let is = ap frame_stored c.index_mut.ensures.value
    ∙ sym (get_or-map frame_stored fs c.args.at c.index_mut.result.now (pushed None None None) below) in
    IfOk-weaker c.item.result _ _ (λ _ found. found ∙ ap (λ (f : Stored). item_in (word_of_kind c.args.kind)
    c.args.name.now f.scope) is) c.item.ensures.found

pub returns-clause-same : goal.returns-clause-same
unfolding stored
returns-clause-same c =
    let fs = c.args.self.now.frames.items in
    stored-same fs c.args.at c.index_mut.result.now c.item.new.self
    (inside c.args.at _ _ (length fs) c.if-len-at.false c.len.ensures c.args.self.now.frames.ok.0)
    c.index_mut.ensures.value c.item.ensures.same

pub returns-clause-listed : goal.returns-clause-listed
unfolding listed
returns-clause-listed c =
    listed-same c.args.self.now.frames.items c.args.at c.index_mut.result.now c.item.new.self c.index_mut.ensures.value
    c.item.ensures.listed

pub returns-then-len-at-clause-found : goal.returns-then-len-at-clause-found
unfolding stored
returns-then-len-at-clause-found c =
    let fs = c.args.self.now.frames.items in
    sym (ap (λ (f : Stored). item_in (word_of_kind c.args.kind) c.args.name.now f.scope)
    (get_or_past (map frame_stored fs) c.args.at (pushed None None None) (past c.args.at _ _ (length fs) _
    c.if-len-at.true c.len.ensures c.args.self.now.frames.ok.0 (length-map fs frame_stored))))
