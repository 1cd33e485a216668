use Rattle.std.proofs.Common.{◌≡◌, ◌++◌, ◌∷◌, [], rules, pos, ◌+ℤ◌, ◌<ℤ◌}
use lib.Signed.{◌≤ℤ◌}
use Rattle.scad_geom.proofs.Casts.{casts}
use Rattle.plan_support.proofs.RunUnion.{taken_joined, taken_pushed}
use Rattle.plan_support.proofs.union.take_in.Goals as goal

pub returns-in_ok-push-2 : goal.returns-in_ok-push-2
returns-in_ok-push-2 c =
    let last = c.in-Some.last in
    let is : c.args.out.now.items ≡ c.pop.new.self.items ++ last ∷ [] = search rules in
    let reach : c.args.run.from ≤ℤ (last.to +ℤ pos 1) = search (rules, casts) in
    taken_joined c.args.out.now.items c.push-then-reaches.new.self.items c.pop.new.self.items last c.args.run is
    c.requires.apart c.requires.place c.requires.behind c.joined.result c.joined.ensures.from c.joined.ensures.to reach
    c.in_ok-push-2.ensures.items

pub returns-in_ok-push-4 : goal.returns-in_ok-push-4
returns-in_ok-push-4 c =
    let last = c.in-Some.last in
    let is : c.args.out.now.items ≡ c.pop.new.self.items ++ last ∷ [] = search rules in
    let far : (last.to +ℤ pos 1) <ℤ c.args.run.from = search (rules, casts) in
    let new : c.push-else-reaches-2.new.self.items ≡ (c.pop.new.self.items ++ last ∷ []) ++ c.args.run ∷ [] =
    search (rules, casts) in
    taken_pushed c.args.out.now.items c.push-else-reaches-2.new.self.items c.pop.new.self.items last c.args.run is
    c.requires.apart c.requires.place c.requires.behind far new
