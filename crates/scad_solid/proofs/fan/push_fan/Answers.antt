-- The next point's triangle follows those so far.
use Rattle.std.proofs.Common.{◌-◌, ◌++◌, drop, take, get_or, length, ap}
use Rattle.scad_solid.specs.Solid.{fan}
use Rattle.scad_solid.proofs.Collected.{origin}
use Rattle.scad_solid.proofs.FanSteps.{fan_around-all, fan_around-more, fan-parts}
use Rattle.scad_solid.proofs.fan.push_fan.Goals as goal

pub loop-c-preserved : goal.loop-c-preserved
loop-c-preserved c =
    fan_around-more (get_or c.args.face.now 0 origin) c.loop-c.b
    (take (length c.args.face.now - 2) (drop 2 c.args.face.now)) c.loop-c.c-index origin c.loop-c-test.true
    c.loop-c.out.items c.push.new.self.items (c.args.out.now.items ++ fan c.args.face.now) c.loop-c.invariant
    c.in_ok-push.ensures.items

pub returns : goal.returns
returns c =
    fan_around-all (get_or c.args.face.now 0 origin) c.loop-c.b
    (take (length c.args.face.now - 2) (drop 2 c.args.face.now)) c.loop-c.c-index c.loop-c-test.false
    c.loop-c.out.items (c.args.out.now.items ++ fan c.args.face.now) c.loop-c.invariant

pub loop-c-init : goal.loop-c-init
loop-c-init c =
    ap (λ ts. c.args.out.now.items ++ ts) (fan-parts origin c.args.face.now c.in-len2-up.len_at_least)
