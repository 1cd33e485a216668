-- Tests put together in another order.
use Rattle.std.proofs.Common.{◌≡◌, Bool, ◌&&◌}
use Rattle.std.proofs.Math.Bool.{and_comm}

pub both_then_third : (a b c : Bool) → ((a && b) && c) ≡ (c && (a && b))
both_then_third a b c = and_comm (a && b) c
