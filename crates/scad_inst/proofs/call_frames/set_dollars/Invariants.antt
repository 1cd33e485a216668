use Rattle.std.proofs.Common.{◌≡◌, drop}
use Rattle.scad_ast.specs.View.{arguments}
use Rattle.scad_expr.specs.Machine.{held, state_of}
use Rattle.scad_expr.specs.OpenFrames.{bound_in, outer, IsInner}
use Rattle.scad_value.specs.View.{data_of}
use Rattle.scad_members.specs.OpenFrames.{dollars_of}
use Rattle.scad_inst.proofs.call_frames.set_dollars.Given as goal

abbrev pub invariant-arguments : goal.invariant-arguments
invariant-arguments l = record {
  bound :
      dollars_of (arguments (drop l.arg-index l.args)) (data_of (drop l.k l.found)) (bound_in (held l.m))
      ≡ dollars_of (arguments l.args) (data_of l.found) (bound_in (held l.fn.m));
  inner : IsInner (held l.m);
  outer : outer (held l.m) ≡ outer (held l.fn.m);
  same : state_of l.m ≡ state_of l.fn.m;
}
