use Rattle.std.proofs.Common.{◌≡◌, drop}
use Rattle.scad_ast.specs.Scope.{items}
use Rattle.scad_scope.specs.FrameStore.{env_at, envs}
use Rattle.scad_expr.specs.Machine.{held, along_in, state_of}
use Rattle.scad_expr.specs.OpenFrames.{bound_in, left}
use Rattle.scad_members.specs.Frames.{below_of, IsScope}
use Rattle.scad_members.specs.Meaning.{assigned}
use Rattle.scad_members.proofs.scopes.assign.Given as goal

abbrev pub invariant-names : goal.invariant-names
invariant-names l = record {
  assigned :
      assigned (below_of (held l.fn.m)) (items l.scope.items) (env_at (envs (left l.back (held l.fn.m)).frames) l.home)
      (along_in (left l.back (held l.fn.m))) (drop l.binding-index l.all) (bound_in (held l.m)) (state_of l.m)
      ≡ assigned (below_of (held l.fn.m)) (items l.scope.items) (env_at (envs (left l.back (held l.fn.m)).frames)
      l.home)
      (along_in (left l.back (held l.fn.m))) l.all (bound_in (held l.fn.m)) (state_of l.fn.m);
  scope : IsScope (items l.scope.items) l.home l.back (held l.m);
  left : left l.back (held l.m) ≡ left l.back (held l.fn.m);
}
