-- The members of an operation are less deep than it.
use Rattle.std.proofs.Common.{rules, ◌<◌, arith}
use denote.Param.Weighed.{most}
use Rattle.std.specs.Prelude.{Vec}
use Rattle.std.specs.declared.boxed.Box.{Box}
use Rattle.std.specs.Global.{Global}
use Rattle.scad_geom.specs.declared.shape.Shape.{Shape, Union, Inter, Diff}
use Rattle.scad_geom.specs.declared.shape.Shape.{the_lemmas}
use Rattle.scad_geom.proofs.shape.Shape.TheLaws.{the_size}

pub rest_smaller : (b : Box Shape Global) (v : Vec Shape Global) → most the_size v.items < the_size (Diff b v)
rest_smaller b v = search (rules, the_lemmas, arith)

pub first_smaller : (b : Box Shape Global) (v : Vec Shape Global) → the_size b.value < the_size (Diff b v)
first_smaller b v = search (rules, the_lemmas, arith)

pub union_smaller : (v : Vec Shape Global) → most the_size v.items < the_size (Union v)
union_smaller v = search (rules, the_lemmas, arith)

pub inter_smaller : (v : Vec Shape Global) → most the_size v.items < the_size (Inter v)
inter_smaller v = search (rules, the_lemmas, arith)
