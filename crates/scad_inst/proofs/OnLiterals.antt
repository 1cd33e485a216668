-- What an answer unfolds to compute the meaning of a literal program.
use Rattle.std.specs.Prelude.{⊤}
use Rattle.scad_cos.specs.Circle.{least_step, fragments_by_steps, fragments_of, vertex_angle_of}
use Rattle.scad_cos.specs.Cosine.{cosines, first_quarter, half_turn, full_turn, cosine, sine}
use Rattle.scad_solid.specs.Stack.{stacked}
use Rattle.scad_solid.specs.Surface.{is_closed}
use Rattle.scad_solid.specs.Wrap.{wrapped}
use Rattle.scad_matrix.specs.Makers.{reflection}
use Rattle.scad_tree.specs.Normal.{united, intersected, subtracted}
use Rattle.scad_modules.specs.Extrusions.{linear_by, turned_by}
use Rattle.scad_modules.specs.FlatShapes.{outlines_of}
use Rattle.scad_modules.specs.Names.{meaning_of}
use Rattle.scad_modules.specs.Arguments.{taken}
use Rattle.scad_modules.specs.Shapes.{primitive_of}
use Rattle.scad_modules.specs.Transforms.{first_three, matrix_of}
use Rattle.scad_expr.proofs.OnLiterals.{expressions_on_literals}
use Rattle.scad_leaves.specs.FlatLeaves.{linear_leaf, judge_points, judge_sides, swept, profile_turned, turned_leaf, leaf_in, flat_leaves}
use Rattle.scad_leaves.specs.Hulls.{judge_united, hulled, hull_leaf, solid_hull, hull_profile, turned_hull, hull_in, hull_made}
use Rattle.scad_leaves.specs.Products.{count_leaf, count_triangles, placed, leaf, argued, placed_by, judge_solid, judge_flat, judged}
use Rattle.scad_leaves.specs.Profiles.{with_its_profiles}
use Rattle.scad_leaves.specs.Shapes.{primitive_made, first_without_others, flat_made}
use Rattle.scad_leaves.specs.Where.{moved, inside_linear}
use Rattle.scad_members.specs.Modules.{module_named, kept_children}
use Rattle.scad_members.specs.OpenFrames.{dollars_of}
use Rattle.scad_members.specs.Meaning.{assigned_value, assigned, opened_scope, member, members_from, members, combined, called_own, turns, for_variables, looped, let_in, child, children_by, chosen, run_children, built_in, called_known, called, node, statement_layer, statements_meaning, program_of, means}

unfoldable pub statements_on_literals : ⊤
unfolding expressions_on_literals least_step fragments_by_steps fragments_of vertex_angle_of cosines first_quarter
    half_turn full_turn cosine sine stacked wrapped is_closed reflection united intersected subtracted meaning_of taken
    linear_by turned_by outlines_of primitive_of first_three matrix_of moved inside_linear module_named kept_children
    count_leaf count_triangles placed leaf argued placed_by judge_solid judge_flat judged linear_leaf with_its_profiles
    judge_united hulled hull_leaf solid_hull hull_profile turned_hull hull_in hull_made judge_points judge_sides swept
    profile_turned turned_leaf leaf_in flat_leaves primitive_made first_without_others flat_made dollars_of assigned_value assigned
    opened_scope member members_from members combined called_own turns for_variables looped let_in child children_by
    chosen run_children built_in called_known called node statement_layer statements_meaning program_of means
statements_on_literals = tt
