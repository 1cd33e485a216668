-- What is left to do, on a stack of its own: what is at work, and the frames that wait for its tree.
use Rattle.std.specs.Prelude.{◌≡◌, ◌≢◌, ℕ, List, [], ◌∷◌, ◌++◌, drop, Result, Ok, Err, OnOk, Bool, if◌then◌else◌, Vec}
use Rattle.std.specs.Global.{Global}
use Rattle.scad_fault.specs.declared.place.Place.{Place}
use Rattle.scad_ast.specs.Scope.{item_of, items}
use Rattle.scad_ast.specs.View.{arguments}
use Rattle.scad_tree.specs.declared.node.Node.{Node}
use Rattle.scad_tree.specs.Normal.{united}
use Rattle.scad_tree.specs.Solid.{Solid, nothing}
use Rattle.scad_tree.specs.View.{solid_of, solids}
use Rattle.scad_machine.specs.declared.fault.EvalFault.{EvalFault}
use Rattle.scad_machine.specs.declared.fault.EvalFault.TheVariants.{Memory}
use Rattle.scad_machine.specs.declared.machine.Machine.{Machine}
use Rattle.scad_expr.specs.Answers.{Does}
use Rattle.scad_expr.specs.Machine.{Held, held, env_in, along_in, state_of}
use Rattle.scad_expr.specs.OpenFrames.{left}
use Rattle.scad_expr.specs.Runs.{left_in}
use Rattle.scad_expr.specs.State.{State, Outcome, refuses, Action, pure, and_then, ◌>>=◌}
use Rattle.scad_leaves.specs.declared.operation.Operation.{Operation}
use Rattle.scad_leaves.specs.declared.space.Where.{Where}
use Rattle.scad_leaves.specs.Hulls.{hull_made}
use Rattle.scad_leaves.specs.Operation.{operated}
use Rattle.scad_leaves.specs.Products.{judged}
use Rattle.scad_leaves.specs.Profiles.{with_its_profiles}
use Rattle.scad_members.specs.declared.stack.Stack.{Stack}
use Rattle.scad_members.specs.declared.work.Frame.{Frame}
use Rattle.scad_members.specs.declared.work.Frame.TheVariants.{Mark, Member, Then, Combine, Hull, Stand, Leave}
use Rattle.scad_members.specs.declared.work.Focus.{Focus}
use Rattle.scad_members.specs.declared.work.Focus.TheVariants.{Statement, Members, Children, Variables, Turns, Given}
use Rattle.scad_members.specs.Frames.{below_of, with_depth}
use Rattle.scad_members.specs.Meaning.{members_from, for_variables, turns, children_by}

-- what follows a tree: it takes where statements stand, what the machine holds, the members so far, and the tree
abbrev pub Rest : Type 0
Rest = Where → Held → List Solid → Solid → Action Solid

-- nothing waits: the members are those of the program, and are united
abbrev pub ended : Rest
ended w h ss t = pure (united ss)

-- members were added, and no tree
abbrev pub listed : Rest → Where → Held → List Solid → Action Solid
listed k w h ss = k w h ss nothing

-- statements stand at a place again, wherever the tree was made
abbrev pub again_at : Where → Rest → Rest
again_at outer k w h ss t = k outer h ss t

-- the members so far, and a tree behind them unless its statement is marked `%`
abbrev pub with_member : Bool → List Solid → Solid → List Solid
with_member marked ss t = if marked then ss else ss ++ t ∷ []

-- ---- what follows
-- what is at work, and then what follows it
unfoldable pub goes_on : Focus → Rest → Where → Held → List Solid → Action Solid
goes_on (Statement i) k w h ss s =
    and_then ((below_of h).statement w (env_in h) (along_in h) (item_of i.now) s) (k w h ss)
goes_on (Members scope next) k w h ss s =
    and_then (members_from (below_of h) w (env_in h) (along_in h) (items (drop next scope.now.items)) ss s)
    (listed k w h)
goes_on (Children scope more) k w h ss s =
    and_then (children_by (below_of h) w (env_in h) (along_in h) (items scope.now.items) (left_in more) ss s)
    (listed k w h)
goes_on (Variables c next) k w h ss s =
    and_then (for_variables (below_of h) c.at w (arguments (drop next c.args.now.items)) (items c.all.now.items)
    (env_in h) (along_in h) ss s) (listed k w h)
goes_on (Turns v more) k w h ss s =
    and_then (turns (below_of h) v.call.at v.name.now (for_variables (below_of h) v.call.at w
    (arguments (drop v.next v.call.args.now.items)) (items v.call.all.now.items)) (env_in h) (along_in h) (left_in more)
    ss s) (listed k w h)
goes_on (Given t) k w h ss s = k w h ss (solid_of t) s

-- a frame, and then what follows it
unfoldable pub onto : Frame → Rest → Rest
onto (Mark marked depth from) k w h ss t =
    with_its_profiles from (if marked then nothing else t) >>= k w (with_depth depth h) ss
onto (Member marked) k w h ss t = listed k w h (with_member marked ss t)
onto (Then f) k w h ss t = goes_on f k w h ss
onto (Combine o at outer) k w h ss t = judged at (operated o ss) >>= k w h (solids outer.items)
onto (Hull c from) k w h ss t = hull_made c.at c.name.now w from t >>= k w h ss
onto (Stand outer) k w h ss t = again_at outer.value k w h ss t
onto (Leave back) k w h ss t = k w (left back h) ss t

-- what waited before with these members, is an operation over others now, whose frames are left first
abbrev pub Begins : Operation → Place → ℕ → Rest → List Solid → Rest → Type 0
Begins o at back k ss now =
    (outer : Vec Node Global) × (solids outer.items ≡ ss) × (now ≡ onto (Leave back) (onto (Combine o at outer) k))

-- the frame behind all others is the first that goes on
abbrev pub rest_of : List Frame → Rest → Rest
rest_of [] k = k
rest_of (f ∷ more) k = rest_of more (onto f k)

-- what the frames of a stack do
unfoldable pub rest : Stack → Rest
rest s = rest_of s.frames.items ended

-- the members so far of the operation that is being made
unfoldable pub made_in : Stack → List Solid
made_in s = solids s.made.items

-- a tree, and then what the frames of a stack do with it
abbrev pub onward : Outcome Solid → Stack → Machine → Outcome Solid
onward o stack m = and_then o (rest stack stack.stands (held m) (made_in stack))

-- members, and then what the frames of a stack do with them
abbrev pub onward_listed : Outcome (List Solid) → Stack → Machine → Outcome Solid
onward_listed o stack m = and_then o (listed (rest stack) stack.stands (held m))

-- the whole is what is at work now, and then what the frames do; or it is the refusal, unless there was no memory
abbrev pub Goes : Outcome Solid → Result Focus EvalFault → Stack → Machine → Type 0
Goes whole (Ok f) stack m = whole ≡ goes_on f (rest stack) stack.stands (held m) (made_in stack) (state_of m)
Goes whole (Err e) stack m = e ≢ Memory → whole ≡ refuses e (state_of m)

-- what is at work, whatever the machine holds and counted, is the whole
abbrev pub Starts : Outcome Solid → Result Focus EvalFault → Stack → Held → State → Type 0
Starts whole (Ok f) stack h s = whole ≡ goes_on f (rest stack) stack.stands h (made_in stack) s
Starts whole (Err e) stack h s = Unit {0}

-- where a tree is given, it is at work, and then comes what waits
abbrev pub GoesOn : Result Node EvalFault → Result Focus EvalFault → Type 0
GoesOn tree focus =
    (whole o : Outcome Solid) (stack : Stack) (h : Held) (m : Machine)
    → whole ≡ and_then o (rest stack stack.stands h (made_in stack)) → Does solid_of o tree (state_of m) → OnOk tree
    (held m ≡ h)
    → Goes whole focus stack m
