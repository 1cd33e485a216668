-- Calls by what their names mean.
use Rattle.std.proofs.Common.{◌≡◌, ◌≢◌, ℕ, List, Option, Some, refl, ap}
use Rattle.scad_fault.specs.declared.place.Place.{Place}
use Rattle.scad_ast.specs.Tree.{Arguments, Items}
use Rattle.scad_value.specs.Datum.{Datum}
use Rattle.scad_scope.specs.Env.{Env}
use Rattle.scad_modules.specs.declared.module.Name.{Name}
use Rattle.scad_modules.specs.declared.module.Name.TheVariants.{Known, For, IntersectionFor, Let, LeftOut, Unknown}
use Rattle.scad_expr.specs.State.{State, Outcome, gives, refuses, Action, and_then, pure}
use Rattle.scad_leaves.specs.declared.operation.Operation.TheVariants.{Unite}
use Rattle.scad_leaves.specs.declared.space.Where.{Where}
use Rattle.scad_members.specs.Meaning.{Below, called, called_own, looped, let_in, combined}
use Rattle.scad_expr.specs.Machine.{Held, env_in, along_in}
use Rattle.scad_expr.specs.Meaning.{bound}
use Rattle.scad_expr.specs.OpenFrames.{opened_in}
use Rattle.scad_members.specs.Modules.{Found}
use Rattle.scad_members.specs.OpenFrames.{call_opened}
use Rattle.scad_inst.specs.Calls.{called_with, own_opened}
use Rattle.scad_members.proofs.Levels.{expressions-are}

module _ (below : Below) (at : Place) (word : List ℕ) (w : Where) (env along : Env) (args : Arguments) (all : Items) (s : State) where
  pub called-for : (n : Name) (own : Option Found) → n ≡ For → called below n own at word w env along args all s
      ≡ looped below Unite at word w env along args all s
  unfolding called
  called-for n own is = ap (λ m. called below m own at word w env along args all s) is

  pub called-let : (n : Name) (own : Option Found) → n ≡ Let → called below n own at word w env along args all s ≡ let_in below at w env along args all s
  unfolding called
  called-let n own is = ap (λ m. called below m own at word w env along args all s) is

  pub called-own : (n : Name) (m : Found) → n ≢ For → n ≢ Let → called below n (Some m) at word w env along args all s
      ≡ called_with below at w env along m args all s
  unfolding called called_with
  called-own (Known k) m other another = refl
  called-own For m other another = absurd (other refl)
  called-own IntersectionFor m other another = refl
  called-own Let m other another = absurd (another refl)
  called-own LeftOut m other another = refl
  called-own Unknown m other another = refl

behind-pure : {A B C : Type 0} (o : Outcome A) (f : A → B) (g : B → Action C) → and_then o (λ a. g (f a))
    ≡ and_then (and_then o (λ a. pure (f a))) g
behind-pure (gives a s) f g = refl
behind-pure (refuses e s) f g = refl

-- a call of a module of the program is its frames, and then its body
pub own-call : (below : Below) (at : Place) (w : Where) (env along : Env) (m : Found) (args : Arguments)
    (found : List Datum) (all : Items) (s : State) → called_own below at w env along m args found all s
    ≡ and_then (own_opened below env along m args found all s) (λ o. combined below Unite at w m.definition.body o.env
    o.along)
unfolding called_own own_opened
own-call below at w env along m args found all s =
    behind-pure (bound below.expressions m.home along m.definition.parameters args found s)
    (λ b. call_opened m.home along all env b) (λ o. combined below Unite at w m.definition.body o.env o.along)

-- names are sought in the frames that were opened
pub opened-env : (h : Held) → (opened_in h).env ≡ env_in h
unfolding opened_in
opened-env h = refl

pub opened-along : (h : Held) → (opened_in h).along ≡ along_in h
unfolding opened_in
opened-along h = refl

pub ruleset meanings = (called-for, called-let)

pub ruleset own = (called-own)

pub ruleset own_frames = (own-call, expressions-are, opened-env, opened-along)
