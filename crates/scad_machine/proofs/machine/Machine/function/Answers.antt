-- The function that the item of the name defines, where it defines one.
use Rattle.std.proofs.Common.{◌≡◌, List, Option, None, Some, option_map, sym, ap, ◌∙◌}
use Rattle.std.specs.Prelude.{option_and_then}
use Rattle.scad_ast.specs.Scope.{item_of}
use Rattle.scad_scope.specs.Definitions.{function_word}
use Rattle.scad_scope.specs.Env.{Env}
use Rattle.scad_scope.specs.FrameStore.{env_at, envs}
use Rattle.scad_machine.specs.declared.lookup.ItemAt.{ItemAt}
use Rattle.scad_machine.specs.Functions.{Function, found_in, function_by, function_named, function_there}
use Rattle.scad_machine.specs.Lookup.{FoundItem, item_named}
use Rattle.scad_machine.specs.Machine.{held, env_in}
use Rattle.scad_machine.specs.View.{function_at, item_found_at}
use Rattle.scad_machine.proofs.machine.Machine.function.Goals as goal

no_item : (item : Option FoundItem) → None ≡ item → None ≡ option_and_then function_there item
no_item item none = ap (option_and_then function_there) none

by_item : (all : List Env) (i : ItemAt) (function : Option Function) (item : Option FoundItem)
    → Some (item_found_at all i) ≡ item → function ≡ function_by (item_of i.item.now)
    → option_map (found_in (env_at all i.home)) function ≡ option_and_then function_there item
by_item all i function item found defined =
    ap (option_map (found_in (env_at all i.home))) defined ∙ ap (option_and_then function_there) found

pub returns-in_default-clause-found : goal.returns-in_default-clause-found
unfolding function_named
returns-in_default-clause-found c =
    let all = envs (held c.args.self.now).frames in
    no_item (item_named function_word c.args.name.now (env_in (held c.args.self.now)))
    (sym (ap (option_map (item_found_at all)) c.in_default.is) ∙ c.in_ok-item.ensures.found)

pub returns-in_default-function_by-clause-found : goal.returns-in_default-function_by-clause-found
unfolding function_named
returns-in_default-function_by-clause-found c =
    let all = envs (held c.args.self.now).frames in
    by_item all c.in-Some.field-0 None (item_named function_word c.args.name.now (env_in (held c.args.self.now)))
    (sym (ap (option_map (item_found_at all)) c.in-Some.is) ∙ c.in_ok-item.ensures.found)
    (sym (ap (option_map function_at) c.in_default-function_by.is) ∙ c.function_by.ensures)

pub returns-clause-found : goal.returns-clause-found
unfolding function_named
returns-clause-found c =
    let all = envs (held c.args.self.now).frames in
    by_item all c.in-Some.field-0 (Some (function_at c.in-Some-function_by.function))
    (item_named function_word c.args.name.now (env_in (held c.args.self.now)))
    (sym (ap (option_map (item_found_at all)) c.in-Some.is) ∙ c.in_ok-item.ensures.found)
    (sym (ap (option_map function_at) c.in-Some-function_by.is) ∙ c.function_by.ensures)
