use Rattle.scad_stack.specs.Stack.{purposed}
use Rattle.scad_stack.proofs.Views.{call_node, assert_node, echo_node}
use Rattle.scad_stack.proofs.purpose.purpose_of.Goals as goal

pub returns-in-Call : goal.returns-in-Call
unfolding purposed
returns-in-Call c =
    call_node c.args.e.now c.in-Call.word c.in-Call.args c.as_slice.result.now c.deref.result.now c.in-Call.is
    c.as_slice.ensures c.deref.ensures.value

pub returns-in-Assert : goal.returns-in-Assert
unfolding purposed
returns-in-Assert c =
    assert_node c.args.e.now c.in-Assert.args c.in-Assert.body c.deref-in-Assert.result.now
    c.deref-in-Assert-2.result.now c.in-Assert.is c.deref-in-Assert.ensures.value c.deref-in-Assert-2.ensures

pub returns-in-Echo : goal.returns-in-Echo
unfolding purposed
returns-in-Echo c =
    echo_node c.args.e.now c.in-Echo.args c.in-Echo.body c.deref-in-Echo.result.now
    c.deref-in-Echo-2.result.now c.in-Echo.is c.deref-in-Echo.ensures.value c.deref-in-Echo-2.ensures
