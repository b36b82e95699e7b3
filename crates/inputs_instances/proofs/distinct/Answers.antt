-- `inputs_instances::distinct` meets its contract. Assumes nothing.
use Rattle.std.proofs.Common.{rules}
use Rattle.base.proofs.All.{all_none}
use Rattle.rules_record.specs.Instances.{no_key}
use Rattle.rules_record.proofs.InstanceCases.{held_most, told_new, told_twice, told_distinct}
use Rattle.inputs_instances.proofs.distinct.Goals as goal

pub shared_ref_as_front-table : goal.shared_ref_as_front-table
shared_ref_as_front-table c = rw c.places-n.ensures (held_most _)

pub loop-i-init : goal.loop-i-init
loop-i-init c = all_none _

pub returns-then-contains : goal.returns-then-contains
unfolding no_key
returns-then-contains c = told_twice c.args.inputs (search (rules, c.well_formed)) c.places-n.ensures c.loop-i-test.true c.contains.ensures.value c.if-contains.true

pub loop-i-preserved : goal.loop-i-preserved
unfolding no_key
loop-i-preserved c = told_new c.args.inputs (search (rules, c.well_formed)) c.places-n.ensures c.loop-i-test.true c.contains.ensures.value c.if-contains.false c.loop-i.invariant

pub returns : goal.returns
returns c = told_distinct c.args.inputs (search (rules, c.well_formed)) c.places-n.ensures c.loop-i.invariant c.loop-i.auto.i-end c.loop-i-test.false
