-- `inputs_flows::distinct` meets its contract. Assumes nothing.
use Rattle.std.proofs.Common.{rules, take}
use borrow.Author.Tests.{tests}
use Rattle.std.proofs.lemmas.Iterator.{YieldsList-from_slice}
use Rattle.std.proofs.lemmas.Iterator.Search.{any_from_yields_List}
use Rattle.rules_record.specs.contracts.FlowPartialEq.TheImpl as flow
use Rattle.base.proofs.All.{all_none}
use Rattle.rules_record.proofs.FlowCases.{known_most, told_new, told_twice, told_distinct}
use Rattle.rules_record.specs.Flows.{empty_entry}
use Rattle.inputs_flows.proofs.distinct.Goals as goal

pub shared_ref_as_front-table : goal.shared_ref_as_front-table
shared_ref_as_front-table c = rw c.places-n.ensures (known_most _)

pub loop-i-init : goal.loop-i-init
loop-i-init c = all_none _

pub returns-then-any : goal.returns-then-any
unfolding empty_entry
returns-then-any c = told_twice c.args.inputs (search (rules, c.well_formed)) c.places-n.ensures c.loop-i-test.true (any_from_yields_List (λ entry. (flow.eq-value).it entry.flow _) _ _ _ c.any.ensures.ran (YieldsList-from_slice (take c.loop-i.i (take c.places-n.result c.args.inputs.flows)) c.iter.ensures.rest) (λ x b q k. search (rules, tests))) c.if-any.true

pub loop-i-preserved : goal.loop-i-preserved
unfolding empty_entry
loop-i-preserved c = told_new c.args.inputs (search (rules, c.well_formed)) c.places-n.ensures c.loop-i-test.true (any_from_yields_List (λ entry. (flow.eq-value).it entry.flow _) _ _ _ c.any.ensures.ran (YieldsList-from_slice (take c.loop-i.i (take c.places-n.result c.args.inputs.flows)) c.iter.ensures.rest) (λ x b q k. search (rules, tests))) c.if-any.false c.loop-i.invariant

pub returns : goal.returns
returns c = told_distinct c.args.inputs (search (rules, c.well_formed)) c.places-n.ensures c.loop-i.invariant c.loop-i.auto.i-end c.loop-i-test.false
