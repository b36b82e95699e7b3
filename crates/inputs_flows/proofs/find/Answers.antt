-- `inputs_flows::find` meets its contract. Assumes nothing.
use Rattle.std.proofs.Common.{rules, take}
use borrow.Author.Tests.{tests}
use mathlib.Core.Path.{◌∙◌}
use Rattle.std.proofs.lemmas.Iterator.{YieldsList-from_slice}
use Rattle.std.proofs.lemmas.Iterator.Search.{position_from_yields_List}
use Rattle.rules_record.specs.contracts.FlowPartialEq.TheImpl as flow
use Rattle.rules_record.proofs.FlowCases.{known_most, found_flow}
use Rattle.inputs_flows.proofs.find.Goals as goal

pub shared_ref_as_front-table : goal.shared_ref_as_front-table
shared_ref_as_front-table c = rw c.places-n.ensures (known_most _)

pub returns : goal.returns
returns c =
    c.unwrap_or.ensures
    ∙ found_flow c.args.inputs (search (rules, c.well_formed)) c.places-n.ensures c.args.flow
    (position_from_yields_List (λ entry. (flow.eq-value).it entry.flow c.args.flow) _ _ _ c.position.ensures.ran (YieldsList-from_slice (take c.places-n.result c.args.inputs.flows) c.iter.ensures.rest) (λ x b q k. search (rules, tests)))
