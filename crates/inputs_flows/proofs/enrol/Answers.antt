-- `inputs_flows::enrol` meets its contract. Assumes nothing.
use Rattle.rules_record.proofs.FlowCases.{enrol_known, enrol_full, enrol_new}
use Rattle.inputs_flows.proofs.enrol.Goals as goal

pub returns-then-place-inputs : goal.returns-then-place-inputs
returns-then-place-inputs c = enrol_known _ _ c.find-place.ensures c.if-place-inputs.true

pub returns-then-place-ge64 : goal.returns-then-place-ge64
returns-then-place-ge64 c = enrol_full _ _ c.find-place.ensures c.if-place-inputs.false c.if-place-ge64.true

pub returns : goal.returns
returns c = enrol_new _ _ c.find-place.ensures c.if-place-inputs.false c.if-place-ge64.false
