-- `inputs_flows::remember` meets its contract. Assumes nothing.
use Rattle.rules_record.proofs.FlowCases.{remember_other, remember_same}
use Rattle.inputs_flows.proofs.remember.Goals as goal

pub returns-then-ne : goal.returns-then-ne
returns-then-ne c = remember_other _ _ _ c.recall-last.ensures c.keep-all.ensures c.ne.ensures c.if-ne.true

pub returns : goal.returns
returns c = remember_same _ _ _ c.recall-last.ensures c.keep-all.ensures c.ne.ensures c.if-ne.false
