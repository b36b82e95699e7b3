-- `inputs_flows::inner::flow_from` meets its contract. Assumes nothing.
use Rattle.inputs_flows.proofs.inner.flow_from.Goals as goal

pub returns : goal.returns
returns c = λ t. record { high = c.big_eight-high.ensures t; low = c.big_eight-low.ensures t }
