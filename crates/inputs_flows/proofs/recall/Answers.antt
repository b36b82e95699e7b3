-- `inputs_flows::recall` meets its contract. Assumes nothing.
use mathlib.Core.Path.{sym, ap}
use Rattle.rules_record.specs.declared.FlowEntry.{FlowEntry}
use Rattle.rules_record.proofs.FlowCases.{entry_in, entry_past}
use Rattle.rules_record.specs.Flows.{recalled, empty_entry}
use Rattle.inputs_flows.proofs.recall.Goals as goal

pub returns-then-place-lt64 : goal.returns-then-place-lt64
unfolding recalled empty_entry
returns-then-place-lt64 c = sym (ap (λ (e : FlowEntry). e.remembered) (entry_in _ _ c.if-place-lt64.true))

pub returns : goal.returns
unfolding recalled empty_entry
returns c = sym (ap (λ (e : FlowEntry). e.remembered) (entry_past _ _ c.if-place-lt64.false))
