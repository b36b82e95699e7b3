-- `inputs_flows::keep` meets its contract. Assumes nothing.
use borrow.Author.Tests.{lt-ltb, le-ltb}
use Rattle.rules_record.specs.Flows.{kept, flow_at, empty_entry}
use Rattle.rules_record.proofs.FlowCases.{entry_in}
use Rattle.inputs_flows.proofs.keep.Goals as goal

pub returns-then-place-lt64 : goal.returns-then-place-lt64
unfolding kept flow_at empty_entry
returns-then-place-lt64 c = rw (lt-ltb _ _ c.if-place-lt64.true, ← entry_in c.args.inputs c.args.place c.if-place-lt64.true)

pub returns : goal.returns
unfolding kept
returns c = rw (le-ltb _ _ c.if-place-lt64.false)
