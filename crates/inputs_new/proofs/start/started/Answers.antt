-- `inputs_new::start::started` meets its contract. Assumes nothing.
use mathlib.Core.Path.{refl, ◌∙◌}
use Rattle.inputs_commands.proofs.Steps.{long_after}
use Rattle.rules_calls.proofs.NewLoops.{starting_none, starting_more, starting_end}
use Rattle.inputs_new.proofs.start.started.Goals as goal

pub loop-i-init : goal.loop-i-init
loop-i-init c = (starting_none _ _ _ _ _ _, refl)

pub loop-i-preserved : goal.loop-i-preserved
loop-i-preserved c = (starting_more _ _ _ _ _ _ c.loop-i.invariant.0 c.loop-i-test.true c.kind_at.ensures c.started_one-all.ensures.did (long_after c.started_one-all.ensures), c.started_one-all.ensures.same ∙ c.loop-i.invariant.1)

pub returns : goal.returns
returns c = record { did = starting_end _ _ _ _ _ _ c.loop-i.invariant.0 c.loop-i-test.false; same = c.loop-i.invariant.1 }
