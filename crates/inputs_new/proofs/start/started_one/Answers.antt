-- `inputs_new::start::started_one` meets its contract. Assumes nothing.
use mathlib.Core.Path.{refl}
use Rattle.rules_calls.proofs.NewLoops.{started_auto, started_manual}
use Rattle.inputs_new.proofs.start.started_one.Goals as goal

pub returns-in_default : goal.returns-in_default
returns-in_default c = record { did = started_auto _ _ _ c.made_at-all.ensures c.in_default.is; same = refl }

pub returns : goal.returns
returns c = record { did = started_manual _ _ _ c.made_at-all.ensures c.in-Ms.is c.samples.ensures c.min-samples.ensures c.set_delay.ensures.did; same = c.set_delay.ensures.same }
