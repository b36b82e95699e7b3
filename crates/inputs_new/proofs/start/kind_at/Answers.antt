-- `inputs_new::start::kind_at` meets its contract. Assumes nothing.
use mathlib.Core.Path.{refl}
use Rattle.rules_calls.specs.NewStart.{kind_at}
use Rattle.inputs_new.proofs.start.kind_at.Goals as goal

pub returns : goal.returns
unfolding kind_at
returns c = refl
