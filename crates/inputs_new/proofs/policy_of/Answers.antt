-- `inputs_new::policy_of` meets its contract. Assumes nothing.
use mathlib.Core.Path.{refl}
use lib.Ieee.{of_bits}
use Rattle.policy.specs.Settings.{share_of_percent}
use Rattle.rules_calls.specs.NewRecord.{policy_of}
use Rattle.inputs_new.proofs.policy_of.Goals as goal

pub returns : goal.returns
unfolding policy_of share_of_percent of_bits
returns c = refl
