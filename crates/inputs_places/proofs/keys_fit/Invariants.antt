-- `inputs_places::keys_fit` meets its contract. Assumes nothing.
use mathlib.Core.Path.{◌≡◌}
use mathlib.Core.Bool.{true}
use Rattle.base.specs.Lists.{all}
use Rattle.rules_record.specs.WholePlaces.{key_fits}
use Rattle.inputs_places.proofs.keys_fit.Given as goal

abbrev pub invariant-loop-place : goal.invariant-loop-place
invariant-loop-place l = all (key_fits l.fn.inputs) l.place ≡ true
