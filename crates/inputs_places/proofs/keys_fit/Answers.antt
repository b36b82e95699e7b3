-- `inputs_places::keys_fit` meets its contract. Assumes nothing.
use Rattle.base.proofs.All.{all_end, all_more, all_none, all_stop, told_no, told_yes}
use Rattle.rules_record.specs.Instances.{no_key}
use Rattle.rules_record.specs.WholePlaces.{keys_fit, key_fits}
use Rattle.rules_record.proofs.RecordCases.{told_key}
use Rattle.inputs_places.proofs.keys_fit.Goals as goal

pub loop-place-init : goal.loop-place-init
loop-place-init c = all_none _

pub returns-then-not-key_fits : goal.returns-then-not-key_fits
unfolding keys_fit no_key
returns-then-not-key_fits c = all_stop (key_fits c.args.inputs) 18 _ c.loop-place-test.true (told_no _ _ (told_key c.args.inputs _ c.loop-place-test.true c.key_fits.ensures) c.if-not-key_fits.true)

pub loop-place-preserved : goal.loop-place-preserved
unfolding no_key
loop-place-preserved c = all_more (key_fits c.args.inputs) _ c.loop-place.invariant (told_yes _ _ (told_key c.args.inputs _ c.loop-place-test.true c.key_fits.ensures) c.if-not-key_fits.false)

pub returns : goal.returns
unfolding keys_fit
returns c = all_end (key_fits c.args.inputs) 18 _ c.loop-place.invariant c.loop-place.auto.place-end c.loop-place-test.false
