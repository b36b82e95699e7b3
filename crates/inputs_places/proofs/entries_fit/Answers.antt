-- `inputs_places::entries_fit` meets its contract. Assumes nothing.
use Rattle.base.proofs.All.{all_end, all_more, all_none, all_stop, told_no, told_yes}
use Rattle.rules_record.specs.Flows.{empty_entry}
use Rattle.rules_record.specs.WholePlaces.{entries_fit, entry_fits}
use Rattle.rules_record.proofs.RecordCases.{told_entry}
use Rattle.inputs_places.proofs.entries_fit.Goals as goal

pub loop-place-init : goal.loop-place-init
loop-place-init c = all_none _

pub returns-then-not-entry_fits : goal.returns-then-not-entry_fits
unfolding entries_fit empty_entry
returns-then-not-entry_fits c = all_stop (entry_fits c.args.inputs) 64 _ c.loop-place-test.true (told_no _ _ (told_entry c.args.inputs _ c.loop-place-test.true c.entry_fits.ensures) c.if-not-entry_fits.true)

pub loop-place-preserved : goal.loop-place-preserved
unfolding empty_entry
loop-place-preserved c = all_more (entry_fits c.args.inputs) _ c.loop-place.invariant (told_yes _ _ (told_entry c.args.inputs _ c.loop-place-test.true c.entry_fits.ensures) c.if-not-entry_fits.false)

pub returns : goal.returns
unfolding entries_fit
returns c = all_end (entry_fits c.args.inputs) 64 _ c.loop-place.invariant c.loop-place.auto.place-end c.loop-place-test.false
