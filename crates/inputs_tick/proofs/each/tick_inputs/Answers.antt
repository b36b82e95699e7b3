-- `inputs_tick::each::tick_inputs` meets its contract. Assumes nothing.
use mathlib.Core.Path.{refl, ◌∙◌}
use native.Mathlib.Nat.{add-sub_cancel_left}
use native.Mathlib.Omega.{arith}
use Rattle.rules_tick.specs.Looks.{look_at, no_look}
use Rattle.rules_record.specs.Slots.{empty_slot}
use Rattle.rules_record.specs.Lending.{lists_lent}
use Rattle.inputs_commands.proofs.Steps.{long_effected}
use Rattle.rules_tick.proofs.TickTurns.{turn_none, lags_there, turn_asks, turn_again, turn_end}
use Rattle.inputs_tick_input.proofs.Resting.{turn_passed}
use Rattle.inputs_tick.proofs.Kept.{same_none, same_more}
use Rattle.inputs_tick.proofs.each.tick_inputs.Goals as goal

pub loop-i-init : goal.loop-i-init
loop-i-init c = (turn_none _ _ _ _ _ _ _ c.requires.inputs_asked, refl, same_none _)

pub loop-i-preserved-then-stays : goal.loop-i-preserved-then-stays
unfolding look_at no_look empty_slot
loop-i-preserved-then-stays c = (turn_passed _ _ _ _ (lists_lent c.args.lists.now) c.args.commands.now.words.now _ c.requires.inputs_asked _ c.loop-i.invariant.0 c.loop-i-test.true refl refl (c.stays.ensures c.if-stays.true), c.loop-i.invariant.1, c.loop-i.invariant.2)

pub overflow_add-to : goal.overflow_add-to
unfolding look_at no_look
overflow_add-to c = let there = lags_there _ _ _ _ (lists_lent c.args.lists.now) c.args.commands.now.words.now _ c.requires.inputs_asked _ c.loop-i.invariant.0 c.loop-i-test.true refl in omega (arith, there)

pub offset_bounds-lags-from : goal.offset_bounds-lags-from
unfolding look_at no_look
offset_bounds-lags-from c = let there = lags_there _ _ _ _ (lists_lent c.args.lists.now) c.args.commands.now.words.now _ c.requires.inputs_asked _ c.loop-i.invariant.0 c.loop-i-test.true refl in omega (arith, there, c.well_formed.1.1.0.1)

pub slice_bounds-tick_input-start : goal.slice_bounds-tick_input-start
unfolding look_at no_look
slice_bounds-tick_input-start c = let there = lags_there _ _ _ _ (lists_lent c.args.lists.now) c.args.commands.now.words.now _ c.requires.inputs_asked _ c.loop-i.invariant.0 c.loop-i-test.true refl in omega (arith, there)

pub slice_bounds-tick_input-end : goal.slice_bounds-tick_input-end
unfolding look_at no_look
slice_bounds-tick_input-end c = let there = lags_there _ _ _ _ (lists_lent c.args.lists.now) c.args.commands.now.words.now _ c.requires.inputs_asked _ c.loop-i.invariant.0 c.loop-i-test.true refl in omega (arith, there)

pub tick_input-all-requires : goal.tick_input-all-requires
unfolding look_at no_look
tick_input-all-requires c = let asks = turn_asks _ _ _ _ (lists_lent c.args.lists.now) c.args.commands.now.words.now _ c.requires.inputs_asked _ c.loop-i.invariant.0 c.loop-i-test.true refl (add-sub_cancel_left c.loop-i.from _) in record { sized = (c.loop-i.invariant.0.sized, c.requires.inputs_asked.timely); input_asked = asks; used_in_bounds = omega (arith, c.requires.count_in_bounds, c.loop-i-test.true, c.loop-i.invariant.0.effected.done.used, c.loop-i.invariant.0.effected.done.room, c.loop-i.invariant.0.commands) }

pub loop-i-preserved : goal.loop-i-preserved
unfolding look_at no_look
loop-i-preserved c = (turn_again _ _ _ _ (lists_lent c.args.lists.now) c.args.commands.now.words.now _ c.requires.inputs_asked _ c.loop-i.invariant.0 c.loop-i-test.true refl (add-sub_cancel_left c.loop-i.from _) c.tick_input-all.ensures.affects.effected (long_effected c.tick_input-all.ensures.affects), c.tick_input-all.ensures.affects.same ∙ c.loop-i.invariant.1, same_more c.loop-i.invariant.2 c.tick_input-all.ensures.same)

pub returns-clause-affects : goal.returns-clause-affects
returns-clause-affects c = record { effected = turn_end _ _ _ _ _ _ _ c.requires.inputs_asked _ c.loop-i.invariant.0 c.loop-i-test.false; same = c.loop-i.invariant.1 }
