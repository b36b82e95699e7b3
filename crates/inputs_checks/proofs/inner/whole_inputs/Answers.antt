-- `inputs_checks::inner::whole_inputs` meets its contract. Assumes nothing.
use mathlib.Core.Path.{refl}
use native.Mathlib.Omega.{arith}
use Rattle.base.proofs.All.{all_end, all_more, all_none, all_stop, told_no, told_yes}
use Rattle.rules_record.specs.Slots.{empty_slot}
use Rattle.rules_record.proofs.SlotFrame.{slot_in}
use Rattle.rules_record.specs.WholeRecord.{input_fits, whole_inputs}
use Rattle.rules_record.specs.Lending.{lists_seen}
use Rattle.rules_record.proofs.RecordCases.{input_asks, told_input, told_unused}
use Rattle.inputs_checks.proofs.inner.whole_inputs.Goals as goal

pub loop-i-init : goal.loop-i-init
loop-i-init c = all_none _

pub whole_input-requires : goal.whole_input-requires
unfolding empty_slot
whole_input-requires c = let args = c.args in let h = input_asks _ (lists_seen args.lists) args.inputs c.requires c.loop-i-test.true in record { sound = h.0; parts_in = h.1.0; width_in_bounds = h.1.1.0; i_in_bounds = h.1.1.1 }

pub returns-then-not-whole_input : goal.returns-then-not-whole_input
unfolding whole_inputs empty_slot
returns-then-not-whole_input c = let args = c.args in let l = c.loop-i-test.true in let within = c.requires.allowed.most in all_stop (input_fits args.inputs (lists_seen args.lists)) 16 _ (omega (arith, l, within)) (told_no _ _ (told_input _ (lists_seen args.lists) args.inputs l (c.whole_input.ensures args.inputs (refl {a = args.inputs.policy}) refl refl (slot_in args.inputs _ (omega (arith, l, within))))) c.if-not-whole_input.true)

pub loop-i-preserved : goal.loop-i-preserved
unfolding empty_slot
loop-i-preserved c = let args = c.args in let l = c.loop-i-test.true in let within = c.requires.allowed.most in all_more (input_fits args.inputs (lists_seen args.lists)) _ c.loop-i.invariant (told_yes _ _ (told_input _ (lists_seen args.lists) args.inputs l (c.whole_input.ensures args.inputs (refl {a = args.inputs.policy}) refl refl (slot_in args.inputs _ (omega (arith, l, within))))) c.if-not-whole_input.false)

pub returns-then-not-unused_slot : goal.returns-then-not-unused_slot
unfolding whole_inputs empty_slot
returns-then-not-unused_slot c = let args = c.args in all_stop (input_fits args.inputs (lists_seen args.lists)) 16 _ (omega (arith, c.loop-i-2-test.true)) (told_no _ _ (told_unused _ (lists_seen args.lists) args.inputs c.loop-i-2.auto.i (omega (arith, c.loop-i-2-test.true)) c.unused_slot.ensures) c.if-not-unused_slot.true)

pub loop-i-2-preserved : goal.loop-i-2-preserved
unfolding empty_slot
loop-i-2-preserved c = let args = c.args in all_more (input_fits args.inputs (lists_seen args.lists)) _ c.loop-i-2.invariant (told_yes _ _ (told_unused _ (lists_seen args.lists) args.inputs c.loop-i-2.auto.i (omega (arith, c.loop-i-2-test.true)) c.unused_slot.ensures) c.if-not-unused_slot.false)

pub returns : goal.returns
unfolding whole_inputs
returns c = let args = c.args in all_end (input_fits args.inputs (lists_seen args.lists)) 16 _ c.loop-i-2.invariant (c.loop-i-2.auto.i-end c.requires.allowed.most) c.loop-i-2-test.false
