-- `inputs_checks::inner::whole_input` meets its contract. Assumes nothing.
use Rattle.std.specs.Prelude.{◌≡◌, ℕ, ◌*◌, Bool}
use mathlib.Core.Path.{ap, ◌∙◌}
use native.Mathlib.Nat.{add-sub_cancel_left}
use Rattle.base.proofs.All.{both_no, both_yes, told_no, told_yes}
use Rattle.lag_window.specs.declared.LagWindow.{LagWindow}
use Rattle.inputs_window.specs.Windows.{all_windows}
use Rattle.rules_record.specs.Lent.{Lists}
use Rattle.rules_record.specs.Lending.{lists_seen}
use Rattle.rules_window.specs.WholeWindow.{whole_with_sums}
use Rattle.rules_window.specs.Parts.{part_of}
use Rattle.base.specs.Lists.{part}
use Rattle.rules_record.specs.WholeRecord.{whole_input}
use Rattle.rules_record.proofs.RecordCases.{told_hold, told_slot, told_window}
use Rattle.inputs_checks.proofs.inner.whole_input.Goals as goal

-- whether the window of input i is whole and its sums are right
abbrev right_in : (i : ℕ) (l : Lists) (w : LagWindow) → Bool
right_in i l w = whole_with_sums (part_of i (all_windows w l)) (part (i * w.buckets) w.buckets l.sums)

-- what is told of the window that was made is so of the window of the slot
of_slot : (i : ℕ) (l : Lists) {made window : LagWindow} {r : Bool} → made ≡ window → r ≡ right_in i l made → r ≡ right_in i l window
of_slot i l e g = g ∙ ap (right_in i l) e

pub whole-requires : goal.whole-requires
whole-requires c = record { parts_in = rw c.window_in-window.ensures c.requires.parts_in; buckets_in_bounds = rw c.window_in-window.ensures c.requires.width_in_bounds }

pub returns-then-not-whole : goal.returns-then-not-whole
unfolding whole_input
returns-then-not-whole c s p w f e = let args = c.args in both_no _ _ (told_no _ _ (told_window args.i (lists_seen args.lists) s p w e (of_slot args.i (lists_seen args.lists) c.window_in-window.ensures c.whole.ensures)) c.if-not-whole.true)

pub returns-then-not-whole-2 : goal.returns-then-not-whole-2
unfolding whole_input
returns-then-not-whole-2 c s p w f e = let args = c.args in both_yes _ _ _ (told_yes _ _ (told_window args.i (lists_seen args.lists) s p w e (of_slot args.i (lists_seen args.lists) c.window_in-window.ensures c.whole.ensures)) c.if-not-whole.false) (both_no _ _ (told_no _ _ (told_hold args.i (lists_seen args.lists) s p w e (add-sub_cancel_left (args.i * 600) 600) c.whole-2.ensures) c.if-not-whole-2.true))

pub returns : goal.returns
unfolding whole_input
returns c s p w f e = let args = c.args in both_yes _ _ _ (told_yes _ _ (told_window args.i (lists_seen args.lists) s p w e (of_slot args.i (lists_seen args.lists) c.window_in-window.ensures c.whole.ensures)) c.if-not-whole.false) (both_yes _ _ _ (told_yes _ _ (told_hold args.i (lists_seen args.lists) s p w e (add-sub_cancel_left (args.i * 600) 600) c.whole-2.ensures) c.if-not-whole-2.false) (told_slot args.i (lists_seen args.lists) s p w e f c.whole_slot.ensures))
