-- `set_delay` keeps a checked record checked. Assumes nothing.
use Prim.Native.Nat.{ℕ, ◌<◌, ◌≤◌}
use mathlib.Core.Path.{refl, sym, subst}
use borrow.Author.Tests.{le-leb}
use Rattle.base.specs.Limits.{time_limit}
use Rattle.rules_record.specs.declared.Inputs.{Inputs}
use Rattle.rules_record.specs.Slots.{with_delay}
use Rattle.rules_record.specs.Inputs.{slot_at, put_slot}
use Rattle.rules_record.proofs.SlotFrame.{put_rest}
use Rattle.rules_routing.specs.SetDelay.{delay_stored}
use Rattle.rules_record.specs.Lent.{Lists}
use Rattle.rules_record.specs.Facts.{WholeSlot, Checked}
use Rattle.rules_record.proofs.Keep.{slot_keeps}
use Rattle.rules_record.proofs.Tables.{remember_for_keeps}

module _ (s : Inputs) (l : Lists) (i delay time : ℕ) (c : Checked s l) (h : i < s.count) (fits : delay ≤ s.policy.delay_max) (soon : time ≤ time_limit) where
  abbrev placed : Inputs
  placed = put_slot s i (with_delay (slot_at s i) delay time)

  slot_fits : WholeSlot s.policy.delay_max s.flow_count (with_delay (slot_at s i) delay time)
  slot_fits =
      let w = (c.whole.inputs i h).slot in
      record { delay = fits; proposed = w.proposed; route = w.route; reopens = w.reopens; changes = w.changes; lates = w.lates; head = w.head; set = le-leb _ _ soon; opened = w.opened }

  placed_checked : Checked placed l
  placed_checked = slot_keeps s l i (with_delay (slot_at s i) delay time) c h slot_fits refl refl

  pub stored_keeps : Checked (delay_stored s i delay time) l
  unfolding delay_stored
  stored_keeps =
      remember_for_keeps placed l placed_checked (slot_at s i) delay
      (subst (λ (z : Inputs). WholeSlot z.policy.delay_max z.flow_count (slot_at s i)) (sym (put_rest s i (with_delay (slot_at s i) delay time))) (c.whole.inputs i h).slot)
