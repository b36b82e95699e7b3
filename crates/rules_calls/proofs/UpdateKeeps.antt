-- Each call keeps a checked record checked; `confirm_delay` where one more delay change is below 2^63. Assumes nothing.
use Rattle.std.specs.Prelude.{None, Option, Some}
use Prim.Native.Nat.{ℕ, ◌+◌, ◌<◌, ◌≤◌}
use mathlib.Core.Bool.{true}
use mathlib.Core.Path.{◌≡◌, refl, sym, subst}
use mathlib.Core.List.{List}
use lib.Dec.{T}
use lib.Ieee.{Float}
use lib.ListN.{length}
use borrow.Author.Tests.{leb-true}
use Rattle.base.specs.Limits.{time_limit, counter_limit, samples_limit}
use Rattle.base.proofs.Choices.{asked, accepted_all}
use Rattle.base.proofs.Points.{both_true}
use Rattle.doubles.specs.Doubles.{samples_of}
use Rattle.doubles.proofs.Delays.{manual_fits_law}
use Rattle.rules_record.specs.declared.ExtraDelay.{ExtraDelay}
use Rattle.rules_record.specs.declared.ExtraDelay.TheVariants.{Auto, Ms}
use Rattle.rules_record.specs.declared.Slot.{Slot}
use Rattle.rules_record.specs.declared.Inputs.{Inputs}
use Rattle.rules_record.specs.Inputs.{slot_at, put_slot}
use Rattle.rules_record.specs.Commands.{quiet, send_first}
use Rattle.rules_routing.specs.SetDelay.{set_delay_of}
use Rattle.rules_record.specs.Lent.{Lists}
use Rattle.rules_record.specs.Reply.{Reply}
use Rattle.rules_record.specs.WholePlaces.{proposal_fits}
use Rattle.rules_record.specs.Facts.{WholeSlot, Checked}
use Rattle.rules_record.proofs.Keep.{slot_keeps, cleared_keeps}
use Rattle.rules_routing.specs.Clear.{cleared_slot, cleared}
use Rattle.rules_routing.proofs.SettingsKept.{settings_put}
use Rattle.rules_routing.proofs.SetDelayKeeps.{stored_keeps}
use Rattle.rules_calls.specs.declared.DelaySetting.{DelaySetting}
use Rattle.rules_calls.specs.UpdateChecks.{manual_fits, kind_fits, manual_number, update_number, confirm_number}
use Rattle.rules_calls.specs.Update.{kind_stored, delay_set, kind_of, updated}
use Rattle.rules_calls.specs.ConfirmDelay.{taken, confirmed_by, confirmed}
use Rattle.rules_calls.specs.UpdateReply.{update_reply, confirm_reply}
use Rattle.rules_record.proofs.Numbers.{input_told}

-- "Is a manual delay from 0 to `ms`(maximum)?": then its samples are at most maximum
pub manual_most : (delay : Float) (maximum : ℕ) → maximum ≤ samples_limit → manual_fits delay maximum ≡ true → samples_of delay ≤ maximum
unfolding manual_fits
manual_most delay maximum most fits =
    let both = both_true _ _ fits in
    manual_fits_law delay maximum most (subst T (sym both.0) tt) (subst T (sym both.1) tt)

module _ (s : Inputs) (l : Lists) (i : ℕ) (c : Checked s l) (h : i < s.count) where
  old : WholeSlot s.policy.delay_max s.flow_count (slot_at s i)
  old = (c.whole.inputs i h).slot

  -- ---- a delay is set
  module _ (slot : Slot) (fits : WholeSlot s.policy.delay_max s.flow_count slot) (seconds : slot.lag_seconds ≡ (slot_at s i).lag_seconds) (hold : slot.hold ≡ (slot_at s i).hold) where
    pub set_keeps : (delay time : ℕ) → delay ≤ s.policy.delay_max → time ≤ time_limit → Checked (delay_set i slot delay time s).inputs l
    unfolding delay_set set_delay_of send_first quiet
    set_keeps delay time most soon =
        stored_keeps (put_slot s i slot) l i delay time (slot_keeps s l i slot c h fits seconds hold)
        (subst (λ (z : Inputs). i < z.count) (sym (settings_put s i slot)) h)
        (subst (λ (z : Inputs). delay ≤ z.policy.delay_max) (sym (settings_put s i slot)) most)
        soon

  -- ---- `update`
  kind_slot : (kind : ExtraDelay) → WholeSlot s.policy.delay_max s.flow_count (kind_stored (slot_at s i) kind)
  kind_slot kind =
      record { delay = old.delay; proposed = refl; route = old.route; reopens = old.reopens; changes = old.changes; lates = old.lates; head = old.head; set = old.set; opened = old.opened }

  cleared_slot_law : (kind : ExtraDelay) → WholeSlot s.policy.delay_max s.flow_count (cleared_slot (kind_stored (slot_at s i) kind))
  cleared_slot_law kind =
      record { delay = old.delay; proposed = refl; route = old.route; reopens = old.reopens; changes = old.changes; lates = old.lates; head = old.head; set = old.set; opened = old.opened }

  pub updated_keeps : (kind : ExtraDelay) (time : ℕ) → kind_fits kind s.policy.delay_max ≡ true → time ≤ time_limit → Checked (updated i kind time s l).inputs (updated i kind time s l).lists
  unfolding updated cleared
  updated_keeps (Ms delay) time fits soon =
      set_keeps (kind_stored (slot_at s i) (Ms delay)) (kind_slot (Ms delay)) refl refl (samples_of delay) time (manual_most delay _ c.fitting.allowed.sound.maximum fits) soon
  updated_keeps (Auto tag) time fits soon = cleared_keeps s l i (cleared_slot (kind_stored (slot_at s i) (Auto tag))) c h (cleared_slot_law (Auto tag)) refl refl

  -- ---- `confirm_delay`
  taken_slot : (slot_at s i).delay_changes + 1 < counter_limit → WholeSlot s.policy.delay_max s.flow_count (taken (slot_at s i))
  taken_slot few =
      record { delay = old.delay; proposed = refl; route = old.route; reopens = old.reopens; changes = few; lates = old.lates; head = old.head; set = old.set; opened = old.opened }

  confirmed_by_law : (proposal : Option ℕ) → proposal_fits proposal s.policy.delay_max ≡ true → (time : ℕ) → (slot_at s i).delay_changes + 1 < counter_limit → time ≤ time_limit
      → Checked (confirmed_by proposal i time s l).inputs (confirmed_by proposal i time s l).lists
  confirmed_by_law None fits time few soon = c
  confirmed_by_law (Some delay) fits time few soon = set_keeps (taken (slot_at s i)) (taken_slot few) refl refl delay time (leb-true _ _ fits) soon

  pub confirmed_keeps : (time : ℕ) → (slot_at s i).delay_changes + 1 < counter_limit → time ≤ time_limit → Checked (confirmed i time s l).inputs (confirmed i time s l).lists
  unfolding confirmed
  confirmed_keeps time few soon = confirmed_by_law (slot_at s i).proposed old.proposed time few soon

-- ---- the calls, accepted or refused
module _ (s : Inputs) (l : Lists) (commands : List ℕ) (input : ℕ) (c : Checked s l) where
  pub update_keeps : (setting : DelaySetting) (time : ℕ) → Checked (update_reply s l commands input setting time).inputs (update_reply s l commands input setting time).lists
  unfolding update_reply update_number manual_number
  update_keeps setting time =
      accepted_all (λ (reply : Reply). Checked reply.inputs reply.lists) (update_number s l (length commands) input setting time) _ _ c
      (λ e.
      let told = input_told s l (length commands) input time _ e in
      updated_keeps s l input c told.1 (kind_of setting) time (asked 11 _ _ told.3).0 told.2)

  pub confirm_keeps : (time : ℕ) → (slot_at s input).delay_changes + 1 < counter_limit → Checked (confirm_reply s l commands input time).inputs (confirm_reply s l commands input time).lists
  unfolding confirm_reply confirm_number
  confirm_keeps time few =
      accepted_all (λ (reply : Reply). Checked reply.inputs reply.lists) (confirm_number s l (length commands) input time) _ _ c
      (λ e.
      let told = input_told s l (length commands) input time _ e in
      confirmed_keeps s l input c told.1 time few told.2)
