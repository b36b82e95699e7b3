-- The input's delay, proposal, counters and the words sent after each call; a manual delay is not remembered. Assumes nothing.
use Rattle.std.specs.Prelude.{Option, Some}
use Prim.Native.Nat.{ℕ, ◌+◌, ◌<◌}
use mathlib.Core.Path.{◌≡◌, refl, sym, ap, ◌∙◌}
use mathlib.Core.List.{[]}
use lib.Ieee.{Float}
use Rattle.doubles.specs.Doubles.{samples_of}
use Rattle.rules_record.specs.declared.AutoTag.{AutoTag}
use Rattle.rules_record.specs.declared.ExtraDelay.TheVariants.{Auto, Ms}
use Rattle.rules_record.specs.declared.Slot.{Slot}
use Rattle.rules_record.specs.declared.Inputs.{Inputs}
use Rattle.rules_record.specs.Slots.{is_auto, with_delay}
use Rattle.rules_record.specs.Inputs.{slot_at, put_slot, with_slots}
use Rattle.rules_record.proofs.SlotFrame.{slot_same, put_rest}
use Rattle.rules_record.proofs.Sized.{sized_put}
use Rattle.rules_record.proofs.FlowCases.{unremembered}
use Rattle.rules_record.specs.Sized.{Sized}
use Rattle.rules_record.specs.Flows.{remembered_by, remembered_for}
use Rattle.rules_record.specs.Commands.{set_delay, quiet, send_first}
use Rattle.rules_routing.specs.SetDelay.{delay_stored, set_delay_of}
use Rattle.rules_routing.proofs.SetDelayStored.{stored_same}
use Rattle.rules_record.specs.Lent.{Lists}
use Rattle.rules_routing.specs.Clear.{cleared_slot, cleared}
use Rattle.rules_calls.specs.Update.{kind_stored, delay_set, updated}
use Rattle.rules_calls.specs.ConfirmDelay.{taken, confirmed_by, confirmed}

module _ (s : Inputs) (i time : ℕ) (low : i < 16) (sized : Sized s) where
  -- ---- a delay is set: the slot has it and its time, and it is sent
  pub set_slot : (slot : Slot) (delay : ℕ) → slot_at (delay_set i slot delay time s).inputs i ≡ with_delay slot delay time
  unfolding delay_set set_delay_of send_first quiet
  set_slot slot delay = stored_same (put_slot s i slot) i delay time low (sized_put s i slot sized) ∙ ap (λ (x : Slot). with_delay x delay time) (slot_same s i slot low sized.slots)

  pub set_words : (slot : Slot) (delay : ℕ) → (delay_set i slot delay time s).words ≡ set_delay i delay
  unfolding delay_set set_delay_of send_first quiet
  set_words slot delay = refl

  module _ (l : Lists) where
    -- ---- `update` with Ms: the delay in the slot is the samples that are sent
    pub manual_slot : (delay : Float) → slot_at (updated i (Ms delay) time s l).inputs i ≡ with_delay (kind_stored (slot_at s i) (Ms delay)) (samples_of delay) time
    unfolding updated
    manual_slot delay = set_slot (kind_stored (slot_at s i) (Ms delay)) (samples_of delay)

    pub manual_words_law : (delay : Float) → (updated i (Ms delay) time s l).words ≡ set_delay i (samples_of delay)
    unfolding updated
    manual_words_law delay = set_words (kind_stored (slot_at s i) (Ms delay)) (samples_of delay)

    -- .. and no table changes: nothing is remembered
    pub manual_unremembered : (delay : Float) → (updated i (Ms delay) time s l).inputs ≡ with_slots s (updated i (Ms delay) time s l).inputs.slots
    unfolding updated delay_set set_delay_of send_first quiet delay_stored remembered_for
    manual_unremembered delay = stays ∙ rest ∙ ap (λ (x : Inputs). with_slots s x.slots) (sym stays)
      where
        slot : Slot
        slot = kind_stored (slot_at s i) (Ms delay)

        there : Inputs
        there = put_slot (put_slot s i slot) i (with_delay (slot_at (put_slot s i slot) i) (samples_of delay) time)

        stays : remembered_by (slot_at (put_slot s i slot) i).route (is_auto (slot_at (put_slot s i slot) i).config.extra_delay) there (samples_of delay) ≡ there
        stays = unremembered (slot_at (put_slot s i slot) i).route _ there (samples_of delay) (ap (λ (x : Slot). is_auto x.config.extra_delay) (slot_same s i slot low sized.slots))

        rest : there ≡ with_slots s there.slots
        rest = put_rest (put_slot s i slot) i _ ∙ ap (λ (x : Inputs). with_slots x there.slots) (put_rest s i slot)

    -- ---- `update` with Auto: the delay stays, no command
    pub auto_slot : (tag : AutoTag) → slot_at (updated i (Auto tag) time s l).inputs i ≡ cleared_slot (kind_stored (slot_at s i) (Auto tag))
    unfolding updated cleared
    auto_slot tag = slot_same s i (cleared_slot (kind_stored (slot_at s i) (Auto tag))) low sized.slots

    pub auto_delay_stays : (tag : AutoTag) → (slot_at (updated i (Auto tag) time s l).inputs i).delay ≡ (slot_at s i).delay
    auto_delay_stays tag = ap (λ (x : Slot). x.delay) (auto_slot tag)

    pub auto_words : (tag : AutoTag) → (updated i (Auto tag) time s l).words ≡ []
    unfolding updated cleared
    auto_words tag = refl

    -- ---- `confirm_delay`: the proposal is the delay in the slot and in the command, and one delay change more
    module _ (delay : ℕ) (is-pending : (slot_at s i).proposed ≡ Some delay) where
      pub confirmed_slot : slot_at (confirmed i time s l).inputs i ≡ with_delay (taken (slot_at s i)) delay time
      unfolding confirmed
      confirmed_slot = ap (λ (x : Option ℕ). slot_at (confirmed_by x i time s l).inputs i) is-pending ∙ set_slot (taken (slot_at s i)) delay

      pub confirmed_words : (confirmed i time s l).words ≡ set_delay i delay
      unfolding confirmed
      confirmed_words = ap (λ (x : Option ℕ). (confirmed_by x i time s l).words) is-pending ∙ set_words (taken (slot_at s i)) delay

      pub confirmed_changes : (slot_at (confirmed i time s l).inputs i).delay_changes ≡ (slot_at s i).delay_changes + 1
      confirmed_changes = ap (λ (x : Slot). x.delay_changes) confirmed_slot
