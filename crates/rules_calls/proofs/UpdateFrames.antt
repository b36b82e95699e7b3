-- What each call leaves as it was: the settings, and the slots and lists of all other inputs. Assumes nothing.
use Rattle.std.specs.Prelude.{None, Option, Some}
use Prim.Native.Nat.{ℕ, ◌<◌}
use mathlib.Core.Path.{◌≡◌, refl, ◌∙◌}
use mathlib.Core.List.{List}
use lib.ListN.{length}
use Rattle.base.proofs.Choices.{accepted_all}
use Rattle.rules_record.specs.declared.ExtraDelay.{ExtraDelay}
use Rattle.rules_record.specs.declared.ExtraDelay.TheVariants.{Auto, Ms}
use Rattle.rules_record.specs.declared.Slot.{Slot}
use Rattle.rules_record.specs.declared.Inputs.{Inputs}
use Rattle.rules_record.specs.Inputs.{slot_at, put_slot}
use Rattle.rules_record.proofs.SlotFrame.{slot_other}
use Rattle.rules_record.specs.Commands.{quiet, send_first}
use Rattle.rules_routing.specs.SetDelay.{delay_stored, set_delay_of}
use Rattle.rules_routing.proofs.SetDelayStored.{stored_other}
use Rattle.rules_record.specs.Lent.{Lists, buckets_in}
use Rattle.rules_record.specs.Checks.{Fitting}
use Rattle.rules_record.specs.Reply.{Reply}
use Rattle.rules_record.proofs.Beside.{Beside, beside_same}
use Rattle.rules_routing.specs.Clear.{cleared_slot, cleared}
use Rattle.rules_routing.proofs.ClearFrames.{cleared_beside}
use Rattle.rules_routing.proofs.SettingsKept.{SameSettings, settings_then, settings_put, settings_stored}
use Rattle.rules_calls.specs.declared.DelaySetting.{DelaySetting}
use Rattle.rules_calls.specs.UpdateChecks.{update_number, confirm_number}
use Rattle.rules_calls.specs.Update.{kind_stored, delay_set, kind_of, updated}
use Rattle.rules_calls.specs.ConfirmDelay.{taken, confirmed_by, confirmed}
use Rattle.rules_calls.specs.UpdateReply.{update_reply, confirm_reply}
use Rattle.rules_record.proofs.Numbers.{call_fitting, call_input}

module _ (s : Inputs) (i : ℕ) where
  -- ---- a delay is set
  pub set_other : (slot : Slot) (delay time j : ℕ) → (j ≡ i → ⊥) → slot_at (delay_set i slot delay time s).inputs j ≡ slot_at s j
  unfolding delay_set set_delay_of send_first quiet
  set_other slot delay time j apart = stored_other (put_slot s i slot) i delay time j apart ∙ slot_other s i slot j apart

  pub set_settings : (slot : Slot) (delay time : ℕ) → SameSettings s (delay_set i slot delay time s).inputs
  unfolding delay_set set_delay_of send_first quiet
  set_settings slot delay time = settings_then s (put_slot s i slot) (delay_stored (put_slot s i slot) i delay time) (settings_put s i slot) (settings_stored (put_slot s i slot) i delay time)

  module _ (l : Lists) where
    -- ---- `update`
    updated_other : (kind : ExtraDelay) (time j : ℕ) → (j ≡ i → ⊥) → slot_at (updated i kind time s l).inputs j ≡ slot_at s j
    unfolding updated cleared
    updated_other (Ms delay) time j apart = set_other (kind_stored (slot_at s i) (Ms delay)) _ time j apart
    updated_other (Auto tag) time j apart = slot_other s i (cleared_slot (kind_stored (slot_at s i) (Auto tag))) j apart

    updated_settings : (kind : ExtraDelay) (time : ℕ) → SameSettings s (updated i kind time s l).inputs
    unfolding updated cleared
    updated_settings (Ms delay) time = set_settings (kind_stored (slot_at s i) (Ms delay)) _ time
    updated_settings (Auto tag) time = settings_put s i (cleared_slot (kind_stored (slot_at s i) (Auto tag)))

    updated_beside : Fitting s l → i < s.count → (kind : ExtraDelay) (time : ℕ) → Beside s.count (buckets_in s) i l (updated i kind time s l).lists
    unfolding updated cleared
    updated_beside f h (Ms delay) time = beside_same s.count (buckets_in s) i l f.long
    updated_beside f h (Auto tag) time = cleared_beside s l i f h

    -- ---- `confirm_delay`
    confirmed_other : (proposal : Option ℕ) (time j : ℕ) → (j ≡ i → ⊥) → slot_at (confirmed_by proposal i time s l).inputs j ≡ slot_at s j
    confirmed_other None time j apart = refl
    confirmed_other (Some delay) time j apart = set_other (taken (slot_at s i)) delay time j apart

    confirmed_settings : (proposal : Option ℕ) (time : ℕ) → SameSettings s (confirmed_by proposal i time s l).inputs
    confirmed_settings None time = refl
    confirmed_settings (Some delay) time = set_settings (taken (slot_at s i)) delay time

    confirmed_lists : (proposal : Option ℕ) (time : ℕ) → (confirmed_by proposal i time s l).lists ≡ l
    confirmed_lists None time = refl
    confirmed_lists (Some delay) time = refl

-- ---- the calls, accepted or refused
module _ (s : Inputs) (l : Lists) (commands : List ℕ) (input : ℕ) where
  module _ (setting : DelaySetting) (time : ℕ) where
    pub update_other : (j : ℕ) → (j ≡ input → ⊥) → slot_at (update_reply s l commands input setting time).inputs j ≡ slot_at s j
    unfolding update_reply
    update_other j apart =
        accepted_all (λ (reply : Reply). slot_at reply.inputs j ≡ slot_at s j) (update_number s l (length commands) input setting time) _ _ refl
        (λ e. updated_other s input l (kind_of setting) time j apart)

    pub update_settings : SameSettings s (update_reply s l commands input setting time).inputs
    unfolding update_reply
    update_settings =
        accepted_all (λ (reply : Reply). SameSettings s reply.inputs) (update_number s l (length commands) input setting time) _ _ refl
        (λ e. updated_settings s input l (kind_of setting) time)

    pub update_beside : update_number s l (length commands) input setting time ≡ 0 → Beside s.count (buckets_in s) input l (updated input (kind_of setting) time s l).lists
    unfolding update_number
    update_beside e =
        updated_beside s input l (call_fitting s l (length commands) input time _ e) (call_input s l (length commands) input time _ e) (kind_of setting) time

  module _ (time : ℕ) where
    pub confirm_other : (j : ℕ) → (j ≡ input → ⊥) → slot_at (confirm_reply s l commands input time).inputs j ≡ slot_at s j
    unfolding confirm_reply confirmed
    confirm_other j apart =
        accepted_all (λ (reply : Reply). slot_at reply.inputs j ≡ slot_at s j) (confirm_number s l (length commands) input time) _ _ refl
        (λ e. confirmed_other s input l (slot_at s input).proposed time j apart)

    pub confirm_settings : SameSettings s (confirm_reply s l commands input time).inputs
    unfolding confirm_reply confirmed
    confirm_settings =
        accepted_all (λ (reply : Reply). SameSettings s reply.inputs) (confirm_number s l (length commands) input time) _ _ refl
        (λ e. confirmed_settings s input l (slot_at s input).proposed time)

    pub confirm_lists : (confirm_reply s l commands input time).lists ≡ l
    unfolding confirm_reply confirmed
    confirm_lists =
        accepted_all (λ (reply : Reply). reply.lists ≡ l) (confirm_number s l (length commands) input time) _ _ refl
        (λ e. confirmed_lists s input l (slot_at s input).proposed time)
