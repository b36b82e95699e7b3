-- What an accepted `update` makes of every input: "`set_delay` of `samples`" or "window and hold are cleared" of its own, nothing of another.
-- Assumes nothing.
use Rattle.std.specs.Prelude.{None}
use Prim.Native.Nat.{ℕ, ◌<◌, ◌≤◌}
use mathlib.Core.Bool.{true, false}
use mathlib.Core.Path.{◌≡◌, refl, sym, ap, subst, ◌∙◌}
use mathlib.Core.List.{List, [], ◌∷◌}
use native.Mathlib.Omega.{arith}
use lib.ListN.{length}
use Rattle.base.specs.Limits.{time_limit}
use Rattle.base.proofs.Choices.{asked, accepted_new}
use Rattle.doubles.specs.Doubles.{samples_of}
use Rattle.rules_record.specs.declared.ExtraDelay.{ExtraDelay}
use Rattle.rules_record.specs.declared.ExtraDelay.TheVariants.{Auto, Ms}
use Rattle.rules_record.specs.declared.Slot.{Slot}
use Rattle.rules_record.specs.declared.Inputs.{Inputs}
use Rattle.rules_record.specs.Inputs.{slot_at}
use Rattle.rules_record.specs.Sized.{Sized}
use Rattle.rules_record.specs.Lent.{Lists}
use Rattle.rules_record.specs.Checks.{Fitting}
use Rattle.rules_record.specs.Effects.{Effect}
use Rattle.rules_record.specs.Reply.{Reply, carried_out}
use Rattle.rules_record.proofs.Numbers.{input_told, call_fitting, call_low}
use Rattle.rules_routing.specs.Clear.{cleared_slot, cleared}
use Rattle.rules_routing.proofs.SettingsKept.{SameSettings}
use Rattle.rules_calls.specs.declared.DelaySetting.{DelaySetting}
use Rattle.rules_calls.specs.UpdateChecks.{kind_fits, manual_number, update_number}
use Rattle.rules_calls.specs.Update.{kind_stored, kind_of, updated}
use Rattle.rules_calls.specs.UpdateReply.{update_reply}
use Rattle.rules_calls.proofs.UpdateDelays.{manual_slot, auto_slot}
use Rattle.rules_calls.proofs.UpdateFrames.{update_other, update_settings, update_beside}
use Rattle.rules_calls.proofs.UpdateKeeps.{manual_most}
use Rattle.history.specs.Events.{sets, clears, after, history}
use Rattle.third_demand.proofs.Lifted.{view_of, Lifted}
use Rattle.third_demand.proofs.CallViews.{view_own, view_other, view_cleared, CallOn}

-- ---- its own input
module _ (s : Inputs) (l : Lists) (i time : ℕ) (sized : Sized s) (low : i < 16) where
  -- "the proposal goes", and no counter changes
  stored_proposed : (kind : ExtraDelay) → (slot_at (updated i kind time s l).inputs i).proposed ≡ None
  stored_proposed (Ms delay) = ap (λ (x : Slot). x.proposed) (manual_slot s i time low sized l delay)
  stored_proposed (Auto tag) = ap (λ (x : Slot). x.proposed) (auto_slot s i time low sized l tag)

  stored_reopens : (kind : ExtraDelay) → (slot_at (updated i kind time s l).inputs i).reopens ≡ (slot_at s i).reopens
  stored_reopens (Ms delay) = ap (λ (x : Slot). x.reopens) (manual_slot s i time low sized l delay)
  stored_reopens (Auto tag) = ap (λ (x : Slot). x.reopens) (auto_slot s i time low sized l tag)

  stored_changes : (kind : ExtraDelay) → (slot_at (updated i kind time s l).inputs i).delay_changes ≡ (slot_at s i).delay_changes
  stored_changes (Ms delay) = ap (λ (x : Slot). x.delay_changes) (manual_slot s i time low sized l delay)
  stored_changes (Auto tag) = ap (λ (x : Slot). x.delay_changes) (auto_slot s i time low sized l tag)

  stored_lates : (kind : ExtraDelay) → (slot_at (updated i kind time s l).inputs i).late_events ≡ (slot_at s i).late_events
  stored_lates (Ms delay) = ap (λ (x : Slot). x.late_events) (manual_slot s i time low sized l delay)
  stored_lates (Auto tag) = ap (λ (x : Slot). x.late_events) (auto_slot s i time low sized l tag)

  -- with Ms the delay is set, with Auto window and hold are cleared and the delay stays
  own_lifted : Fitting s l → i < s.count → time ≤ time_limit → (kind : ExtraDelay) → kind_fits kind s.policy.delay_max ≡ true → SameSettings s (updated i kind time s l).inputs
      → Lifted s.policy time (view_of s l i) (view_of (updated i kind time s l).inputs (updated i kind time s l).lists i)
  unfolding history after updated cleared
  own_lifted f h soon (Ms delay) fits same = record {
    events = sets time (samples_of delay) ∷ [];
    leads = sym (view_own s (updated i (Ms delay) time s l).inputs same l i _ (manual_slot s i time low sized l delay));
    lawful = λ before first. (first, soon, manual_most delay s.policy.delay_max f.allowed.sound.maximum fits, tt, tt);
    clocked = λ before first. omega arith;
  }
  own_lifted f h soon (Auto tag) fits same = record {
    events = clears time false ∷ [];
    leads = sym (
        view_own s (updated i (Auto tag) time s l).inputs same (updated i (Auto tag) time s l).lists i _ (auto_slot s i time low sized l tag)
        ∙ view_cleared s l i f h (cleared_slot (kind_stored (slot_at s i) (Auto tag))) refl
        );
    lawful = λ before first. (first, soon, tt, tt, tt);
    clocked = λ before first. omega arith;
  }

-- ---- the call
module _ (s : Inputs) (l : Lists) (commands : List ℕ) (input : ℕ) (setting : DelaySetting) (time : ℕ) (accepted : update_number s l (length commands) input setting time ≡ 0) where
  abbrev effect : Effect
  effect = updated input (kind_of setting) time s l

  pub update_reply_law : update_reply s l commands input setting time ≡ carried_out (update_number s l (length commands) input setting time) commands effect
  unfolding update_reply
  update_reply_law = accepted_new _ _ _ accepted

  told : Fitting s l × (input < s.count) × (input < 16) × (time ≤ time_limit) × (kind_fits (kind_of setting) s.policy.delay_max ≡ true)
  unfolding update_number manual_number
  told =
      let t = input_told s l (length commands) input time _ accepted in
      (call_fitting s l (length commands) input time _ accepted, t.1, call_low s l (length commands) input time _ accepted, t.2, (asked 11 _ _ t.3).0)

  same : SameSettings s effect.inputs
  same = subst (λ (r : Reply). SameSettings s r.inputs) update_reply_law (update_settings s l commands input setting time)

  others : (j : ℕ) → (j ≡ input → ⊥) → slot_at effect.inputs j ≡ slot_at s j
  others j apart = subst (λ (r : Reply). slot_at r.inputs j ≡ slot_at s j) update_reply_law (update_other s l commands input setting time j apart)

  pub updated_call : Sized s → CallOn input time s l effect.inputs effect.lists
  updated_call sized = record {
    settings = same;
    lifted = own_lifted s l input time sized told.2 told.0 told.1 told.3 (kind_of setting) told.4 same;
    other_slot = others;
    other_view = λ j there apart. view_other s effect.inputs same l effect.lists input j (update_beside s l commands input setting time accepted) there apart (others j apart);
    proposed = λ none. stored_proposed s l input time sized told.2 (kind_of setting);
    reopens = stored_reopens s l input time sized told.2 (kind_of setting);
    changes = stored_changes s l input time sized told.2 (kind_of setting);
    lates = stored_lates s l input time sized told.2 (kind_of setting);
  }

  pub update_call : Sized s → CallOn input time s l (update_reply s l commands input setting time).inputs (update_reply s l commands input setting time).lists
  update_call sized = subst (λ (r : Reply). CallOn input time s l r.inputs r.lists) (sym update_reply_law) (updated_call sized)
