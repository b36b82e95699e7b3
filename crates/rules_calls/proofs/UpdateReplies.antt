-- What the two calls leave, case by case, as the code goes. Assumes nothing.
use Rattle.std.specs.Prelude.{None, Option, Some}
use Prim.Native.Nat.{ℕ, ◌<◌, ◌≤◌, zero-le}
use mathlib.Core.Path.{◌≡◌, refl, sym, ap, subst, ◌∙◌}
use mathlib.Core.List.{List, []}
use native.Mathlib.Omega.{arith}
use lib.Ieee.{Float}
use lib.ListN.{length, replicate}
use Rattle.base.specs.Lists.{padded}
use Rattle.base.specs.Limits.{counter_limit}
use Rattle.base.proofs.Choices.{yes_ask, no_ask}
use Rattle.base.proofs.Words.{laid}
use Rattle.doubles.specs.Doubles.{samples_of}
use Rattle.rules_record.specs.declared.AutoTag.{AutoTag}
use Rattle.rules_record.specs.declared.ExtraDelay.{ExtraDelay}
use Rattle.rules_record.specs.declared.ExtraDelay.TheVariants.{Auto, Ms}
use Rattle.rules_record.specs.declared.Slot.{Slot}
use Rattle.rules_record.specs.declared.Inputs.{Inputs}
use Rattle.rules_record.specs.Inputs.{slot_at}
use Rattle.rules_record.specs.Lent.{Lists}
use Rattle.rules_record.specs.Checks.{timed_number, Fitting}
use Rattle.rules_record.specs.Effects.{silent, beside}
use Rattle.rules_record.specs.Reply.{Reply}
use Rattle.rules_record.proofs.Numbers.{passed_by_law, call_fitting, call_input, call_low, call_room, call_changes}
use Rattle.rules_record.proofs.Replies.{reply_refused, reply_accepted}
use Rattle.rules_routing.specs.Clear.{cleared}
use Rattle.rules_calls.specs.declared.DelaySetting.{DelaySetting}
use Rattle.rules_calls.specs.UpdateChecks.{update_number, pending, confirm_number}
use Rattle.rules_calls.specs.Update.{kind_stored, delay_set, kind_of, updated}
use Rattle.rules_calls.specs.ConfirmDelay.{taken, confirmed_by, confirmed}
use Rattle.rules_calls.specs.UpdateReply.{update_reply, confirm_reply}

-- ---- `update`
module _ (s : Inputs) (l : Lists) (commands : List ℕ) (input : ℕ) (setting : DelaySetting) (time : ℕ) {n : ℕ} (is_number : n ≡ update_number s l (length commands) input setting time) where
  pub update_refused : (n ≡ 0 → ⊥) → ◌≡◌ {A = Reply} (record { number = n; inputs = s; lists = l; commands = commands }) (update_reply s l commands input setting time)
  unfolding update_reply
  update_refused h = reply_refused s l commands (updated input (kind_of setting) time s l) _ is_number h

  module _ (passed : n ≡ 0) where
    pub clear_asked : Fitting s l × (input < s.count)
    unfolding update_number
    clear_asked = (
      call_fitting s l (length commands) input time _ (sym is_number ∙ passed),
      call_input s l (length commands) input time _ (sym is_number ∙ passed),
    )

    pub manual_asked : (3 ≤ length commands) × (input < 16)
    unfolding update_number
    manual_asked = (
      call_room s l (length commands) input time _ (sym is_number ∙ passed),
      call_low s l (length commands) input time _ (sym is_number ∙ passed),
    )

    module _ {kind : ExtraDelay} (is-kind : kind ≡ kind_of setting) {at slot : Slot} (is_at : at ≡ slot_at s input) (is-slot : slot ≡ kind_stored at kind) {all : Inputs} {after : List ℕ} where
      pub update_auto : {tag : AutoTag} {m : Lists} → kind ≡ Auto tag → silent all m ≡ cleared input slot s l → after ≡ replicate (length commands) 0
          → ◌≡◌ {A = Reply} (record { number = n; inputs = all; lists = m; commands = after }) (update_reply s l commands input setting time)
      unfolding update_reply updated
      update_auto {tag} {m} is-auto is-cleared is-zeros =
          reply_accepted s l commands (updated input (kind_of setting) time s l) _ is_number passed (silent all m) same refl refl (is-zeros ∙ laid (length commands) [] zero-le)
        where
          same : silent all m ≡ updated input (kind_of setting) time s l
          same =
              is-cleared
              ∙ ap (λ (x : Slot). cleared input x s l) is-slot
              ∙ (λ t. cleared input (kind_stored (is_at t) (is-auto t)) s l)
              ∙ ap (λ (x : ExtraDelay). updated input x time s l) (sym is-auto ∙ is-kind)

      pub update_manual : {delay : Float} {samples : ℕ} → kind ≡ Ms delay → samples ≡ samples_of delay → (all ≡ (delay_set input slot samples time s).inputs) × (after ≡ padded (length commands) (delay_set input slot samples time s).words)
          → ◌≡◌ {A = Reply} (record { number = n; inputs = all; lists = l; commands = after }) (update_reply s l commands input setting time)
      unfolding update_reply updated
      update_manual {delay} {samples} is-ms is-samples is_set =
          reply_accepted s l commands (updated input (kind_of setting) time s l) _ is_number passed (beside l (delay_set input slot samples time s)) same is_set.0 refl is_set.1
        where
          same : beside l (delay_set input slot samples time s) ≡ updated input (kind_of setting) time s l
          same =
              ap (λ (x : Slot). beside l (delay_set input x samples time s)) is-slot
              ∙ (λ t. beside l (delay_set input (kind_stored (is_at t) (is-ms t)) (is-samples t) time s))
              ∙ ap (λ (x : ExtraDelay). updated input x time s l) (sym is-ms ∙ is-kind)

-- ---- `confirm_delay`
module _ (s : Inputs) (l : Lists) (commands : List ℕ) (input time : ℕ) {n : ℕ} (is-input : n ≡ timed_number s l (length commands) input time 0) where
  pub confirm_refused : (n ≡ 0 → ⊥) → n ≡ confirm_number s l (length commands) input time → ◌≡◌ {A = Reply} (record { number = n; inputs = s; lists = l; commands = commands }) (confirm_reply s l commands input time)
  unfolding confirm_reply
  confirm_refused h is_number = reply_refused s l commands (confirmed input time s l) _ is_number h

  module _ (passed : n ≡ 0) {slot : Slot} (is-slot : slot ≡ slot_at s input) where
    proposed_is : (proposal : Option ℕ) → slot.proposed ≡ proposal → (slot_at s input).proposed ≡ proposal
    proposed_is proposal e = sym (ap (λ (x : Slot). x.proposed) is-slot) ∙ e

    pub confirm_nothing : slot.proposed ≡ None → ◌≡◌ {A = Reply} (record { number = 13; inputs = s; lists = l; commands = commands }) (confirm_reply s l commands input time)
    unfolding confirm_reply confirm_number
    confirm_nothing e =
        reply_refused s l commands (confirmed input time s l) _
        (passed_by_law s l (length commands) input time is-input passed 13 (no_ask 13 0 (ap pending (proposed_is None e))))
        (λ z. omega arith)

    pub taken_asked : slot.delay_changes < counter_limit
    taken_asked = subst (λ (x : Slot). x.delay_changes < counter_limit) (sym is-slot) (call_changes s l (length commands) input time 0 (sym is-input ∙ passed))

    pub confirm_asked : (3 ≤ length commands) × (input < 16)
    confirm_asked =
        (call_room s l (length commands) input time 0 (sym is-input ∙ passed), call_low s l (length commands) input time 0 (sym is-input ∙ passed))

    pub confirm_pending : {delay : ℕ} {changed : Slot} {all : Inputs} {after : List ℕ} → slot.proposed ≡ Some delay → changed ≡ taken slot
        → (all ≡ (delay_set input changed delay time s).inputs) × (after ≡ padded (length commands) (delay_set input changed delay time s).words)
        → ◌≡◌ {A = Reply} (record { number = n; inputs = all; lists = l; commands = after }) (confirm_reply s l commands input time)
    unfolding confirm_reply confirm_number confirmed
    confirm_pending {delay} {changed} is-pending is-taken is_set =
        reply_accepted s l commands (confirmed input time s l) _
        (passed ∙ passed_by_law s l (length commands) input time is-input passed 0 (yes_ask 13 0 (ap pending (proposed_is (Some delay) is-pending))))
        passed (beside l (delay_set input changed delay time s)) same is_set.0 refl is_set.1
      where
        same : beside l (delay_set input changed delay time s) ≡ confirmed input time s l
        same =
            ap (λ (x : Slot). beside l (delay_set input x delay time s)) (is-taken ∙ ap taken is-slot)
            ∙ sym (ap (λ (x : Option ℕ). confirmed_by x input time s l) (proposed_is (Some delay) is-pending))
