-- The answers of the three calls, case by case, as the code goes. Assumes nothing.
use Prim.Native.Nat.{ℕ}
use mathlib.Core.Bool.{Bool, true, false}
use mathlib.Core.Path.{◌≡◌, refl, sym, ap, ◌∙◌}
use borrow.Author.Tests.{eq-eqb, ne_eqb}
use lib.Dec.{leb}
use Rattle.base.proofs.Choices.{refused_old, accepted_new}
use Rattle.base.proofs.All.{both_yes, both_no}
use Rattle.delay_hold.specs.Steps5To8.{held_since}
use Rattle.rules_record.specs.declared.Slot.{Slot}
use Rattle.rules_record.specs.States.{state_number}
use Rattle.rules_calls.specs.HasChannels.{Answer}
use Rattle.rules_calls.specs.Status.{StatusReply}
use Rattle.rules_calls.specs.Status.{no_status, status_by}
use Rattle.rules_calls.specs.HasChannels.{answer_by, has_channels}
use Rattle.rules_calls.specs.Settled.{settled_slot}

-- ---- by the number of the checks
module _ {n : ℕ} (number : ℕ) (is_number : n ≡ number) where
  pub answer_refused : (n ≡ 0 → ⊥) → (value : Bool) → ◌≡◌ {A = Answer} (record { number = n; value = false }) (answer_by number value)
  answer_refused h value =
      (λ t. record { number = is_number t; value = false })
      ∙ (λ t. record { number = number; value = sym (refused_old number false value (λ e. h (is_number ∙ e))) t })

  pub answer_accepted : n ≡ 0 → {given : Bool} (value : Bool) → given ≡ value → ◌≡◌ {A = Answer} (record { number = n; value = given }) (answer_by number value)
  answer_accepted passed value e =
      (λ t. record { number = is_number t; value = e t })
      ∙ (λ t. record { number = number; value = sym (accepted_new number false value (sym is_number ∙ passed)) t })

  pub status_refused : (n ≡ 0 → ⊥) → (status : StatusReply) {given : StatusReply} → given ≡ no_status n → given ≡ status_by number status
  status_refused h status e = e ∙ ap no_status is_number ∙ sym (refused_old number (no_status number) status (λ z. h (is_number ∙ z)))

  pub status_accepted : n ≡ 0 → (status : StatusReply) {given : StatusReply} → given ≡ status → given ≡ status_by number status
  status_accepted passed status e = e ∙ sym (accepted_new number (no_status number) status (sym is_number ∙ passed))

-- ---- running, or not
module _ {slot other : Slot} (is-slot : other ≡ slot) {code : ℕ} (is_code : code ≡ state_number other.state) where
  state_is : code ≡ state_number slot.state
  state_is = is_code ∙ ap (λ (x : Slot). state_number x.state) is-slot

  pub channels_idle : (code ≡ 2 → ⊥) → (channels wanted : ℕ) → false ≡ has_channels slot channels wanted
  unfolding has_channels
  channels_idle h channels wanted = both_no _ _ (ne_eqb _ _ (λ e. h (state_is ∙ e)))

  pub channels_running : code ≡ 2 → (channels wanted : ℕ) → leb wanted channels ≡ has_channels slot channels wanted
  unfolding has_channels
  channels_running h channels wanted = both_yes _ _ _ (eq-eqb _ _ (sym state_is ∙ h)) refl

  pub settled_lately : code ≡ 2 → (hold time : ℕ) → held_since slot.last_set hold time ≡ false → false ≡ settled_slot slot hold time
  unfolding settled_slot
  settled_lately h hold time delay = both_yes _ _ _ (eq-eqb _ _ (sym state_is ∙ h)) (both_no _ _ delay)

  pub settled_running : code ≡ 2 → (hold time : ℕ) → held_since slot.last_set hold time ≡ true → {rested : Bool} → rested ≡ held_since slot.last_input hold time → rested ≡ settled_slot slot hold time
  unfolding settled_slot
  settled_running h hold time delay e = both_yes _ _ _ (eq-eqb _ _ (sym state_is ∙ h)) (both_yes _ _ _ delay e)
