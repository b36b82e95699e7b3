-- The parts of the calls, as the code goes: a slot changed, a delay set. Assumes nothing.
use Prim.Native.Nat.{ℕ, ◌+◌, ◌≤◌}
use mathlib.Core.Bool.{Bool}
use mathlib.Core.Path.{◌≡◌, sym, ap, subst, ◌∙◌}
use mathlib.Core.List.{List}
use Rattle.std.specs.Prelude.{None}
use native.Mathlib.Omega.{arith}
use lib.Ieee.{Float}
use lib.ListN.{replicate}
use lib.Seq.{sets}
use Rattle.base.specs.Lists.{padded}
use Rattle.base.proofs.Words.{laid}
use Rattle.rules_record.specs.declared.ExtraDelay.{ExtraDelay}
use Rattle.rules_record.specs.declared.ExtraDelay.TheVariants.{Ms}
use Rattle.rules_record.specs.declared.Slot.{Slot}
use Rattle.rules_record.specs.declared.Inputs.{Inputs}
use Rattle.rules_record.specs.Slots.{with_proposed, with_delay_changes}
use Rattle.rules_record.specs.Inputs.{put_slot}
use Rattle.rules_record.specs.Commands.{Sent, Did}
use Rattle.rules_routing.specs.SetDelay.{set_delay_of}
use Rattle.rules_calls.specs.declared.DelaySetting.{DelaySetting}
use Rattle.rules_calls.specs.UpdateChecks.{manual_fits, kind_fits}
use Rattle.rules_calls.specs.Update.{delay_set, kind_of}
use Rattle.rules_calls.specs.ConfirmDelay.{taken}

-- ---- check 12
pub kind_manual : (maximum : ℕ) {kind : ExtraDelay} {delay : Float} {fits : Bool} → kind ≡ Ms delay → fits ≡ manual_fits delay maximum → fits ≡ kind_fits kind maximum
kind_manual maximum e h = h ∙ sym (ap (λ (x : ExtraDelay). kind_fits x maximum) e)

pub kind_asked : (setting : DelaySetting) (maximum : ℕ) {kind : ExtraDelay} {fits : Bool} → kind ≡ kind_of setting → fits ≡ kind_fits kind maximum → fits ≡ kind_fits (kind_of setting) maximum
kind_asked setting maximum e h = h ∙ ap (λ (x : ExtraDelay). kind_fits x maximum) e

-- ---- the slot
pub taken_by_law : (slot : Slot) {rest r : Slot} → rest ≡ with_proposed slot None → r ≡ with_delay_changes rest (slot.delay_changes + 1) → r ≡ taken slot
taken_by_law slot e h = h ∙ ap (λ (x : Slot). with_delay_changes x (slot.delay_changes + 1)) e

-- ---- the delay
module _ (i : ℕ) (slot : Slot) (delay time : ℕ) (s : Inputs) (n : ℕ) {all : Inputs} {sent : Sent} {zeros after : List ℕ} (is-zeros : zeros ≡ replicate n 0) (is-put : all ≡ put_slot s i slot) (room : 3 ≤ n) (is-sent : Did 3 (set_delay_of all i delay time) sent zeros after 0) where
  set_here : Did 3 (delay_set i slot delay time s) sent zeros after 0
  unfolding delay_set
  set_here = subst (λ (z : Inputs). Did 3 (set_delay_of z i delay time) sent zeros after 0) is-put is-sent

  pub set_by : (sent.inputs ≡ (delay_set i slot delay time s).inputs) × (after ≡ padded n (delay_set i slot delay time s).words)
  set_by = (
    set_here.inputs,
    set_here.words
        ∙ ap (λ (z : List ℕ). sets z 0 (delay_set i slot delay time s).words) is-zeros
        ∙ laid n (delay_set i slot delay time s).words (omega (arith, set_here.room, room)),
  )
