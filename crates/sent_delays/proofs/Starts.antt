-- `new` tells the delays and the times, from a record in which the delays are 0 and no command ever went. Assumes nothing.
use Rattle.std.specs.Prelude.{None}
use Prim.Native.Nat.{ℕ, zero, suc, ◌≤◌, ◌<◌, min}
use mathlib.Core.Path.{◌≡◌, refl, ap, ◌∙◌}
use mathlib.Core.List.{List, []}
use native.Mathlib.Omega.{arith}
use lib.Dec.{ltb}
use lib.ListN.{length, get_or, length-set, get_or-replicate}
use Rattle.base.proofs.Choices.{pick_all, lt_yes}
use Rattle.doubles.specs.Doubles.{samples_of}
use Rattle.rules_record.specs.declared.ExtraDelay.{ExtraDelay}
use Rattle.rules_record.specs.declared.ExtraDelay.TheVariants.{Auto, Ms}
use Rattle.rules_record.specs.declared.Flow.{Flow}
use Rattle.rules_record.specs.declared.Inputs.{Inputs}
use Rattle.rules_record.specs.Slots.{empty_slot}
use Rattle.rules_record.specs.Inputs.{slot_at}
use Rattle.rules_record.specs.Sized.{Sized}
use Rattle.rules_record.specs.Flows.{enrolled, flow_place, kept}
use Rattle.rules_record.specs.Commands.{quiet}
use Rattle.rules_record.specs.Lent.{Lists}
use Rattle.rules_calls.specs.declared.Settings.{Settings}
use Rattle.rules_calls.specs.NewRecord.{blank, blank_for}
use Rattle.rules_calls.specs.NewLoading.{loaded_flow, loaded_one, loaded_below}
use Rattle.rules_calls.specs.NewStart.{kind_at, made_at, started_one, started_below, loaded, started}
use Rattle.rules_calls.proofs.NewBlank.{blank_sized}
use Rattle.sent_delays.proofs.Notes.{Notes, notes_of}
use Rattle.sent_delays.proofs.Steps.{Tells, TellsDone, TellsEffect, tells_then, tells_first, tells_same, tells_none, tells_put, tells_set}
use Rattle.sent_delays.proofs.OneInput.{tells_enrolled}

-- ---- "the remembered delays that the host loaded": no slot changes
pub tells_kept : (time : ℕ) (s : Inputs) (place delay : ℕ) → Sized s → Tells time s (kept s place delay) []
unfolding kept slot_at
tells_kept time s place delay h =
    pick_all (λ (z : Inputs). Tells time s z []) (ltb place 64)
    (tells_same (record { slots = h.slots; flows = length-set s.flows place _ ∙ h.flows; instances = h.instances }) (λ j. refl))
    (tells_none h)

pub tells_loaded : (time n : ℕ) (bytes delays : List ℕ) (s : Inputs) → Sized s → Tells time s (loaded_below n bytes delays s) []
unfolding loaded_below loaded_one
tells_loaded time zero bytes delays s h = tells_none h
tells_loaded time (suc n) bytes delays s h =
    let f = tells_loaded time n bytes delays s h in
    let z : Inputs = loaded_below n bytes delays s in
    let flow : Flow = loaded_flow bytes n in
    let g = tells_enrolled z flow f.sized in
    tells_then f (tells_then g (tells_kept time (enrolled z flow) (flow_place (enrolled z flow) flow) (get_or delays n 0) g.sized))

-- ---- "A Ms input then gets `set_delay`"
pub tells_started_one : (i : ℕ) → i < 16 → (kind : ExtraDelay) (time : ℕ) (s : Inputs) → Sized s → TellsDone time s (started_one i kind time s)
unfolding started_one quiet
tells_started_one i input (Auto tag) time s h = tells_put i input s h time _ refl
tells_started_one i input (Ms delay) time s h =
    let f : Tells time s (made_at i (Ms delay) time s) [] = tells_put i input s h time _ refl in
    tells_then f (tells_set i input (made_at i (Ms delay) time s) f.sized time (min (samples_of delay) s.policy.delay_max))

pub tells_started_below : (n : ℕ) → n ≤ 16 → (kinds : List ExtraDelay) (time : ℕ) (s : Inputs) → Sized s → TellsDone time s (started_below n kinds time s)
unfolding started_below quiet
tells_started_below zero most kinds time s h = tells_none h
tells_started_below (suc n) most kinds time s h =
    let f = tells_started_below n (omega arith) kinds time s h in
    tells_first _ _ f (tells_started_one n (omega arith) (kind_at kinds n) time _ f.sized)

-- ---- from fresh

-- a slot that is not in use has delay 0, and no command went to it
abbrev pub nothing : Notes
nothing = record { delay = 0; set = None; input = None }

pub blank_notes : (settings : Settings) (j : ℕ) → j < 16 → notes_of (slot_at (blank_for settings) j) ≡ nothing
unfolding blank_for blank slot_at empty_slot
blank_notes settings j l = ap notes_of (lt_yes j 16 _ _ l ∙ get_or-replicate 16 j empty_slot empty_slot l)

pub tells_started : (settings : Settings) (kinds : List ExtraDelay) (bytes delays : List ℕ) (time : ℕ) (l : Lists) → settings.count ≤ 16 → TellsEffect time (blank_for settings) (started settings kinds bytes delays time l)
unfolding started
tells_started settings kinds bytes delays time l most =
    let f = tells_loaded time (length delays) bytes delays (blank_for settings) (blank_sized settings) in
    tells_then f (tells_started_below settings.count most kinds time (loaded settings bytes delays) f.sized)
