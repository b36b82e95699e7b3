-- Document 01's checks of `update` and `confirm_delay` with document 02's 21, in their order. Assumes nothing.
use Rattle.std.specs.Prelude.{ℕ, min, Bool, true, false, pos, Float, None, Option, Some}
use Rattle.std.specs.Float.{fin}
use Rattle.std.specs.Float.Ieee.{le}
use Rattle.base.specs.Choice.{both, ask}
use Rattle.doubles.specs.Doubles.{ms_of}
use Rattle.rules_record.specs.declared.ExtraDelay.{ExtraDelay}
use Rattle.rules_record.specs.declared.ExtraDelay.TheVariants.{Auto, Ms}
use Rattle.rules_record.specs.declared.Inputs.{Inputs}
use Rattle.rules_record.specs.Inputs.{slot_at}
use Rattle.rules_record.specs.Lent.{Lists}
use Rattle.rules_record.specs.Checks.{timed_number}
use Rattle.rules_calls.specs.declared.DelaySetting.{DelaySetting}
use Rattle.rules_calls.specs.declared.DelaySetting.TheVariants.{Auto as set-auto, Ms as set-ms, Desk}
use Rattle.rules_calls.specs.Update.{kind_of}

-- 12: "Is a manual delay from 0 to `ms`(maximum)?"; a NaN is not, -0.0 is
unfoldable pub manual_fits : (delay : Float) (maximum : ℕ) → Bool
manual_fits delay maximum = both (le (fin false 0 (pos 0)) delay) (le delay (ms_of maximum))

abbrev pub kind_fits : ExtraDelay → (maximum : ℕ) → Bool
kind_fits (Auto tag) maximum = true
kind_fits (Ms delay) maximum = manual_fits delay maximum

-- the listening desk: "Its limit is 2,400 samples or the maximum, whichever is smaller."
abbrev pub desk_reach : ℕ
desk_reach = 2_400

unfoldable pub desk_limit : (maximum : ℕ) → ℕ
desk_limit maximum = min desk_reach maximum

-- 21: "a desk value above `ms` of its limit"; the scoring program's are not asked
abbrev pub desk_fits : DelaySetting → (maximum : ℕ) → Bool
desk_fits (set-auto tag) maximum = true
desk_fits (set-ms delay) maximum = true
desk_fits (Desk delay) maximum = le delay (ms_of (desk_limit maximum))

-- 12, and "straight after" it 21
unfoldable pub manual_number : (setting : DelaySetting) (maximum : ℕ) → ℕ
manual_number setting maximum = ask 12 (kind_fits (kind_of setting) maximum) (ask 21 (desk_fits setting maximum) 0)

unfoldable pub update_number : (s : Inputs) (l : Lists) (words input : ℕ) (setting : DelaySetting) (time : ℕ) → ℕ
update_number s l words input setting time = timed_number s l words input time (manual_number setting s.policy.delay_max)

-- 13: "Is a proposal pending?"
abbrev pub pending : Option ℕ → Bool
pending None = false
pending (Some delay) = true

unfoldable pub confirm_number : (s : Inputs) (l : Lists) (words input time : ℕ) → ℕ
confirm_number s l words input time = timed_number s l words input time (ask 13 (pending (slot_at s input).proposed) 0)
