-- What the calls take a word for. Assumes nothing.
use Rattle.std.specs.Prelude.{ℕ, ◌/◌, ◌%◌, leb, None, Option, Some}
use Rattle.std.specs.Float.{binary64}
use Rattle.std.specs.Float.Ieee.{of_bits}
use Rattle.base.specs.Choice.{pick}
use Rattle.delay_hold.specs.declared.LowerTimer.{LowerTimer}
use Rattle.delay_hold.specs.declared.Seed.{Seed}
use Rattle.rules_calls.specs.declared.DelaySetting.{DelaySetting}
use Rattle.rules_calls.specs.declared.DelaySetting.TheVariants.{Auto as set-auto, Ms as set-ms}
use Rattle.rules_record.specs.declared.AutoTag.TheVariants.{Auto as auto-tag}
use Rattle.rules_record.specs.declared.ExtraDelay.{ExtraDelay}
use Rattle.rules_record.specs.declared.ExtraDelay.TheVariants.{Auto, Ms}
use Rattle.rules_record.specs.declared.Flow.{Flow}
use Rattle.sources.specs.declared.Down.{Down}

-- ---- a flow's high and low 64 bits
unfoldable pub flow_of : ℕ → Flow
flow_of bits = record { high = bits / 18446744073709551616; low = bits % 18446744073709551616 }

-- ---- a manual delay by its bits, or none
unfoldable pub kind_of : Option ℕ → ExtraDelay
kind_of None = Auto auto-tag
kind_of (Some bits) = Ms (of_bits binary64 bits)

-- in `update`, a kind that is not the desk's
unfoldable pub setting_of : Option ℕ → DelaySetting
setting_of None = set-auto auto-tag
setting_of (Some bits) = set-ms (of_bits binary64 bits)

-- ---- two numbers, or none; the second of 32 bits where it is a lag
unfoldable pub down_of : Option (ℕ × ℕ) → Option Down
down_of None = None
down_of (Some (until, wait)) = Some (record { until = until; wait = wait })

unfoldable pub low_of : ℕ → ℕ
low_of n = pick (leb n 4294967295) n 0

unfoldable pub timer_of : Option (ℕ × ℕ) → Option LowerTimer
timer_of None = None
timer_of (Some (since, highest)) = Some (record { since = since; highest = low_of highest })

unfoldable pub seed_of : Option (ℕ × ℕ) → Option Seed
seed_of None = None
seed_of (Some (since, delay)) = Some (record { since = since; delay = low_of delay })
