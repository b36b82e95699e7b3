-- Document 01's checks of the calls that read one input, in their order. Assumes nothing.
use Rattle.std.specs.Prelude.{ℕ, leb}
use Rattle.base.specs.Choice.{ask}
use Rattle.base.specs.Limits.{timely}
use Rattle.rules_record.specs.declared.Inputs.{Inputs}
use Rattle.rules_record.specs.declared.Output.TheVariants.{Absent}
use Rattle.rules_record.specs.Lent.{Lists}
use Rattle.rules_record.specs.Checks.{input_number}

-- `status`: 10, "Is each applied delay at most maximum, channels at most 64"
unfoldable pub status_number : (s : Inputs) (l : Lists) (input applied channels : ℕ) → ℕ
status_number s l input applied channels =
    input_number s l Absent input (ask 10 (leb applied s.policy.delay_max) (ask 10 (leb channels 64) 0))

-- `has_channels`: of 10 only the channels, since no applied delay is given
unfoldable pub channels_number : (s : Inputs) (l : Lists) (input channels : ℕ) → ℕ
channels_number s l input channels = input_number s l Absent input (ask 10 (leb channels 64) 0)

-- `settled`: 8, "Is the time at most 4 times 10^18"
unfoldable pub settled_number : (s : Inputs) (l : Lists) (input time : ℕ) → ℕ
settled_number s l input time = input_number s l Absent input (ask 8 (timely time) 0)
