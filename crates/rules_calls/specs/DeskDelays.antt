-- Document 02, §6, what is shown of the listening desk's delays and of the scoring program's beside them. Assumes nothing.
use Rattle.std.specs.Prelude.{ℕ, ◌≤◌, true, false, ◌≡◌, List, Float, length}
use Rattle.std.specs.Float.Ieee.{le}
use Rattle.base.specs.Choice.{ask}
use Rattle.base.specs.Lists.{padded}
use Rattle.doubles.specs.Doubles.{ms_of, samples_of}
use Rattle.rules_record.specs.declared.Inputs.{Inputs}
use Rattle.rules_record.specs.Inputs.{slot_at}
use Rattle.rules_record.specs.Sized.{Sized}
use Rattle.rules_record.specs.Commands.{set_delay}
use Rattle.rules_record.specs.Lent.{Lists}
use Rattle.rules_record.specs.Checks.{timed_number}
use Rattle.rules_calls.specs.declared.DelaySetting.TheVariants.{Ms, Desk}
use Rattle.rules_calls.specs.UpdateChecks.{manual_fits, desk_limit, update_number}
use Rattle.rules_calls.specs.UpdateReply.{update_reply}

-- of every record, lent lists, commands, input, delay and time
pub record DeskDelays (s : Inputs) (l : Lists) (commands : List ℕ) (input : ℕ) (delay : Float) (time : ℕ) : Type 0 where
  -- an accepted delay of the desk is in the record, and it is at most the desk's limit, in samples
  pub within_limit : Sized s → update_number s l (length commands) input (Desk delay) time ≡ 0
      → ((slot_at (update_reply s l commands input (Desk delay) time).inputs input).delay ≡ samples_of delay)
      × (samples_of delay ≤ desk_limit s.policy.delay_max)
  -- "its rule is the scoring program's, with the smaller limit": what the scoring program's call is refused for is the desk's number too (as_scoring),
  -- and of the calls that it may make the desk is refused by 21 those above `ms` of its limit
  pub beyond_limit : update_number s l (length commands) input (Ms delay) time ≡ 0 → le delay (ms_of (desk_limit s.policy.delay_max)) ≡ false → update_number s l (length commands) input (Desk delay) time ≡ 21
  pub up_to_limit : update_number s l (length commands) input (Ms delay) time ≡ 0 → le delay (ms_of (desk_limit s.policy.delay_max)) ≡ true → update_number s l (length commands) input (Desk delay) time ≡ 0
  -- "record and status do not keep" the sender: a call of the desk, accepted or refused, leaves the number, the record, the lists and the commands that
  -- the scoring program's leaves; one that 21 refuses leaves all as it came
  pub as_scoring : (update_number s l (length commands) input (Desk delay) time ≡ 21 → ⊥) → update_reply s l commands input (Desk delay) time ≡ update_reply s l commands input (Ms delay) time
  pub refused_leaves : update_number s l (length commands) input (Desk delay) time ≡ 21 → update_reply s l commands input (Desk delay) time ≡ record { number = 21; inputs = s; lists = l; commands = commands }
  -- "A delay above the desk's limit from the scoring program remains legal": it is asked 12 and nothing after it
  pub scoring_legal : update_number s l (length commands) input (Ms delay) time ≡ timed_number s l (length commands) input time (ask 12 (manual_fits delay s.policy.delay_max) 0)
  -- "and is not cut": an accepted delay of the scoring program is in the record and in its command as `samples` gives it
  pub scoring_uncut : Sized s → update_number s l (length commands) input (Ms delay) time ≡ 0
      → ((slot_at (update_reply s l commands input (Ms delay) time).inputs input).delay ≡ samples_of delay)
      × ((update_reply s l commands input (Ms delay) time).commands ≡ padded (length commands) (set_delay input (samples_of delay)))
