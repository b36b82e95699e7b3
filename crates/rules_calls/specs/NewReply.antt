-- What `new` leaves: number, record, lists and commands. Assumes nothing.
use Rattle.std.specs.Prelude.{ℕ, List, length}
use Rattle.rules_record.specs.declared.ExtraDelay.{ExtraDelay}
use Rattle.rules_record.specs.Lent.{Lists}
use Rattle.rules_record.specs.Reply.{Reply, replied}
use Rattle.rules_calls.specs.declared.Settings.{Settings}
use Rattle.rules_calls.specs.NewRecord.{no_inputs}
use Rattle.rules_calls.specs.NewChecks.{new_number}
use Rattle.rules_calls.specs.NewStart.{started}

-- a refusal has "a zero value" for the record
unfoldable pub new_reply : (settings : Settings) (kinds : List ExtraDelay) (bytes delays : List ℕ) (time : ℕ) (l : Lists) (commands : List ℕ) → Reply
new_reply settings kinds bytes delays time l commands =
    replied (new_number settings bytes delays time l (length commands)) no_inputs l commands (started settings kinds bytes delays time l)
