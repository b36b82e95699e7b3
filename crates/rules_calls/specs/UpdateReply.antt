-- What the two calls leave: number, record, lists and commands. Assumes nothing.
use Rattle.std.specs.Prelude.{ℕ, List, length}
use Rattle.rules_record.specs.declared.Inputs.{Inputs}
use Rattle.rules_record.specs.Lent.{Lists}
use Rattle.rules_record.specs.Reply.{Reply, replied}
use Rattle.rules_calls.specs.declared.DelaySetting.{DelaySetting}
use Rattle.rules_calls.specs.UpdateChecks.{update_number, confirm_number}
use Rattle.rules_calls.specs.Update.{kind_of, updated}
use Rattle.rules_calls.specs.ConfirmDelay.{confirmed}

unfoldable pub update_reply : (s : Inputs) (l : Lists) (commands : List ℕ) (input : ℕ) (setting : DelaySetting) (time : ℕ) → Reply
update_reply s l commands input setting time = replied (update_number s l (length commands) input setting time) s l commands (updated input (kind_of setting) time s l)

unfoldable pub confirm_reply : (s : Inputs) (l : Lists) (commands : List ℕ) (input time : ℕ) → Reply
confirm_reply s l commands input time = replied (confirm_number s l (length commands) input time) s l commands (confirmed input time s l)
