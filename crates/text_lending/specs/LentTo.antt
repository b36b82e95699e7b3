-- How much of each list a call on a supervisor is lent: `new` by its settings, every other call by the record. Assumes nothing.
use Rattle.std.specs.Prelude.{ℕ, Bool}
use Rattle.rules_calls.specs.declared.Settings.{Settings}
use Rattle.rules_record.specs.declared.Inputs.{Inputs}
use Rattle.text_lending.specs.declared.Sizes.{Sizes}
use Rattle.text_lending.specs.Lengths.{buckets_lent, lengths_for}
use Rattle.text_requests.specs.declared.Call.{Call}
use Rattle.text_requests.specs.declared.Call.TheVariants.{Change, Ask, Put}
use Rattle.text_requests.specs.declared.Change.TheVariants.{New, Route, Update, Confirm, Tick}

-- the buckets a second of a record's windows
unfoldable pub buckets_held : (inputs : Inputs) → ℕ
buckets_held inputs = buckets_lent inputs.policy.read_offset inputs.policy.delay_max inputs.width

unfoldable pub by_settings : (settings : Settings) (short : Bool) → Sizes
by_settings settings short =
    lengths_for settings.count (buckets_lent settings.read_offset settings.delay_max settings.width) short

unfoldable pub by_record : (inputs : Inputs) (short : Bool) → Sizes
by_record inputs short = lengths_for inputs.count (buckets_held inputs) short

abbrev pub lent_to : (call : Call) (inputs : Inputs) (short : Bool) → Sizes
lent_to (Change (New asked)) inputs short = by_settings asked.settings short
lent_to (Change (Route asked)) inputs short = by_record inputs short
lent_to (Change (Update asked)) inputs short = by_record inputs short
lent_to (Change (Confirm asked)) inputs short = by_record inputs short
lent_to (Change (Tick asked)) inputs short = by_record inputs short
lent_to (Ask asked) inputs short = by_record inputs short
lent_to (Put asked) inputs short = by_record inputs short
