-- What `new` is lent, and what every other call. Assumes nothing.
use Rattle.std.specs.Prelude.{◌≡◌, ℕ, Bool}
use mathlib.Core.Path.{refl, ◌∙◌, ap}
use Rattle.rules_record.specs.declared.Inputs.{Inputs}
use Rattle.text_lending.specs.declared.Sizes.{Sizes}
use Rattle.text_requests.specs.declared.Call.{Call}
use Rattle.text_requests.specs.declared.Call.TheVariants.{Change, Ask, Put}
use Rattle.text_requests.specs.declared.Change.TheVariants.{New, Route, Update, Confirm, Tick}
use Rattle.text_requests.specs.declared.NewAsked.{NewAsked}
use Rattle.text_lending.specs.Lengths.{buckets_lent, lengths_for}
use Rattle.text_lending.specs.LentTo.{by_settings, by_record, lent_to}

module _ (inputs : Inputs) (short : Bool) where
  pub by_record_law : (call : Call) → ((asked : NewAsked) → call ≡ Change (New asked) → ⊥) → {r : Sizes} → r ≡ by_record inputs short → r ≡ lent_to call inputs short
  by_record_law (Change (New asked)) k e = absurd (k asked refl)
  by_record_law (Change (Route asked)) k e = e
  by_record_law (Change (Update asked)) k e = e
  by_record_law (Change (Confirm asked)) k e = e
  by_record_law (Change (Tick asked)) k e = e
  by_record_law (Ask asked) k e = e
  by_record_law (Put asked) k e = e

  pub by_settings_law : (call : Call) (asked : NewAsked) → call ≡ Change (New asked) → {n : ℕ} → n ≡ buckets_lent asked.settings.read_offset asked.settings.delay_max asked.settings.width → {r : Sizes} → r ≡ lengths_for asked.settings.count n short → r ≡ lent_to call inputs short
  unfolding by_settings
  by_settings_law call asked e f g = rw e (g ∙ ap (λ (k : ℕ). lengths_for asked.settings.count k short) f)
