-- The checks of `new`, in their order: document 01's, with document 02's 17 and 18 straight after 2. Assumes nothing.
use Rattle.std.specs.Prelude.{ℕ, ◌*◌, Bool, List, leb, eqb, length}
use Rattle.base.specs.Choice.{both, ask}
use Rattle.base.specs.Limits.{timely, samples_limit}
use Rattle.buckets.specs.Ranges.{ranges_number}
use Rattle.policy.specs.Settings.{percent_allowed}
use Rattle.rules_record.specs.declared.Output.TheVariants.{Words}
use Rattle.rules_record.specs.Lent.{Lists, buckets_in}
use Rattle.rules_record.specs.Checks.{inputs_allowed, pauses_allowed, lists_fit, output_fits}
use Rattle.rules_calls.specs.declared.Settings.{Settings}
use Rattle.rules_calls.specs.NewRecord.{policy_of, blank_for}
use Rattle.rules_calls.specs.NewLoading.{load_fits}

-- 4: "Is margin at most 96,000, percent 0 to 1,000 and no NaN?"
unfoldable pub margin_fits : Settings → Bool
margin_fits settings = both (leb settings.margin samples_limit) (percent_allowed settings.percent)

-- 1 2 17 18 3 4 5, with so many flow bytes, loaded delays and words of commands: the number of the first that says no,
-- or the number that the checks after them give
unfoldable pub settings_number : (settings : Settings) (bytes delays : ℕ) (l : Lists) (words rest : ℕ) → ℕ
settings_number settings bytes delays l words rest =
    ask 1 (inputs_allowed settings.count)
    (ranges_number settings.read_offset settings.delay_max settings.width
    (ask 3 (pauses_allowed (policy_of settings) settings.stall)
    (ask 4 (margin_fits settings)
    (ask 5 (lists_fit settings.count (buckets_in (blank_for settings)) l)
    (ask 5 (output_fits settings.count (Words words))
    -- "for `new`, 16 flow bytes to each loaded delay, of any number"
    (ask 5 (eqb bytes (delays * 16)) rest))))))

-- 1 2 17 18 3 4 5 8 9
unfoldable pub new_number : (settings : Settings) (bytes delays : List ℕ) (time : ℕ) (l : Lists) (words : ℕ) → ℕ
new_number settings bytes delays time l words =
    settings_number settings (length bytes) (length delays) l words
    (ask 8 (timely time) (ask 9 (load_fits (length delays) bytes delays (blank_for settings)) 0))
