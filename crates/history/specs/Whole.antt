-- One input is whole, as check 6 asks of its window, its hold and its delay. Assumes nothing.
use Rattle.std.specs.Prelude.{ℕ, ◌≡◌, Bool, true, leb, length}
use Rattle.base.specs.Choice.{both}
use Rattle.policy.specs.declared.DelayPolicy.{DelayPolicy}
use Rattle.rules_record.specs.Lent.{buckets_for}
use Rattle.rules_window.specs.WholeWindow as windows
use Rattle.delay_hold.specs.Whole.{whole_hold}
use Rattle.history.specs.View.{InputView}

-- check 6 of one input's window, hold and delay
unfoldable pub whole_view : (policy : DelayPolicy) (width : ℕ) (view : InputView) → Bool
whole_view policy width view =
    both (windows.whole_window view.window) (both (whole_hold policy width view.held) (leb view.delay policy.delay_max))

-- a whole input whose lists have the lengths of check 5, under the settings of `new`
pub record Kept (policy : DelayPolicy) (width : ℕ) (view : InputView) : Type 0 where
  pub whole : whole_view policy width view ≡ true
  pub widths : view.window.width ≡ width
  pub bucketed : view.window.buckets ≡ buckets_for policy width
  pub shaped : windows.Shaped view.window
  pub times_long : length view.held.times ≡ 600
  pub lags_long : length view.held.lags ≡ 600
