-- A hold over a view of its lists is the hold over the lists, and the checks of `next` say the same of both. Assumes nothing.
use Rattle.std.specs.Prelude.{◌≡◌, ℕ, List, Option}
use mathlib.Core.Path.{ap}
use Rattle.policy.specs.declared.DelayPolicy.{DelayPolicy}
use Rattle.delay_hold.specs.declared.DelayHold.{DelayHold}
use Rattle.delay_hold.specs.Next.{Held, held}
use Rattle.delay_hold.specs.Checks.{next_number}

pub seen_lent : (h : DelayHold) {seen_times seen_lags times lags : List ℕ} → seen_times ≡ times → seen_lags ≡ lags → held h seen_times seen_lags ≡ held h times lags
seen_lent h is-times is-lags = λ t. held h (is-times t) (is-lags t)

pub number_seen : (policy : DelayPolicy) (width : ℕ) (h : DelayHold) (p999 : Option ℕ) (current time : ℕ) {seen_times seen_lags times lags : List ℕ} → seen_times ≡ times → seen_lags ≡ lags
    → next_number policy width (held h seen_times seen_lags) p999 current time ≡ next_number policy width (held h times lags) p999 current time
number_seen policy width h p999 current time is-times is-lags = ap (λ (s : Held). next_number policy width s p999 current time) (seen_lent h is-times is-lags)
