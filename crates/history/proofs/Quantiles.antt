-- Where every count is in a bucket up to c, and there is one up to the limit, the quantile is at most the end of bucket c.
-- Assumes nothing.
use Prim.Native.Nat.{ℕ, ◌+◌, ◌*◌, ◌≤◌, ◌<◌}
use mathlib.Core.Path.{◌≡◌, subst, sym}
use native.Mathlib.Omega.{arith}
use lib.Ieee.{Float}
use lib.ListN.{get_or}
use Rattle.base.proofs.Choices.{by_le}
use Rattle.base.proofs.Points.{sum_zero, sum_at_le}
use Rattle.rules_window.specs.Quantile.{Quantile}
use Rattle.rules_window.specs.Window.{Window}
use Rattle.rules_window.specs.Quantile.{column, lags_in, quantile_upto, Placeable}
use Rattle.rules_window.proofs.Laws.{Holds, quantile_at_most, quantile_exists}
use Rattle.delay_hold.proofs.Outcomes.{AtMost}
use Rattle.rules_tick.specs.AutoDelay.{quantile_lag}
use Rattle.history.proofs.Pushed.{count_at}

-- no second has a count above bucket c
abbrev pub LowCounts : ℕ → Window → Type 0
LowCounts c w = (r b : ℕ) → r < w.seconds → c < b → b < w.buckets → count_at w r b ≡ 0

-- a second has a count in a bucket up to c that starts at most at `limit`
pub record HasLag (c limit : ℕ) (w : Window) : Type 0 where
  pub row : ℕ
  pub bucket : ℕ
  pub row_in : row < w.seconds
  pub bucket_in : bucket < w.buckets
  pub low : bucket ≤ c
  pub reaches : bucket * w.width ≤ limit
  pub counted : 0 < count_at w row bucket

pub lag_more : {a b : ℕ} (c : ℕ) (w : Window) → a ≤ b → HasLag c a w → HasLag c b w
lag_more c w h k =
    record { row = k.row; bucket = k.bucket; row_in = k.row_in; bucket_in = k.bucket_in; low = k.low; reaches = omega (arith, k.reaches); counted = k.counted }

module _ (q : Float) (limit : ℕ) (w : Window) where
  module _ (c : ℕ) (low : LowCounts c w) where
    -- a bucket above c holds no lag
    above_none : (b : ℕ) → c < b → b < w.buckets → lags_in w b ≡ 0
    unfolding column
    above_none b h k = sum_zero _ w.seconds (λ r g. low r b g h k)

    holds_low : (b : ℕ) → Holds limit w b → b ≤ c
    holds_low b h = by_le b c (λ l. l) (λ l. absurd (omega (arith, h.some, above_none b l h.inside)))

    lag_holds : (has : HasLag c limit w) → Holds limit w has.bucket
    unfolding column
    lag_holds has =
        record {
          inside = has.bucket_in;
          shown = has.reaches;
          some = omega (arith, has.counted, sum_at_le (λ r. get_or w.counts (r * w.buckets + has.bucket) 0) w.seconds has.row has.row_in);
        }

    pub quantile_low : Placeable q limit w → HasLag c limit w → AtMost ((c + 1) * w.width) (quantile_lag (quantile_upto q limit w))
    quantile_low p has =
        let s = quantile_exists q limit w p has.bucket (lag_holds has) in
        subst (λ (x : Quantile). AtMost ((c + 1) * w.width) (quantile_lag x)) (sym s.1) (quantile_at_most q limit w s.0 c s.1 holds_low)
