-- Document 01, "LagWindow": the quantile of the counted lags up to a limit. Assumes nothing.
use Rattle.std.specs.Prelude.{ℕ, Result, Ok, Err, zero, suc, ◌+◌, ◌*◌, List, false, leb, eqb, get_or, Float, None, Option, Some}
use Rattle.std.specs.Float.{binary64}
use Rattle.std.specs.Float.Ieee.{round}
use Rattle.base.specs.Choice.{pick}
use Rattle.base.specs.Lists.{sum}
use Rattle.doubles.specs.Quantile as places
use Rattle.refusals.specs.declared.Refusal.{Refusal}
use Rattle.refusals.specs.Numbers as refusals
use Rattle.rules_window.specs.Window.{Window}

-- the end of the bucket that holds a quantile, none where no lag counts, or the number of the check that refuses
pub data Quantile : Type 0 where
  End : ℕ → Quantile
  NoLags : Quantile
  Refused : ℕ → Quantile

-- .. of what is found of lags that are counted, and of each case of what a call gives
abbrev pub found : Option ℕ → Quantile
found None = NoLags
found (Some end) = End end

abbrev pub told : Result (Option ℕ) Refusal → Quantile
told (Ok quantile) = found quantile
told (Err refusal) = Refused (refusals.number_of refusal)

-- the lags of bucket b in the n seconds
unfoldable pub column : (buckets b n : ℕ) (counts : List ℕ) → ℕ
column buckets b n counts = sum (λ r. get_or counts (r * buckets + b) 0) n

-- "counts buckets whose start (b times W) is at most limit": the lags that bucket b brings
unfoldable pub within : (limit width buckets n : ℕ) (counts : List ℕ) (b : ℕ) → ℕ
within limit width buckets n counts b = pick (leb (b * width) limit) (column buckets b n counts) 0

-- the running count: the lags that the first m buckets bring
unfoldable pub running : (limit width buckets n : ℕ) (counts : List ℕ) (m : ℕ) → ℕ
running limit width buckets n counts m = sum (within limit width buckets n counts) m

-- "the first bucket where the running count reaches it", of m buckets from b on
unfoldable pub reach : (target limit width buckets n : ℕ) (counts : List ℕ) → ℕ → (b : ℕ) → Option ℕ
reach target limit width buckets n counts zero b = None
reach target limit width buckets n counts (suc m) b =
    pick (leb target (running limit width buckets n counts (b + 1))) (Some b) (reach target limit width buckets n counts m (b + 1))

-- "the answer is the end (b + 1) times W"
abbrev pub end_of : (width : ℕ) → Option ℕ → Quantile
end_of width (Some b) = End ((b + 1) * width)
end_of width None = NoLags

-- "Total 0: none. Else target = total times q as a double, raised to the next whole number, at least 1"
unfoldable pub quantile_in : (q : Float) (limit width buckets n : ℕ) (counts : List ℕ) → Quantile
quantile_in q limit width buckets n counts =
    let total = running limit width buckets n counts buckets in
    pick (eqb total 0) NoLags (end_of width (reach (places.target_of total q) limit width buckets n counts buckets 0))

-- k thousandths as a double: "0.5, 0.99 and 0.999"
unfoldable pub thousandths : ℕ → Float
thousandths k = round binary64 false k 1000

-- `quantile_upto`, and `quantile`, which has no limit
abbrev pub quantile_upto : (q : Float) (limit : ℕ) (w : Window) → Quantile
quantile_upto q limit w = quantile_in q limit w.width w.buckets w.seconds w.counts

abbrev pub quantile_of : (q : Float) (w : Window) → Quantile
quantile_of q w = quantile_upto q 4294967295 w

-- the lags of bucket b in all seconds of a window
abbrev pub lags_in : (w : Window) (b : ℕ) → ℕ
lags_in w b = column w.buckets b w.seconds w.counts

-- all the lags that `quantile_upto` counts
abbrev pub total_upto : (limit : ℕ) (w : Window) → ℕ
total_upto limit w = running limit w.width w.buckets w.seconds w.counts w.buckets

-- what the place of q among these lags is asked for: they are few enough, and q is from 0 to 1
abbrev pub Placeable : Float → ℕ → Window → Type 0
Placeable q limit w = places.TargetAsked (total_upto limit w) q
