-- Document 01's fifteen worked answers in one place, stated of what the calls themselves answer: three of Doubles, three of Need,
-- four quantiles, five of `next` as far as current 48. Assumes nothing.
use Rattle.std.specs.Prelude.{ℕ, ◌*◌, false, ◌≡◌, List, [], ◌∷◌, ◌++◌, pos, negsuc, Float, replicate, None, Option, Some}
use Rattle.std.specs.Float.{fin, binary64}
use Rattle.std.specs.Float.Ieee.{round}
use Rattle.buckets.specs.Ranges.{buckets_of}
use Rattle.doubles.specs.Doubles.{ms_of, samples_of}
use Rattle.policy.specs.declared.DelayPolicy.{DelayPolicy}
use Rattle.policy.specs.Need as Need
use Rattle.policy.specs.Need.{need_reply}
use Rattle.rules_window.specs.Quantile.{Quantile}
use Rattle.rules_window.specs.Quantile.{End}
use Rattle.rules_window.specs.Quantile.{thousandths}
use Rattle.rules_window.specs.Checks as window
use Rattle.delay_hold.specs.Checks.{Answer}
use Rattle.delay_hold.specs.Checks.{Kept, Changed}
use Rattle.delay_hold.specs.Next.{Held}
use Rattle.delay_hold.specs.Checks as hold

-- "With offset 480, maximum 4,800, margin 96, share 0.5", "hold 30 s, window 10 s"
abbrev pub settings : DelayPolicy
settings = record { read_offset = 480; delay_max = 4800; hold = 30_000_000_000; window = 10_000_000_000; margin = 96; margin_share = fin false 1 (negsuc 0) }

-- what `LagWindow::new` leaves: a window of W 48, made on lists which were not zero, with the fewest buckets that there are at this W, and its sums
abbrev pub made : window.Reply
made = window.new_reply 0 0 48 (replicate 11 7) (replicate 11 7) (replicate (11 * buckets_of 0 0 48) 7) (replicate (buckets_of 0 0 48) 7)

-- what is left after these lags were pushed, one after the other, at one time: each `push` on the lists and the sums that the one before left
unfoldable pub after : List ℕ → (left : window.Reply) → window.Reply
after [] left = left
after (lag ∷ lags) left = after lags (window.push_reply lag 5 left.window left.sums)

-- `quantile_upto` and `quantile` of what the call before left
abbrev pub quantile_upto_left : (q : Float) (limit : ℕ) (left : window.Reply) → Quantile
quantile_upto_left q limit left = window.quantile_upto_reply q limit left.window left.sums

abbrev pub quantile_left : (q : Float) (left : window.Reply) → Quantile
quantile_left q left = window.quantile_reply q left.window left.sums

-- q 1
abbrev pub one : Float
one = fin false 1 (pos 0)

-- a hold that `DelayHold::new` made on lists which were not zero, and what its first `next` answers, one hour after the clock's start
abbrev pub fresh : Held
fresh = (hold.new_reply (replicate 600 7) (replicate 600 7)).held

abbrev pub first_next : (p999 largest : Option ℕ) (current : ℕ) → Answer
first_next p999 largest current = (hold.next_reply settings 48 fresh p999 largest current 3_600_000_000_000).answer

pub record Fifteen : Type 0 where
  -- "`ms(48)` = 1"
  pub milliseconds : ms_of 48 ≡ fin false 1 (pos 0)
  -- "`samples` of 0.03125 is 2, of 0.010416 is 0"
  pub samples : samples_of (fin false 1 (negsuc 4)) ∷ samples_of (round binary64 false 10416 1000000) ∷ [] ≡ 2 ∷ 0 ∷ []
  -- "need(480) = 96, need(485) = 104, need(5280) = 4800"
  pub needs : need_reply settings 480 ∷ need_reply settings 485 ∷ need_reply settings 5280 ∷ [] ≡ Need.Of 96 ∷ Need.Of 104 ∷ Need.Of 4800 ∷ []
  -- "W 48, lags 0 and 100, q 1: limit 95 gives 48, limit 96 gives 144. 999 lags of 0 and one of 48 at 0.999: 48. 998 and two: 96."
  pub limited : quantile_upto_left one 95 (after (0 ∷ 100 ∷ []) made) ∷ quantile_upto_left one 96 (after (0 ∷ 100 ∷ []) made) ∷ [] ≡ End 48 ∷ End 144 ∷ []
  pub one_above : quantile_left (thousandths 999) (after (replicate 999 0 ++ 48 ∷ []) made) ≡ End 48
  pub two_above : quantile_left (thousandths 999) (after (replicate 998 0 ++ 48 ∷ 48 ∷ []) made) ≡ End 96
  -- "Current 0: lag 485 gives 104, lag 480 none, lag 5281 none. p999 480, no lag: current 47 raises to 96, 48 does not"
  pub decisions :
      first_next None (Some 485) 0 ∷ first_next None (Some 480) 0 ∷ first_next None (Some 5281) 0 ∷ first_next (Some 480) None 47 ∷ first_next (Some 480) None 48 ∷ []
      ≡ Changed 104 ∷ Kept ∷ Kept ∷ Changed 96 ∷ Kept ∷ []
