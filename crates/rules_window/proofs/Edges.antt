-- Document 01's sentences about a window, each at its edge. Assumes nothing.
use Prim.Native.Nat.{ℕ, ◌-◌, ◌/◌, ◌<◌, ◌≤◌}
use mathlib.Core.Bool.{true, false}
use mathlib.Core.Path.{◌≡◌, refl, ap}
use mathlib.Core.List.{List, [], ◌∷◌, ◌++◌}
use native.Mathlib.Omega.{arith}
use lib.IntN.{pos}
use lib.Ieee.{Float, fin, nan, binary64, round, le, mul, of_int}
use lib.ListN.{replicate}
use Rattle.base.specs.Choice.{both, ask}
use Rattle.base.specs.Lists.{padded, sum, all, each_from, listed, sum_from}
use Rattle.base.specs.Rows.{apart, up_to}
use Rattle.buckets.specs.Ranges.{reaches_allowed, width_allowed, buckets_of, buckets_few, buckets_allowed, ranges_number}
use Rattle.doubles.specs.Doubles.{ceil_of}
use Rattle.doubles.specs.Quantile.{target_of}
use Rattle.rules_window.specs.Quantile.{End, NoLags, Refused}
use Rattle.rules_window.specs.Window.{Window, windowed, fresh, cleared, in_use, laid, opened, dropped, bucket_of, counted, pushed, pushed_all}
use Rattle.rules_window.specs.WholeWindow.{summed, whole_window}
use Rattle.rules_window.specs.Quantile.{column, within, running, reach, quantile_in, quantile_upto, quantile_of}
use Rattle.rules_window.specs.ColumnSums.{column_sums, right_sums}
use Rattle.rules_window.specs.Parts.{placed}
use Rattle.rules_window.specs.Checks.{checked, from_zero_to_one, new_number, quantile_number, new_reply, span_reply, answered, quantile_reply, number_of, value_of, push_number, push_reply, clear_reply, newest_of}
use Rattle.rules_window.proofs.Answers.{after, one}

-- a window that is cleared keeps its buckets and their width
pub cleared_keeps_buckets : (w : Window) → (cleared w).buckets ≡ w.buckets
unfolding fresh
cleared_keeps_buckets w = refl

pub cleared_keeps_width : (w : Window) → (cleared w).width ≡ w.width
unfolding fresh
cleared_keeps_width w = refl

-- "the lag counts in bucket lag / W .."
pub near_lag_in_its_bucket : (lag W B : ℕ) → lag / W < B → bucket_of lag W B ≡ lag / W
near_lag_in_its_bucket lag W B l = omega arith

-- ".. or the last"
pub far_lag_in_the_last : (lag W B : ℕ) → B ≤ lag / W → bucket_of lag W B ≡ B - 1
far_lag_in_the_last lag W B l = omega arith

-- a window of three buckets of 4,800, pushed a lag at 5 ns and another at this time
abbrev twice : ℕ → Window
twice time = pushed 0 time (pushed 0 5 (fresh 3 4800))

-- "A push opens a second if .. the newest is at least 1 s old": not 1 ns before
pub second_opens_at_1_s : (twice 1000000004).seconds ∷ (twice 1000000005).seconds ∷ [] ≡ 1 ∷ 2 ∷ []
unfolding padded fresh in_use laid opened dropped counted pushed
second_opens_at_1_s = refl

-- "then seconds more than 10 s old go (10 s exactly stays)"
pub second_goes_after_10_s : (twice 10000000005).seconds ∷ (twice 10000000006).seconds ∷ [] ≡ 2 ∷ 1 ∷ []
unfolding padded fresh in_use laid opened dropped counted pushed
second_goes_after_10_s = refl

-- "Span is newest start − oldest start, 0 with no second"
pub span_to_the_newest :
    span_reply (fresh 3 4800) (column_sums (fresh 3 4800)) ∷ span_reply (twice 1000000004) (2 ∷ 0 ∷ 0 ∷ []) ∷ span_reply (twice 1000000005) (2 ∷ 0 ∷ 0 ∷ []) ∷ []
    ≡ record { number = 0; span = 0 } ∷ record { number = 0; span = 0 } ∷ record { number = 0; span = 1000000000 } ∷ []
unfolding both ask padded sum all each_from sum_from apart up_to fresh in_use laid opened dropped counted pushed summed whole_window listed column column_sums right_sums width_allowed buckets_few buckets_allowed checked span_reply
span_to_the_newest = refl

-- document 02, §5: "a push, a dropped second, a cleared window and a fresh start must all leave it true"; a refused call leaves the row as it came
pub sums_through_the_calls :
    (new_reply 0 0 4800 (replicate 11 7) (replicate 11 7) (replicate 33 7) (replicate 3 7)).sums
    ∷ (push_reply 0 5 (fresh 3 4800) (0 ∷ 0 ∷ 0 ∷ [])).sums
    ∷ (push_reply 4800 1000000005 (pushed 0 5 (fresh 3 4800)) (1 ∷ 0 ∷ 0 ∷ [])).sums
    ∷ (push_reply 9600 10000000006 (pushed 4800 1000000005 (pushed 0 5 (fresh 3 4800))) (1 ∷ 1 ∷ 0 ∷ [])).sums
    ∷ (clear_reply (pushed 4800 1000000005 (pushed 0 5 (fresh 3 4800))) (1 ∷ 1 ∷ 0 ∷ [])).sums
    ∷ (clear_reply (pushed 4800 1000000005 (pushed 0 5 (fresh 3 4800))) (1 ∷ 1 ∷ 1 ∷ [])).sums
    ∷ []
    ≡ (0 ∷ 0 ∷ 0 ∷ []) ∷ (1 ∷ 0 ∷ 0 ∷ []) ∷ (1 ∷ 1 ∷ 0 ∷ []) ∷ (0 ∷ 1 ∷ 1 ∷ []) ∷ (0 ∷ 0 ∷ 0 ∷ []) ∷ (1 ∷ 1 ∷ 1 ∷ []) ∷ []
unfolding both ask padded sum all each_from sum_from apart up_to fresh in_use laid opened dropped counted pushed summed whole_window listed column column_sums right_sums reaches_allowed width_allowed buckets_of buckets_few buckets_allowed ranges_number checked newest_of new_number push_number new_reply push_reply clear_reply
sums_through_the_calls = refl

-- "quantiles .. without limit": a lag of 9,600 counts, and one far beyond the last bucket, which ends at 212 times 48
pub quantile_without_limit : quantile_of one (after (9600 ∷ [])) ∷ quantile_of one (after (1000000 ∷ [])) ∷ [] ≡ End 9648 ∷ End 10176 ∷ []
unfolding padded sum buckets_of fresh in_use laid opened dropped counted pushed pushed_all column within running reach quantile_in target_of ceil_of round mul of_int
quantile_without_limit = refl

-- the call `quantile`, where its checks let it through, answers that one
pub quantile_call_without_limit : (q : Float) (w : Window) (sums : List ℕ) → quantile_number q w sums ≡ 0 → quantile_reply q w sums ≡ quantile_of q w
unfolding quantile_reply
quantile_call_without_limit q w sums e = ap (λ (n : ℕ). answered n (quantile_of q w)) e

-- "Total 0: none": no lag at all, or none up to the limit
pub quantile_of_none : quantile_of one (after []) ∷ quantile_upto one 9599 (after (9600 ∷ [])) ∷ [] ≡ NoLags ∷ NoLags ∷ []
unfolding padded sum buckets_of fresh in_use laid opened dropped counted pushed pushed_all column within running reach quantile_in target_of ceil_of round mul of_int
quantile_of_none = refl

-- 14: "Is q from 0 to 1?": the double after 1, 2 and NaN are not
pub q_from_0_to_1 :
    from_zero_to_one (fin false 0 (pos 0))
    ∷ from_zero_to_one one
    ∷ from_zero_to_one (round binary64 false 4503599627370497 4503599627370496)
    ∷ from_zero_to_one (fin false 1 (pos 1))
    ∷ from_zero_to_one nan
    ∷ []
    ≡ true ∷ true ∷ false ∷ false ∷ false ∷ []
unfolding both from_zero_to_one round le
q_from_0_to_1 = refl

-- the checks of every call on a window, in their order: 17, 18, 5, 6; a width of 0 is refused by 17 whatever the buckets are
pub window_asked_17_18_5_6 :
    checked (windowed 12 0 0 [] [] []) [] 0
    ∷ checked (windowed 12 4097 4801 [] [] []) [] 0
    ∷ checked (windowed 12 0 4800 [] [] []) [] 0
    ∷ checked (windowed 12 4097 4800 [] [] []) [] 0
    ∷ checked (windowed 12 3 4800 (replicate 10 0) (replicate 11 0) (replicate 33 0)) (replicate 3 0) 0
    ∷ checked (windowed 12 3 4800 (replicate 11 0) (replicate 12 0) (replicate 33 0)) (replicate 3 0) 0
    ∷ checked (windowed 12 3 4800 (replicate 11 0) (replicate 11 0) (replicate 32 0)) (replicate 3 0) 0
    ∷ checked (windowed 12 3 4800 (replicate 11 0) (replicate 11 0) (replicate 33 0)) (replicate 4 0) 0
    ∷ checked (windowed 12 3 4800 (replicate 11 0) (replicate 11 0) (replicate 33 0)) (replicate 3 0) 0
    ∷ checked (windowed 0 3 4800 (replicate 11 0) (replicate 11 0) (replicate 33 0)) (0 ∷ 0 ∷ 1 ∷ []) 0
    ∷ checked (windowed 0 3 4800 (replicate 11 0) (replicate 11 0) (replicate 33 0)) (replicate 3 0) 14
    ∷ checked (windowed 0 1 1 (replicate 11 0) (replicate 11 0) (replicate 11 0)) (0 ∷ []) 14
    ∷ []
    ≡ 17 ∷ 17 ∷ 18 ∷ 18 ∷ 5 ∷ 5 ∷ 5 ∷ 5 ∷ 6 ∷ 6 ∷ 14 ∷ 14 ∷ []
unfolding both ask sum all each_from sum_from apart up_to summed whole_window column right_sums width_allowed buckets_few buckets_allowed checked
window_asked_17_18_5_6 = refl

-- those of `new`: 2, 17 and 18 of offset, maximum and W before the four lengths
pub new_asked_2_17_18_5 :
    new_number 96000 95712 48 11 11 45056 4096
    ∷ new_number 96001 0 48 0 0 0 0
    ∷ new_number 0 0 0 0 0 0 0
    ∷ new_number 96000 95760 48 0 0 0 0
    ∷ new_number 0 0 4800 10 11 33 3
    ∷ new_number 0 0 4800 11 12 33 3
    ∷ new_number 0 0 4800 11 11 32 3
    ∷ new_number 0 0 4800 11 11 33 4
    ∷ new_number 0 0 4800 11 11 33 3
    ∷ []
    ≡ 0 ∷ 2 ∷ 17 ∷ 18 ∷ 5 ∷ 5 ∷ 5 ∷ 5 ∷ 0 ∷ []
unfolding ask both reaches_allowed width_allowed buckets_of buckets_few ranges_number new_number
new_asked_2_17_18_5 = refl

-- "a no ends it with that number, a zero value, and record and buffers unchanged"
pub refused_new_is_zero :
    new_reply 96001 0 48 (1 ∷ []) (2 ∷ []) (3 ∷ []) (4 ∷ [])
    ≡ record { number = 2; window = record { seconds = 0; buckets = 0; width = 0; starts = 1 ∷ []; totals = 2 ∷ []; counts = 3 ∷ [] }; sums = 4 ∷ [] }
unfolding ask both reaches_allowed ranges_number new_number new_reply
refused_new_is_zero = refl

-- document 01's number and value of each answer of a quantile
pub answers_have_numbers_and_values :
    (number_of (End 48) ∷ number_of NoLags ∷ number_of (Refused 14) ∷ [] ≡ 0 ∷ 0 ∷ 14 ∷ []) × (value_of (End 48) ∷ value_of NoLags ∷ value_of (Refused 14) ∷ [] ≡ 48 ∷ 0 ∷ 0 ∷ [])
answers_have_numbers_and_values = (refl, refl)

-- the window of one input stands in its 11 places of each list: of three inputs the middle one is written
pub placed_in_the_middle :
    placed 1 (fresh 1 48) (windowed 5 1 48 (replicate 33 7) (replicate 33 8) (replicate 33 9))
    ≡ windowed 0 1 48
    (replicate 11 7 ++ replicate 11 0 ++ replicate 11 7)
    (replicate 11 8 ++ replicate 11 0 ++ replicate 11 8)
    (replicate 11 9 ++ replicate 11 0 ++ replicate 11 9)
unfolding fresh
placed_in_the_middle = refl
