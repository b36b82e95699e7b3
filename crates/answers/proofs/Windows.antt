-- The four quantiles of document 01, computed on what `LagWindow::new`, `push`, `quantile_upto` and `quantile` answer. Assumes nothing.
use mathlib.Core.Path.{◌≡◌, refl, ap, ◌∙◌}
use mathlib.Core.List.{List, [], ◌∷◌, ◌++◌}
use lib.Ieee.{round, mul, of_int, le}
use lib.ListN.{length, replicate, length-append, length-replicate}
use Rattle.base.specs.Choice.{ask, both}
use Rattle.base.specs.Lists.{padded, all, listed, sum, each_from, sum_from}
use Rattle.base.specs.Rows.{apart, up_to}
use Rattle.buckets.specs.Ranges.{reaches_allowed, width_allowed, buckets_of, buckets_few, buckets_allowed, ranges_number}
use Rattle.doubles.specs.Doubles.{ceil_of}
use Rattle.doubles.specs.Quantile.{target_of}
use Rattle.rules_window.specs.Quantile.{End}
use Rattle.rules_window.specs.Window.{Window, fresh, in_use, laid, opened, dropped, counted, pushed, pushed_all}
use Rattle.rules_window.specs.WholeWindow.{summed, whole_window, Sound}
use Rattle.rules_window.specs.Quantile.{column, within, running, reach, quantile_in, thousandths}
use Rattle.rules_window.specs.ColumnSums.{column_sums, right_sums}
use Rattle.rules_window.specs.Checks.{checked, newest_of, from_zero_to_one, new_number, push_number, quantile_number, new_reply, push_reply, quantile_upto_reply, quantile_reply, newest}
use Rattle.rules_window.proofs.Laws.{fresh_sound}
use Rattle.answers.specs.Fifteen.{made, after, one, quantile_upto_left, quantile_left}
use Prim.Native.Nat.{ℕ, ◌≤◌}
use native.Mathlib.Omega.{arith}
use Rattle.answers.proofs.Pushes.{left_of, after_pushed}

-- the window that `new` makes
abbrev empty : Window
empty = fresh (buckets_of 0 0 48) 48

pub limited_are : quantile_upto_left one 95 (after (0 ∷ 100 ∷ []) made) ∷ quantile_upto_left one 96 (after (0 ∷ 100 ∷ []) made) ∷ [] ≡ End 48 ∷ End 144 ∷ []
unfolding after ask both padded all listed sum each_from sum_from apart up_to ceil_of target_of buckets_of fresh in_use laid opened dropped counted pushed pushed_all summed whole_window column within running reach quantile_in column_sums right_sums thousandths reaches_allowed width_allowed buckets_few buckets_allowed ranges_number checked newest_of from_zero_to_one new_number push_number quantile_number new_reply push_reply quantile_upto_reply quantile_reply round mul of_int le
limited_are = refl

one_pushed : quantile_left (thousandths 999) (left_of (pushed_all 5 (replicate 999 0 ++ 48 ∷ []) empty)) ≡ End 48
unfolding ask both padded all listed sum each_from sum_from apart up_to ceil_of target_of buckets_of fresh in_use laid opened dropped counted pushed pushed_all summed whole_window column within running reach quantile_in column_sums right_sums thousandths reaches_allowed width_allowed buckets_few buckets_allowed ranges_number checked newest_of from_zero_to_one new_number push_number quantile_number new_reply push_reply quantile_upto_reply quantile_reply round mul of_int le
one_pushed = refl

two_pushed : quantile_left (thousandths 999) (left_of (pushed_all 5 (replicate 998 0 ++ 48 ∷ 48 ∷ []) empty)) ≡ End 96
unfolding ask both padded all listed sum each_from sum_from apart up_to ceil_of target_of buckets_of fresh in_use laid opened dropped counted pushed pushed_all summed whole_window column within running reach quantile_in column_sums right_sums thousandths reaches_allowed width_allowed buckets_few buckets_allowed ranges_number checked newest_of from_zero_to_one new_number push_number quantile_number new_reply push_reply quantile_upto_reply quantile_reply round mul of_int le
two_pushed = refl

-- ---- a thousand pushes
made_is : made ≡ left_of empty
unfolding new_reply new_number ask both reaches_allowed width_allowed buckets_of buckets_few ranges_number
made_is = refl

empty_sound : Sound empty
unfolding buckets_of
empty_sound = fresh_sound (buckets_of 0 0 48) 48 (omega arith) (omega arith) (omega arith) (omega arith)

no_newest : newest 5 empty ≡ 0
unfolding newest_of fresh
no_newest = refl

pushed_is : (lags : List ℕ) → length lags ≤ 4294967295 → after lags made ≡ left_of (pushed_all 5 lags empty)
pushed_is lags few = ap (after lags) made_is ∙ after_pushed lags empty empty_sound (omega (arith, no_newest))

pub one_above_is : quantile_left (thousandths 999) (after (replicate 999 0 ++ 48 ∷ []) made) ≡ End 48
one_above_is =
    ap (quantile_left (thousandths 999)) (pushed_is (replicate 999 0 ++ 48 ∷ []) (omega (arith, length-append (replicate {A = ℕ} 999 0) (48 ∷ []), length-replicate {A = ℕ} 999 0)))
    ∙ one_pushed

pub two_above_is : quantile_left (thousandths 999) (after (replicate 998 0 ++ 48 ∷ 48 ∷ []) made) ≡ End 96
two_above_is =
    ap (quantile_left (thousandths 999)) (pushed_is (replicate 998 0 ++ 48 ∷ 48 ∷ []) (omega (arith, length-append (replicate {A = ℕ} 998 0) (48 ∷ 48 ∷ []), length-replicate {A = ℕ} 998 0)))
    ∙ two_pushed
