-- The window and the hold of an input of a checked record have their shapes, and so have cleared ones, which are whole. Assumes nothing.
use Rattle.std.specs.Prelude.{◌≡◌, ℕ, ◌+◌, ◌*◌, ◌<◌, ◌≤◌, true, length, replicate}
use mathlib.Core.Path.{refl}
use native.Mathlib.Omega.{arith}
use lib.ListN.{length-replicate}
use borrow.Author.Tests.{le-leb, lt-ltb}
use Rattle.base.specs.Choice.{both}
use Rattle.base.specs.Lists.{part, blank_from}
use Rattle.base.specs.Limits.{nanos, window_reach}
use Rattle.base.proofs.All.{all_none}
use Rattle.base.proofs.Points.{true_both, blank_intro, zeros_at}
use Rattle.policy.specs.declared.DelayPolicy.{DelayPolicy}
use Rattle.rules_window.specs.Window.{fresh}
use Rattle.rules_window.specs.Parts as parts
use Rattle.rules_window.specs.WholeWindow.{summed, whole_window, Shaped, Sound}
use Rattle.rules_window.specs.ColumnSums.{right_sums}
use Rattle.rules_window.proofs.ColumnSums.{right_are_own}
use Rattle.delay_hold.specs.Next.{Held, fresh_hold, cleared_hold}
use Rattle.delay_hold.specs.Whole.{whole_peaks, whole_times, whole_hold}
use Rattle.base.specs.Rows as rows
use Rattle.rules_record.specs.declared.Slot.{Slot}
use Rattle.rules_record.specs.declared.Inputs.{Inputs}
use Rattle.rules_record.specs.Inputs.{slot_at}
use Rattle.rules_record.specs.Lent.{Lists, buckets_in, windows_of, window_for, window_of, sums_of}
use Rattle.rules_record.specs.Checks.{Fitting}
use Rattle.base.proofs.Blocks.{block_within, block_long}
use Rattle.buckets.proofs.Told.{buckets_some}
use Rattle.rules_record.specs.Facts.{OwnSums, Checked}

pub zeros_blank : (k m : ℕ) → blank_from k (replicate m 0) ≡ true
zeros_blank k m = blank_intro k (replicate m 0) (λ i h. zeros_at m i)

-- ---- of a record that 1 to 5 let through
module _ (s : Inputs) (l : Lists) (f : Fitting s l) where
  pub buckets_least : 1 ≤ buckets_in s
  unfolding buckets_in
  buckets_least = omega (arith, buckets_some s.policy.read_offset s.policy.delay_max s.width)

  pub window_shaped : (i : ℕ) (slot : Slot) → i < s.count → Shaped (window_for s l i slot)
  unfolding buckets_in
  window_shaped i slot h = record {
    width_low = f.allowed.width_least;
    width_high = f.allowed.width_most;
    buckets_low = buckets_least;
    buckets_high = f.allowed.buckets_most;
    starts_long = block_long s.count 11 i l.starts f.long.starts h;
    totals_long = block_long s.count 11 i l.totals f.long.totals h;
    counts_long = block_long s.count (11 * buckets_in s) i l.counts f.long.counts h;
  }

  -- what the functions of `inputs_window` ask of input i
  pub window_held : (i : ℕ) (slot : Slot) → i < s.count → parts.PartsIn i (windows_of s l slot)
  unfolding buckets_in
  window_held i slot h = record {
    width_low = f.allowed.width_least;
    width_high = f.allowed.width_most;
    buckets_low = buckets_least;
    buckets_high = f.allowed.buckets_most;
    starts_in = omega (arith, block_within i s.count 11 h, f.long.starts);
    totals_in = omega (arith, block_within i s.count 11 h, f.long.totals);
    counts_in = omega (arith, block_within i s.count (11 * buckets_in s) h, f.long.counts);
  }

  -- the row of sums of input i lies within the list, a sum for each bucket; where each is right, it is that of the window
  pub sums_within : (i : ℕ) → i < s.count → i * buckets_in s + buckets_in s ≤ length l.sums
  sums_within i h = omega (arith, block_within i s.count (buckets_in s) h, f.long.sums)

  pub sums_long : (i : ℕ) → i < s.count → length (sums_of s l i) ≡ buckets_in s
  sums_long i h = block_long s.count (buckets_in s) i l.sums f.long.sums h

  pub right_own : (i : ℕ) (slot : Slot) → i < s.count → right_sums (window_for s l i slot) (sums_of s l i) ≡ true → OwnSums s l i slot
  right_own i slot h right = right_are_own (window_for s l i slot) (sums_of s l i) (sums_long i h) right

  pub held_times : (i : ℕ) → i < s.count → length (part (i * 600) 600 l.times) ≡ 600
  held_times i h = block_long s.count 600 i l.times f.long.times h

  pub held_lags : (i : ℕ) → i < s.count → length (part (i * 600) 600 l.peaks) ≡ 600
  held_lags i h = block_long s.count 600 i l.peaks f.long.peaks h

  -- a fresh window
  fresh_shaped : Shaped (fresh (buckets_in s) s.width)
  unfolding fresh buckets_in
  fresh_shaped = record {
    width_low = f.allowed.width_least;
    width_high = f.allowed.width_most;
    buckets_low = buckets_least;
    buckets_high = f.allowed.buckets_most;
    starts_long = length-replicate {A = ℕ} 11 0;
    totals_long = length-replicate {A = ℕ} 11 0;
    counts_long = length-replicate {A = ℕ} (11 * buckets_in s) 0;
  }

pub fresh_whole : (buckets width : ℕ) → whole_window (fresh buckets width) ≡ true
unfolding whole_window fresh rows.apart summed rows.up_to
fresh_whole buckets width =
    true_both _ _ (le-leb 0 11 (omega arith))
    (true_both _ _ (all_none _)
    (true_both _ _ (le-leb 0 window_reach (omega arith))
    (true_both _ _ (all_none _)
    (true_both _ _ (zeros_blank 0 11)
    (true_both _ _ (zeros_blank 0 11) (true_both _ _ (zeros_blank (0 * buckets) (11 * buckets)) (all_none _)))))))

pub fresh_sound : (s : Inputs) (l : Lists) → Fitting s l → Sound (fresh (buckets_in s) s.width)
fresh_sound s l f = record { shaped = fresh_shaped s l f; whole = fresh_whole (buckets_in s) s.width }

-- a fresh hold over zeros
fresh_times : (policy : DelayPolicy) → whole_times policy fresh_hold ≡ true
unfolding whole_times both
fresh_times policy = refl

pub cleared_whole : (policy : DelayPolicy) (width : ℕ) (h : Held) → nanos ≤ policy.window → whole_hold policy width (cleared_hold h) ≡ true
unfolding whole_hold whole_peaks rows.apart rows.up_to
cleared_whole policy width h least =
    true_both _ _
    (true_both _ _ (le-leb 0 600 (omega arith))
    (true_both _ _ (all_none _)
    (true_both _ _ (lt-ltb 0 policy.window (omega arith))
    (true_both _ _ (zeros_blank 0 (length h.times))
    (true_both _ _ (zeros_blank 0 (length h.lags)) (true_both _ _ (all_none _) (all_none _)))))))
    (fresh_times policy)

-- ---- of a record that 1 to 6 let through
pub window_sound : (s : Inputs) (l : Lists) → Checked s l → (i : ℕ) → i < s.count → Sound (window_of s l i)
window_sound s l c i h = record { shaped = window_shaped s l c.fitting i (slot_at s i) h; whole = (c.whole.inputs i h).window }

pub window_sums : (s : Inputs) (l : Lists) → Checked s l → (i : ℕ) → i < s.count → OwnSums s l i (slot_at s i)
window_sums s l c i h = right_own s l c.fitting i (slot_at s i) h (c.whole.inputs i h).sums
