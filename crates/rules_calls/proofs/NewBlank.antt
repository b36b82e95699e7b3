-- A record with its settings over zeroed lists passes checks 1 to 6: every window is fresh, every hold is, every place is unused. Assumes nothing.
use Prim.Native.Nat.{ℕ, ◌*◌, ◌<◌, ◌≤◌}
use mathlib.Core.Bool.{true}
use mathlib.Core.Path.{◌≡◌, refl, sym, ap, subst, ◌∙◌}
use native.Mathlib.Omega.{arith}
use lib.ListN.{length, replicate, length-replicate}
use Rattle.base.specs.Lists.{part}
use Rattle.base.specs.Limits.{samples_limit}
use Rattle.base.proofs.All.{all_none}
use Rattle.base.proofs.Choices.{pick_all}
use Rattle.base.proofs.Points.{both_true, true_both, replicate_at}
use lib.Dec.{ltb}
use borrow.Author.Tests.{le-leb}
use Rattle.policy.specs.Settings.{margins_allowed, percent_allowed}
use Rattle.policy.proofs.Shares.{share_sound}
use Rattle.doubles.proofs.Values.{is}
use denote.Floats.{is_true}
use Rattle.rules_window.specs.Window.{fresh}
use Rattle.rules_window.specs.WholeWindow.{whole_window}
use Rattle.rules_window.specs.ColumnSums.{right_sums}
use Rattle.rules_window.proofs.ColumnSums.{own_sums_right}
use Rattle.rules_window.proofs.SumsKept.{fresh_sums}
use Rattle.delay_hold.specs.Next.{held, fresh_hold}
use Rattle.delay_hold.specs.Whole.{whole_hold}
use Rattle.rules_record.specs.declared.Slot.{Slot}
use Rattle.rules_record.specs.declared.FlowEntry.{FlowEntry}
use Rattle.rules_record.specs.declared.Instance.{Instance}
use Rattle.rules_record.specs.Slots.{empty_slot}
use Rattle.rules_record.specs.Inputs.{slot_at}
use Rattle.rules_record.specs.Sized.{Sized}
use Rattle.rules_record.specs.Flows.{empty_entry, entry_at, known, distinct_flows}
use Rattle.rules_record.specs.Instances as keys
use Rattle.rules_record.specs.Instances.{no_key, key_at, distinct_keys}
use Rattle.rules_record.specs.Lent.{Lists, buckets_in, window_of, sums_of, held_of}
use Rattle.rules_record.specs.WholePlaces.{route_fits}
use Rattle.rules_record.specs.Checks.{Long, Fitting, Allowed}
use Rattle.rules_record.specs.Facts.{WholeSlot, WholeFlows, WholeInstances, Checked}
use Rattle.base.proofs.Blocks.{zeros_block}
use Rattle.rules_record.proofs.Shapes.{fresh_whole, cleared_whole}
use Rattle.rules_calls.specs.declared.Settings.{Settings}
use Rattle.rules_calls.specs.NewRecord.{policy_of, blank, blank_for}
use Rattle.rules_calls.specs.NewStart.{zeroed_lists}

-- ---- checks 1 to 5
-- 4 of a percent is 4 of its share
pub shared_margins : (settings : Settings) → settings.margin ≤ samples_limit → percent_allowed settings.percent ≡ true → margins_allowed (policy_of settings) ≡ true
unfolding policy_of percent_allowed margins_allowed
shared_margins settings margin percent =
    let p = both_true _ _ percent in
    let share = share_sound settings.percent (is p.0) (is p.1) in
    true_both _ _ (le-leb _ _ margin) (true_both _ _ (is_true _ share.0) (is_true _ share.1))

pub zeroed_long : (n buckets : ℕ) (l : Lists) → Long n buckets l → Long n buckets (zeroed_lists l)
zeroed_long n buckets l long = record {
  starts = length-replicate {A = ℕ} (length l.starts) 0 ∙ long.starts;
  totals = length-replicate {A = ℕ} (length l.totals) 0 ∙ long.totals;
  counts = length-replicate {A = ℕ} (length l.counts) 0 ∙ long.counts;
  sums = length-replicate {A = ℕ} (length l.sums) 0 ∙ long.sums;
  times = length-replicate {A = ℕ} (length l.times) 0 ∙ long.times;
  peaks = length-replicate {A = ℕ} (length l.peaks) 0 ∙ long.peaks;
}

-- ---- the blank record
module _ (settings : Settings) where
  pub blank_sized : Sized (blank_for settings)
  unfolding blank_for blank
  blank_sized = record { slots = length-replicate 16 empty_slot; flows = length-replicate 64 empty_entry; instances = length-replicate 18 no_key }

  pub blank_slot : (i : ℕ) → slot_at (blank_for settings) i ≡ empty_slot
  unfolding blank_for blank slot_at
  blank_slot i = pick_all (λ (x : Slot). x ≡ empty_slot) (ltb i 16) (replicate_at 16 i empty_slot) refl

  blank_entry : (place : ℕ) → entry_at (blank_for settings) place ≡ empty_entry
  unfolding blank_for blank entry_at
  blank_entry place = pick_all (λ (x : FlowEntry). x ≡ empty_entry) (ltb place 64) (replicate_at 64 place empty_entry) refl

  blank_key : (place : ℕ) → key_at (blank_for settings) place ≡ no_key
  unfolding blank_for blank key_at
  blank_key place = pick_all (λ (x : Instance). x ≡ no_key) (ltb place 18) (replicate_at 18 place no_key) refl

  blank_flows : WholeFlows (blank_for settings)
  unfolding blank_for blank distinct_flows known
  blank_flows = record { most = omega arith; distinct = all_none _; unused = λ place h. blank_entry place }

  blank_instances : WholeInstances (blank_for settings)
  unfolding blank_for blank distinct_keys keys.keys_held
  blank_instances = record { most = omega arith; distinct = all_none _; known = λ place h. absurd (omega arith); unused = λ place h. blank_key place }

  empty_whole : (maximum n : ℕ) → WholeSlot maximum n empty_slot
  unfolding empty_slot route_fits
  empty_whole maximum n =
      record { delay = omega arith; proposed = refl; route = refl; reopens = omega arith; changes = omega arith; lates = omega arith; head = omega arith; set = refl; opened = refl }

-- ---- over zeroed lists
module _ (settings : Settings) (l : Lists) (allowed : Allowed settings.count (policy_of settings) settings.width settings.stall) (long : Long settings.count (buckets_in (blank_for settings)) l) where
  pub blank_fitting : Fitting (blank_for settings) (zeroed_lists l)
  unfolding blank_for blank
  blank_fitting = record { allowed = allowed; long = zeroed_long settings.count (buckets_in (blank_for settings)) l long }

  module _ (i : ℕ) (h : i < settings.count) where
    -- the zeros of input i, whatever record has these buckets
    pub zeroed_starts : part (i * 11) 11 (zeroed_lists l).starts ≡ replicate 11 0
    zeroed_starts = zeros_block settings.count 11 i _ long.starts h

    pub zeroed_totals : part (i * 11) 11 (zeroed_lists l).totals ≡ replicate 11 0
    zeroed_totals = zeros_block settings.count 11 i _ long.totals h

    pub zeroed_counts : part (i * (11 * buckets_in (blank_for settings))) (11 * buckets_in (blank_for settings)) (zeroed_lists l).counts ≡ replicate (11 * buckets_in (blank_for settings)) 0
    zeroed_counts = zeros_block settings.count (11 * buckets_in (blank_for settings)) i _ long.counts h

    pub zeroed_sums : part (i * buckets_in (blank_for settings)) (buckets_in (blank_for settings)) (zeroed_lists l).sums ≡ replicate (buckets_in (blank_for settings)) 0
    zeroed_sums = zeros_block settings.count (buckets_in (blank_for settings)) i _ long.sums h

    pub zeroed_times : part (i * 600) 600 (zeroed_lists l).times ≡ replicate 600 0
    zeroed_times = zeros_block settings.count 600 i _ long.times h

    pub zeroed_lags : part (i * 600) 600 (zeroed_lists l).peaks ≡ replicate 600 0
    zeroed_lags = zeros_block settings.count 600 i _ long.peaks h

    blank_window : window_of (blank_for settings) (zeroed_lists l) i ≡ fresh (buckets_in (blank_for settings)) settings.width
    unfolding fresh empty_slot blank_for blank
    blank_window = λ t.
        record {
          seconds = (blank_slot settings i t).lag_seconds;
          buckets = buckets_in (blank_for settings);
          width = settings.width;
          starts = zeroed_starts t;
          totals = zeroed_totals t;
          counts = zeroed_counts t;
        }

    blank_sums : right_sums (window_of (blank_for settings) (zeroed_lists l) i) (sums_of (blank_for settings) (zeroed_lists l) i) ≡ true
    blank_sums =
        (λ t. right_sums (blank_window t) ((zeroed_sums ∙ sym (fresh_sums (buckets_in (blank_for settings)) settings.width)) t))
        ∙ own_sums_right (fresh (buckets_in (blank_for settings)) settings.width)

    blank_held : held_of (blank_for settings) (zeroed_lists l) i ≡ held fresh_hold (replicate 600 0) (replicate 600 0)
    unfolding empty_slot
    blank_held = λ t. record { hold = (blank_slot settings i t).hold; times = zeroed_times t; lags = zeroed_lags t }

  pub blank_checked : Checked (blank_for settings) (zeroed_lists l)
  unfolding blank_for blank policy_of
  blank_checked = record {
    fitting = blank_fitting;
    sized = blank_sized settings;
    whole =
        record {
          inputs = λ i h.
              record {
                window = ap whole_window (blank_window i h) ∙ fresh_whole (buckets_in (blank_for settings)) settings.width;
                sums = blank_sums i h;
                hold =
                    ap (whole_hold (policy_of settings) settings.width) (blank_held i h)
                    ∙ cleared_whole (policy_of settings) settings.width (held fresh_hold (replicate 600 0) (replicate 600 0)) allowed.window_least;
                slot = subst (WholeSlot settings.delay_max 0) (sym (blank_slot settings i)) (empty_whole settings settings.delay_max 0);
              };
          unused = λ i h. blank_slot settings i;
          flows = blank_flows settings;
          instances = blank_instances settings;
        };
  }
