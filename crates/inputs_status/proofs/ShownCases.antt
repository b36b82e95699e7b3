-- What the functions of a status ask of a record that was checked, and the whole status. Assumes nothing.
use Rattle.std.specs.Prelude.{◌≡◌, ℕ, ◌+◌, ◌-◌, ◌*◌, ◌<◌, ◌≤◌, List, length, Option}
use mathlib.Core.Path.{sym, ap, subst, ◌∙◌}
use native.Mathlib.Omega.{arith}
use lib.Ieee.{Float}
use Rattle.base.specs.Lists.{part}
use Rattle.doubles.specs.Doubles.{ms_of}
use Rattle.lag_window.specs.declared.LagWindow.{LagWindow}
use Rattle.rules_window.specs.WholeWindow.{Sound}
use Rattle.rules_window.specs.Quantile.{Placeable, thousandths}
use Rattle.rules_window.specs.ColumnSums.{as_one_second}
use Rattle.rules_window.proofs.OneSecond.{row_placeable}
use Rattle.rules_window.proofs.Numbers.{sound_placeable}
use Rattle.rules_window.proofs.Thousandths.{thousandths_in}
use Rattle.delay_hold.proofs.Wholes as holds
use Rattle.rules_record.specs.declared.Slot.{Slot}
use Rattle.rules_record.specs.declared.Inputs.{Inputs}
use Rattle.rules_record.specs.States.{state_number}
use Rattle.rules_record.specs.Inputs.{slot_at}
use Rattle.rules_record.specs.Lent.{Lists, buckets_in, window_for, window_of, held_of}
use Rattle.inputs_window.specs.Windows.{window_in}
use Rattle.base.proofs.Blocks.{block_within}
use Rattle.base.specs.Limits.{width_limit, buckets_limit}
use Rattle.rules_record.specs.Facts.{OwnSums, Checked}
use Rattle.rules_record.proofs.Shapes.{window_sound, window_sums, sums_within, held_lags}
use Rattle.rules_calls.specs.Status.{StatusReply}
use Rattle.rules_calls.specs.Status.{source_of, channels_shown, proposed_ms, arrival_in, worst_ms, status_for, status_of}
use Rattle.rules_calls.proofs.StatusShows.{arrival_row}
use Rattle.inputs_status.specs.StatusAsked.{Countable}
use Rattle.rules_calls.specs.declared.ArrivalLag.{ArrivalLag}
use Rattle.rules_calls.specs.declared.Source.{Source}

pub quantile_asks : {w : LagWindow} {i : ℕ} {sums : List ℕ} → Countable w i sums → {q : Float} (k : ℕ) → q ≡ thousandths k → k ≤ 1000 →
    ((w.buckets ≤ buckets_limit) × (1 ≤ w.width) × (w.width ≤ width_limit))
    × ((i * w.buckets + w.buckets ≤ length sums) × Placeable q 4294967295 (as_one_second w.buckets w.width (part (i * w.buckets) w.buckets sums)))
quantile_asks {w} {i} {sums} c k is-q h = (
  (c.buckets_most, c.width_least, c.width_most),
  (c.sums_in, subst (λ (x : Float). Placeable x 4294967295 (as_one_second w.buckets w.width (part (i * w.buckets) w.buckets sums))) (sym is-q) (c.placeable (thousandths k) (thousandths_in k h))),
)

-- ---- what the inner functions ask
-- the end of a part `a..a + k` comes back as `a + k - a`
pub span_is : (a k : ℕ) → a + k - a ≡ k
span_is a k = omega arith

module _ (s : Inputs) (l : Lists) (c : Checked s l) (i : ℕ) (h : i < s.count) {slot : Slot} (is-slot : slot ≡ slot_at s i) where
  window_is_sound : Sound (window_of s l i)
  window_is_sound = window_sound s l c i h

  pub countable : {w : LagWindow} → w ≡ window_in s.policy s.width slot → Countable w i l.sums
  unfolding buckets_in
  countable is-window =
      subst (λ (x : LagWindow). Countable x i l.sums) (sym (is-window ∙ ap (window_in s.policy s.width) is-slot))
      (record {
        buckets_most = window_is_sound.shaped.buckets_high;
        width_least = window_is_sound.shaped.width_low;
        width_most = window_is_sound.shaped.width_high;
        sums_in = sums_within s l c.fitting i h;
        placeable = λ q e. row_placeable (window_of s l i) 4294967295 q (window_sums s l c i h) (sound_placeable q 4294967295 (window_of s l i) window_is_sound e);
      })

  pub peaks_in : {k : ℕ} → k ≡ 600 → slot.hold.peaks ≤ length (part (i * 600) k l.peaks)
  peaks_in {k} is-k =
      subst (λ (x : Slot). x.hold.peaks ≤ length (part (i * 600) k l.peaks)) (sym is-slot)
      (omega (arith, ap (λ (x : ℕ). length (part (i * 600) x l.peaks)) is-k, held_lags s l c.fitting i h, (holds.whole_of s.policy s.width (held_of s l i) (c.whole.inputs i h).hold).0.count))

  pub lags_within : i * 600 + 600 ≤ length l.peaks
  lags_within = omega (arith, block_within i s.count 600 h, c.fitting.long.peaks)

-- ---- the whole status
module _ (s : Inputs) (l : Lists) (i applied channels : ℕ) {slot : Slot} (is-slot : slot ≡ slot_at s i) where
  pub status_by_law : {code shown k : ℕ} {source : Option Source} {w : LagWindow} {arrival : Option ArrivalLag} {worst proposed : Option Float} {extra effective last : Float}
      → source ≡ source_of s slot.route
      → w ≡ window_in s.policy s.width slot
      → arrival ≡ arrival_in (as_one_second w.buckets w.width (part (i * w.buckets) w.buckets l.sums))
      → OwnSums s l i (slot_at s i)
      → k ≡ 600
      → worst ≡ worst_ms slot (part (i * 600) k l.peaks)
      → proposed ≡ proposed_ms slot.proposed
      → code ≡ state_number slot.state
      → shown ≡ channels_shown slot.state channels
      → extra ≡ ms_of applied
      → effective ≡ ms_of (s.policy.read_offset + applied)
      → last ≡ ms_of slot.last_lag
      → ◌≡◌ {A = StatusReply}
      (record {
        number = 0;
        state = code;
        source = source;
        channels = shown;
        extra_delay = slot.config.extra_delay;
        extra_delay_ms = extra;
        effective_delay_ms = effective;
        proposed_delay_ms = proposed;
        lag_ms = last;
        arrival_lag_ms = arrival;
        worst_lag_ms = worst;
        delay_changes = slot.delay_changes;
        late_events = slot.late_events;
        reopens = slot.reopens;
      })
      (status_of s l i applied channels)
  unfolding status_for arrival_in buckets_in
  status_by_law is-source is-window is-arrival own is-k is-worst is-proposed is_code is-shown is-extra is-effective is_last =
      (λ t. record {
        number = 0;
        state = is_code t;
        source = is-source t;
        channels = is-shown t;
        extra_delay = slot.config.extra_delay;
        extra_delay_ms = is-extra t;
        effective_delay_ms = is-effective t;
        proposed_delay_ms = is-proposed t;
        lag_ms = is_last t;
        arrival_lag_ms = (is-arrival ∙ (λ u. arrival_in (as_one_second (is-window u).buckets (is-window u).width (part (i * (is-window u).buckets) (is-window u).buckets l.sums))) ∙ arrival_row (window_for s l i slot) (subst (λ (x : Slot). OwnSums s l i x) (sym is-slot) own)) t;
        worst_lag_ms = (is-worst ∙ (λ u. worst_ms slot (part (i * 600) (is-k u) l.peaks))) t;
        delay_changes = slot.delay_changes;
        late_events = slot.late_events;
        reopens = slot.reopens;
      })
      ∙ ap (status_for s l i applied channels) is-slot
