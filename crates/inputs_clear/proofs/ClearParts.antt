-- A window and a hold cleared, as the code goes. Assumes nothing.
use Rattle.std.specs.Prelude.{◌≡◌, ℕ, ◌+◌, ◌*◌, ◌<◌, ◌≤◌, List, length, replicate}
use mathlib.Core.Path.{sym, ap, subst, ◌∙◌}
use Rattle.base.specs.Lists.{part, patched}
use Rattle.lag_window.specs.declared.LagWindow.{LagWindow}
use Rattle.rules_window.specs.Window.{Window, fresh}
use Rattle.rules_window.specs.ColumnSums.{column_sums}
use Rattle.rules_window.specs.Window as window
use Rattle.rules_window.specs.Parts as parts
use Rattle.delay_hold.specs.declared.DelayHold.{DelayHold}
use Rattle.delay_hold.specs.Next.{held, fresh_hold, cleared_hold}
use Rattle.rules_record.specs.declared.Slot.{Slot}
use Rattle.rules_record.specs.declared.Inputs.{Inputs}
use Rattle.rules_record.specs.Slots.{with_lag_seconds, with_hold}
use Rattle.rules_record.specs.Inputs.{put_slot}
use Rattle.rules_record.specs.Lent.{Lists, lists, buckets_in}
use Rattle.inputs_window.specs.Windows.{window_in, all_windows}
use Rattle.rules_record.specs.Checks.{Fitting}
use Rattle.rules_record.specs.Effects.{silent}
use Rattle.rules_record.proofs.Shapes.{window_held, sums_within}
use Rattle.rules_routing.specs.Clear.{cleared}

-- ---- the hold
pub hold_by : (i : ℕ) (times lags : List ℕ) {k : ℕ} {r : DelayHold} {times' lags' : List ℕ} → k ≡ 600 → held r times' lags' ≡ cleared_hold (held fresh_hold (part (i * 600) k times) (part (i * 600) k lags))
    → held r (patched (i * 600) k times' times) (patched (i * 600) k lags' lags)
    ≡ held fresh_hold (patched (i * 600) 600 (replicate (length (part (i * 600) 600 times)) 0) times) (patched (i * 600) 600 (replicate (length (part (i * 600) 600 lags)) 0) lags)
hold_by i times lags {k} is-k e =
    (λ t. held (e t).hold (patched (i * 600) k (e t).times times) (patched (i * 600) k (e t).lags lags))
    ∙ (λ t. held fresh_hold (patched (i * 600) (is-k t) (replicate (length (part (i * 600) (is-k t) times)) 0) times) (patched (i * 600) (is-k t) (replicate (length (part (i * 600) (is-k t) lags)) 0) lags))

-- ---- the window
pub before_held : (s : Inputs) (i : ℕ) (slot : Slot) {before : LagWindow} → before ≡ window_in s.policy s.width slot → (l : Lists) → Fitting s l → i < s.count
    → parts.PartsIn i (all_windows before l) × (i * before.buckets + before.buckets ≤ length l.sums)
unfolding buckets_in
before_held s i slot is-before l f h =
    subst (λ (w : LagWindow). parts.PartsIn i (all_windows w l) × (i * w.buckets + w.buckets ≤ length l.sums)) (sym is-before) (window_held s l f i slot h, sums_within s l f i h)

-- ---- both: m is what the window's clearing left of the lists
module _ (s : Inputs) (i : ℕ) (slot : Slot) (l m : Lists) {times' lags' : List ℕ} {before w : LagWindow} {hold : DelayHold} {r : Inputs}
    (is-before : before ≡ window_in s.policy s.width slot)
    (is-window : all_windows w m ≡ parts.placed i (window.cleared (parts.part_of i (all_windows before l))) (all_windows before l))
    (is-sums : m.sums ≡ patched (i * before.buckets) before.buckets (column_sums (window.cleared (parts.part_of i (all_windows before l)))) l.sums)
    (is-times : m.times ≡ l.times)
    (is-lags : m.peaks ≡ l.peaks)
    (is-hold : held hold times' lags' ≡ held fresh_hold (patched (i * 600) 600 (replicate (length (part (i * 600) 600 m.times)) 0) m.times) (patched (i * 600) 600 (replicate (length (part (i * 600) 600 m.peaks)) 0) m.peaks))
    (is-put : r ≡ put_slot s i (with_hold (with_lag_seconds slot w.seconds) hold)) where
  abbrev placing : LagWindow → Window
  placing x = parts.placed i (window.cleared (parts.part_of i (all_windows x l))) (all_windows x l)

  window_is : all_windows w m ≡ placing (window_in s.policy s.width slot)
  window_is = is-window ∙ ap placing is-before

  sums_is : m.sums ≡ patched (i * buckets_in s) (buckets_in s) (column_sums (fresh (buckets_in s) s.width)) l.sums
  unfolding buckets_in
  sums_is = is-sums ∙ ap (λ (x : LagWindow). patched (i * x.buckets) x.buckets (column_sums (window.cleared (parts.part_of i (all_windows x l)))) l.sums) is-before

  hold_is : held hold times' lags' ≡ held fresh_hold (patched (i * 600) 600 (replicate (length (part (i * 600) 600 l.times)) 0) l.times) (patched (i * 600) 600 (replicate (length (part (i * 600) 600 l.peaks)) 0) l.peaks)
  hold_is = is-hold ∙ (λ t. held fresh_hold (patched (i * 600) 600 (replicate (length (part (i * 600) 600 (is-times t))) 0) (is-times t)) (patched (i * 600) 600 (replicate (length (part (i * 600) 600 (is-lags t))) 0) (is-lags t)))

  pub cleared_by : silent r (lists m.starts m.totals m.counts m.sums times' lags') ≡ cleared i slot s l
  unfolding cleared buckets_in fresh
  cleared_by =
      (λ t. silent (is-put t) (lists m.starts m.totals m.counts m.sums times' lags'))
      ∙ (λ t. silent (put_slot s i (with_hold (with_lag_seconds slot (window_is t).seconds) (hold_is t).hold)) (lists (window_is t).starts (window_is t).totals (window_is t).counts (sums_is t) (hold_is t).times (hold_is t).lags))
