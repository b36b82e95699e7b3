-- What the lags of a tick leave: the window of the input pushed, all else as it was, and a checked record checked. Assumes nothing.
use Prim.Native.Nat.{ℕ, ◌*◌, ◌<◌, ◌≤◌}
use mathlib.Core.Bool.{true}
use mathlib.Core.Path.{◌≡◌, refl, sym, ap, ◌∙◌}
use mathlib.Core.List.{List}
use native.Mathlib.Omega.{arith}
use lib.ListN.{length}
use Rattle.base.specs.Limits.{time_limit}
use Rattle.rules_window.specs.Window.{Window}
use Rattle.rules_window.specs.WholeWindow.{whole_window, Sound}
use Rattle.rules_window.specs.Checks.{room_for}
use Rattle.rules_window.specs.ColumnSums.{right_sums}
use Rattle.rules_window.proofs.ColumnSums.{own_sums_right}
use Rattle.rules_window.proofs.Laws.{lags_keep_sound}
use Rattle.rules_window.proofs.Parting.{pushed_all_sizes}
use Rattle.rules_record.specs.declared.Slot.{Slot}
use Rattle.rules_record.specs.declared.Inputs.{Inputs}
use Rattle.rules_record.specs.Inputs.{slot_at}
use Rattle.rules_record.proofs.SlotFrame.{slot_same, slot_other}
use Rattle.rules_record.specs.Lent.{Lists, buckets_in, window_for, window_of, sums_of, with_window}
use Rattle.rules_record.specs.Facts.{WholeSlot, Checked}
use Rattle.rules_record.proofs.Beside.{Beside, beside_window, window_same, sums_same}
use Rattle.rules_record.proofs.Keep.{window_keeps}
use Rattle.rules_tick.specs.Lags.{window_after, last_lag_of, arrived_slot, arrived}
use Rattle.rules_tick.specs.InputReady.{Ready}
use Rattle.rules_tick.proofs.Ready.{ready_sound, ready_window}
use Rattle.rules_routing.proofs.SettingsKept.{SameSettings, settings_put}
use Rattle.rules_tick.proofs.Readiness.{ready_of, put_ready}
use Rattle.rules_tick.proofs.Raised.{Raised, raised_by}

module _ (i time : ℕ) (lags : List ℕ) (s : Inputs) (l : Lists) where
  abbrev after : Inputs
  after = (arrived i time lags s l).inputs

  abbrev left : Lists
  left = (arrived i time lags s l).lists

  abbrev pushed : Window
  pushed = window_after i time lags s l

  abbrev slot : Slot
  slot = arrived_slot (slot_at s i) pushed.seconds (last_lag_of lags (slot_at s i).last_lag)

  -- ---- what stays
  pub arrived_other : (j : ℕ) → (j ≡ i → ⊥) → slot_at after j ≡ slot_at s j
  unfolding arrived
  arrived_other j apart = slot_other s i slot j apart

  pub arrived_settings : SameSettings s after
  unfolding arrived
  arrived_settings = settings_put s i slot

  pub arrived_slot_law : i < 16 → length s.slots ≡ 16 → slot_at after i ≡ slot
  unfolding arrived
  arrived_slot_law low sized = slot_same s i slot low sized

  pub arrived_raised : i < 16 → length s.slots ≡ 16 → Raised 0 0 0 (slot_at s i) (slot_at after i)
  arrived_raised low sized = raised_by 0 0 0 (slot_at s i) (arrived_slot_law low sized) (record { reopens = omega arith; changes = omega arith; lates = omega arith })

  -- ---- the window
  sizes : (pushed.buckets ≡ buckets_in s) × (pushed.width ≡ s.width)
  unfolding window_after
  sizes = pushed_all_sizes time lags (window_of s l i)

  module _ (r : Ready s l i) (soon : time ≤ time_limit) (room : room_for time (length lags) (window_of s l i) ≡ true) where
    pub pushed_sound : Sound pushed
    unfolding window_after
    pushed_sound = lags_keep_sound time soon lags (window_of s l i) (ready_sound s l i (slot_at s i) (ready_window s l i r)) room

    counts_long : length pushed.counts ≡ 11 * buckets_in s
    counts_long = pushed_sound.shaped.counts_long ∙ ap (λ (b : ℕ). 11 * b) sizes.0

    pub arrived_beside : Beside s.count (buckets_in s) i l left
    unfolding arrived
    arrived_beside =
        beside_window s.count (buckets_in s) i l r.fitting.long r.input pushed pushed_sound.shaped.starts_long pushed_sound.shaped.totals_long counts_long sizes.0

    -- read again, the window is the pushed one
    read : window_for s (with_window (buckets_in s) i pushed l) i slot ≡ pushed
    read =
        window_same s.count (buckets_in s) i l r.fitting.long r.input pushed pushed_sound.shaped.starts_long pushed_sound.shaped.totals_long counts_long sizes.0 s.width
        ∙ (λ t. record {
          seconds = pushed.seconds;
          buckets = sym sizes.0 t;
          width = sym sizes.1 t;
          starts = pushed.starts;
          totals = pushed.totals;
          counts = pushed.counts;
        })

    -- .. and its sums are right
    sums_read : right_sums (window_for s (with_window (buckets_in s) i pushed l) i slot) (sums_of s (with_window (buckets_in s) i pushed l) i) ≡ true
    sums_read =
        (λ t. right_sums (read t) (sums_same s.count (buckets_in s) i l r.fitting.long r.input pushed pushed_sound.shaped.starts_long pushed_sound.shaped.totals_long counts_long sizes.0 t))
        ∙ own_sums_right pushed

    pub arrived_read : window_for s left i slot ≡ pushed
    unfolding arrived
    arrived_read = read

    -- the input stays ready
    pub arrived_ready : length s.slots ≡ 16 → Ready after left i
    unfolding arrived
    arrived_ready sized =
        put_ready s l (with_window (buckets_in s) i pushed l) i slot r sized arrived_beside.long (ap whole_window read ∙ pushed_sound.whole) sums_read r.hold r.delay r.proposed

  -- a checked record stays checked
  pub arrived_keeps : Checked s l → i < s.count → time ≤ time_limit → room_for time (length lags) (window_of s l i) ≡ true → Checked after left
  unfolding arrived
  arrived_keeps c h soon room =
      window_keeps s l i slot c h fits pushed (pushed_sound (ready_of s l c i h) soon room) sizes.0 sizes.1 refl refl
    where
      fits : WholeSlot s.policy.delay_max s.flow_count slot
      fits =
          let w = (c.whole.inputs i h).slot in
          record { delay = w.delay; proposed = w.proposed; route = w.route; reopens = w.reopens; changes = w.changes; lates = w.lates; head = w.head; set = w.set; opened = w.opened }
