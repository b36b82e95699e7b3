-- What an accepted `new` leaves: a record that passes checks 1 to 6, with its settings, every input as it starts. Assumes nothing.
use Rattle.std.specs.Prelude.{None, Option, Some}
use Prim.Native.Nat.{ℕ, ◌*◌, ◌<◌, ◌≤◌, min}
use mathlib.Core.Bool.{true, false}
use mathlib.Core.Path.{◌≡◌, refl, sym, ap, subst, ◌∙◌}
use mathlib.Core.List.{List}
use native.Mathlib.Omega.{arith}
use lib.ListN.{length, get_or, replicate}
use borrow.Author.Tests.{leb-true, eqb-true}
use Rattle.base.specs.Limits.{time_limit}
use Rattle.base.proofs.Points.{both_true}
use Rattle.doubles.specs.Doubles.{samples_of}
use Rattle.rules_window.specs.Window.{fresh}
use Rattle.delay_hold.specs.Next.{held, fresh_hold}
use Rattle.rules_record.specs.declared.ExtraDelay.{ExtraDelay}
use Rattle.rules_record.specs.declared.ExtraDelay.TheVariants.{Auto, Ms}
use Rattle.rules_record.specs.declared.State.TheVariants.{Unrouted}
use Rattle.rules_record.specs.declared.Slot.{Slot}
use Rattle.rules_record.specs.declared.Inputs.{Inputs}
use Rattle.rules_record.specs.Slots.{empty_slot}
use Rattle.rules_record.specs.Inputs.{slot_at, with_slots, with_flows}
use Rattle.rules_record.specs.Sized.{Sized}
use Rattle.rules_record.specs.Flows.{entry_at, flow_at, recalled}
use Rattle.rules_record.specs.Lent.{Lists, buckets_in, window_for, window_of, held_of}
use Rattle.rules_record.specs.Checks.{Allowed, Long}
use Rattle.rules_record.proofs.Checked.{allowed_of, long_of}
use Rattle.rules_record.specs.Facts.{Checked}
use Rattle.rules_routing.proofs.SettingsKept.{under_settings, SameSettings}
use Rattle.rules_calls.specs.declared.Settings.{Settings}
use Rattle.rules_calls.specs.NewRecord.{policy_of, blank, blank_for}
use Rattle.rules_calls.specs.NewLoading.{loaded_flow, load_fits, Remembers}
use Rattle.rules_calls.specs.NewStart.{kind_at, zeroed_lists, loaded, started, started_below}
use Rattle.rules_calls.specs.NewChecks.{margin_fits, settings_number, new_number}
use Rattle.rules_calls.proofs.NewBlank.{shared_margins, blank_slot, blank_checked, zeroed_starts, zeroed_totals, zeroed_counts, zeroed_times, zeroed_lags}
use Rattle.rules_calls.proofs.NewNumbers.{number_told, settings_asked}
use Rattle.rules_calls.proofs.NewLoaded.{loaded_rest, loads_below, loaded_keeps, loaded_last}
use Rattle.rules_calls.proofs.NewStarted.{started_slot, manual_words, below_rest, below_slot, below_words, below_keeps}

-- ---- what number 0 says
-- what 1 to 5 let through
pub record Fit (settings : Settings) (bytes delays : ℕ) (l : Lists) (words : ℕ) : Type 0 where
  pub allowed : Allowed settings.count (policy_of settings) settings.width settings.stall
  pub long : Long settings.count (buckets_in (blank_for settings)) l
  pub commands_long : words ≡ settings.count * 12
  pub bytes_long : bytes ≡ delays * 16

module _ (settings : Settings) (l : Lists) (words : ℕ) where
  pub fit_of : (bytes delays rest : ℕ) → settings_number settings bytes delays l words rest ≡ 0 → Fit settings bytes delays l words × (rest ≡ 0)
  unfolding margin_fits policy_of
  fit_of bytes delays rest h =
      let a = settings_asked settings bytes delays l words rest h in
      let m = both_true _ _ a.3 in (
        record {
          allowed = allowed_of settings.count (policy_of settings) settings.width settings.stall a.0 a.1 a.2 (shared_margins settings (leb-true _ _ m.0) m.1);
          long = long_of _ _ l a.4;
          commands_long = eqb-true _ _ a.5;
          bytes_long = eqb-true _ _ a.6;
        },
        a.7,
      )

  pub accepted_of : (bytes delays : List ℕ) (time : ℕ) → new_number settings bytes delays time l words ≡ 0
      → Fit settings (length bytes) (length delays) l words × (time ≤ time_limit) × (load_fits (length delays) bytes delays (blank_for settings) ≡ true)
  accepted_of bytes delays time h =
      let told = number_told settings bytes delays time l words h in
      ((fit_of (length bytes) (length delays) 0 told.0).0, told.1, told.2)

-- ---- an input as it starts
abbrev pub started_delay : ExtraDelay → (maximum : ℕ) → ℕ
started_delay (Auto tag) maximum = 0
started_delay (Ms delay) maximum = min (samples_of delay) maximum

abbrev pub started_set : ExtraDelay → (time : ℕ) → Option ℕ
started_set (Auto tag) time = None
started_set (Ms delay) time = Some time

pub record AsStarted (kind : ExtraDelay) (time maximum : ℕ) (slot : Slot) : Type 0 where
  pub config : slot.config.extra_delay ≡ kind
  pub state : slot.state ≡ Unrouted
  pub route : slot.route ≡ None
  pub inode : slot.inode ≡ None
  pub head : slot.last_head ≡ 0
  pub head_changed_law : slot.head_changed ≡ time
  pub reopens : slot.reopens ≡ 0
  pub seconds : slot.lag_seconds ≡ 0
  pub last_lag_law : slot.last_lag ≡ 0
  pub delay : slot.delay ≡ started_delay kind maximum
  pub proposed : slot.proposed ≡ None
  pub hold : slot.hold ≡ fresh_hold
  pub changes : slot.delay_changes ≡ 0
  pub lates : slot.late_events ≡ 0
  pub late_before_law : slot.late_before ≡ false
  pub last_set : slot.last_set ≡ started_set kind time
  pub last_input_law : slot.last_input ≡ None

pub as_started : (kind : ExtraDelay) (time maximum : ℕ) → AsStarted kind time maximum (started_slot kind time maximum empty_slot)
unfolding empty_slot
as_started (Auto tag) time maximum =
    record { config = refl; state = refl; route = refl; inode = refl; head = refl; head_changed_law = refl; reopens = refl; seconds = refl; last_lag_law = refl; delay = refl; proposed = refl; hold = refl; changes = refl; lates = refl; late_before_law = refl; last_set = refl; last_input_law = refl }
as_started (Ms delay) time maximum =
    record { config = refl; state = refl; route = refl; inode = refl; head = refl; head_changed_law = refl; reopens = refl; seconds = refl; last_lag_law = refl; delay = refl; proposed = refl; hold = refl; changes = refl; lates = refl; late_before_law = refl; last_set = refl; last_input_law = refl }

-- ---- what it leaves
module _ (settings : Settings) (kinds : List ExtraDelay) (bytes delays : List ℕ) (time : ℕ) (l : Lists) (words : ℕ) (h : new_number settings bytes delays time l words ≡ 0) where
  fit : Fit settings (length bytes) (length delays) l words
  fit = (accepted_of settings l words bytes delays time h).0

  few : settings.count ≤ 16
  few = fit.allowed.most

  loaded_checked : Checked (loaded settings bytes delays) (zeroed_lists l)
  loaded_checked =
      loaded_keeps bytes delays (blank_for settings) (zeroed_lists l) (blank_checked settings l fit.allowed fit.long) (length delays)
      (λ k m. loads_below bytes delays (blank_for settings) (length delays) k m (accepted_of settings l words bytes delays time h).2)

  loaded_settings : loaded settings bytes delays ≡ with_flows (blank_for settings) (loaded settings bytes delays).flows (loaded settings bytes delays).flow_count (blank_for settings).unsaved
  loaded_settings = loaded_rest bytes delays (blank_for settings) (length delays)

  loaded_count : settings.count ≤ (loaded settings bytes delays).count
  unfolding blank_for blank
  loaded_count = subst (λ (z : Inputs). settings.count ≤ z.count) (sym loaded_settings) (omega arith)

  loaded_maximum : (loaded settings bytes delays).policy.delay_max ≡ settings.delay_max
  unfolding blank_for blank policy_of
  loaded_maximum = ap (λ (z : Inputs). z.policy.delay_max) loaded_settings

  loaded_slot : (i : ℕ) → slot_at (loaded settings bytes delays) i ≡ empty_slot
  unfolding slot_at
  loaded_slot i = ap (λ (z : Inputs). slot_at z i) loaded_settings ∙ blank_slot settings i

  -- "Fresh is what an accepted `new` leaves": it passes checks 1 to 6
  pub new_checked : Checked (started settings kinds bytes delays time l).inputs (started settings kinds bytes delays time l).lists
  unfolding started
  new_checked = below_keeps kinds time (loaded settings bytes delays) loaded_checked.sized (zeroed_lists l) loaded_checked (accepted_of settings l words bytes delays time h).1 settings.count loaded_count

  pub new_sized : Sized (started settings kinds bytes delays time l).inputs
  new_sized = new_checked.sized

  -- only the slots and the flow table are not those of a blank record
  pub new_rest : (started settings kinds bytes delays time l).inputs ≡ with_flows (with_slots (blank_for settings) (started settings kinds bytes delays time l).inputs.slots) (loaded settings bytes delays).flows (loaded settings bytes delays).flow_count false
  unfolding started blank_for blank
  new_rest =
      below_rest kinds time (loaded settings bytes delays) loaded_checked.sized settings.count few
      ∙ ap (λ (z : Inputs). with_slots z (started_below settings.count kinds time (loaded settings bytes delays)).inputs.slots) loaded_settings

  -- the settings are those given
  pub new_settings : SameSettings (blank_for settings) (started settings kinds bytes delays time l).inputs
  new_settings = new_rest ∙ sym (ap (under_settings (blank_for settings)) new_rest)

  -- the loaded delays are not marked unsaved
  pub new_saved : (started settings kinds bytes delays time l).inputs.unsaved ≡ false
  new_saved = ap (λ (z : Inputs). z.unsaved) new_rest

  pub new_flows : (started settings kinds bytes delays time l).inputs.flow_count ≤ 64
  new_flows = new_checked.whole.flows.most

  -- "a flow named twice keeps the last": the flow of loaded delay k has that delay, if none after it names the flow too
  pub new_remembers : (k : ℕ) → k < length delays → ((j : ℕ) → k < j → j < length delays → loaded_flow bytes j ≡ loaded_flow bytes k → ⊥) → Remembers (started settings kinds bytes delays time l).inputs (loaded_flow bytes k) (get_or delays k 0)
  unfolding flow_at recalled entry_at
  new_remembers k m last =
      let r = loaded_last bytes delays (blank_for settings) (zeroed_lists l) (blank_checked settings l fit.allowed fit.long) (length delays) (λ j g. loads_below bytes delays (blank_for settings) (length delays) j g (accepted_of settings l words bytes delays time h).2) k m last in
      subst (λ (z : Inputs). Remembers z (loaded_flow bytes k) (get_or delays k 0)) (sym new_rest)
      (record { place = r.place; known = r.known; holds = r.holds; has = r.has })

  -- the words: SetDelay for each manual input in order, nothing else
  pub new_words : (started settings kinds bytes delays time l).words ≡ manual_words settings.count kinds settings.delay_max
  unfolding started
  new_words = below_words kinds time (loaded settings bytes delays) loaded_checked.sized settings.count few ∙ ap (manual_words settings.count kinds) loaded_maximum

  -- ---- each input
  module _ (i : ℕ) (there : i < settings.count) where
    pub new_slot : slot_at (started settings kinds bytes delays time l).inputs i ≡ started_slot (kind_at kinds i) time settings.delay_max empty_slot
    unfolding started
    new_slot =
        below_slot kinds time (loaded settings bytes delays) loaded_checked.sized settings.count few i there
        ∙ ap (λ (m : ℕ). started_slot (kind_at kinds i) time m (slot_at (loaded settings bytes delays) i)) loaded_maximum
        ∙ ap (started_slot (kind_at kinds i) time settings.delay_max) (loaded_slot i)

    pub new_started : AsStarted (kind_at kinds i) time settings.delay_max (slot_at (started settings kinds bytes delays time l).inputs i)
    new_started = subst (AsStarted (kind_at kinds i) time settings.delay_max) (sym new_slot) (as_started (kind_at kinds i) time settings.delay_max)

    -- its window and its hold are fresh, over zeros
    pub new_window : window_of (started settings kinds bytes delays time l).inputs (started settings kinds bytes delays time l).lists i ≡ fresh (buckets_in (blank_for settings)) settings.width
    unfolding started fresh buckets_in blank_for blank
    new_window =
        ap (λ (z : Inputs). window_for z (zeroed_lists l) i (slot_at (started settings kinds bytes delays time l).inputs i)) new_rest
        ∙ (λ t. record {
          seconds = new_started.seconds t;
          buckets = buckets_in (blank_for settings);
          width = settings.width;
          starts = zeroed_starts settings l fit.allowed fit.long i there t;
          totals = zeroed_totals settings l fit.allowed fit.long i there t;
          counts = zeroed_counts settings l fit.allowed fit.long i there t;
        })

    pub new_held : held_of (started settings kinds bytes delays time l).inputs (started settings kinds bytes delays time l).lists i ≡ held fresh_hold (replicate 600 0) (replicate 600 0)
    unfolding started
    new_held = λ t.
        record {
          hold = new_started.hold t;
          times = zeroed_times settings l fit.allowed fit.long i there t;
          lags = zeroed_lags settings l fit.allowed fit.long i there t;
        }
