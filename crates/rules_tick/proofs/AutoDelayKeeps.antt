-- What `auto_delay` leaves: the input's hold and its answer, all else as it was, and a checked record checked. Assumes nothing.
use Rattle.std.specs.Prelude.{None, Option, Some}
use Prim.Native.Nat.{ℕ, ◌+◌, ◌<◌, ◌≤◌}
use mathlib.Core.Bool.{true, false}
use mathlib.Core.Path.{◌≡◌, refl, sym, ap, subst, ◌∙◌}
use native.Mathlib.Omega.{arith}
use borrow.Author.Tests.{le-leb, eqb-true}
use lib.ListN.{length}
use Rattle.base.specs.Limits.{time_limit, counter_limit}
use Rattle.base.proofs.Choices.{pick_rule}
use Rattle.delay_hold.specs.Steps5To8.{timer_off, with_lower}
use Rattle.delay_hold.specs.Next.{Decided, one_millisecond, always_lower}
use Rattle.delay_hold.specs.Whole.{whole_hold}
use Rattle.delay_hold.specs.Checks.{AskedFor}
use Rattle.delay_hold.proofs.Keeps.{ChangeFits, next_keeps_whole, next_keeps_lengths, next_change_fits}
use Rattle.delay_hold.proofs.Marks.{interrupted_whole}
use Rattle.rules_record.specs.declared.Slot.{Slot}
use Rattle.rules_record.specs.declared.Inputs.{Inputs}
use Rattle.rules_record.specs.Slots.{with_hold, with_proposed, with_delay_changes, with_delay}
use Rattle.rules_record.specs.States.{state_number, is_stalled}
use Rattle.rules_record.specs.Inputs.{slot_at, put_slot}
use Rattle.rules_record.proofs.SlotFrame.{slot_same, slot_other}
use Rattle.rules_record.proofs.Sized.{sized_put}
use Rattle.rules_record.specs.Sized.{Sized}
use Rattle.rules_record.specs.Commands.{quiet, send_first}
use Rattle.rules_routing.specs.SetDelay.{delay_stored, set_delay_of}
use Rattle.rules_routing.proofs.SetDelayStored.{stored_same, stored_other}
use Rattle.rules_record.specs.Lent.{Lists, buckets_in, window_of, held_of, with_held}
use Rattle.rules_record.specs.Facts.{WholeSlot, Checked}
use Rattle.rules_record.proofs.Beside.{Beside, beside_same, beside_held}
use Rattle.rules_record.proofs.Keep.{input_keeps, hold_keeps}
use Rattle.rules_record.proofs.Shapes.{held_times, held_lags}
use Rattle.rules_record.specs.Effects.{Effect, silent, beside}
use Rattle.rules_tick.specs.AutoDelay.{p999_of, current_of, next_for, proposing, changing, answered, decided_for, interrupted, goes_on, auto_delayed}
use Rattle.rules_tick.specs.InputReady.{Ready}
use Rattle.rules_tick.proofs.P999.{p999_most}
use Rattle.rules_tick.proofs.Ready.{current_fits}
use Rattle.rules_routing.proofs.SettingsKept.{SameSettings, settings_then, settings_put, settings_stored}
use Rattle.rules_tick.proofs.Readiness.{ready_of}
use Rattle.rules_tick.proofs.Raised.{Raised, raised_by}
use Rattle.rules_routing.proofs.SetDelayKeeps.{stored_keeps}

-- ---- what `next` is asked, and what it keeps
module _ (i : ℕ) (largest : Option ℕ) (time : ℕ) (s : Inputs) (l : Lists) (r : Ready s l i) where
  pub next_asked : AskedFor s.width s.policy (held_of s l i) (p999_of s.policy (window_of s l i)) (current_of (slot_at s i))
  next_asked = record {
    sound = r.fitting.allowed.sound;
    window_least = r.fitting.allowed.window_least;
    window_most = r.fitting.allowed.window_most;
    width_most = r.fitting.allowed.width_most;
    times_long = held_times s l r.fitting i r.input;
    lags_long = held_lags s l r.fitting i r.input;
    whole = r.hold;
    current_in = current_fits s l i r;
    p999_in = p999_most s.policy (window_of s l i);
  }

  module _ (soon : time ≤ time_limit) where
    pub next_whole : whole_hold s.policy s.width (next_for i largest time s l).held ≡ true
    unfolding next_for
    next_whole = next_keeps_whole one_millisecond always_lower s.width s.policy (held_of s l i) _ largest _ time next_asked soon

    pub next_long : (length (next_for i largest time s l).held.times ≡ 600) × (length (next_for i largest time s l).held.lags ≡ 600)
    unfolding next_for
    next_long = next_keeps_lengths one_millisecond always_lower s.width s.policy (held_of s l i) _ largest _ time next_asked soon

    pub next_fits : ChangeFits s.policy.delay_max (next_for i largest time s l).change
    unfolding next_for
    next_fits = next_change_fits one_millisecond always_lower s.width s.policy (held_of s l i) _ largest _ time next_asked soon

    pub next_answer_fits : (delay : ℕ) → (next_for i largest time s l).change ≡ Some delay → delay ≤ s.policy.delay_max
    next_answer_fits delay e = subst (ChangeFits s.policy.delay_max) e next_fits

-- ---- the five ways that `auto_delay` goes
module _ (i : ℕ) (largest : Option ℕ) (time : ℕ) (s : Inputs) (l : Lists) where
  abbrev decision : Decided
  decision = next_for i largest time s l

  abbrev slot : Slot
  slot = with_hold (slot_at s i) decision.held.hold

  abbrev lists : Lists
  lists = with_held i decision.held l

  module _ (P : Effect → Type 0) where
    pub auto_rule :
        (state_number (slot_at s i).state ≡ 3 → P (silent (interrupted i s) l)) →
        (goes_on (slot_at s i) ≡ false → P (silent s l)) →
        (goes_on (slot_at s i) ≡ true → decision.change ≡ None → P (silent (put_slot s i slot) lists)) →
        (goes_on (slot_at s i) ≡ true → (delay : ℕ) → decision.change ≡ Some delay → s.confirm ≡ true → P (silent (proposing i delay slot s) lists)) →
        (goes_on (slot_at s i) ≡ true → (delay : ℕ) → decision.change ≡ Some delay → s.confirm ≡ false → P (beside lists (set_delay_of (changing i slot s) i delay time))) →
        P (auto_delayed i largest time s l)
    unfolding auto_delayed decided_for answered quiet
    auto_rule stalled idle keep propose change =
        pick_rule P (is_stalled (slot_at s i).state) _ _ (λ e. stalled (eqb-true _ _ e))
        (λ e. pick_rule P (goes_on (slot_at s i)) _ _ (λ on. by on decision.change refl) idle)
      where
        by : goes_on (slot_at s i) ≡ true → (answer : Option ℕ) → decision.change ≡ answer → P (beside lists (answered answer i time slot s))
        by on None e = keep on e
        by on (Some delay) e = pick_rule (λ done. P (beside lists done)) s.confirm _ _ (λ h. propose on delay e h) (λ h. change on delay e h)

  -- ---- what stays
  pub auto_other : (j : ℕ) → (j ≡ i → ⊥) → slot_at (auto_delayed i largest time s l).inputs j ≡ slot_at s j
  unfolding set_delay_of send_first quiet
  auto_other j apart =
      auto_rule (λ effect. slot_at effect.inputs j ≡ slot_at s j)
      (λ e. slot_other s i _ j apart)
      (λ e. refl)
      (λ on e. slot_other s i slot j apart)
      (λ on delay e h. slot_other s i (with_proposed slot (Some delay)) j apart)
      (λ on delay e h. stored_other (changing i slot s) i delay time j apart ∙ slot_other s i _ j apart)

  pub auto_settings : SameSettings s (auto_delayed i largest time s l).inputs
  unfolding set_delay_of send_first quiet
  auto_settings =
      auto_rule (λ effect. SameSettings s effect.inputs)
      (λ e. settings_put s i _)
      (λ e. refl)
      (λ on e. settings_put s i slot)
      (λ on delay e h. settings_put s i (with_proposed slot (Some delay)))
      (λ on delay e h. settings_then s (changing i slot s) (delay_stored (changing i slot s) i delay time) (settings_put s i _) (settings_stored (changing i slot s) i delay time))

  module _ (r : Ready s l i) (soon : time ≤ time_limit) where
    held_beside : Beside s.count (buckets_in s) i l lists
    held_beside = beside_held s.count (buckets_in s) i l r.fitting.long r.input decision.held (next_long i largest time s l r soon).0 (next_long i largest time s l r soon).1

    pub auto_beside : Beside s.count (buckets_in s) i l (auto_delayed i largest time s l).lists
    auto_beside =
        auto_rule (λ effect. Beside s.count (buckets_in s) i l effect.lists)
        (λ e. beside_same s.count (buckets_in s) i l r.fitting.long)
        (λ e. beside_same s.count (buckets_in s) i l r.fitting.long)
        (λ on e. held_beside)
        (λ on delay e h. held_beside)
        (λ on delay e h. held_beside)

  -- ---- the counters
  pub auto_raised : i < 16 → Sized s → Raised 0 1 0 (slot_at s i) (slot_at (auto_delayed i largest time s l).inputs i)
  unfolding set_delay_of send_first quiet
  auto_raised low sized =
      auto_rule (λ effect. Raised 0 1 0 (slot_at s i) (slot_at effect.inputs i))
      (λ e. kept (with_hold (slot_at s i) (with_lower (slot_at s i).hold timer_off)) refl refl refl (slot_same s i _ low sized.slots))
      (λ e. kept (slot_at s i) refl refl refl refl)
      (λ on e. kept slot refl refl refl (slot_same s i slot low sized.slots))
      (λ on delay e h. kept (with_proposed slot (Some delay)) refl refl refl (slot_same s i (with_proposed slot (Some delay)) low sized.slots))
      (λ on delay e h.
      raised_by 0 1 0 (slot_at s i)
      (stored_same (changing i slot s) i delay time low (sized_put s i _ sized) ∙ ap (λ (x : Slot). with_delay x delay time) (slot_same s i (with_delay_changes slot (slot.delay_changes + 1)) low sized.slots))
      (record { reopens = omega arith; changes = omega arith; lates = omega arith }))
    where
      kept : (new : Slot) → new.reopens ≡ (slot_at s i).reopens → new.delay_changes ≡ (slot_at s i).delay_changes → new.late_events ≡ (slot_at s i).late_events → {z : Slot} → z ≡ new → Raised 0 1 0 (slot_at s i) z
      kept new reopens changes lates e = raised_by 0 1 0 (slot_at s i) e (record { reopens = omega arith; changes = omega arith; lates = omega arith })

  -- ---- a checked record stays checked, where one more delay change is below 2^63
  module _ (c : Checked s l) (h : i < s.count) (soon : time ≤ time_limit) where
    ready : Ready s l i
    ready = ready_of s l c i h

    old : WholeSlot s.policy.delay_max s.flow_count (slot_at s i)
    old = (c.whole.inputs i h).slot

    interrupted_keeps : Checked (interrupted i s) l
    interrupted_keeps =
        input_keeps s l l i (with_hold (slot_at s i) (with_lower (slot_at s i).hold timer_off)) c h (beside_same s.count (buckets_in s) i l c.fitting.long)
        ready.window
        ready.sums
        (interrupted_whole s.policy s.width (held_of s l i) ready.hold)
        (record { delay = old.delay; proposed = old.proposed; route = old.route; reopens = old.reopens; changes = old.changes; lates = old.lates; head = old.head; set = old.set; opened = old.opened })

    -- the slot with its new hold, and perhaps more
    module _ (new : Slot) (seconds : new.lag_seconds ≡ (slot_at s i).lag_seconds) (hold : new.hold ≡ decision.held.hold) (fits : WholeSlot s.policy.delay_max s.flow_count new) where
      decided_keeps : Checked (put_slot s i new) lists
      decided_keeps =
          hold_keeps s l i new c h fits decision.held (next_long i largest time s l ready soon).0 (next_long i largest time s l ready soon).1 (next_whole i largest time s l ready soon) seconds hold

    keep_fits : WholeSlot s.policy.delay_max s.flow_count slot
    keep_fits = record { delay = old.delay; proposed = old.proposed; route = old.route; reopens = old.reopens; changes = old.changes; lates = old.lates; head = old.head; set = old.set; opened = old.opened }

    propose_fits : (delay : ℕ) → delay ≤ s.policy.delay_max → WholeSlot s.policy.delay_max s.flow_count (with_proposed slot (Some delay))
    propose_fits delay most =
        record { delay = old.delay; proposed = le-leb _ _ most; route = old.route; reopens = old.reopens; changes = old.changes; lates = old.lates; head = old.head; set = old.set; opened = old.opened }

    change_fits : (slot_at s i).delay_changes + 1 < counter_limit → WholeSlot s.policy.delay_max s.flow_count (with_delay_changes slot (slot.delay_changes + 1))
    change_fits few = record { delay = old.delay; proposed = old.proposed; route = old.route; reopens = old.reopens; changes = few; lates = old.lates; head = old.head; set = old.set; opened = old.opened }

    pub auto_keeps : (slot_at s i).delay_changes + 1 < counter_limit → Checked (auto_delayed i largest time s l).inputs (auto_delayed i largest time s l).lists
    unfolding set_delay_of send_first quiet
    auto_keeps few =
        auto_rule (λ effect. Checked effect.inputs effect.lists)
        (λ e. interrupted_keeps)
        (λ e. c)
        (λ on e. decided_keeps slot refl refl keep_fits)
        (λ on delay e g. decided_keeps (with_proposed slot (Some delay)) refl refl (propose_fits delay (next_answer_fits i largest time s l ready soon delay e)))
        (λ on delay e g.
        stored_keeps (changing i slot s) lists i delay time (decided_keeps (with_delay_changes slot (slot.delay_changes + 1)) refl refl (change_fits few))
        (subst (λ (z : Inputs). i < z.count) (sym (settings_put s i _)) h)
        (subst (λ (z : Inputs). delay ≤ z.policy.delay_max) (sym (settings_put s i _)) (next_answer_fits i largest time s l ready soon delay e))
        soon)
