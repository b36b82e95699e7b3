-- An input is looked at: the cases as the code goes, what stays, and that the input is ready after it. Assumes nothing.
use Rattle.std.specs.Prelude.{None, Option, Some}
use Prim.Native.Nat.{ℕ, ◌<◌, ◌≤◌}
use mathlib.Core.Bool.{true}
use mathlib.Core.Path.{◌≡◌, refl, sym, ap, subst, ◌∙◌}
use native.Mathlib.Omega.{arith}
use borrow.Author.Tests.{eq-eqb, ne_eqb, le-leb, lt-leb}
use Rattle.base.specs.Limits.{time_limit}
use Rattle.base.proofs.Choices.{yes_pick, no_pick, pick_all}
use Rattle.rules_window.specs.Window.{windowed}
use Rattle.rules_window.specs.WholeWindow.{whole_window}
use Rattle.rules_window.specs.Parts.{part_of}
use Rattle.rules_window.specs.ColumnSums.{right_sums}
use Rattle.delay_hold.specs.Next.{held}
use Rattle.delay_hold.specs.Whole.{whole_hold}
use Rattle.delay_hold.proofs.Marks.{seeded_whole}
use Rattle.rules_record.specs.declared.State.TheVariants.{Stalled}
use Rattle.rules_record.specs.declared.Slot.{Slot}
use Rattle.rules_record.specs.declared.Inputs.{Inputs}
use Rattle.rules_record.specs.Slots.{with_state}
use Rattle.rules_record.specs.Inputs.{slot_at}
use Rattle.rules_record.specs.States.{state_number, is_waiting, is_stalled, is_open}
use Rattle.rules_record.specs.Sized.{Sized}
use Rattle.rules_record.specs.Commands.{Done, quiet}
use Rattle.rules_routing.specs.declared.World.{World}
use Rattle.rules_routing.specs.TryOpen.{running_slot, opened_slot, open_seen, open_routed, try_open_of}
use Rattle.rules_routing.proofs.TryOpenFrame.{Frame, leaves_quiet, open_leaves}
use Rattle.rules_routing.proofs.TryOpenOutcomes.{started_slot, open_outcomes}
use Rattle.rules_routing.specs.Watch.{lost_slot, moved_slot, watch_of}
use Rattle.rules_routing.proofs.WatchFrame.{watch_leaves}
use Rattle.rules_routing.proofs.WatchOutcomes.{watch_outcomes}
use Rattle.rules_record.specs.Lent.{Lists, buckets_in, sums_of, held_for}
use Rattle.rules_record.specs.WholePlaces.{proposal_fits}
use Rattle.rules_routing.proofs.SettingsKept.{SameSettings, settings_frame}
use Rattle.rules_tick.specs.InputReady.{Ready}
use Rattle.rules_tick.proofs.Readiness.{ready_low}
use Rattle.rules_tick.specs.declared.Look.{Look}
use Rattle.rules_tick.specs.Tick.{looked}
use Rattle.rules_record.specs.declared.Route.{Route}

-- ---- the cases
module _ (i : ℕ) (look : Look) (time : ℕ) (s : Inputs) {slot : Slot} (is-slot : slot ≡ slot_at s i) {code : ℕ} (is_code : code ≡ state_number slot.state) where
  state_is : state_number (slot_at s i).state ≡ code
  state_is = sym (is_code ∙ ap (λ (x : Slot). state_number x.state) is-slot)

  pub looked_opens : code ≡ 1 → looked i look time s ≡ try_open_of s i time look.world
  unfolding looked
  looked_opens h = yes_pick _ _ (eq-eqb _ _ (state_is ∙ h))

  module _ (waits : code ≡ 1 → ⊥) where
    pub looked_rests : code < 2 → looked i look time s ≡ quiet s
    unfolding looked
    looked_rests h = no_pick _ _ (ne_eqb _ _ (λ e. waits (sym state_is ∙ e))) ∙ no_pick _ _ (lt-leb 2 (state_number (slot_at s i).state) (omega (arith, state_is)))

    pub looked_watches : 2 ≤ code → looked i look time s ≡ watch_of s i time look.seen look.world
    unfolding looked
    looked_watches h = no_pick _ _ (ne_eqb _ _ (λ e. waits (sym state_is ∙ e))) ∙ yes_pick _ _ (le-leb 2 (state_number (slot_at s i).state) (omega (arith, state_is)))

-- ---- the cases by the slot, of any record that has it
open_none : (s : Inputs) (i time : ℕ) (world : World) (to : Option Route) → world.inode ≡ None → open_routed to s i time world ≡ quiet s
unfolding open_routed open_seen
open_none s i time world None e = refl
open_none s i time world (Some route) e = ap (λ (x : Option ℕ). open_seen x route.flow s i time world) e

module _ (look : Look) (slot : Slot) {code : ℕ} (is_code : code ≡ state_number slot.state) where
  pub still_unrouted : code < 2 → (code ≡ 1 → ⊥) → (state_number slot.state < 2) × ((s : Inputs) (i time : ℕ) → slot_at s i ≡ slot → looked i look time s ≡ quiet s)
  still_unrouted low waits = (omega (arith, is_code), λ s i time e. looked_rests i look time s (sym e) is_code waits low)

  pub still_waiting : code ≡ 1 → look.world.inode ≡ None → (state_number slot.state < 2) × ((s : Inputs) (i time : ℕ) → slot_at s i ≡ slot → looked i look time s ≡ quiet s)
  unfolding try_open_of
  still_waiting waits gone =
      (omega (arith, is_code), λ s i time e. looked_opens i look time s (sym e) is_code waits ∙ open_none s i time look.world (slot_at s i).route gone)

-- ---- what stays
pub looked_leaves : (i : ℕ) (look : Look) (time : ℕ) (s : Inputs) → Frame i s (looked i look time s).inputs
unfolding looked
looked_leaves i look time s =
    pick_all (λ (done : Done). Frame i s done.inputs) (is_waiting (slot_at s i).state)
    (open_leaves i s time look.world)
    (pick_all (λ (done : Done). Frame i s done.inputs) (is_open (slot_at s i).state) (watch_leaves i s time look.seen look.world) (leaves_quiet i s))

-- ---- what of a slot a tick's last step reads
pub record SameParts (old new : Slot) : Type 0 where
  pub seconds : new.lag_seconds ≡ old.lag_seconds
  pub hold : new.hold ≡ old.hold
  pub delay : new.delay ≡ old.delay
  pub proposed : new.proposed ≡ old.proposed
  pub changes : new.delay_changes ≡ old.delay_changes

module _ (slot : Slot) where
  parts_same : SameParts slot slot
  parts_same = record { seconds = refl; hold = refl; delay = refl; proposed = refl; changes = refl }

  module _ (inode head time : ℕ) where
    running_parts : SameParts slot (running_slot slot inode head time)
    unfolding running_slot
    running_parts =
        pick_all (SameParts slot) (is_stalled slot.state)
        (record { seconds = refl; hold = refl; delay = refl; proposed = refl; changes = refl })
        (record { seconds = refl; hold = refl; delay = refl; proposed = refl; changes = refl })

    opened_parts : SameParts slot (opened_slot slot inode head time)
    unfolding opened_slot
    opened_parts =
        let r = running_parts in
        pick_all (SameParts slot) (is_waiting slot.state) r
        (record { seconds = r.seconds; hold = r.hold; delay = r.delay; proposed = r.proposed; changes = r.changes })

  lost_parts : SameParts slot (lost_slot slot)
  unfolding lost_slot
  lost_parts = record { seconds = refl; hold = refl; delay = refl; proposed = refl; changes = refl }

  moved_parts : (head time : ℕ) → SameParts slot (moved_slot slot head time)
  unfolding moved_slot
  moved_parts head time =
      pick_all (SameParts slot) (is_stalled slot.state)
      (record { seconds = refl; hold = refl; delay = refl; proposed = refl; changes = refl })
      (record { seconds = refl; hold = refl; delay = refl; proposed = refl; changes = refl })

-- ---- the input is ready after it
-- what of the new slot of input i is asked, where the settings and the lists stay
pub record Fits (s : Inputs) (l : Lists) (i : ℕ) (new : Slot) : Type 0 where
  pub seconds : new.lag_seconds ≡ (slot_at s i).lag_seconds
  pub hold : whole_hold s.policy s.width (held_for l i new) ≡ true
  pub delay : new.delay ≤ s.policy.delay_max
  pub proposed : proposal_fits new.proposed s.policy.delay_max ≡ true
  pub changes : new.delay_changes ≡ (slot_at s i).delay_changes

module _ (s : Inputs) (l : Lists) (i : ℕ) (r : Ready s l i) where
  fits_same : (new : Slot) → SameParts (slot_at s i) new → Fits s l i new
  fits_same new p = record {
    seconds = p.seconds;
    hold = (λ t. whole_hold s.policy s.width (held (p.hold t) (held_for l i new).times (held_for l i new).lags)) ∙ r.hold;
    delay = subst (λ (n : ℕ). n ≤ s.policy.delay_max) (sym p.delay) r.delay;
    proposed = ap (λ x. proposal_fits x s.policy.delay_max) p.proposed ∙ r.proposed;
    changes = p.changes;
  }

  -- a delay is set, and the hold seeded with it
  fits_started : (new : Slot) (delay time : ℕ) → Fits s l i new → delay ≤ s.policy.delay_max → time ≤ time_limit → Fits s l i (started_slot new delay time)
  fits_started new delay time f most soon = record {
    seconds = f.seconds;
    hold = seeded_whole s.policy s.width (held_for l i new) f.hold delay time most soon;
    delay = most;
    proposed = f.proposed;
    changes = f.changes;
  }

  module _ (time : ℕ) (soon : time ≤ time_limit) (sized : Sized s) (look : Look) where
    abbrev slot : Slot
    slot = slot_at s i

    open_fits : Fits s l i (slot_at (try_open_of s i time look.world).inputs i)
    open_fits =
        open_outcomes i (ready_low s l i r) s time look.world sized (λ new words. Fits s l i new)
        (fits_same slot (parts_same slot))
        (λ inode channels of to. fits_same _ (opened_parts slot inode look.world.head time))
        (λ inode channels delay of to anew most. fits_started _ delay time (fits_same _ (opened_parts slot inode look.world.head time)) most soon)

    stalled_parts : SameParts slot (with_state slot Stalled)
    stalled_parts = record { seconds = refl; hold = refl; delay = refl; proposed = refl; changes = refl }

    reopened_parts : (inode : ℕ) → SameParts slot (opened_slot (with_state slot Stalled) inode look.world.head time)
    reopened_parts inode =
        let p = opened_parts (with_state slot Stalled) inode look.world.head time in
        record { seconds = p.seconds; hold = p.hold; delay = p.delay; proposed = p.proposed; changes = p.changes }

    watch_fits : Fits s l i (slot_at (watch_of s i time look.seen look.world).inputs i)
    watch_fits =
        watch_outcomes i (ready_low s l i r) s sized time look.world (λ new words. Fits s l i new)
        (fits_same slot (parts_same slot))
        (fits_same _ (lost_parts slot))
        (fits_same _ (moved_parts slot look.world.head time))
        (λ inode channels of to. fits_same _ (opened_parts slot inode look.world.head time))
        (λ inode channels delay of to anew most. fits_started _ delay time (fits_same _ (opened_parts slot inode look.world.head time)) most soon)
        (λ stalls. fits_same _ stalled_parts)
        (λ inode channels stalls of to. fits_same _ (reopened_parts inode))
        look.seen

    pub looked_fits : Fits s l i (slot_at (looked i look time s).inputs i)
    unfolding looked quiet
    looked_fits =
        pick_all (λ (done : Done). Fits s l i (slot_at done.inputs i)) (is_waiting slot.state) open_fits
        (pick_all (λ (done : Done). Fits s l i (slot_at done.inputs i)) (is_open slot.state) watch_fits (fits_same slot (parts_same slot)))

    pub looked_changes : (slot_at (looked i look time s).inputs i).delay_changes ≡ slot.delay_changes
    looked_changes = looked_fits.changes

  fits_ready : (z : Inputs) → SameSettings s z → Fits s l i (slot_at z i) → Ready z l i
  unfolding buckets_in slot_at
  fits_ready z settings f =
      subst (λ (x : Inputs). Ready x l i) (sym settings)
      (record {
        fitting = record { allowed = r.fitting.allowed; long = r.fitting.long };
        input = r.input;
        window =
            (λ t. whole_window (part_of i (windowed (f.seconds t) (buckets_in s) s.width l.starts l.totals l.counts)))
            ∙ r.window;
        sums = (λ t. right_sums (part_of i (windowed (f.seconds t) (buckets_in s) s.width l.starts l.totals l.counts)) (sums_of s l i)) ∙ r.sums;
        hold = f.hold;
        delay = f.delay;
        proposed = f.proposed;
      })

  pub looked_ready : (time : ℕ) → time ≤ time_limit → Sized s → (look : Look) → Ready (looked i look time s).inputs l i
  looked_ready time soon sized look = fits_ready (looked i look time s).inputs (settings_frame i s _ (looked_leaves i look time s)) (looked_fits time soon sized look)
