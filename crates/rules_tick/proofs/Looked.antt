-- What an input that is looked at keeps of its slot, and the ways that looking ends. Assumes nothing.
use Rattle.std.specs.Prelude.{Some}
use Prim.Native.Nat.{ℕ, ◌+◌, ◌≤◌, ◌<◌}
use mathlib.Core.Bool.{true}
use mathlib.Core.Path.{◌≡◌, refl}
use mathlib.Core.List.{List, [], ◌++◌}
use native.Mathlib.Omega.{arith}
use Rattle.base.proofs.Choices.{pick_all}
use Rattle.rules_record.specs.declared.Slot.{Slot}
use Rattle.rules_record.specs.declared.Inputs.{Inputs}
use Rattle.rules_record.specs.declared.State.TheVariants.{Stalled}
use Rattle.rules_record.specs.Slots.{with_state, with_reopens}
use Rattle.rules_record.specs.States.{is_waiting, is_stalled, is_open}
use Rattle.rules_record.specs.Inputs.{slot_at}
use Rattle.rules_record.specs.Sized.{Sized}
use Rattle.rules_record.specs.Commands.{Done, set_input, clear_input, set_delay, quiet}
use Rattle.rules_routing.specs.TryOpen.{running_slot, opened_slot, starts_anew}
use Rattle.rules_routing.proofs.TryOpenOutcomes.{started_slot, open_outcomes}
use Rattle.rules_routing.specs.Watch.{lost_slot, moved_slot, stalls_now}
use Rattle.rules_routing.proofs.WatchOutcomes.{watch_outcomes}
use Rattle.rules_routing.proofs.SettingsKept.{SameSettings, settings_frame}
use Rattle.rules_tick.proofs.Raised.{Raised}
use Rattle.rules_tick.specs.declared.Look.{Look}
use Rattle.rules_tick.specs.Tick.{looked}
use Rattle.rules_tick.proofs.Looking.{looked_leaves}

-- ---- the record
module _ (i : ℕ) (look : Look) (time : ℕ) (s : Inputs) where
  pub looked_settings : SameSettings s (looked i look time s).inputs
  looked_settings = settings_frame i s (looked i look time s).inputs (looked_leaves i look time s)

  -- To show P of the input's slot and of what is sent, show it of each end.
  pub looked_outcomes : i < 16 → Sized s → (P : Slot → List ℕ → Type 0)
      → P (slot_at s i) []
      → P (lost_slot (slot_at s i)) (clear_input i 0)
      → P (moved_slot (slot_at s i) look.world.head time) []
      → ((inode channels : ℕ) → look.world.inode ≡ Some inode → look.world.reader ≡ Some channels → P (opened_slot (slot_at s i) inode look.world.head time) (set_input i channels))
      → ((inode channels delay : ℕ) → look.world.inode ≡ Some inode → look.world.reader ≡ Some channels → starts_anew (slot_at s i) ≡ true → delay ≤ s.policy.delay_max
      → P (started_slot (opened_slot (slot_at s i) inode look.world.head time) delay time) (set_input i channels ++ set_delay i delay))
      → (stalls_now (slot_at s i) time s.stall ≡ true → P (with_state (slot_at s i) Stalled) [])
      → ((inode channels : ℕ) → stalls_now (slot_at s i) time s.stall ≡ true → look.world.inode ≡ Some inode → look.world.reader ≡ Some channels
      → P (opened_slot (with_state (slot_at s i) Stalled) inode look.world.head time) (set_input i channels))
      → P (slot_at (looked i look time s).inputs i) (looked i look time s).words
  unfolding looked quiet
  looked_outcomes low sized P stays loses moves opens starts stalls reopens =
      pick_all (λ (done : Done). P (slot_at done.inputs i) done.words) (is_waiting (slot_at s i).state)
      (open_outcomes i low s time look.world sized P stays opens starts)
      (pick_all (λ (done : Done). P (slot_at done.inputs i) done.words) (is_open (slot_at s i).state)
      (watch_outcomes i low s sized time look.world P stays loses moves opens starts stalls reopens look.seen) stays)

-- ---- the input's slot
-- what opening and watching leave of a slot: all but state, inode, head, delay and hold; one reopen more at most
pub record Looked (old new : Slot) : Type 0 where
  pub config : new.config ≡ old.config
  pub route : new.route ≡ old.route
  pub seconds : new.lag_seconds ≡ old.lag_seconds
  pub last : new.last_lag ≡ old.last_lag
  pub proposed : new.proposed ≡ old.proposed
  pub changes : new.delay_changes ≡ old.delay_changes
  pub lates : new.late_events ≡ old.late_events
  pub late : new.late_before ≡ old.late_before
  pub reopens : new.reopens ≤ old.reopens + 1

module _ (slot : Slot) where
  looked_same : Looked slot slot
  looked_same = record { config = refl; route = refl; seconds = refl; last = refl; proposed = refl; changes = refl; lates = refl; late = refl; reopens = omega arith }

  looked_lost : Looked slot (lost_slot slot)
  unfolding lost_slot
  looked_lost = record { config = refl; route = refl; seconds = refl; last = refl; proposed = refl; changes = refl; lates = refl; late = refl; reopens = omega arith }

  module _ (head time : ℕ) where
    looked_moved : Looked slot (moved_slot slot head time)
    unfolding moved_slot
    looked_moved =
        pick_all (Looked slot) (is_stalled slot.state)
        (record { config = refl; route = refl; seconds = refl; last = refl; proposed = refl; changes = refl; lates = refl; late = refl; reopens = omega arith })
        (record { config = refl; route = refl; seconds = refl; last = refl; proposed = refl; changes = refl; lates = refl; late = refl; reopens = omega arith })

    module _ (inode : ℕ) where
      running_with : (reopens : ℕ) → reopens ≤ slot.reopens + 1 → Looked slot (with_reopens (running_slot slot inode head time) reopens)
      unfolding running_slot
      running_with reopens most =
          pick_all (λ (x : Slot). Looked slot (with_reopens x reopens)) (is_stalled slot.state)
          (record { config = refl; route = refl; seconds = refl; last = refl; proposed = refl; changes = refl; lates = refl; late = refl; reopens = most })
          (record { config = refl; route = refl; seconds = refl; last = refl; proposed = refl; changes = refl; lates = refl; late = refl; reopens = most })

      running_reopens : (running_slot slot inode head time).reopens ≡ slot.reopens
      unfolding running_slot
      running_reopens = pick_all (λ (x : Slot). x.reopens ≡ slot.reopens) (is_stalled slot.state) refl refl

      pub looked_opened : Looked slot (opened_slot slot inode head time)
      unfolding opened_slot
      looked_opened =
          pick_all (Looked slot) (is_waiting slot.state)
          (running_with (running_slot slot inode head time).reopens (omega (arith, running_reopens)))
          (running_with (slot.reopens + 1) (omega arith))

module _ (i : ℕ) (look : Look) (time : ℕ) (s : Inputs) (low : i < 16) (sized : Sized s) where
  -- an end that is an open reader
  started_looked : (slot : Slot) (inode delay : ℕ) → Looked slot (started_slot (opened_slot slot inode look.world.head time) delay time)
  started_looked slot inode delay =
      let w : Looked slot (opened_slot slot inode look.world.head time) = looked_opened slot look.world.head time inode in
      record {
        config = w.config;
        route = w.route;
        seconds = w.seconds;
        last = w.last;
        proposed = w.proposed;
        changes = w.changes;
        lates = w.lates;
        late = w.late;
        reopens = w.reopens;
      }

  pub looked_slot : Looked (slot_at s i) (slot_at (looked i look time s).inputs i)
  looked_slot =
      looked_outcomes i look time s low sized (λ new words. Looked (slot_at s i) new)
      (looked_same (slot_at s i))
      (looked_lost (slot_at s i))
      (looked_moved (slot_at s i) look.world.head time)
      (λ inode channels of to. looked_opened (slot_at s i) look.world.head time inode)
      (λ inode channels delay of to anew most. started_looked (slot_at s i) inode delay)
      (λ stalls. record { config = refl; route = refl; seconds = refl; last = refl; proposed = refl; changes = refl; lates = refl; late = refl; reopens = omega arith })
      (λ inode channels stalls of to.
      let w : Looked (with_state (slot_at s i) Stalled) (opened_slot (with_state (slot_at s i) Stalled) inode look.world.head time) = looked_opened (with_state (slot_at s i) Stalled) look.world.head time inode in
      record {
        config = w.config;
        route = w.route;
        seconds = w.seconds;
        last = w.last;
        proposed = w.proposed;
        changes = w.changes;
        lates = w.lates;
        late = w.late;
        reopens = w.reopens;
      })

  pub looked_raised : Raised 1 0 0 (slot_at s i) (slot_at (looked i look time s).inputs i)
  looked_raised = record { reopens = looked_slot.reopens; changes = omega (arith, looked_slot.changes); lates = omega (arith, looked_slot.lates) }
