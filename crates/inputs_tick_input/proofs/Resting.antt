-- An input that rests, is not marked late and has no lags: its whole tick leaves everything as it was. Assumes nothing.
use Rattle.std.specs.Prelude.{◌≡◌, ℕ, ◌+◌, ◌*◌, ◌<◌, Bool, true, false, ltb, List, [], ◌++◌, get_or, take, drop, set, None, Option}
use mathlib.Core.Path.{refl, sym, ap, subst, ◌∙◌}
use native.Mathlib.Omega.{arith}
use lib.ListN.{take-append-drop}
use lib.Seq.{set-get_or}
use Rattle.base.specs.Lists.{part, patched}
use Rattle.base.specs.Choice.{pick}
use Rattle.policy.specs.declared.DelayPolicy.{DelayPolicy}
use Rattle.rules_window.specs.Window.{pushed_all}
use Rattle.rules_record.specs.declared.Slot.{Slot}
use Rattle.rules_record.specs.declared.Inputs.{Inputs}
use Rattle.rules_record.specs.Slots.{empty_slot, with_late}
use Rattle.rules_record.specs.States.{state_number}
use Rattle.rules_record.specs.Inputs.{slot_at, put_slot, with_slots}
use Rattle.rules_record.proofs.SlotFrame.{slot_in}
use Rattle.rules_record.specs.Commands.{quiet}
use Rattle.rules_record.specs.Lent.{Lists, lists, buckets_in, window_of, with_window}
use Rattle.rules_record.specs.Facts.{OwnSums}
use Rattle.rules_record.specs.Effects.{Effect, silent, beside, followed_by}
use Rattle.rules_record.proofs.Effects.{after_silence, effected_by, effected_silent}
use Rattle.rules_tick.specs.Lags.{window_after, last_lag_of, arrived}
use Rattle.rules_tick.specs.LateEvents.{late_events_of, late_slot, late_event}
use Rattle.rules_tick.specs.AutoDelay.{auto_delayed}
use Rattle.rules_tick.specs.declared.Look.{Look}
use Rattle.rules_tick.specs.Looks.{look_at}
use Rattle.rules_tick.specs.Tick.{heard, looked, ticked_input}
use Rattle.rules_tick.proofs.LateCases.{late_not_running, events_none}
use Rattle.rules_tick.specs.TickAsked.{InputsAsked}
use Rattle.rules_tick.proofs.Ready.{ready_window}
use Rattle.rules_tick.proofs.TickTurns.{Turn, turn_again}
use Rattle.rules_tick.proofs.AutoDelayCases.{auto_idle}

-- a part put where it was
patched_same : (a k : ℕ) (xs : List ℕ) → patched a k (part a k xs) xs ≡ xs
patched_same a k xs = ap (λ (r : List ℕ). take a xs ++ r) (take-append-drop k (drop a xs)) ∙ take-append-drop a xs

-- a slot put where it was
put_same : (s : Inputs) (i : ℕ) → put_slot s i (slot_at s i) ≡ s
unfolding put_slot slot_at
put_same s i = go (ltb i 16)
  where
    go : (b : Bool) → pick b (with_slots s (set s.slots i (pick b (get_or s.slots i empty_slot) empty_slot))) s ≡ s
    go true = ap (with_slots s) (set-get_or s.slots i empty_slot)
    go false = refl

-- an input that does not run is not late
late_same : (policy : DelayPolicy) (slot : Slot) (applied : ℕ) (largest : Option ℕ) → (state_number slot.state ≡ 2 → ⊥) → slot.late_before ≡ false → late_slot policy slot applied largest ≡ slot
late_same policy slot applied largest idle before =
    ap (λ (b : Bool). with_late slot (late_events_of slot b) b) (sym (late_not_running policy slot applied largest idle))
    ∙ (λ t. with_late slot (sym (events_none slot false refl) t) (sym before t))

module _ (s : Inputs) (l : Lists) (i time : ℕ) (own : OwnSums s l i (slot_at s i)) where
  window_same : with_window (buckets_in s) i (window_of s l i) l ≡ l
  window_same = λ t. lists
      (patched_same (i * 11) 11 l.starts t)
      (patched_same (i * 11) 11 l.totals t)
      (patched_same (i * (11 * buckets_in s)) (11 * buckets_in s) l.counts t)
      ((ap (λ (row : List ℕ). patched (i * buckets_in s) (buckets_in s) row l.sums) (sym own) ∙ patched_same (i * buckets_in s) (buckets_in s) l.sums) t)
      l.times
      l.peaks

  -- no lags
  none_arrived : arrived i time [] s l ≡ silent s l
  unfolding arrived window_after pushed_all last_lag_of
  none_arrived = λ t. silent (put_same s i t) (window_same t)

  module _ (look : Look) (low : state_number (slot_at s i).state < 2) (before : (slot_at s i).late_before ≡ false) (rests : looked i look time s ≡ quiet s) where
    event_same : late_event i look.applied None s ≡ s
    unfolding late_event
    event_same = ap (put_slot s i) (late_same s.policy (slot_at s i) look.applied None (λ e. omega arith) before) ∙ put_same s i

    none_heard : heard i look [] time s l ≡ silent s l
    unfolding heard
    none_heard =
        ap (λ (x : Effect). followed_by x (λ z m. silent (late_event i look.applied None z) m)) none_arrived
        ∙ after_silence s l (λ z m. silent (late_event i look.applied None z) m)
        ∙ ap (λ (z : Inputs). silent z l) event_same

    none_ticked : ticked_input i look [] time s l ≡ silent s l
    unfolding ticked_input quiet
    none_ticked =
        ap (λ (x : Effect). followed_by (followed_by x (λ z m. beside m (looked i look time z))) (auto_delayed i None time)) none_heard
        ∙ ap (λ (x : Effect). followed_by x (auto_delayed i None time)) (after_silence s l (λ z m. beside m (looked i look time z)) ∙ ap (beside l) rests)
        ∙ after_silence s l (auto_delayed i None time)
        ∙ auto_idle i None time s l (λ e. omega arith) (λ e. omega arith)

-- the same by the slot, of any record that has it
pub stays_by : (look : Look) (slot : Slot) → look.lags ≡ 0 → slot.late_before ≡ false
    → (state_number slot.state < 2) × ((s : Inputs) (i time : ℕ) → slot_at s i ≡ slot → looked i look time s ≡ quiet s)
    → (look.lags ≡ 0) × ((s : Inputs) (l : Lists) (i time : ℕ) → slot_at s i ≡ slot → OwnSums s l i slot → ticked_input i look [] time s l ≡ silent s l)
stays_by look slot none before rests = (
  none,
  λ s l i time e own.
      none_ticked s l i time (subst (OwnSums s l i) (sym e) own) look
      (omega (arith, ap (λ (x : Slot). state_number x.state) e, rests.0))
      (ap (λ (x : Slot). x.late_before) e ∙ before)
      (rests.1 s i time e),
)

-- ---- the loop over the inputs
-- an input that stays is one turn
pub turn_passed : (looks : List Look) (lags : List ℕ) (time : ℕ) (s₀ : Inputs) (l₀ : Lists) (c₀ : List ℕ) (u₀ : ℕ) → InputsAsked s₀ l₀ looks lags time
    → (i : ℕ) {s : Inputs} {l : Lists} {c : List ℕ} {used from : ℕ} → Turn looks lags time s₀ l₀ c₀ u₀ i s l c used from → i < s₀.count
    → {look : Look} → look ≡ look_at looks i → {slot : Slot} → slot ≡ get_or s.slots i empty_slot
    → (look.lags ≡ 0) × ((s : Inputs) (l : Lists) (i time : ℕ) → slot_at s i ≡ slot → OwnSums s l i slot → ticked_input i look [] time s l ≡ silent s l)
    → Turn looks lags time s₀ l₀ c₀ u₀ (i + 1) s l c used from
turn_passed looks lags time s₀ l₀ c₀ u₀ asked i {s} {l} {c} {used} {from} turn h {look} is-look {slot} is-slot stays =
    let q : from + look.lags ≡ from = omega (arith, stays.0) in
    subst (Turn looks lags time s₀ l₀ c₀ u₀ (i + 1) s l c used) q
    (turn_again looks lags time s₀ l₀ c₀ u₀ asked i turn h is-look (sym stays.0) (effected_by (stays.1 s l i time here own) (effected_silent refl refl)) refl)
  where
    here : slot_at s i ≡ slot
    here = sym (is-slot ∙ slot_in s i (omega (arith, asked.most)))

    own : OwnSums s l i slot
    own = subst (OwnSums s l i) here (ready_window s l i (turn.later i (omega arith) h).ready).sums
