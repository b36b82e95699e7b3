-- What the steps of one input's tick ask, from what the tick asks of its caller, and the steps in a row. Assumes nothing.
use Rattle.std.specs.Prelude.{Option}
use Prim.Native.Nat.{ℕ, ◌<◌, ◌≤◌}
use mathlib.Core.Path.{◌≡◌, refl, sym, ap, subst, ◌∙◌}
use mathlib.Core.List.{List}
use native.Mathlib.Omega.{arith}
use lib.ListN.{length, set}
use Rattle.base.specs.Limits.{time_limit, counter_limit}
use Rattle.rules_record.specs.declared.Inputs.{Inputs}
use Rattle.rules_record.specs.declared.Slot.{Slot}
use Rattle.rules_record.specs.States.{state_number}
use Rattle.rules_record.specs.Inputs.{slot_at, put_slot, with_slots}
use Rattle.rules_record.proofs.SlotFrame.{slot_same, put_stores}
use Rattle.rules_record.proofs.Sized.{sized_put}
use Rattle.rules_record.specs.Sized.{Sized}
use Rattle.rules_record.specs.Commands.{Sent, Did, quiet}
use Rattle.rules_record.proofs.Sending.{did_by, did_quiet}
use Rattle.rules_routing.specs.Watch.{moved_slot}
use Rattle.rules_record.specs.Lent.{Lists, lists}
use Rattle.rules_record.specs.Facts.{OwnSums}
use Rattle.rules_record.specs.Effects.{Effect, silent, beside, Effected}
use Rattle.rules_record.proofs.Effects.{effected_by, effected_silent, effected_done}
use Rattle.rules_tick.specs.Lags.{arrived, largest_of}
use Rattle.rules_tick.specs.LateEvents.{late_slot, late_event}
use Rattle.rules_tick.specs.AutoDelay.{auto_delayed}
use Rattle.rules_tick.specs.InputReady.{ArriveAsked, LateAsked, Ready, AutoAsked}
use Rattle.rules_tick.proofs.Ready.{ready_window}
use Rattle.rules_tick.proofs.LagsKeep.{arrived_ready, arrived_raised}
use Rattle.rules_tick.proofs.LateCases.{late_stored}
use Rattle.rules_tick.proofs.LateKeeps.{late_ready, late_raised}
use Rattle.rules_tick.proofs.AutoDelayCases.{auto_idle}
use Rattle.rules_tick.proofs.Readiness.{ready_low}
use Rattle.rules_tick.specs.declared.Look.{Look}
use Rattle.rules_tick.specs.Tick.{heard, looked, ticked_input}
use Rattle.rules_tick.specs.TickAsked.{InputAsked}
use Rattle.rules_tick.proofs.Following.{effected_then}
use Rattle.rules_tick.proofs.Looking.{looked_ready, looked_changes}

-- what the lags leave, said of every times and peaks, of lists whose own are as they were
pub arrived_kept : (i time : ℕ) (lags : List ℕ) (s : Inputs) (l m : Lists) {answer : Inputs}
    → ((times peaks : List ℕ) → silent answer (lists m.starts m.totals m.counts m.sums times peaks) ≡ arrived i time lags s (lists l.starts l.totals l.counts l.sums times peaks))
    → m.times ≡ l.times → m.peaks ≡ l.peaks
    → silent answer m ≡ arrived i time lags s l
arrived_kept i time lags s l m is-arrived is-times is-peaks =
    is-arrived m.times m.peaks ∙ (λ t. arrived i time lags s (lists l.starts l.totals l.counts l.sums (is-times t) (is-peaks t)))

-- ---- what the steps ask
module _ (s : Inputs) (l : Lists) (i : ℕ) (look : Look) (lags : List ℕ) (time : ℕ) (sized : Sized s) (soon : time ≤ time_limit) (asked : InputAsked s l i look (length lags) time) where
  pub low : i < 16
  low = ready_low s l i asked.ready

  -- of the lists of the windows, whatever the peaks are
  pub arrive_asks : (times peaks : List ℕ) → ArriveAsked s (lists l.starts l.totals l.counts l.sums times peaks) i time (length lags)
  arrive_asks times peaks =
      let w = ready_window s l i asked.ready in
      record { window = record { sound = w.sound; held = w.held; sums_in = w.sums_in; whole = w.whole; sums = w.sums }; timely = soon; room = asked.room }

  abbrev first : Inputs
  first = (arrived i time lags s l).inputs

  abbrev left : Lists
  left = (arrived i time lags s l).lists

  first_sized : Sized first
  unfolding arrived
  first_sized = sized_put s i _ sized

  pub late_asks : (slot : Slot) → put_slot s i slot ≡ first → LateAsked s.policy slot look.applied
  late_asks slot e = record {
    sound = asked.ready.fitting.allowed.sound;
    applied_in = asked.applied;
    events =
        subst (λ (x : Slot). x.late_events < counter_limit) (ap (λ (z : Inputs). slot_at z i) (sym e) ∙ slot_same s i slot low sized.slots)
        (omega (arith, (arrived_raised i time lags s l low sized.slots).lates, asked.lates));
  }

  module _ (largest : Option ℕ) where
    abbrev second : Inputs
    second = late_event i look.applied largest first

    second_sized : Sized second
    unfolding late_event
    second_sized = sized_put first i _ first_sized

    second_ready : Ready second left i
    second_ready = late_ready i look.applied largest first left (arrived_ready i time lags s l asked.ready soon asked.room sized.slots) first_sized.slots

    reopens_fit : (slot_at second i).reopens < counter_limit
    reopens_fit = omega (arith, (late_raised i look.applied largest first low first_sized.slots).reopens, (arrived_raised i time lags s l low sized.slots).reopens, asked.reopens)

    changes_fit : (slot_at second i).delay_changes < counter_limit
    changes_fit = omega (arith, (late_raised i look.applied largest first low first_sized.slots).changes, (arrived_raised i time lags s l low sized.slots).changes, asked.changes)

    module _ (slot : Slot) {heard : Slot} (is-first : put_slot s i slot ≡ first) (is-heard : heard ≡ late_slot s.policy slot look.applied largest) where
      abbrev stored : Inputs
      stored = with_slots s (set s.slots i heard)

      second_is : stored ≡ second
      second_is = late_stored s i look.applied largest slot low sized.slots is-heard ∙ ap (late_event i look.applied largest) is-first

      pub look_asks : (i < 16) × ((slot_at stored i).reopens < counter_limit)
      look_asks = (low, subst (λ (x : Inputs). (slot_at x i).reopens < counter_limit) (sym second_is) reopens_fit)

      abbrev third : Inputs
      third = (looked i look time second).inputs

      module _ {seen : Sent} {before after : List ℕ} {used : ℕ} {m : Lists} (h : Did 6 (looked i look time stored) seen before after used) (e : m ≡ left) where
        third_is : seen.inputs ≡ third
        third_is = h.inputs ∙ ap (λ (x : Inputs). (looked i look time x).inputs) second_is

        -- the input is ready in the lists themselves, with their own totals and counts
        pub auto_ready : Ready seen.inputs m i
        auto_ready = subst (λ (x : Inputs). Ready x m i) (sym third_is) (subst (λ (x : Lists). Ready third x i) (sym e) (looked_ready second left i second_ready time soon second_sized look))

        third_changes : (slot_at third i).delay_changes < counter_limit
        third_changes = subst (λ (n : ℕ). n < counter_limit) (sym (looked_changes second left i second_ready time soon second_sized look)) changes_fit

        pub auto_asks : AutoAsked seen.inputs i m.starts m.sums m.times m.peaks
        auto_asks = record {
          totals = m.totals;
          counts = m.counts;
          ready = auto_ready;
          changes = subst (λ (x : Inputs). (slot_at x i).delay_changes < counter_limit) (sym third_is) third_changes;
        }

        -- the sums that the lags left are those of the counts that they left
        pub auto_sums : OwnSums seen.inputs m i (slot_at seen.inputs i)
        auto_sums = (ready_window seen.inputs m i auto_ready).sums

-- ---- the steps in a row
module _ (i : ℕ) (look : Look) (lags : List ℕ) (time : ℕ) (s : Inputs) (l : Lists) (slot : Slot) {heard_slot : Slot} {largest : Option ℕ} {seen answer : Sent} {m after_all : Lists} {before middle after : List ℕ} {used : ℕ}
    (low : i < 16) (sized : length s.slots ≡ 16)
    (is-arrived : silent (put_slot s i slot) m ≡ arrived i time lags s l)
    (is-largest : largest ≡ largest_of lags)
    (is-late : heard_slot ≡ late_slot s.policy slot look.applied largest)
    (is_seen : Did 6 (looked i look time (with_slots s (set s.slots i heard_slot))) seen before middle used)
    (is-answer : Effected 3 (auto_delayed i largest time seen.inputs m) answer after_all middle after seen.used) where
  abbrev all : Inputs
  all = put_slot s i slot

  abbrev after_late : Inputs
  after_late = with_slots s (set s.slots i heard_slot)

  heard_by : Effected 0 (heard i look lags time s l) (record { inputs = after_late; used = used }) m before before used
  unfolding heard
  heard_by =
      effected_then 0 0 (arrived i time lags s l) (λ z x. silent (late_event i look.applied (largest_of lags) z) x)
      (subst (λ (x : Effect). Effected 0 x (record { inputs = all; used = used }) m before before used) is-arrived (effected_silent refl refl))
      (effected_silent (late_stored s i look.applied largest slot low sized is-late ∙ ap (λ (x : Option ℕ). late_event i look.applied x all) is-largest) refl)

  seen_by : Effected 6 (beside m (looked i look time after_late)) seen m before middle used
  seen_by = effected_done is_seen refl

  pub ticked_by : Effected 9 (ticked_input i look lags time s l) answer after_all before after used
  unfolding ticked_input
  ticked_by =
      effected_then 6 3 _ (auto_delayed i (largest_of lags) time)
      (effected_then 0 6 (heard i look lags time s l) (λ z x. beside x (looked i look time z)) heard_by seen_by)
      (subst (λ (x : Option ℕ). Effected 3 (auto_delayed i x time seen.inputs m) answer after_all middle after seen.used) is-largest is-answer)

-- ---- the ways of an input that goes through no other function
stored_slot : (s : Inputs) (i : ℕ) (slot : Slot) → i < 16 → length s.slots ≡ 16 → slot_at (with_slots s (set s.slots i slot)) i ≡ slot
stored_slot s i slot low sized = ap (λ (z : Inputs). slot_at z i) (sym (put_stores s i slot low)) ∙ slot_same s i slot low sized

pub rested_by : (i : ℕ) (look : Look) (lags : List ℕ) (time : ℕ) (s : Inputs) (l : Lists) (slot heard_slot : Slot) {largest : Option ℕ} {m : Lists} {words : List ℕ} {used : ℕ}
    → i < 16 → length s.slots ≡ 16
    → silent (put_slot s i slot) m ≡ arrived i time lags s l
    → largest ≡ largest_of lags
    → heard_slot ≡ late_slot s.policy slot look.applied largest
    → (state_number heard_slot.state < 2) × ((z : Inputs) (j at : ℕ) → slot_at z j ≡ heard_slot → looked j look at z ≡ quiet z)
    → Effected 9 (ticked_input i look lags time s l) (record { inputs = with_slots s (set s.slots i heard_slot); used = used }) m words words used
rested_by i look lags time s l slot heard_slot {largest} low sized is-arrived is-largest is-late rests =
    ticked_by i look lags time s l slot low sized is-arrived is-largest is-late
    (did_by (rests.1 stored i time here) (did_quiet refl))
    (effected_by (auto_idle i largest time stored _ (λ e. omega (arith, state, rests.0)) (λ e. omega (arith, state, rests.0))) (effected_silent refl refl))
  where
    stored : Inputs
    stored = with_slots s (set s.slots i heard_slot)

    here : slot_at stored i ≡ heard_slot
    here = stored_slot s i heard_slot low sized

    state : state_number (slot_at stored i).state ≡ state_number heard_slot.state
    state = ap (λ (x : Slot). state_number x.state) here

pub moved_by : (i : ℕ) (look : Look) (time : ℕ) (s : Inputs) (heard_slot : Slot) {moved : Slot} (words : List ℕ) (used : ℕ) → i < 16 → Sized s
    → ((z : Inputs) (j at : ℕ) → slot_at z j ≡ heard_slot → looked j look at z ≡ quiet (put_slot z j (moved_slot heard_slot look.world.head at)))
    → moved ≡ moved_slot heard_slot look.world.head time
    → Did 6 (looked i look time (with_slots s (set s.slots i heard_slot))) (record { inputs = with_slots s (set (set s.slots i heard_slot) i moved); used = used }) words words used
moved_by i look time s heard_slot {moved} words used low sized moves is-moved =
    did_by (moves stored i time (stored_slot s i heard_slot low sized.slots)) (did_quiet (sym (put_stores stored i moved low) ∙ ap (put_slot stored i) is-moved))
  where
    stored : Inputs
    stored = with_slots s (set s.slots i heard_slot)
