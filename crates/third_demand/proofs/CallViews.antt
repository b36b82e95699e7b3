-- What an accepted call on one input leaves of every input's window, hold and delay: laws for each such call. Assumes nothing.
use Rattle.std.specs.Prelude.{None}
use Prim.Native.Nat.{ℕ, ◌<◌}
use mathlib.Core.Path.{◌≡◌, refl, sym, ap, subst, ◌∙◌}
use mathlib.Core.List.{[]}
use lib.Dec.{eqb}
use lib.ListN.{length, length-replicate}
use borrow.Author.Tests.{eqb-true, eqb-false}
use Rattle.base.proofs.Choices.{by_bool}
use Rattle.policy.specs.declared.DelayPolicy.{DelayPolicy}
use Rattle.rules_window.specs.Window.{fresh, windowed}
use Rattle.rules_window.specs.Parts.{part_of}
use Rattle.delay_hold.specs.Next.{cleared_hold}
use Rattle.rules_record.specs.declared.Slot.{Slot}
use Rattle.rules_record.specs.declared.Inputs.{Inputs}
use Rattle.rules_record.specs.Inputs.{slot_at}
use Rattle.rules_record.specs.Lent.{Lists, buckets_in, window_for, held_for, held_of, with_window, with_held, buckets_for}
use Rattle.rules_record.specs.Checks.{Fitting}
use Rattle.rules_record.proofs.Beside.{Beside, beside_window, window_same, held_same}
use Rattle.rules_record.proofs.Shapes.{held_times, held_lags}
use Rattle.rules_routing.specs.Clear.{cleared_slot, cleared_lists}
use Rattle.rules_routing.proofs.SettingsKept.{SameSettings, settings_then}
use Rattle.history.specs.View.{InputView}
use Rattle.history.specs.Events.{history}
use Rattle.third_demand.proofs.Lifted.{view_of, Lifted, view_for}

-- nothing happens to the input
pub lifted_none : (policy : DelayPolicy) (time : ℕ) (view next : InputView) → next ≡ view → Lifted policy time view next
unfolding history
lifted_none policy time view next same = record { events = []; leads = sym same; lawful = λ before soon. tt; clocked = λ before soon. soon }

-- ---- the view is that of the slot and of the lists, under the same settings
module _ (s z : Inputs) (same : SameSettings s z) where
  pub same_policy : z.policy ≡ s.policy
  same_policy = ap (λ (x : Inputs). x.policy) same

  pub same_width : z.width ≡ s.width
  same_width = ap (λ (x : Inputs). x.width) same

  pub view_own : (m : Lists) (i : ℕ) (slot : Slot) → slot_at z i ≡ slot → view_of z m i ≡ view_for s m i slot
  unfolding buckets_in
  view_own m i slot is-slot = λ t. record {
    window =
        part_of i
        (windowed (is-slot t).lag_seconds (buckets_for (same_policy t) (same_width t)) (same_width t)
        m.starts m.totals m.counts);
    held = held_for m i (is-slot t);
    delay = (is-slot t).delay;
  }

  -- the lists still fit
  pub fitting_same : (l : Lists) → Fitting s l → Fitting z l
  unfolding buckets_in
  fitting_same l f = subst (λ (x : Inputs). Fitting x l) (sym same) (record { allowed = f.allowed; long = f.long })

  -- .. of an input whose slot and lists stay
  pub view_other : (l m : Lists) (i j : ℕ) → Beside s.count (buckets_in s) i l m → j < s.count → (j ≡ i → ⊥) → slot_at z j ≡ slot_at s j → view_of z m j ≡ view_of s l j
  unfolding buckets_in
  view_other l m i j beside there apart is-slot =
      view_own m j (slot_at s j) is-slot
      ∙ (λ t. record {
        window = record {
          seconds = (slot_at s j).lag_seconds;
          buckets = buckets_in s;
          width = s.width;
          starts = beside.starts j there apart t;
          totals = beside.totals j there apart t;
          counts = beside.counts j there apart t;
        };
        held = record { hold = (slot_at s j).hold; times = beside.times j there apart t; lags = beside.peaks j there apart t };
        delay = (slot_at s j).delay;
      })

-- ---- "window and hold are cleared"
module _ (s : Inputs) (l : Lists) (i : ℕ) (f : Fitting s l) (h : i < s.count) where
  -- a slot without seconds, over the cleared lists
  pub view_cleared : (slot : Slot) → slot.lag_seconds ≡ 0
      → view_for s (cleared_lists i s l) i slot ≡ record { window = fresh (buckets_in s) s.width; held = record { hold = slot.hold; times = (cleared_hold (held_of s l i)).times; lags = (cleared_hold (held_of s l i)).lags }; delay = slot.delay }
  unfolding fresh
  view_cleared slot none = λ t. record { window = window t; held = record { hold = slot.hold; times = (hold t).times; lags = (hold t).lags }; delay = slot.delay }
    where
      emptied : Lists
      emptied = with_window (buckets_in s) i (fresh (buckets_in s) s.width) l

      beside : Beside s.count (buckets_in s) i l emptied
      beside = beside_window s.count (buckets_in s) i l f.long h (fresh (buckets_in s) s.width) (length-replicate {A = ℕ} 11 0) (length-replicate {A = ℕ} 11 0) (length-replicate {A = ℕ} _ 0) refl

      window : window_for s (cleared_lists i s l) i slot ≡ fresh (buckets_in s) s.width
      window =
          (λ t. part_of i (windowed (none t) (buckets_in s) s.width emptied.starts emptied.totals emptied.counts))
          ∙ window_same s.count (buckets_in s) i l f.long h (fresh (buckets_in s) s.width) (length-replicate {A = ℕ} 11 0) (length-replicate {A = ℕ} 11 0) (length-replicate {A = ℕ} _ 0) refl s.width

      hold : held_for (with_held i (cleared_hold (held_of s l i)) emptied) i (cleared_slot slot) ≡ cleared_hold (held_of s l i)
      hold =
          held_same s.count (buckets_in s) i emptied beside.long h (cleared_hold (held_of s l i))
          (length-replicate {A = ℕ} (length (held_of s l i).times) 0 ∙ held_times s l f i h)
          (length-replicate {A = ℕ} (length (held_of s l i).lags) 0 ∙ held_lags s l f i h)

-- ---- what an accepted call on input i leaves, without confirmation: events of that input alone, no proposal, and every counter as it was
pub record CallOn (i time : ℕ) (s : Inputs) (l : Lists) (z : Inputs) (m : Lists) : Type 0 where
  pub settings : SameSettings s z
  pub lifted : Lifted s.policy time (view_of s l i) (view_of z m i)
  pub other_slot : (j : ℕ) → (j ≡ i → ⊥) → slot_at z j ≡ slot_at s j
  pub other_view : (j : ℕ) → j < s.count → (j ≡ i → ⊥) → view_of z m j ≡ view_of s l j
  pub proposed : (slot_at s i).proposed ≡ None → (slot_at z i).proposed ≡ None
  pub reopens : (slot_at z i).reopens ≡ (slot_at s i).reopens
  pub changes : (slot_at z i).delay_changes ≡ (slot_at s i).delay_changes
  pub lates : (slot_at z i).late_events ≡ (slot_at s i).late_events

-- nothing is done
pub call_none : (i time : ℕ) (s : Inputs) (l : Lists) → CallOn i time s l s l
call_none i time s l = record {
  settings = refl;
  lifted = lifted_none s.policy time (view_of s l i) (view_of s l i) refl;
  other_slot = λ j apart. refl;
  other_view = λ j there apart. refl;
  proposed = λ none. none;
  reopens = refl;
  changes = refl;
  lates = refl;
}

-- a step before it leaves the settings and every slot
module _ (i time : ℕ) (s : Inputs) (l : Lists) (y : Inputs) (same : SameSettings s y) (slots : (j : ℕ) → slot_at y j ≡ slot_at s j) where
  before : (j : ℕ) → view_of y l j ≡ view_of s l j
  before j = view_own s y same l j (slot_at s j) (slots j)

  pub call_from : (z : Inputs) (m : Lists) → CallOn i time y l z m → CallOn i time s l z m
  call_from z m call = record {
    settings = settings_then s y z same call.settings;
    lifted = subst (λ (view : InputView). Lifted s.policy time view (view_of z m i)) (before i) (subst (λ (policy : DelayPolicy). Lifted policy time (view_of y l i) (view_of z m i)) (same_policy s y same) call.lifted);
    other_slot = λ j apart. call.other_slot j apart ∙ slots j;
    other_view = λ j there apart. call.other_view j (subst (λ (x : Inputs). j < x.count) (sym same) there) apart ∙ before j;
    proposed = λ none. call.proposed (ap (λ (x : Slot). x.proposed) (slots i) ∙ none);
    reopens = call.reopens ∙ ap (λ (x : Slot). x.reopens) (slots i);
    changes = call.changes ∙ ap (λ (x : Slot). x.delay_changes) (slots i);
    lates = call.lates ∙ ap (λ (x : Slot). x.late_events) (slots i);
  }

module _ (i time : ℕ) (s : Inputs) (l : Lists) (z : Inputs) (m : Lists) (call : CallOn i time s l z m) where
  -- of every input
  every : (P : ℕ → Type 0) (j : ℕ) → P i → ((j ≡ i → ⊥) → P j) → P j
  every P j own other = by_bool (eqb j i) (λ e. subst P (sym (eqb-true j i e)) own) (λ e. other (eqb-false j i e))

  pub call_lifted : (j : ℕ) → j < s.count → Lifted s.policy time (view_of s l j) (view_of z m j)
  call_lifted j there =
      every (λ k. Lifted s.policy time (view_of s l k) (view_of z m k)) j call.lifted
      (λ apart. lifted_none s.policy time (view_of s l j) (view_of z m j) (call.other_view j there apart))

  pub call_proposed : (j : ℕ) → (slot_at s j).proposed ≡ None → (slot_at z j).proposed ≡ None
  call_proposed j =
      every (λ k. (slot_at s k).proposed ≡ None → (slot_at z k).proposed ≡ None) j call.proposed
      (λ apart none. ap (λ (x : Slot). x.proposed) (call.other_slot j apart) ∙ none)

  pub call_reopens : (j : ℕ) → (slot_at z j).reopens ≡ (slot_at s j).reopens
  call_reopens j = every (λ k. (slot_at z k).reopens ≡ (slot_at s k).reopens) j call.reopens (λ apart. ap (λ (x : Slot). x.reopens) (call.other_slot j apart))

  pub call_changes : (j : ℕ) → (slot_at z j).delay_changes ≡ (slot_at s j).delay_changes
  call_changes j =
      every (λ k. (slot_at z k).delay_changes ≡ (slot_at s k).delay_changes) j call.changes (λ apart. ap (λ (x : Slot). x.delay_changes) (call.other_slot j apart))

  pub call_lates : (j : ℕ) → (slot_at z j).late_events ≡ (slot_at s j).late_events
  call_lates j = every (λ k. (slot_at z k).late_events ≡ (slot_at s k).late_events) j call.lates (λ apart. ap (λ (x : Slot). x.late_events) (call.other_slot j apart))
