-- What the callees of the steps ask, from what the steps ask of their caller. Assumes nothing.
use Rattle.std.specs.Prelude.{None, Option, Some}
use Prim.Native.Nat.{ℕ, ◌*◌, ◌≤◌}
use mathlib.Core.Bool.{true}
use mathlib.Core.Path.{◌≡◌, sym, ap, subst, ◌∙◌}
use mathlib.Core.List.{List, []}
use native.Mathlib.Omega.{arith}
use borrow.Author.Tests.{leb-true}
use lib.ListN.{length}
use Rattle.base.specs.Lists.{part}
use Rattle.rules_window.specs.WholeWindow.{Sound}
use Rattle.rules_window.proofs.Parting.{held_sound}
use Rattle.delay_hold.specs.Next.{held}
use Rattle.delay_hold.specs.Whole.{peak_most, whole_hold}
use Rattle.delay_hold.specs.Checks.{lag_up_to, Asked}
use Rattle.rules_record.specs.declared.Slot.{Slot}
use Rattle.rules_record.specs.declared.Inputs.{Inputs}
use Rattle.rules_record.specs.Inputs.{slot_at}
use Rattle.rules_record.specs.Lent.{Lists, lists, buckets_in, windows_of, window_for}
use Rattle.rules_record.specs.WholePlaces.{proposal_fits}
use Rattle.base.proofs.Blocks.{block_within}
use Rattle.rules_record.specs.Facts.{OwnSums}
use Rattle.rules_record.proofs.Shapes.{buckets_least, sums_within, right_own, held_times, held_lags}
use Rattle.rules_tick.specs.AutoDelay.{p999_of, proposed_or, current_of}
use Rattle.rules_tick.specs.InputReady.{WindowReady, P999Asked, Ready, AutoAsked}
use Rattle.rules_tick.proofs.P999.{p999_most}

-- ---- the window of an input
pub ready_sound : (s : Inputs) (l : Lists) (i : ℕ) (slot : Slot) → WindowReady s l i slot → Sound (window_for s l i slot)
ready_sound s l i slot w = held_sound i (windows_of s l slot) w.held w.whole

-- ---- an input that is ready
pub ready_window : (s : Inputs) (l : Lists) (i : ℕ) → Ready s l i → WindowReady s l i (slot_at s i)
unfolding buckets_in
ready_window s l i r = record {
  sound = r.fitting.allowed.sound;
  held =
      record {
        width_low = r.fitting.allowed.width_least;
        width_high = r.fitting.allowed.width_most;
        buckets_low = buckets_least s l r.fitting;
        buckets_high = r.fitting.allowed.buckets_most;
        starts_in = omega (arith, block_within i s.count 11 r.input, r.fitting.long.starts);
        totals_in = omega (arith, block_within i s.count 11 r.input, r.fitting.long.totals);
        counts_in = omega (arith, block_within i s.count (11 * buckets_in s) r.input, r.fitting.long.counts);
      };
  sums_in = sums_within s l r.fitting i r.input;
  whole = r.window;
  sums = right_own s l r.fitting i (slot_at s i) r.input r.sums;
}

proposed_fits : (p : Option ℕ) (delay maximum : ℕ) → delay ≤ maximum → proposal_fits p maximum ≡ true → proposed_or p delay ≤ maximum
proposed_fits None delay maximum h f = h
proposed_fits (Some proposed) delay maximum h f = leb-true _ _ f

pub current_fits : (s : Inputs) (l : Lists) (i : ℕ) → Ready s l i → current_of (slot_at s i) ≤ s.policy.delay_max
current_fits s l i r = proposed_fits (slot_at s i).proposed (slot_at s i).delay s.policy.delay_max r.delay r.proposed

-- what `p999` told of every window whose sums these are, it told of one whose sums are the input's own
pub told_own : (s : Inputs) (i : ℕ) (starts sums times lags : List ℕ) {slot : Slot} → slot ≡ slot_at s i
    → {p : Option ℕ} → ((totals counts times peaks : List ℕ) → OwnSums s (lists starts totals counts sums times peaks) i slot → p ≡ p999_of s.policy (window_for s (lists starts totals counts sums times peaks) i slot))
    → (totals counts : List ℕ) → OwnSums s (lists starts totals counts sums times lags) i (slot_at s i) → p ≡ p999_of s.policy (window_for s (lists starts totals counts sums times lags) i slot)
told_own s i starts sums times lags is-slot is-p totals counts own = is-p totals counts times lags (subst (OwnSums s (lists starts totals counts sums times lags) i) (sym is-slot) own)

module _ (s : Inputs) (i : ℕ) (starts sums times lags : List ℕ) (asked : AutoAsked s i starts sums times lags) {slot : Slot} (is-slot : slot ≡ slot_at s i) where
  abbrev around : Lists
  around = lists starts asked.totals asked.counts sums times lags

  around_window : WindowReady s around i (slot_at s i)
  around_window = ready_window s around i asked.ready

  -- what `p999` asks
  pub auto_p999 : P999Asked s slot i starts sums
  auto_p999 = record {
    totals = asked.totals;
    counts = asked.counts;
    window =
        subst (λ (x : Slot). WindowReady s (lists starts asked.totals asked.counts sums [] []) i x) (sym is-slot)
        (let w = around_window in record { sound = w.sound; held = w.held; sums_in = w.sums_in; whole = w.whole; sums = w.sums });
  }

  -- what it told of every window whose sums these are, it told of the input's own
  pub auto_told : {p : Option ℕ} → ((totals counts times peaks : List ℕ) → OwnSums s (lists starts totals counts sums times peaks) i slot → p ≡ p999_of s.policy (window_for s (lists starts totals counts sums times peaks) i slot))
      → p ≡ p999_of s.policy (window_for s around i slot)
  auto_told is-p = told_own s i starts sums times lags is-slot is-p asked.totals asked.counts around_window.sums

  -- what it told of that is within the limit
  pub next_asks : {p : Option ℕ} {current k : ℕ} → p ≡ p999_of s.policy (window_for s around i slot) → current ≡ current_of slot → k ≡ 600
      → Asked s.policy (held slot.hold (part (i * 600) k times) (part (i * 600) k lags)) p current
  next_asks {p} is-p is-current is-k =
      let r : Ready s around i = asked.ready in
      record {
        width = s.width;
        asked =
            record {
              sound = r.fitting.allowed.sound;
              window_least = r.fitting.allowed.window_least;
              window_most = r.fitting.allowed.window_most;
              width_most = r.fitting.allowed.width_most;
              times_long = ap (λ (x : ℕ). length (part (i * 600) x times)) is-k ∙ held_times s around r.fitting i r.input;
              lags_long = ap (λ (x : ℕ). length (part (i * 600) x lags)) is-k ∙ held_lags s around r.fitting i r.input;
              whole = (λ t. whole_hold s.policy s.width (held (is-slot t).hold (part (i * 600) (is-k t) times) (part (i * 600) (is-k t) lags))) ∙ r.hold;
              current_in = subst (λ (x : ℕ). x ≤ s.policy.delay_max) (sym (is-current ∙ ap current_of is-slot)) (current_fits s around i r);
              p999_in = ap (λ (x : Option ℕ). lag_up_to x (peak_most s.policy s.width)) is-p ∙ p999_most s.policy (window_for s around i slot);
            };
      }
