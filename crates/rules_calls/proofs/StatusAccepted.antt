-- When the three calls are accepted, and what their answers say, fact by fact. Assumes nothing.
use Rattle.std.specs.Prelude.{None, Option, Some}
use Prim.Native.Nat.{ℕ, ◌-◌, ◌<◌, ◌≤◌}
use mathlib.Core.Bool.{true}
use mathlib.Core.Path.{◌≡◌, refl, sym, ap, ◌∙◌}
use native.Mathlib.Omega.{arith}
use borrow.Author.Tests.{leb-true, eqb-true, le-leb, lt-ltb, eq-eqb}
use Rattle.base.specs.Limits.{time_limit}
use Rattle.base.proofs.Choices.{yes_ask, yes_pick, refused_old}
use Rattle.base.proofs.Points.{both_true, true_both}
use Rattle.doubles.specs.Doubles.{ms_of}
use Rattle.rules_window.specs.Quantile.{Quantile}
use Rattle.rules_window.specs.Window.{Window}
use Rattle.rules_window.specs.WholeWindow.{Sound}
use Rattle.rules_window.specs.Quantile.{quantile_in, quantile_of, total_upto, thousandths}
use Rattle.rules_window.proofs.Laws.{Holds, quantile_exists}
use Rattle.rules_window.proofs.Numbers.{sound_placeable}
use Rattle.rules_window.proofs.Thousandths.{thousandths_in}
use Rattle.delay_hold.specs.Steps5To8.{held_since}
use Rattle.rules_record.specs.declared.Slot.{Slot}
use Rattle.rules_record.specs.declared.Inputs.{Inputs}
use Rattle.rules_record.specs.States.{state_number}
use Rattle.rules_record.specs.declared.Output.TheVariants.{Absent}
use Rattle.rules_record.specs.Lent.{Lists}
use Rattle.rules_record.proofs.Checked.{of_checked}
use Rattle.rules_record.specs.Facts.{Checked}
use Rattle.rules_calls.specs.declared.ArrivalLag.{ArrivalLag}
use Rattle.rules_record.specs.Checks.{input_number}
use Rattle.rules_calls.specs.StatusChecks.{status_number, channels_number, settled_number}
use Rattle.rules_calls.specs.Status.{arrival_of, arrival_in, no_status, status_of, status_reply}
use Rattle.rules_calls.specs.HasChannels.{has_channels}
use Rattle.rules_calls.specs.Settled.{settled_slot}
use Rattle.rules_calls.proofs.StatusShows.{all_there}

-- ---- a record that was checked is never refused by 1 to 6
module _ (s : Inputs) (l : Lists) (c : Checked s l) (input : ℕ) (h : input < s.count) where
  input_open : (rest : ℕ) → input_number s l Absent input rest ≡ rest
  unfolding input_number
  input_open rest = of_checked s l Absent c refl _ ∙ yes_ask 7 rest (lt-ltb _ _ h)

  pub status_open : (applied channels : ℕ) → applied ≤ s.policy.delay_max → channels ≤ 64 → status_number s l input applied channels ≡ 0
  unfolding status_number
  status_open applied channels a b = input_open _ ∙ yes_ask 10 _ (le-leb _ _ a) ∙ yes_ask 10 0 (le-leb _ _ b)

  pub channels_open : (channels : ℕ) → channels ≤ 64 → channels_number s l input channels ≡ 0
  unfolding channels_number
  channels_open channels b = input_open _ ∙ yes_ask 10 0 (le-leb _ _ b)

  pub settled_open : (time : ℕ) → time ≤ time_limit → settled_number s l input time ≡ 0
  unfolding settled_number
  settled_open time b = input_open _ ∙ yes_ask 8 0 (le-leb _ _ b)

-- a refused status is the zero status with its number
pub status_zero : (s : Inputs) (l : Lists) (input applied channels : ℕ) → (status_number s l input applied channels ≡ 0 → ⊥) → status_reply s l input applied channels ≡ no_status (status_number s l input applied channels)
unfolding status_reply
status_zero s l input applied channels h = refused_old (status_number s l input applied channels) _ (status_of s l input applied channels) h

-- ---- has_channels: yes exactly if Running, and channels at least the number given
module _ (slot : Slot) (channels wanted : ℕ) where
  pub channels_of : has_channels slot channels wanted ≡ true → (state_number slot.state ≡ 2) × (wanted ≤ channels)
  unfolding has_channels
  channels_of e = let t = both_true _ _ e in (eqb-true _ _ t.0, leb-true _ _ t.1)

  pub of_channels : state_number slot.state ≡ 2 → wanted ≤ channels → has_channels slot channels wanted ≡ true
  unfolding has_channels
  of_channels running enough = true_both _ _ (eq-eqb _ _ running) (le-leb _ _ enough)

-- ---- settled: yes exactly if Running, and the last SetDelay and the last SetInput, if any, are each at least hold old
module _ (hold time : ℕ) where
  -- a command sent at this moment, if one ever went, is at least hold old
  abbrev pub Rested : Option ℕ → Type 0
  Rested moment = (sent : ℕ) → moment ≡ Some sent → hold ≤ time - sent

  rested_of : (moment : Option ℕ) → held_since moment hold time ≡ true → Rested moment
  rested_of moment e sent is = leb-true _ _ (sym (ap (λ (x : Option ℕ). held_since x hold time) is) ∙ e)

  of_rested : (moment : Option ℕ) → Rested moment → held_since moment hold time ≡ true
  of_rested None f = refl
  of_rested (Some sent) f = le-leb _ _ (f sent refl)

  module _ (slot : Slot) where
    pub of_settled : state_number slot.state ≡ 2 → Rested slot.last_set → Rested slot.last_input → settled_slot slot hold time ≡ true
    unfolding settled_slot
    of_settled running delay input = true_both _ _ (eq-eqb _ _ running) (true_both _ _ (of_rested slot.last_set delay) (of_rested slot.last_input input))

    pub settled_of : settled_slot slot hold time ≡ true → (state_number slot.state ≡ 2) × (Rested slot.last_set × Rested slot.last_input)
    unfolding settled_slot
    settled_of e =
        let t = both_true _ _ e in
        let u = both_true _ _ t.1 in
        (eqb-true _ _ t.0, (rested_of slot.last_set u.0, rested_of slot.last_input u.1))

-- ---- the quantiles: all three as soon as a lag is counted, none before
abbrev no_limit : ℕ
no_limit = 4294967295

module _ (w : Window) where
  pub arrival_shown : Sound w → (b : ℕ) → Holds no_limit w b → (lag : ArrivalLag) × (arrival_in w ≡ Some lag)
  unfolding arrival_in
  arrival_shown sound b h =
      let half = found 500 (omega arith) in
      let high = found 990 (omega arith) in
      let highest = found 999 (omega arith) in
      (record { p50 = ms_of half.0; p99 = ms_of high.0; p999 = ms_of highest.0 }, sym (all_there _ _ _ half.1 high.1 highest.1 refl refl refl))
    where
      found : (k : ℕ) → k ≤ 1000 → (e : ℕ) × (quantile_of (thousandths k) w ≡ Quantile.End e)
      found k few = quantile_exists (thousandths k) no_limit w (sound_placeable (thousandths k) no_limit w sound (thousandths_in k few)) b h

  pub arrival_none : total_upto no_limit w ≡ 0 → arrival_in w ≡ None
  unfolding arrival_in quantile_in
  arrival_none none = ap (λ (x : Quantile). arrival_of x (quantile_of (thousandths 990) w) (quantile_of (thousandths 999) w)) (yes_pick _ _ (eq-eqb _ _ none))
