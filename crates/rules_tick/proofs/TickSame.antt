-- An input that stays as it was while others change, under the same settings. Assumes nothing.
use Prim.Native.Nat.{ℕ, ◌<◌, ◌≤◌}
use mathlib.Core.Path.{◌≡◌, refl, sym, ap, subst, ◌∙◌}
use Rattle.rules_window.specs.WholeWindow.{whole_window}
use Rattle.rules_window.specs.ColumnSums.{right_sums}
use Rattle.delay_hold.specs.Whole.{whole_hold}
use Rattle.rules_record.specs.declared.Slot.{Slot}
use Rattle.rules_record.specs.declared.Inputs.{Inputs}
use Rattle.rules_record.specs.Inputs.{slot_at}
use Rattle.rules_record.specs.Lent.{Lists, buckets_in, window_for, window_of, sums_of, held_of}
use Rattle.rules_record.specs.WholePlaces.{proposal_fits}
use Rattle.rules_record.specs.Checks.{Long, Fitting}
use Rattle.rules_record.proofs.Beside.{Beside}
use Rattle.rules_routing.proofs.SettingsKept.{SameSettings}
use Rattle.rules_tick.specs.InputReady.{Ready}

-- input j of the record z with the lists m is that of s with l
pub record SameInput (s : Inputs) (l : Lists) (z : Inputs) (m : Lists) (j : ℕ) : Type 0 where
  pub slot : slot_at z j ≡ slot_at s j
  pub window : window_of z m j ≡ window_of s l j
  pub sums : sums_of z m j ≡ sums_of s l j
  pub held : held_of z m j ≡ held_of s l j

pub same_none : (s : Inputs) (l : Lists) (j : ℕ) → SameInput s l s l j
same_none s l j = record { slot = refl; window = refl; sums = refl; held = refl }

pub same_then : (s : Inputs) (l : Lists) (y : Inputs) (k : Lists) (z : Inputs) (m : Lists) (j : ℕ) → SameInput s l y k j → SameInput y k z m j → SameInput s l z m j
same_then s l y k z m j a b = record { slot = b.slot ∙ a.slot; window = b.window ∙ a.window; sums = b.sums ∙ a.sums; held = b.held ∙ a.held }

module _ (s z : Inputs) (settings : SameSettings s z) where
  pub buckets_same : buckets_in z ≡ buckets_in s
  unfolding buckets_in
  buckets_same = ap buckets_in settings

  pub fitting_under : (l m : Lists) → Fitting s l → Long s.count (buckets_in s) m → Fitting z m
  unfolding buckets_in
  fitting_under l m f long = subst (λ (x : Inputs). Fitting x m) (sym settings) (record { allowed = f.allowed; long = long })

  pub beside_under : (i : ℕ) (l m : Lists) → Beside z.count (buckets_in z) i l m → Beside s.count (buckets_in s) i l m
  unfolding buckets_in
  beside_under i l m b = subst (λ (x : Inputs). Beside x.count (buckets_in x) i l m) settings b

  pub beside_over : (i : ℕ) (l m : Lists) → Beside s.count (buckets_in s) i l m → Beside z.count (buckets_in z) i l m
  unfolding buckets_in
  beside_over i l m b = subst (λ (x : Inputs). Beside x.count (buckets_in x) i l m) (sym settings) b

  -- only the slot and the lists of input i changed: input j stays
  pub same_beside : (l m : Lists) (i j : ℕ) → Beside s.count (buckets_in s) i l m → j < s.count → (j ≡ i → ⊥) → slot_at z j ≡ slot_at s j → SameInput s l z m j
  unfolding buckets_in
  same_beside l m i j b h apart same = record {
    slot = same;
    window =
        (λ t. window_for (settings t) m j (slot_at z j))
        ∙ (λ t. record {
          seconds = (same t).lag_seconds;
          buckets = buckets_in s;
          width = s.width;
          starts = b.starts j h apart t;
          totals = b.totals j h apart t;
          counts = b.counts j h apart t;
        });
    sums = (λ t. sums_of (settings t) m j) ∙ b.sums j h apart;
    held = λ t. record { hold = (same t).hold; times = b.times j h apart t; lags = b.peaks j h apart t };
  }

  -- an input that stays stays ready
  pub ready_same : (l m : Lists) (j : ℕ) → Long s.count (buckets_in s) m → SameInput s l z m j → Ready s l j → Ready z m j
  ready_same l m j long same r = record {
    fitting = fitting_under l m r.fitting long;
    input = subst (λ (x : Inputs). j < x.count) (sym settings) r.input;
    window = ap whole_window same.window ∙ r.window;
    sums = (λ t. right_sums (same.window t) (same.sums t)) ∙ r.sums;
    hold = (λ t. whole_hold (settings t).policy (settings t).width (same.held t)) ∙ r.hold;
    delay =
        subst (λ (x : Inputs). (slot_at z j).delay ≤ x.policy.delay_max) (sym settings)
        (subst (λ (x : Slot). x.delay ≤ s.policy.delay_max) (sym same.slot) r.delay);
    proposed = (λ t. proposal_fits (same.slot t).proposed (settings t).policy.delay_max) ∙ r.proposed;
  }
