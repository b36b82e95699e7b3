-- The lists of all inputs with those of one input replaced: its own are the new ones, those of the others stay. Assumes nothing.
use Rattle.std.specs.Prelude.{◌≡◌, ℕ, ◌*◌, ◌<◌, length}
use mathlib.Core.Path.{refl, ◌∙◌}
use Rattle.base.specs.Lists.{part}
use Rattle.rules_window.specs.Window.{Window, windowed}
use Rattle.rules_window.specs.Parts.{part_of}
use Rattle.rules_window.specs.ColumnSums.{column_sums}
use Rattle.rules_window.proofs.ColumnSums.{sums_length}
use Rattle.delay_hold.specs.Next.{Held, held}
use Rattle.rules_record.specs.Lent.{Lists, with_window, with_held}
use Rattle.rules_record.specs.Checks.{Long}
use Rattle.base.proofs.Blocks.{block_length, block_same, block_other}

-- m is l but for the lists of input i
pub record Beside (n buckets i : ℕ) (l m : Lists) : Type 0 where
  pub starts : (j : ℕ) → j < n → (j ≡ i → ⊥) → part (j * 11) 11 m.starts ≡ part (j * 11) 11 l.starts
  pub totals : (j : ℕ) → j < n → (j ≡ i → ⊥) → part (j * 11) 11 m.totals ≡ part (j * 11) 11 l.totals
  pub counts : (j : ℕ) → j < n → (j ≡ i → ⊥) → part (j * (11 * buckets)) (11 * buckets) m.counts ≡ part (j * (11 * buckets)) (11 * buckets) l.counts
  pub sums : (j : ℕ) → j < n → (j ≡ i → ⊥) → part (j * buckets) buckets m.sums ≡ part (j * buckets) buckets l.sums
  pub times : (j : ℕ) → j < n → (j ≡ i → ⊥) → part (j * 600) 600 m.times ≡ part (j * 600) 600 l.times
  pub peaks : (j : ℕ) → j < n → (j ≡ i → ⊥) → part (j * 600) 600 m.peaks ≡ part (j * 600) 600 l.peaks
  pub long : Long n buckets m

module _ (n buckets i : ℕ) (l : Lists) (long : Long n buckets l) where
  pub beside_same : Beside n buckets i l l
  beside_same = record {
    starts = λ j h apart. refl;
    totals = λ j h apart. refl;
    counts = λ j h apart. refl;
    sums = λ j h apart. refl;
    times = λ j h apart. refl;
    peaks = λ j h apart. refl;
    long = long;
  }

  module _ (h : i < n) where
    -- the window of input i is replaced
    module _ (w : Window) (starts : length w.starts ≡ 11) (totals : length w.totals ≡ 11) (counts : length w.counts ≡ 11 * buckets) (same : w.buckets ≡ buckets) where
      row_long : length (column_sums w) ≡ buckets
      row_long = sums_length w ∙ same

      pub beside_window : Beside n buckets i l (with_window buckets i w l)
      beside_window = record {
        starts = block_other n 11 i w.starts l.starts starts long.starts h;
        totals = block_other n 11 i w.totals l.totals totals long.totals h;
        counts = block_other n (11 * buckets) i w.counts l.counts counts long.counts h;
        sums = block_other n buckets i (column_sums w) l.sums row_long long.sums h;
        times = λ j g apart. refl;
        peaks = λ j g apart. refl;
        long = record {
          starts = block_length n 11 i w.starts l.starts starts long.starts h ∙ long.starts;
          totals = block_length n 11 i w.totals l.totals totals long.totals h ∙ long.totals;
          counts = block_length n (11 * buckets) i w.counts l.counts counts long.counts h ∙ long.counts;
          sums = block_length n buckets i (column_sums w) l.sums row_long long.sums h ∙ long.sums;
          times = long.times;
          peaks = long.peaks;
        };
      }

      -- .. and read again
      pub window_same : (width : ℕ) → part_of i (windowed w.seconds buckets width (with_window buckets i w l).starts (with_window buckets i w l).totals (with_window buckets i w l).counts) ≡ record { seconds = w.seconds; buckets = buckets; width = width; starts = w.starts; totals = w.totals; counts = w.counts }
      window_same width = λ t. record {
        seconds = w.seconds;
        buckets = buckets;
        width = width;
        starts = block_same n 11 i w.starts l.starts starts long.starts h t;
        totals = block_same n 11 i w.totals l.totals totals long.totals h t;
        counts = block_same n (11 * buckets) i w.counts l.counts counts long.counts h t;
      }

      -- the row of sums is the window's own
      pub sums_same : part (i * buckets) buckets (with_window buckets i w l).sums ≡ column_sums w
      sums_same = block_same n buckets i (column_sums w) l.sums row_long long.sums h

    -- the hold of input i is replaced
    module _ (v : Held) (times : length v.times ≡ 600) (lags : length v.lags ≡ 600) where
      pub beside_held : Beside n buckets i l (with_held i v l)
      beside_held = record {
        starts = λ j g apart. refl;
        totals = λ j g apart. refl;
        counts = λ j g apart. refl;
        sums = λ j g apart. refl;
        times = block_other n 600 i v.times l.times times long.times h;
        peaks = block_other n 600 i v.lags l.peaks lags long.peaks h;
        long = record {
          starts = long.starts;
          totals = long.totals;
          counts = long.counts;
          sums = long.sums;
          times = block_length n 600 i v.times l.times times long.times h ∙ long.times;
          peaks = block_length n 600 i v.lags l.peaks lags long.peaks h ∙ long.peaks;
        };
      }

      pub held_same : held v.hold (part (i * 600) 600 (with_held i v l).times) (part (i * 600) 600 (with_held i v l).peaks) ≡ v
      held_same = λ t. record {
        hold = v.hold;
        times = block_same n 600 i v.times l.times times long.times h t;
        lags = block_same n 600 i v.lags l.peaks lags long.peaks h t;
      }

-- one replacement after the other
pub beside_then : (n buckets i : ℕ) (l m k : Lists) → Beside n buckets i l m → Beside n buckets i m k → Beside n buckets i l k
beside_then n buckets i l m k a b = record {
  starts = λ j h apart. b.starts j h apart ∙ a.starts j h apart;
  totals = λ j h apart. b.totals j h apart ∙ a.totals j h apart;
  counts = λ j h apart. b.counts j h apart ∙ a.counts j h apart;
  sums = λ j h apart. b.sums j h apart ∙ a.sums j h apart;
  times = λ j h apart. b.times j h apart ∙ a.times j h apart;
  peaks = λ j h apart. b.peaks j h apart ∙ a.peaks j h apart;
  long = b.long;
}
