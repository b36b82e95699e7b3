-- The window of input j among the lists of all inputs. The end of a part `a..a + k` comes back as `a + k - a`. Assumes nothing.
use Prim.Native.Nat.{ℕ, ◌*◌}
use mathlib.Core.Bool.{Bool, true, false}
use mathlib.Core.Path.{◌≡◌, refl, ◌∙◌}
use mathlib.Core.List.{List, [], ◌∷◌}
use lib.ListN.{take}
use Rattle.base.specs.Choice.{pick}
use Rattle.base.proofs.Patch.{part_long}
use Rattle.rules_window.specs.Window.{Window, in_use, laid, opens, added, opened, dropped, counted, pushed, pushed_all}
use Rattle.rules_window.specs.WholeWindow.{whole_window, Shaped, Sound}
use Rattle.rules_window.specs.Parts.{part_of, PartsIn}

-- what input j holds has the sizes and lengths of a window
pub held_shaped : (j : ℕ) (w : Window) → PartsIn j w → Shaped (part_of j w)
held_shaped j w h =
    record {
      width_low = h.width_low;
      width_high = h.width_high;
      buckets_low = h.buckets_low;
      buckets_high = h.buckets_high;
      starts_long = part_long (j * 11) 11 w.starts h.starts_in;
      totals_long = part_long (j * 11) 11 w.totals h.totals_in;
      counts_long = part_long (j * (11 * w.buckets)) (11 * w.buckets) w.counts h.counts_in;
    }

pub held_sound : (j : ℕ) (w : Window) → PartsIn j w → whole_window (part_of j w) ≡ true → Sound (part_of j w)
held_sound j w h e = record { shaped = held_shaped j w h; whole = e }

-- ---- a push keeps a window's sizes
pub pushed_sizes : (lag time : ℕ) (w : Window) → ((pushed lag time w).buckets ≡ w.buckets) × ((pushed lag time w).width ≡ w.width)
unfolding pushed laid counted dropped opened in_use
pushed_sizes lag time w = go (opens time w.seconds (take w.seconds w.starts))
  where
    go : (b : Bool) → ((pick b (added time (in_use w)) (in_use w)).buckets ≡ w.buckets) × ((pick b (added time (in_use w)) (in_use w)).width ≡ w.width)
    go true = (refl, refl)
    go false = (refl, refl)

pub pushed_all_sizes : (time : ℕ) (lags : List ℕ) (w : Window) → ((pushed_all time lags w).buckets ≡ w.buckets) × ((pushed_all time lags w).width ≡ w.width)
unfolding pushed_all
pushed_all_sizes time [] w = (refl, refl)
pushed_all_sizes time (lag ∷ lags) w =
    let a = pushed_all_sizes time lags (pushed lag time w) in
    let b = pushed_sizes lag time w in
    (a.0 ∙ b.0, a.1 ∙ b.1)
