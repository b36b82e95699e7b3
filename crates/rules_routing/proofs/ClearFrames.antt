-- Clearing an input leaves the lists of all others as they were. Assumes nothing.
use Prim.Native.Nat.{ℕ, ◌<◌}
use mathlib.Core.Path.{refl, ◌∙◌}
use lib.ListN.{length, length-replicate}
use Rattle.rules_window.specs.Window.{fresh}
use Rattle.delay_hold.specs.Next.{cleared_hold}
use Rattle.rules_record.specs.declared.Inputs.{Inputs}
use Rattle.rules_record.specs.Lent.{Lists, buckets_in, held_of, with_window}
use Rattle.rules_record.specs.Checks.{Fitting}
use Rattle.rules_record.proofs.Beside.{Beside, beside_window, beside_held, beside_then}
use Rattle.rules_record.proofs.Shapes.{held_times, held_lags}
use Rattle.rules_routing.specs.Clear.{cleared_lists}

pub cleared_beside : (s : Inputs) (l : Lists) (i : ℕ) → Fitting s l → i < s.count → Beside s.count (buckets_in s) i l (cleared_lists i s l)
unfolding fresh
cleared_beside s l i f h =
    let window : Beside s.count (buckets_in s) i l (with_window (buckets_in s) i (fresh (buckets_in s) s.width) l) = beside_window s.count (buckets_in s) i l f.long h (fresh (buckets_in s) s.width) (length-replicate {A = ℕ} 11 0) (length-replicate {A = ℕ} 11 0) (length-replicate {A = ℕ} _ 0) refl in
    beside_then s.count (buckets_in s) i l (with_window (buckets_in s) i (fresh (buckets_in s) s.width) l) (cleared_lists i s l) window
    (beside_held s.count (buckets_in s) i (with_window (buckets_in s) i (fresh (buckets_in s) s.width) l) window.long h (cleared_hold (held_of s l i))
    (length-replicate {A = ℕ} (length (held_of s l i).times) 0 ∙ held_times s l f i h)
    (length-replicate {A = ℕ} (length (held_of s l i).lags) 0 ∙ held_lags s l f i h))
