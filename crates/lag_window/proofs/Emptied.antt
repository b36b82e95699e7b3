-- A window whose lists are zeroed is the cleared one, and its sums are zero. Assumes nothing.
use Rattle.std.specs.Prelude.{◌≡◌, ℕ, List, length, replicate}
use mathlib.Core.Path.{sym, ap, ◌∙◌}
use Rattle.rules_window.specs.Window.{fresh, cleared}
use Rattle.rules_window.specs.WholeWindow.{Shaped}
use Rattle.rules_window.specs.ColumnSums.{column_sums}
use Rattle.rules_window.proofs.SumsKept.{fresh_sums}
use Rattle.lag_window.specs.declared.LagWindow.{LagWindow}
use Rattle.lag_window.specs.Lent.{lent}

pub emptied_is : (w : LagWindow) (s t c s1 t1 c1 : List ℕ) → Shaped (lent w s t c) → s1 ≡ replicate (length s) 0 → t1 ≡ replicate (length t) 0 → c1 ≡ replicate (length c) 0 → lent (record { seconds = 0; buckets = w.buckets; width = w.width }) s1 t1 c1 ≡ cleared (lent w s t c)
unfolding fresh
emptied_is w s t c s1 t1 c1 h es et ec = rw (es, et, ec, h.starts_long, h.totals_long, h.counts_long)

pub emptied_sums : (w : LagWindow) (us us1 : List ℕ) → length us ≡ w.buckets → us1 ≡ replicate (length us) 0 → us1 ≡ column_sums (fresh w.buckets w.width)
emptied_sums w us us1 l e = e ∙ (ap (λ (n : ℕ). replicate n 0) l ∙ sym (fresh_sums w.buckets w.width))
