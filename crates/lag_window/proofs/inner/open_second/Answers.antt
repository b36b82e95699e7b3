-- `lag_window::inner::open_second` meets its contract. Assumes nothing.
use mathlib.Core.Path.{sym, ◌∙◌}
use Rattle.lag_window.proofs.Pushing.{opens_told, opened_yes, opened_no}
use Rattle.lag_window.proofs.inner.open_second.Goals as goal

pub bounds-starts-n : goal.bounds-starts-n
bounds-starts-n c = c.requires.seconds_in_bounds_2 (sym (opens_told _ _ _ _ c.requires.seconds_in_bounds c.opens.ensures) ∙ c.if-opens.true)

pub returns-then-opens : goal.returns-then-opens
returns-then-opens c = opened_yes _ _ _ _ (opens_told _ _ _ _ c.requires.seconds_in_bounds c.opens.ensures) c.if-opens.true

pub returns-else-opens : goal.returns-else-opens
returns-else-opens c = opened_no _ _ _ _ (opens_told _ _ _ _ c.requires.seconds_in_bounds c.opens.ensures) c.if-opens.false
