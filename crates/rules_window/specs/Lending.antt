-- The lists lent for a window: a call that changes what stands in them leaves them the same lists. Assumes nothing.
use Rattle.std.specs.Prelude.{◌≡◌}
use Rattle.rules_window.specs.declared.WindowLists.{WindowLists}

pub record SameWindow (before after : WindowLists) : Type 0 where
  pub starts : after.starts.ghost_name ≡ before.starts.ghost_name
  pub totals : after.totals.ghost_name ≡ before.totals.ghost_name
  pub counts : after.counts.ghost_name ≡ before.counts.ghost_name
  pub sums : after.sums.ghost_name ≡ before.sums.ghost_name
