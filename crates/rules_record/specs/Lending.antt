-- The lists that a call is lent, as the data that the rules speak of. Assumes nothing.
use Rattle.std.specs.Prelude.{◌≡◌}
use Rattle.rules_record.specs.Lent.{Lists, lists}
use Rattle.rules_record.specs.declared.AllLists.{AllLists}
use Rattle.rules_record.specs.declared.AllView.{AllView}

-- what stands in lent lists, and in lists that are read
abbrev pub lists_lent : AllLists → Lists
lists_lent l = lists l.starts.now l.totals.now l.counts.now l.sums.now l.times.now l.peaks.now

abbrev pub lists_seen : AllView → Lists
lists_seen l = lists l.starts.now l.totals.now l.counts.now l.sums.now l.times.now l.peaks.now

-- a call that changes what stands in lent lists leaves them the same lists
pub record SameLists (before after : AllLists) : Type 0 where
  pub starts : after.starts.ghost_name ≡ before.starts.ghost_name
  pub totals : after.totals.ghost_name ≡ before.totals.ghost_name
  pub counts : after.counts.ghost_name ≡ before.counts.ghost_name
  pub sums : after.sums.ghost_name ≡ before.sums.ghost_name
  pub times : after.times.ghost_name ≡ before.times.ghost_name
  pub peaks : after.peaks.ghost_name ≡ before.peaks.ghost_name
