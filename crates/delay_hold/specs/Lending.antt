-- A hold with the lists lent for it; a call that changes what stands in them leaves them the same lists. Assumes nothing.
use Rattle.std.specs.Prelude.{◌≡◌}
use Rattle.delay_hold.specs.declared.DelayHold.{DelayHold}
use Rattle.delay_hold.specs.declared.HoldLists.{HoldLists}
use Rattle.delay_hold.specs.declared.HoldView.{HoldView}
use Rattle.delay_hold.specs.Next.{Held, held}

abbrev pub held_lent : (h : DelayHold) → HoldLists → Held
held_lent h l = held h l.times.now l.lags.now

abbrev pub held_seen : (h : DelayHold) → HoldView → Held
held_seen h l = held h l.times.now l.lags.now

pub record SameHold (before after : HoldLists) : Type 0 where
  pub times : after.times.ghost_name ≡ before.times.ghost_name
  pub lags : after.lags.ghost_name ≡ before.lags.ghost_name
