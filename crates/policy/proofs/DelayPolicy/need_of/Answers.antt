-- `policy::DelayPolicy::need_of` meets its contract. Assumes nothing.
use Rattle.base.proofs.All.{told_yes, told_no}
use Rattle.policy.proofs.Checks.{allowed_sound, refused_two, refused_four, answered}
use Rattle.policy.proofs.DelayPolicy.need_of.Goals as goal

pub returns-then-not-reaches_allowed : goal.returns-then-not-reaches_allowed
returns-then-not-reaches_allowed c = refused_two _ _ (told_no _ _ c.reaches_allowed.ensures c.if-not-reaches_allowed.true)

pub returns-then-not-margins_allowed : goal.returns-then-not-margins_allowed
returns-then-not-margins_allowed c = refused_four _ _ (told_yes _ _ c.reaches_allowed.ensures c.if-not-reaches_allowed.false) (told_no _ _ c.margins_allowed.ensures c.if-not-margins_allowed.true)

pub need-requires : goal.need-requires
need-requires c = allowed_sound _ (told_yes _ _ c.reaches_allowed.ensures c.if-not-reaches_allowed.false) (told_yes _ _ c.margins_allowed.ensures c.if-not-margins_allowed.false)

pub returns : goal.returns
returns c = answered _ _ (told_yes _ _ c.reaches_allowed.ensures c.if-not-reaches_allowed.false) (told_yes _ _ c.margins_allowed.ensures c.if-not-margins_allowed.false) c.need.ensures
