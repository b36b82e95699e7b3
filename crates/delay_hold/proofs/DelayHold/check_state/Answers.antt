-- `delay_hold::DelayHold::check_state` meets its contract. Assumes nothing.
use Rattle.std.proofs.Common.{rules}
use Rattle.std.specs.Prelude.{◌≡◌, Err}
use Rattle.refusals.proofs.Answers.{time_stops, timed}
use Rattle.delay_hold.proofs.Gate.{lists_long}
use Rattle.delay_hold.specs.Checks.{held_number}
use Rattle.base.proofs.Choices.{yes_ask, no_ask}
use mathlib.Core.Path.{sym, ◌∙◌}
use Rattle.base.proofs.All.{told_yes, told_no}
use borrow.Author.Tests.{le-leb, lt-leb}
use Rattle.delay_hold.proofs.DelayHold.check_state.Goals as goal

pub returns-then-not-lists_fit : goal.returns-then-not-lists_fit
unfolding held_number
returns-then-not-lists_fit c = sym (no_ask 5 _ (told_no _ _ (c.lists_fit.ensures c.args.self) c.if-not-lists_fit.true))

pub whole-requires : goal.whole-requires
whole-requires c =
    let l = lists_long _ (told_yes _ _ (c.lists_fit.ensures c.args.self) c.if-not-lists_fit.false) in (c.requires, l.0, l.1)

pub returns-then-not-whole : goal.returns-then-not-whole
unfolding held_number
returns-then-not-whole c =
    sym (yes_ask 5 _ (told_yes _ _ (c.lists_fit.ensures c.args.self) c.if-not-lists_fit.false) ∙ no_ask 6 _ (told_no _ _ c.whole.ensures c.if-not-whole.true))

pub returns-in_err-check_time : goal.returns-in_err-check_time
unfolding held_number
returns-in_err-check_time c =
    let e : c.from_residual.result ≡ Err c.in_err-check_time.field-0.0 = search rules in
    rw e (sym (yes_ask 5 _ (told_yes _ _ (c.lists_fit.ensures c.args.self) c.if-not-lists_fit.false) ∙ yes_ask 6 _ (told_yes _ _ c.whole.ensures c.if-not-whole.false) ∙ sym (time_stops _ _ _ c.in_err-check_time.ensures)))

pub returns-then-policy-current : goal.returns-then-policy-current
unfolding held_number
returns-then-policy-current c =
    sym (yes_ask 5 _ (told_yes _ _ (c.lists_fit.ensures c.args.self) c.if-not-lists_fit.false) ∙ yes_ask 6 _ (told_yes _ _ c.whole.ensures c.if-not-whole.false) ∙ yes_ask 8 _ (le-leb _ _ (timed c.args.time c.in_ok-check_time.ensures)) ∙ no_ask 15 _ (lt-leb _ _ c.if-policy-current.true))

pub returns-then-not-lag_up_to : goal.returns-then-not-lag_up_to
unfolding held_number
returns-then-not-lag_up_to c =
    sym (yes_ask 5 _ (told_yes _ _ (c.lists_fit.ensures c.args.self) c.if-not-lists_fit.false) ∙ yes_ask 6 _ (told_yes _ _ c.whole.ensures c.if-not-whole.false) ∙ yes_ask 8 _ (le-leb _ _ (timed c.args.time c.in_ok-check_time.ensures)) ∙ yes_ask 15 _ (le-leb _ _ c.if-policy-current.false) ∙ no_ask 15 _ (told_no _ _ c.lag_up_to.ensures c.if-not-lag_up_to.true))

pub returns : goal.returns
unfolding held_number
returns c =
    sym (yes_ask 5 _ (told_yes _ _ (c.lists_fit.ensures c.args.self) c.if-not-lists_fit.false) ∙ yes_ask 6 _ (told_yes _ _ c.whole.ensures c.if-not-whole.false) ∙ yes_ask 8 _ (le-leb _ _ (timed c.args.time c.in_ok-check_time.ensures)) ∙ yes_ask 15 _ (le-leb _ _ c.if-policy-current.false) ∙ yes_ask 15 _ (told_yes _ _ c.lag_up_to.ensures c.if-not-lag_up_to.false))
