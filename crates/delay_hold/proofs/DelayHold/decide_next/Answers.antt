-- `delay_hold::DelayHold::decide_next` meets its contract. Assumes nothing.
use Rattle.std.proofs.Common.{refl, rules}
use Rattle.std.specs.Prelude.{◌≡◌, Err}
use Rattle.refusals.proofs.Answers.{never_zero}
use Rattle.delay_hold.proofs.Gate.{accepted_asked, next_refused, next_told}
use Rattle.delay_hold.proofs.Seen.{number_seen}
use mathlib.Core.Path.{sym, ◌∙◌}
use native.Mathlib.Omega.{arith}
use Rattle.delay_hold.proofs.DelayHold.decide_next.Goals as goal

pub returns-in_err-check_next-clause-left : goal.returns-in_err-check_next-clause-left
returns-in_err-check_next-clause-left c = let e : c.from_residual.result ≡ Err c.in_err-check_next.field-0.0 = search rules in rw e (next_refused c.args.policy c.args.width _ c.args.p999 c.args.current c.args.time c.args.max_lag _ (c.in_err-check_next.ensures ∙ number_seen c.args.policy c.args.width c.args.self c.args.p999 c.args.current c.args.time c.view.ensures.times c.view.ensures.lags) (never_zero _))

pub next-requires : goal.next-requires
next-requires c = record { asked = accepted_asked c.args.policy c.args.width _ c.args.p999 c.args.current c.args.time (sym (c.in_ok-check_next.ensures ∙ number_seen c.args.policy c.args.width c.args.self c.args.p999 c.args.current c.args.time c.view.ensures.times c.view.ensures.lags)); millisecond_le_samples_limit = omega arith }

pub returns-clause-left : goal.returns-clause-left
returns-clause-left c =
    next_told c.args.policy c.args.width _ c.args.p999 c.args.current c.args.time c.args.max_lag _ (c.in_ok-check_next.ensures ∙ number_seen c.args.policy c.args.width c.args.self c.args.p999 c.args.current c.args.time c.view.ensures.times c.view.ensures.lags) refl c.next.result _ _ c.next.ensures.decided
