-- `timing::index_at` meets its contract: the whole seconds and the rest are converted apart. Assumes nothing.
use Rattle.std.proofs.Common.{rules}
use Rattle.std.specs.Prelude.{◌≡◌, Err}
use Rattle.timing.proofs.Conversion.{index_by_seconds, index_answered, index_refused}
use Rattle.timing.proofs.index_at.Goals as goal

pub returns-in_err-check_time : goal.returns-in_err-check_time
returns-in_err-check_time c = let e : c.from_residual.result ≡ Err c.in_err-check_time.field-0.0 = search rules in rw e (index_refused 48000 _ _ c.in_err-check_time.ensures)

pub returns : goal.returns
returns c = rw (index_answered 48000 c.args.ns c.in_ok-check_time.ensures, index_by_seconds)
