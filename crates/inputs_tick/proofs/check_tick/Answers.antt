-- `inputs_tick::check_tick` meets its contract. Assumes nothing.
use Rattle.std.proofs.Common.{refl, rules}
use Rattle.std.specs.Prelude.{◌≡◌, Err}
use Rattle.refusals.proofs.Answers.{never_zero}
use Rattle.std.specs.Prelude.{[]}
use Rattle.rules_tick.proofs.TickChecking.{tick_refused, count_most, rooms_asked, tick_late, looks_refused, lags_refused, rooms_refused, tick_passes}
use Rattle.rules_record.specs.Lending.{lists_seen}
use Rattle.inputs_tick.proofs.check_tick.Goals as goal

pub returns-in_err-check_record : goal.returns-in_err-check_record
returns-in_err-check_record c = let e : c.from_residual.result ≡ Err c.in_err-check_record.field-0.0 = search rules in rw e (record { value = tick_refused c.args.inputs (lists_seen c.args.lists) c.args.words _ c.args.lags.now c.args.time c.in_err-check_record.ensures.value (never_zero _); sized = c.in_err-check_record.ensures.sized })

pub returns-then-time-gt-TIME_LIMIT : goal.returns-then-time-gt-TIME_LIMIT
returns-then-time-gt-TIME_LIMIT c = record { value = tick_late c.args.inputs (lists_seen c.args.lists) c.args.words _ c.args.lags.now c.args.time c.in_ok-check_record.ensures.value refl c.if-time-gt-TIME_LIMIT.true; sized = c.in_ok-check_record.ensures.sized }

pub looks_fit-requires : goal.looks_fit-requires
looks_fit-requires c = count_most c.args.inputs (lists_seen c.args.lists) c.args.words [] [] 0 c.in_ok-check_record.ensures.value refl

pub returns-then-not-looks_fit : goal.returns-then-not-looks_fit
returns-then-not-looks_fit c = record { value = looks_refused c.args.inputs (lists_seen c.args.lists) c.args.words _ c.args.lags.now c.args.time c.in_ok-check_record.ensures.value refl c.if-time-gt-TIME_LIMIT.false c.looks_fit.ensures c.if-not-looks_fit.true; sized = c.in_ok-check_record.ensures.sized }

pub lags_fit-requires : goal.lags_fit-requires
lags_fit-requires c = count_most c.args.inputs (lists_seen c.args.lists) c.args.words [] [] 0 c.in_ok-check_record.ensures.value refl

pub returns-then-not-lags_fit : goal.returns-then-not-lags_fit
returns-then-not-lags_fit c = record { value = lags_refused c.args.inputs (lists_seen c.args.lists) c.args.words _ c.args.lags.now c.args.time c.in_ok-check_record.ensures.value refl c.if-time-gt-TIME_LIMIT.false c.looks_fit.ensures c.if-not-looks_fit.false c.lags_fit.ensures c.if-not-lags_fit.true; sized = c.in_ok-check_record.ensures.sized }

pub rooms_fit-requires : goal.rooms_fit-requires
rooms_fit-requires c = rooms_asked c.args.inputs (lists_seen c.args.lists) c.args.words [] [] 0 c.in_ok-check_record.ensures.value refl c.in_ok-check_record.ensures.sized

pub returns-then-not-rooms_fit : goal.returns-then-not-rooms_fit
returns-then-not-rooms_fit c = record { value = rooms_refused c.args.inputs (lists_seen c.args.lists) c.args.words _ c.args.lags.now c.args.time c.in_ok-check_record.ensures.value refl c.if-time-gt-TIME_LIMIT.false c.looks_fit.ensures c.if-not-looks_fit.false c.lags_fit.ensures c.if-not-lags_fit.false (c.rooms_fit.ensures c.args.lists.counts.now c.args.lists.sums.now c.args.lists.times.now c.args.lists.peaks.now) c.if-not-rooms_fit.true; sized = c.in_ok-check_record.ensures.sized }

pub returns : goal.returns
returns c = record { value = tick_passes c.args.inputs (lists_seen c.args.lists) c.args.words _ c.args.lags.now c.args.time c.in_ok-check_record.ensures.value refl c.if-time-gt-TIME_LIMIT.false c.looks_fit.ensures c.if-not-looks_fit.false c.lags_fit.ensures c.if-not-lags_fit.false (c.rooms_fit.ensures c.args.lists.counts.now c.args.lists.sums.now c.args.lists.times.now c.args.lists.peaks.now) c.if-not-rooms_fit.false; sized = c.in_ok-check_record.ensures.sized }
