-- `inputs_new::check_settings` meets its contract. Assumes nothing.
use Rattle.std.proofs.Common.{refl, rules}
use Rattle.std.specs.Prelude.{◌≡◌, Err}
use Rattle.refusals.proofs.Answers.{never_zero}
use Rattle.base.proofs.All.{told_no, told_yes}
use Rattle.buckets.proofs.Told.{buckets_asked, ranges_let}
use Rattle.rules_record.specs.Lending.{lists_seen}
use Rattle.rules_calls.proofs.NewReplies.{refused_one, refused_ranges, refused_three, refused_four, count_asked, lists_asked, refused_lists, refused_words, refused_bytes, passed_settings}
use Rattle.inputs_new.proofs.check_settings.Goals as goal

pub returns-then-not-inputs_allowed : goal.returns-then-not-inputs_allowed
returns-then-not-inputs_allowed c = refused_one _ _ _ _ _ (told_no _ _ c.inputs_allowed.ensures c.if-not-inputs_allowed.true)

pub returns-in_err-check_ranges : goal.returns-in_err-check_ranges
returns-in_err-check_ranges c = let e : c.from_residual.result ≡ Err c.in_err-check_ranges.field-0.0 = search rules in rw e (refused_ranges _ _ _ _ _ (told_yes _ _ c.inputs_allowed.ensures c.if-not-inputs_allowed.false) c.in_err-check_ranges.ensures (never_zero _))

pub returns-then-not-pauses_allowed : goal.returns-then-not-pauses_allowed
returns-then-not-pauses_allowed c = refused_three _ _ _ _ _ (told_yes _ _ c.inputs_allowed.ensures c.if-not-inputs_allowed.false) (ranges_let _ _ _ c.in_ok-check_ranges.ensures refl) c.policy_of-policy.ensures (told_no _ _ c.pauses_allowed.ensures c.if-not-pauses_allowed.true)

pub returns-then-not-margin_fits : goal.returns-then-not-margin_fits
returns-then-not-margin_fits c = refused_four _ _ _ _ _ (told_yes _ _ c.inputs_allowed.ensures c.if-not-inputs_allowed.false) (ranges_let _ _ _ c.in_ok-check_ranges.ensures refl) c.policy_of-policy.ensures (told_yes _ _ c.pauses_allowed.ensures c.if-not-pauses_allowed.false) (told_no _ _ c.margin_fits.ensures c.if-not-margin_fits.true)

pub buckets_of-buckets-requires : goal.buckets_of-buckets-requires
buckets_of-buckets-requires c = buckets_asked _ _ _ (ranges_let _ _ _ c.in_ok-check_ranges.ensures refl)

pub lists_fit-requires : goal.lists_fit-requires
lists_fit-requires c = lists_asked c.args.settings c.args.bytes c.args.delays (lists_seen c.args.lists) c.args.words (told_yes _ _ c.inputs_allowed.ensures c.if-not-inputs_allowed.false) (ranges_let _ _ _ c.in_ok-check_ranges.ensures refl) c.policy_of-policy.ensures (told_yes _ _ c.pauses_allowed.ensures c.if-not-pauses_allowed.false) (told_yes _ _ c.margin_fits.ensures c.if-not-margin_fits.false) c.buckets_of-buckets.ensures

pub returns-then-not-lists_fit : goal.returns-then-not-lists_fit
returns-then-not-lists_fit c = refused_lists _ _ _ _ _ (told_yes _ _ c.inputs_allowed.ensures c.if-not-inputs_allowed.false) (ranges_let _ _ _ c.in_ok-check_ranges.ensures refl) c.policy_of-policy.ensures (told_yes _ _ c.pauses_allowed.ensures c.if-not-pauses_allowed.false) (told_yes _ _ c.margin_fits.ensures c.if-not-margin_fits.false) c.buckets_of-buckets.ensures (told_no _ _ c.lists_fit.ensures c.if-not-lists_fit.true)

pub output_fits-requires : goal.output_fits-requires
output_fits-requires c = count_asked c.args.settings c.args.bytes c.args.delays (lists_seen c.args.lists) c.args.words (told_yes _ _ c.inputs_allowed.ensures c.if-not-inputs_allowed.false) (ranges_let _ _ _ c.in_ok-check_ranges.ensures refl) c.policy_of-policy.ensures (told_yes _ _ c.pauses_allowed.ensures c.if-not-pauses_allowed.false)

pub returns-then-not-output_fits : goal.returns-then-not-output_fits
returns-then-not-output_fits c = refused_words _ _ _ _ _ (told_yes _ _ c.inputs_allowed.ensures c.if-not-inputs_allowed.false) (ranges_let _ _ _ c.in_ok-check_ranges.ensures refl) c.policy_of-policy.ensures (told_yes _ _ c.pauses_allowed.ensures c.if-not-pauses_allowed.false) (told_yes _ _ c.margin_fits.ensures c.if-not-margin_fits.false) c.buckets_of-buckets.ensures (told_yes _ _ c.lists_fit.ensures c.if-not-lists_fit.false) (told_no _ _ c.output_fits.ensures c.if-not-output_fits.true)

pub returns-then-not-bytes_fit : goal.returns-then-not-bytes_fit
returns-then-not-bytes_fit c = refused_bytes _ _ _ _ _ (told_yes _ _ c.inputs_allowed.ensures c.if-not-inputs_allowed.false) (ranges_let _ _ _ c.in_ok-check_ranges.ensures refl) c.policy_of-policy.ensures (told_yes _ _ c.pauses_allowed.ensures c.if-not-pauses_allowed.false) (told_yes _ _ c.margin_fits.ensures c.if-not-margin_fits.false) c.buckets_of-buckets.ensures (told_yes _ _ c.lists_fit.ensures c.if-not-lists_fit.false) (told_yes _ _ c.output_fits.ensures c.if-not-output_fits.false) (told_no _ _ c.bytes_fit.ensures c.if-not-bytes_fit.true)

pub returns : goal.returns
returns c = passed_settings _ _ _ _ _ (told_yes _ _ c.inputs_allowed.ensures c.if-not-inputs_allowed.false) (ranges_let _ _ _ c.in_ok-check_ranges.ensures refl) c.policy_of-policy.ensures (told_yes _ _ c.pauses_allowed.ensures c.if-not-pauses_allowed.false) (told_yes _ _ c.margin_fits.ensures c.if-not-margin_fits.false) c.buckets_of-buckets.ensures (told_yes _ _ c.lists_fit.ensures c.if-not-lists_fit.false) (told_yes _ _ c.output_fits.ensures c.if-not-output_fits.false) (told_yes _ _ c.bytes_fit.ensures c.if-not-bytes_fit.false)
