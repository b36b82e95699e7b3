-- `inputs_checks::check_all` meets its contract. Assumes nothing.
use Rattle.std.proofs.Common.{refl, rules}
use Rattle.std.specs.Prelude.{◌≡◌, ℕ, true, Err}
use Rattle.refusals.proofs.Answers.{never_zero}
use mathlib.Core.Path.{◌∙◌, sym}
use Rattle.base.proofs.Choices.{no_ask, yes_ask}
use Rattle.base.proofs.All.{told_no, told_yes}
use Rattle.buckets.proofs.Told.{buckets_asked, ranges_stop, ranges_let, ranges_go}
use Rattle.rules_record.specs.Lending.{lists_seen}
use Rattle.base.specs.Choice.{ask}
use Rattle.buckets.specs.Ranges.{ranges_number}
use Rattle.policy.specs.Settings.{margins_allowed}
use Rattle.rules_record.specs.declared.Inputs.{Inputs}
use Rattle.rules_record.specs.declared.Output.{Output}
use Rattle.rules_record.specs.Lent.{Lists, buckets_in}
use Rattle.rules_record.specs.WholeRecord.{whole_record}
use Rattle.rules_record.specs.Checks.{inputs_allowed, pauses_allowed, lists_fit, output_fits, record_number}
use Rattle.rules_record.proofs.Checked.{allowed_of, long_of}
use Rattle.rules_record.proofs.RecordCases.{inputs_few, told_lists}
use Rattle.inputs_checks.proofs.check_all.Goals as goal

-- the checks so far have let through: the number is that of those that follow
module _ (s : Inputs) (l : Lists) (output : Output) where
  after_two : inputs_allowed s.count ≡ true → 0 ≡ ranges_number s.policy.read_offset s.policy.delay_max s.width 0 → {m : ℕ} → m ≡ ask 3 (pauses_allowed s.policy s.stall) (ask 4 (margins_allowed s.policy) (ask 5 (lists_fit s.count (buckets_in s) l) (ask 5 (output_fits s.count output) (ask 6 (whole_record s l) 0)))) → m ≡ record_number s l output 0
  unfolding record_number
  after_two one two e = e ∙ sym (yes_ask 1 _ one ∙ ranges_go _ _ _ two refl _)

  module _ (one : inputs_allowed s.count ≡ true) (two : 0 ≡ ranges_number s.policy.read_offset s.policy.delay_max s.width 0) (three : pauses_allowed s.policy s.stall ≡ true) where
    after_three : {m : ℕ} → m ≡ ask 4 (margins_allowed s.policy) (ask 5 (lists_fit s.count (buckets_in s) l) (ask 5 (output_fits s.count output) (ask 6 (whole_record s l) 0))) → m ≡ record_number s l output 0
    after_three e = after_two one two (e ∙ sym (yes_ask 3 _ three))

    after_four : margins_allowed s.policy ≡ true → {m : ℕ} → m ≡ ask 5 (lists_fit s.count (buckets_in s) l) (ask 5 (output_fits s.count output) (ask 6 (whole_record s l) 0)) → m ≡ record_number s l output 0
    after_four four e = after_three (e ∙ sym (yes_ask 4 _ four))

pub returns-in_err-check_ranges : goal.returns-in_err-check_ranges
unfolding record_number
returns-in_err-check_ranges c = let e : c.from_residual.result ≡ Err c.in_err-check_ranges.field-0.0 = search rules in rw e (sym (yes_ask 1 _ (told_yes _ _ c.inputs_allowed.ensures c.if-not-inputs_allowed.false) ∙ ranges_stop _ _ _ c.in_err-check_ranges.ensures (never_zero _) _))

pub returns-then-not-pauses_allowed : goal.returns-then-not-pauses_allowed
returns-then-not-pauses_allowed c = let args = c.args in after_two args.inputs (lists_seen args.lists) args.output (told_yes _ _ c.inputs_allowed.ensures c.if-not-inputs_allowed.false) c.in_ok-check_ranges.ensures (sym (no_ask 3 _ (told_no _ _ c.pauses_allowed.ensures c.if-not-pauses_allowed.true)))

pub returns-then-not-margins_allowed : goal.returns-then-not-margins_allowed
returns-then-not-margins_allowed c = let args = c.args in after_three args.inputs (lists_seen args.lists) args.output (told_yes _ _ c.inputs_allowed.ensures c.if-not-inputs_allowed.false) c.in_ok-check_ranges.ensures (told_yes _ _ c.pauses_allowed.ensures c.if-not-pauses_allowed.false) (sym (no_ask 4 _ (told_no _ _ c.margins_allowed.ensures c.if-not-margins_allowed.true)))

pub buckets_of-buckets-requires : goal.buckets_of-buckets-requires
buckets_of-buckets-requires c = buckets_asked _ _ _ (ranges_let _ _ _ c.in_ok-check_ranges.ensures refl)

pub lists_fit-requires : goal.lists_fit-requires
lists_fit-requires c = let args = c.args in (inputs_few args.inputs.count (told_yes _ _ c.inputs_allowed.ensures c.if-not-inputs_allowed.false), rw c.buckets_of-buckets.ensures (ranges_let _ _ _ c.in_ok-check_ranges.ensures refl).buckets_most)

pub returns-then-not-lists_fit : goal.returns-then-not-lists_fit
returns-then-not-lists_fit c = let args = c.args in after_four args.inputs (lists_seen args.lists) args.output (told_yes _ _ c.inputs_allowed.ensures c.if-not-inputs_allowed.false) c.in_ok-check_ranges.ensures (told_yes _ _ c.pauses_allowed.ensures c.if-not-pauses_allowed.false) (told_yes _ _ c.margins_allowed.ensures c.if-not-margins_allowed.false) (sym (no_ask 5 _ (told_no _ _ (told_lists args.inputs (lists_seen args.lists) c.buckets_of-buckets.ensures c.lists_fit.ensures) c.if-not-lists_fit.true)))

pub output_fits-requires : goal.output_fits-requires
output_fits-requires c = inputs_few c.args.inputs.count (told_yes _ _ c.inputs_allowed.ensures c.if-not-inputs_allowed.false)

pub returns-then-not-output_fits : goal.returns-then-not-output_fits
returns-then-not-output_fits c = let args = c.args in after_four args.inputs (lists_seen args.lists) args.output (told_yes _ _ c.inputs_allowed.ensures c.if-not-inputs_allowed.false) c.in_ok-check_ranges.ensures (told_yes _ _ c.pauses_allowed.ensures c.if-not-pauses_allowed.false) (told_yes _ _ c.margins_allowed.ensures c.if-not-margins_allowed.false) (sym (yes_ask 5 _ (told_yes _ _ (told_lists args.inputs (lists_seen args.lists) c.buckets_of-buckets.ensures c.lists_fit.ensures) c.if-not-lists_fit.false) ∙ no_ask 5 _ (told_no _ _ c.output_fits.ensures c.if-not-output_fits.true)))

pub whole-requires : goal.whole-requires
whole-requires c = let args = c.args in record { allowed = allowed_of _ _ _ _ (told_yes _ _ c.inputs_allowed.ensures c.if-not-inputs_allowed.false) (ranges_let _ _ _ c.in_ok-check_ranges.ensures refl) (told_yes _ _ c.pauses_allowed.ensures c.if-not-pauses_allowed.false) (told_yes _ _ c.margins_allowed.ensures c.if-not-margins_allowed.false); long = long_of _ _ (lists_seen args.lists) (told_yes _ _ (told_lists args.inputs (lists_seen args.lists) c.buckets_of-buckets.ensures c.lists_fit.ensures) c.if-not-lists_fit.false) }

pub returns-then-not-whole : goal.returns-then-not-whole
returns-then-not-whole c = let args = c.args in after_four args.inputs (lists_seen args.lists) args.output (told_yes _ _ c.inputs_allowed.ensures c.if-not-inputs_allowed.false) c.in_ok-check_ranges.ensures (told_yes _ _ c.pauses_allowed.ensures c.if-not-pauses_allowed.false) (told_yes _ _ c.margins_allowed.ensures c.if-not-margins_allowed.false) (sym (yes_ask 5 _ (told_yes _ _ (told_lists args.inputs (lists_seen args.lists) c.buckets_of-buckets.ensures c.lists_fit.ensures) c.if-not-lists_fit.false) ∙ yes_ask 5 _ (told_yes _ _ c.output_fits.ensures c.if-not-output_fits.false) ∙ no_ask 6 _ (told_no _ _ c.whole.ensures c.if-not-whole.true)))

pub returns : goal.returns
returns c = let args = c.args in after_four args.inputs (lists_seen args.lists) args.output (told_yes _ _ c.inputs_allowed.ensures c.if-not-inputs_allowed.false) c.in_ok-check_ranges.ensures (told_yes _ _ c.pauses_allowed.ensures c.if-not-pauses_allowed.false) (told_yes _ _ c.margins_allowed.ensures c.if-not-margins_allowed.false) (sym (yes_ask 5 _ (told_yes _ _ (told_lists args.inputs (lists_seen args.lists) c.buckets_of-buckets.ensures c.lists_fit.ensures) c.if-not-lists_fit.false) ∙ yes_ask 5 _ (told_yes _ _ c.output_fits.ensures c.if-not-output_fits.false) ∙ yes_ask 6 _ (told_yes _ _ c.whole.ensures c.if-not-whole.false)))
