-- `inputs_checks::inner::lists_fit` meets its contract. Assumes nothing.
use Rattle.rules_record.proofs.RecordCases.{counts_fit, sums_fit}
use Rattle.inputs_checks.proofs.inner.lists_fit.Goals as goal

pub overflow_mul-n-then-lists-n-2 : goal.overflow_mul-n-then-lists-n-2
overflow_mul-n-then-lists-n-2 c = counts_fit _ _ c.requires.0 c.requires.1

pub overflow_mul-n-then-lists-n-3 : goal.overflow_mul-n-then-lists-n-3
overflow_mul-n-then-lists-n-3 c = sums_fit _ _ c.requires.0 c.requires.1
