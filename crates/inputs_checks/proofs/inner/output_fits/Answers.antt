-- `inputs_checks::inner::output_fits` meets its contract. Assumes nothing.
use Rattle.rules_record.proofs.RecordCases.{some_words, some_bytes}
use Rattle.inputs_checks.proofs.inner.output_fits.Goals as goal

pub returns-in-Words : goal.returns-in-Words
returns-in-Words c = some_words _ _ c.in-Words.is

pub returns-in-Bytes : goal.returns-in-Bytes
returns-in-Bytes c = some_bytes _ _ c.in-Bytes.is
