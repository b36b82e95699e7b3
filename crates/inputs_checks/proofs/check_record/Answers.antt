-- `inputs_checks::check_record` meets its contract: that a table has its places is what the program knows of a value of its type. Assumes nothing.
use Rattle.inputs_checks.proofs.check_record.Goals as goal

pub returns : goal.returns
returns c = let args = c.args in let good = c.well_formed.0.1.1 in record { value = c.check_all.ensures; sized = record { slots = good.1.1.1.1.1.0.1.0.1; flows = good.1.1.1.1.1.1.0.1.0.1; instances = good.1.1.1.1.1.1.1.1.1.0.1.0.1 } }
