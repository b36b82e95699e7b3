-- `inputs_instances::make` meets its contract. Assumes nothing.
use borrow.Author.Tests.{lt-ltb, le-ltb}
use Rattle.rules_record.specs.Instances.{made}
use Rattle.inputs_instances.proofs.make.Goals as goal

pub returns-then-n-lt18 : goal.returns-then-n-lt18
unfolding made
returns-then-n-lt18 c = rw (lt-ltb _ _ c.if-n-lt18.true)

pub returns : goal.returns
unfolding made
returns c = rw (le-ltb _ _ c.if-n-lt18.false)
