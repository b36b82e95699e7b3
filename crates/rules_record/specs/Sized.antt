-- The record's three tables have their lengths, as in every value of the program's type. Assumes nothing.
use Rattle.std.specs.Prelude.{◌≡◌, length}
use Rattle.rules_record.specs.declared.Inputs.{Inputs}

pub record Sized (s : Inputs) : Type 0 where
  pub slots : length s.slots ≡ 16
  pub flows : length s.flows ≡ 64
  pub instances : length s.instances ≡ 18
