-- Document 01's checks of `route`, in their order. Assumes nothing.
use Rattle.std.specs.Prelude.{ℕ, Bool, true, None, Option, Some}
use Rattle.base.specs.Choice.{ask}
use Rattle.rules_record.specs.declared.Inputs.{Inputs}
use Rattle.rules_record.specs.Flows.{admits}
use Rattle.rules_routing.specs.declared.World.{World}
use Rattle.rules_routing.specs.ReaderCheck.{reader_fits}
use Rattle.rules_record.specs.Lent.{Lists}
use Rattle.rules_record.specs.Checks.{timed_number}
use Rattle.rules_calls.specs.declared.Source.{Source}

-- 9: "Is the flow known, or the flow table short of 64?", where a flow is given
abbrev pub wanted_fits : (s : Inputs) → Option Source → Bool
wanted_fits s None = true
wanted_fits s (Some source) = admits s source.flow

-- 1 to 8, then 9 and 10
unfoldable pub route_number : (s : Inputs) (l : Lists) (words input : ℕ) (wanted : Option Source) (time : ℕ) (world : World) → ℕ
route_number s l words input wanted time world =
    timed_number s l words input time (ask 9 (wanted_fits s wanted) (ask 10 (reader_fits world.reader) 0))
