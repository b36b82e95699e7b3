-- What `route` leaves: number, record, lists and commands. Assumes nothing.
use Rattle.std.specs.Prelude.{ℕ, List, length, Option}
use Rattle.rules_record.specs.declared.Inputs.{Inputs}
use Rattle.rules_routing.specs.declared.World.{World}
use Rattle.rules_record.specs.Lent.{Lists}
use Rattle.rules_record.specs.Reply.{Reply, replied}
use Rattle.rules_calls.specs.RouteChecks.{route_number}
use Rattle.rules_calls.specs.Route.{routed}
use Rattle.rules_calls.specs.declared.Source.{Source}

unfoldable pub route_reply : (s : Inputs) (l : Lists) (commands : List ℕ) (input : ℕ) (wanted : Option Source) (time : ℕ) (world : World) → Reply
route_reply s l commands input wanted time world =
    replied (route_number s l (length commands) input wanted time world) s l commands (routed input wanted time world s l)
