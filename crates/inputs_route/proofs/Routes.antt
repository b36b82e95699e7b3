-- Two routes beside each other, as the code compares them. Assumes nothing.
use Rattle.std.specs.Prelude.{◌≡◌, ℕ, Bool, true, false, ◌&&◌, None, Option, Some}
use Rattle.std.specs.Option.{is_some, option_eq}
use mathlib.Core.Path.{refl}
use Rattle.base.specs.Choice.{both}
use Rattle.base.proofs.Tests.{not_both}
use Rattle.rules_record.specs.contracts.RoutePartialEq.TheImpl as route
use Rattle.rules_record.specs.declared.Route.{Route}
use Rattle.rules_record.specs.declared.Inputs.{Inputs}
use Rattle.rules_record.specs.Commands.{quiet}
use Rattle.rules_routing.specs.declared.World.{World}
use Rattle.rules_calls.specs.Route.{equal_route, opened_for}

and_both : (a b : Bool) → (a && b) ≡ both a b
unfolding both
and_both true b = refl
and_both false b = refl

pub equal_some : (new old : Option Route) → is_some new ≡ true → option_eq (route.eq-value).it new old ≡ equal_route new old
unfolding equal_route
equal_some None old h = absurd (not_both h refl)
equal_some (Some to) None h = refl
equal_some (Some to) (Some from) h = and_both _ _

pub equal_none : (new old : Option Route) → is_some new ≡ false → false ≡ equal_route new old
unfolding equal_route
equal_none None old h = refl
equal_none (Some to) old h = absurd (not_both refl h)

pub opens_not : (new : Option Route) (i time : ℕ) (world : World) (s : Inputs) → is_some new ≡ false → opened_for new i time world s ≡ quiet s
opens_not None i time world s h = refl
opens_not (Some to) i time world s h = absurd (not_both refl h)
