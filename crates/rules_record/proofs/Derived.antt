-- What the derived comparisons of the record's types say, in the definitions' words. Assumes nothing.
use Rattle.std.specs.Prelude.{◌≡◌, Bool, true, false, ◌&&◌, ◌==◌, not, nat_lt, Option, None, Some}
use Rattle.std.specs.Option.{option_eq}
use Rattle.std.specs.Ordering.{partial_lt}
use mathlib.Core.Path.{refl, sym, ◌∙◌}
use borrow.Author.Tests.{eqb-true, eqb-false}
use denote.Enum.Bare.{sameb}
use Rattle.base.specs.Choice.{both}
use Rattle.rules_record.specs.contracts.State.{the_type}
use Rattle.rules_record.specs.contracts.StatePartialOrd.TheImpl as state
use Rattle.rules_record.specs.contracts.FlowPartialEq.TheImpl as flow
use Rattle.rules_record.specs.contracts.InstancePartialEq.TheImpl as instance
use Rattle.rules_record.specs.declared.State.{State}
use Rattle.rules_record.specs.declared.State.TheVariants.{Unrouted, Waiting, Running, Stalled}
use Rattle.rules_record.specs.declared.Flow.{Flow}
use Rattle.rules_record.specs.declared.Instance.{Instance}
use Rattle.rules_record.specs.States.{state_number, is_routed}
use Rattle.rules_record.specs.Flows.{same_flow}
use Rattle.rules_record.specs.Instances.{same_key}
use Rattle.rules_record.specs.Prune.{is_extra}

and_both : (a b : Bool) → (a && b) ≡ both a b
unfolding both
and_both true b = refl
and_both false b = refl

not_false : (b : Bool) → not b ≡ false → b ≡ true
not_false true e = refl
not_false false e = sym e

not_true : (b : Bool) → not b ≡ true → b ≡ false
not_true true e = sym e
not_true false e = refl

-- flows are equal where they are the same 16 bytes
pub flow_eq : (a b : Flow) → (flow.eq-value).it a b ≡ same_flow a b
unfolding same_flow
flow_eq a b = and_both _ _

-- instances are equal where flow and inode are
pub key_eq : (a b : Instance) → (instance.eq-value).it a b ≡ same_key a b
unfolding same_key
key_eq a b = and_both _ _

pub extra_eq : (extra : Option Instance) (key : Instance) → option_eq (instance.eq-value).it extra (Some key) ≡ is_extra extra key
extra_eq None key = refl
extra_eq (Some one) key = key_eq one key

-- states are equal where their numbers are
pub state_eq : (a b : State) → sameb the_type a b ≡ (state_number a == state_number b)
state_eq Unrouted Unrouted = refl
state_eq Unrouted Waiting = refl
state_eq Unrouted Running = refl
state_eq Unrouted Stalled = refl
state_eq Waiting Unrouted = refl
state_eq Waiting Waiting = refl
state_eq Waiting Running = refl
state_eq Waiting Stalled = refl
state_eq Running Unrouted = refl
state_eq Running Waiting = refl
state_eq Running Running = refl
state_eq Running Stalled = refl
state_eq Stalled Unrouted = refl
state_eq Stalled Waiting = refl
state_eq Stalled Running = refl
state_eq Stalled Stalled = refl

-- what a test of the code told of a state's number
module _ (a b : State) {r : Bool} where
  pub state_same : r ≡ sameb the_type a b → r ≡ true → state_number a ≡ state_number b
  state_same e h = eqb-true _ _ (sym (state_eq a b) ∙ sym e ∙ h)

  pub state_other : r ≡ sameb the_type a b → r ≡ false → state_number a ≡ state_number b → ⊥
  state_other e h = eqb-false _ _ (sym (state_eq a b) ∙ sym e ∙ h)

  pub state_not_other : r ≡ not (sameb the_type a b) → r ≡ false → state_number a ≡ state_number b
  state_not_other e h = eqb-true _ _ (sym (state_eq a b) ∙ not_false _ (sym e ∙ h))

  pub state_not_same : r ≡ not (sameb the_type a b) → r ≡ true → state_number a ≡ state_number b → ⊥
  state_not_same e h = eqb-false _ _ (sym (state_eq a b) ∙ not_true _ (sym e ∙ h))

-- .. and in the order of their numbers
pub state_lt : (a b : State) → partial_lt (state.partial_cmp-value).it a b ≡ nat_lt (state_number a) (state_number b)
state_lt Unrouted Unrouted = refl
state_lt Unrouted Waiting = refl
state_lt Unrouted Running = refl
state_lt Unrouted Stalled = refl
state_lt Waiting Unrouted = refl
state_lt Waiting Waiting = refl
state_lt Waiting Running = refl
state_lt Waiting Stalled = refl
state_lt Running Unrouted = refl
state_lt Running Waiting = refl
state_lt Running Running = refl
state_lt Running Stalled = refl
state_lt Stalled Unrouted = refl
state_lt Stalled Waiting = refl
state_lt Stalled Running = refl
state_lt Stalled Stalled = refl

-- all but Unrouted have a route
pub state_routed : (a : State) → not (sameb the_type a Unrouted) ≡ is_routed a
state_routed Unrouted = refl
state_routed Waiting = refl
state_routed Running = refl
state_routed Stalled = refl
