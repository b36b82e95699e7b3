-- "the remembered delays that the host loaded, each any u32; a flow named twice keeps the last". Assumes nothing.
use Rattle.std.specs.Prelude.{ℕ, zero, suc, ◌*◌, ◌<◌, Bool, ◌≡◌, List, get_or, Some}
use Rattle.base.specs.Lists.{all}
use Rattle.rules_record.specs.declared.Flow.{Flow}
use Rattle.rules_record.specs.declared.Inputs.{Inputs}
use Rattle.rules_record.specs.Flows.{flow_from, flow_at, recalled, admits, enrolled, flow_place, kept}

-- the flow of loaded delay k
unfoldable pub loaded_flow : (bytes : List ℕ) (k : ℕ) → Flow
loaded_flow bytes k = flow_from bytes (k * 16)

-- the flow is enrolled, and the delay is remembered for it
unfoldable pub loaded_one : (flow : Flow) (delay : ℕ) (s : Inputs) → Inputs
loaded_one flow delay s = kept (enrolled s flow) (flow_place (enrolled s flow) flow) delay

-- the first n of the loaded delays, in their order
unfoldable pub loaded_below : (n : ℕ) (bytes delays : List ℕ) (s : Inputs) → Inputs
loaded_below zero bytes delays s = s
loaded_below (suc n) bytes delays s = loaded_one (loaded_flow bytes n) (get_or delays n 0) (loaded_below n bytes delays s)

-- 9: "Is the flow known, or the flow table short of 64?", of each of n loaded delays when it is its turn
unfoldable pub load_fits : (n : ℕ) (bytes delays : List ℕ) (s : Inputs) → Bool
load_fits n bytes delays s = all (λ k. admits (loaded_below k bytes delays s) (loaded_flow bytes k)) n

-- a known flow has this delay
pub record Remembers (s : Inputs) (flow : Flow) (delay : ℕ) : Type 0 where
  pub place : ℕ
  pub known : place < s.flow_count
  pub holds : flow_at s place ≡ flow
  pub has : recalled s place ≡ Some delay
