-- Document 01, "Supervision": "Pruning keeps keys of Running and Stalled inputs and this one." Assumes nothing.
use Rattle.std.specs.Prelude.{ℕ, zero, suc, ◌-◌, Bool, true, false, List, [], ◌∷◌, ◌++◌, length, replicate, None, Option, Some}
use Rattle.base.specs.Choice.{pick}
use Rattle.rules_record.specs.declared.Slot.{Slot}
use Rattle.rules_record.specs.declared.Instance.{Instance}
use Rattle.rules_record.specs.declared.Inputs.{Inputs}
use Rattle.rules_record.specs.States.{is_shut}
use Rattle.rules_record.specs.Inputs.{slot_at, with_instances}
use Rattle.rules_record.specs.Instances.{same_key, no_key, key_at, keys_held}
use Rattle.base.specs.Any.{any}
use Rattle.rules_record.specs.declared.Route.{Route}

-- the key of a route and an inode
abbrev pub reads_at : Option ℕ → (flow : ℕ) (key : Instance) → Bool
reads_at None flow key = false
reads_at (Some inode) flow key = same_key (record { flow = flow; inode = inode }) key

abbrev pub reads_key : Option Route → (seen : Option ℕ) (key : Instance) → Bool
reads_key None seen key = false
reads_key (Some route) seen key = reads_at seen route.flow key

-- a Running or Stalled input reads it
unfoldable pub uses_key : (slot : Slot) (key : Instance) → Bool
uses_key slot key = pick (is_shut slot.state) false (reads_key slot.route slot.inode key)

-- one of the inputs does (a place that is no input is Unrouted)
unfoldable pub any_uses : (s : Inputs) (key : Instance) → Bool
any_uses s key = any (λ i. uses_key (slot_at s i) key) 16

abbrev pub is_extra : Option Instance → (key : Instance) → Bool
is_extra None key = false
is_extra (Some one) key = same_key one key

-- "Pruning keeps keys of Running and Stalled inputs and this one."
unfoldable pub wanted_key : (s : Inputs) (extra : Option Instance) (key : Instance) → Bool
wanted_key s extra key = pick (is_extra extra key) true (any_uses s key)

unfoldable pub keep_one : (s : Inputs) (extra : Option Instance) (key : Instance) → List Instance
keep_one s extra key = pick (wanted_key s extra key) (key ∷ []) []

-- of the first n places the keys that are kept, in their order
unfoldable pub kept_keys : (s : Inputs) (extra : Option Instance) → ℕ → List Instance
kept_keys s extra zero = []
kept_keys s extra (suc n) = kept_keys s extra n ++ keep_one s extra (key_at s n)

-- the keys, and unused places up to 18
unfoldable pub with_keys : (s : Inputs) (keys : List Instance) → Inputs
with_keys s keys = with_instances s (keys ++ replicate (18 - length keys) no_key) (length keys)

unfoldable pub pruned : (s : Inputs) (extra : Option Instance) → Inputs
pruned s extra = with_keys s (kept_keys s extra (keys_held s))
