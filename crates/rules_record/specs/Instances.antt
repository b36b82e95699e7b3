-- The instance table: which keys it has, and how one is made. Assumes nothing.
use Rattle.std.specs.Prelude.{ℕ, ◌+◌, min, Bool, ◌==◌, nat_lt, slice_index_or, slice_set}
use Rattle.base.specs.Choice.{pick, both}
use Rattle.base.specs.Lists.{all}
use Rattle.rules_record.specs.declared.Instance.{Instance}
use Rattle.rules_record.specs.declared.Inputs.{Inputs}
use Rattle.base.specs.First.{first}
use Rattle.rules_record.specs.Inputs.{with_instances}

-- "An instance for (flow, inode)"
unfoldable pub same_key : (a b : Instance) → Bool
same_key a b = both (a.flow == b.flow) (a.inode == b.inode)

-- an unused place
unfoldable pub no_key : Instance
no_key = record { flow = 0; inode = 0 }

-- the key at a place; there are 18
unfoldable pub key_at : (s : Inputs) (place : ℕ) → Instance
key_at s place = pick (nat_lt place 18) (slice_index_or s.instances place no_key) no_key

-- "a table: .. 18 instances"
unfoldable pub keys_held : Inputs → ℕ
keys_held s = min s.instance_count 18

abbrev pub holds_key : (s : Inputs) (key : Instance) (place : ℕ) → Bool
holds_key s key place = same_key (key_at s place) key

-- the first of n places that holds the key, or n
unfoldable pub key_below : (n : ℕ) (s : Inputs) (key : Instance) → ℕ
key_below n s key = first (holds_key s key) n

-- "found": whatever the domain
unfoldable pub found_key : (s : Inputs) (key : Instance) → Bool
found_key s key = nat_lt (key_below (keys_held s) s key) (keys_held s)

-- "keys distinct": no key stands at an earlier place too
abbrev pub new_key_at : (s : Inputs) (place : ℕ) → Bool
new_key_at s place = key_below place s (key_at s place) == place

unfoldable pub distinct_keys : Inputs → Bool
distinct_keys s = all (new_key_at s) (keys_held s)

-- "made": at the next place, where there is room
unfoldable pub made : (s : Inputs) (key : Instance) → Inputs
made s key = pick (nat_lt s.instance_count 18) (with_instances s (slice_set s.instances s.instance_count key) (s.instance_count + 1)) s
