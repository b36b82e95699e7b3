-- Document 01, check 6 of a whole supervisor, with document 02's row of sums. Assumes nothing.
use Rattle.std.specs.Prelude.{ℕ, Bool, nat_lt}
use Rattle.base.specs.Choice.{pick, both}
use Rattle.base.specs.Lists.{all}
use Rattle.rules_window.specs.WholeWindow.{whole_with_sums}
use Rattle.delay_hold.specs.Whole.{whole_hold}
use Rattle.rules_record.specs.declared.Inputs.{Inputs}
use Rattle.rules_record.specs.Inputs.{slot_at}
use Rattle.rules_record.specs.Lent.{Lists, window_of, sums_of, held_of}
use Rattle.rules_record.specs.WholePlaces.{whole_slot, unused_slot, whole_flows, whole_instances}

-- input i: its seconds, "each sum to be right" (document 02, §5), its peaks with seed and timer, and the rest of its slot
unfoldable pub whole_input : (s : Inputs) (l : Lists) (i : ℕ) → Bool
whole_input s l i =
    both (whole_with_sums (window_of s l i) (sums_of s l i))
    (both (whole_hold s.policy s.width (held_of s l i))
    (whole_slot s.policy.delay_max s.flow_count (slot_at s i)))

-- an input is whole, and a slot after the inputs is not in use
abbrev pub input_fits : (s : Inputs) (l : Lists) (i : ℕ) → Bool
input_fits s l i = pick (nat_lt i s.count) (whole_input s l i) (unused_slot (slot_at s i))

unfoldable pub whole_inputs : (s : Inputs) (l : Lists) → Bool
whole_inputs s l = all (input_fits s l) 16

-- 6: "Is the record whole"
unfoldable pub whole_record : (s : Inputs) (l : Lists) → Bool
whole_record s l = both (whole_inputs s l) (both (whole_flows s) (whole_instances s))
