-- Every step keeps the settings: "All calls keep the settings of `new`". Assumes nothing.
use Prim.Native.Nat.{ℕ}
use mathlib.Core.Path.{◌≡◌, refl, sym, ap, subst, ◌∙◌}
use Rattle.rules_record.specs.declared.Slot.{Slot}
use Rattle.rules_record.specs.declared.Inputs.{Inputs}
use Rattle.rules_record.specs.Inputs.{put_slot}
use Rattle.rules_record.proofs.SlotFrame.{put_rest}
use Rattle.rules_routing.specs.SetDelay.{delay_stored}
use Rattle.rules_routing.proofs.SetDelayStored.{stored_rest}
use Rattle.rules_routing.proofs.TryOpenFrame.{Frame}

-- the slots and the tables of z under the settings of s
abbrev pub under_settings : Inputs → Inputs → Inputs
under_settings s z = record {
  count = s.count;
  policy = s.policy;
  width = s.width;
  stall = s.stall;
  confirm = s.confirm;
  slots = z.slots;
  flows = z.flows;
  flow_count = z.flow_count;
  unsaved = z.unsaved;
  instances = z.instances;
  instance_count = z.instance_count;
}

-- z has the settings of s
abbrev pub SameSettings : Inputs → Inputs → Type 0
SameSettings s z = z ≡ under_settings s z

pub settings_then : (s z y : Inputs) → SameSettings s z → SameSettings z y → SameSettings s y
settings_then s z y a b = b ∙ ap (λ (x : Inputs). under_settings x y) a

pub settings_put : (s : Inputs) (i : ℕ) (slot : Slot) → SameSettings s (put_slot s i slot)
settings_put s i slot = subst (SameSettings s) (sym (put_rest s i slot)) refl

pub settings_stored : (s : Inputs) (i delay time : ℕ) → SameSettings s (delay_stored s i delay time)
settings_stored s i delay time = subst (SameSettings s) (sym (stored_rest s i delay time)) refl

-- a step on one input keeps the settings
pub settings_frame : (i : ℕ) (s z : Inputs) → Frame i s z → SameSettings s z
settings_frame i s z f = λ t. record {
  count = f.count t;
  policy = f.policy t;
  width = f.width t;
  stall = f.stall t;
  confirm = f.confirm t;
  slots = z.slots;
  flows = z.flows;
  flow_count = z.flow_count;
  unsaved = z.unsaved;
  instances = z.instances;
  instance_count = z.instance_count;
}
