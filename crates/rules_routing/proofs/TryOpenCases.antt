-- The definitions of opening as the code comes to them, each under what leads to it. Assumes nothing.
use Rattle.base.specs.Choice.{both}
use lib.Dec.{eqb}
use Rattle.std.specs.Prelude.{None, Option, Some}
use Prim.Native.Nat.{ℕ, ◌+◌, min}
use mathlib.Core.Bool.{true, false}
use mathlib.Core.Path.{◌≡◌, sym, ap, ◌∙◌}
use borrow.Author.Tests.{eq-eqb, ne_eqb}
use Rattle.base.proofs.Choices.{yes_pick, no_pick}
use Rattle.delay_hold.specs.declared.DelayHold.{DelayHold}
use Rattle.delay_hold.specs.Next.{seeded_hold}
use Rattle.rules_record.specs.declared.Slot.{Slot}
use Rattle.rules_record.specs.declared.Route.{Route}
use Rattle.rules_record.specs.declared.Instance.{Instance}
use Rattle.rules_record.specs.declared.Inputs.{Inputs}
use Rattle.rules_record.specs.declared.State.TheVariants.{Running}
use Rattle.rules_record.specs.Slots.{with_state, with_inode, with_head, with_reopens, with_hold, with_last_input, is_auto}
use Rattle.rules_record.specs.States.{state_number}
use Rattle.rules_record.specs.Inputs.{slot_at, put_slot}
use Rattle.rules_record.specs.Commands.{set_input, quiet, send_first}
use Rattle.rules_record.specs.Flows.{recalled}
use Rattle.rules_record.specs.Instances.{found_key, made}
use Rattle.rules_record.specs.Prune.{pruned}
use Rattle.rules_record.proofs.InstanceKeys.{made_rest, pruned_rest}
use Rattle.rules_routing.specs.declared.World.{World}
use Rattle.rules_routing.specs.TryOpen.{running_slot, opened_slot, starts_anew, seeded_at, start_at, start_of, start_by, recall_of, open_with, open_reader, open_at, open_seen, open_routed, try_open_of}

-- ---- the slot
module _ (slot : Slot) (inode head time : ℕ) {number : ℕ} (code : number ≡ state_number slot.state) where
  abbrev placed : Slot
  placed = with_inode (with_last_input slot time) (Some inode)

  pub running_stalled : number ≡ 3 → with_head placed head slot.head_changed ≡ running_slot slot inode head time
  unfolding running_slot
  running_stalled h = sym (yes_pick _ _ (eq-eqb _ _ (sym code ∙ h)))

  pub running_now : (number ≡ 3 → ⊥) → with_head (with_state placed Running) head time ≡ running_slot slot inode head time
  unfolding running_slot
  running_now h = sym (no_pick _ _ (ne_eqb _ _ (λ q. h (code ∙ q))))

  module _ {runs : Slot} (e : runs ≡ running_slot slot inode head time) where
    pub opened_waiting : number ≡ 1 → runs ≡ opened_slot slot inode head time
    unfolding opened_slot
    opened_waiting h = e ∙ sym (yes_pick _ _ (eq-eqb _ _ (sym code ∙ h)))

    pub opened_again : (number ≡ 1 → ⊥) → with_reopens runs (slot.reopens + 1) ≡ opened_slot slot inode head time
    unfolding opened_slot
    opened_again h = ap (λ (x : Slot). with_reopens x (slot.reopens + 1)) e ∙ sym (no_pick _ _ (ne_eqb _ _ (λ q. h (code ∙ q))))

module _ (slot : Slot) where
  pub starts_manual : is_auto slot.config.extra_delay ≡ false → false ≡ starts_anew slot
  unfolding starts_anew both
  starts_manual h = sym (no_pick _ _ h)

  module _ (auto : is_auto slot.config.extra_delay ≡ true) {number : ℕ} (code : number ≡ state_number slot.state) where
    pub starts_other : (number ≡ 1 → ⊥) → false ≡ starts_anew slot
    unfolding starts_anew both
    starts_other h = sym (yes_pick _ _ auto ∙ no_pick _ _ (ne_eqb _ _ (λ q. h (code ∙ q))))

    pub starts_waiting : number ≡ 1 → eqb slot.delay 0 ≡ starts_anew slot
    unfolding starts_anew both
    starts_waiting h = sym (yes_pick _ _ auto ∙ yes_pick _ _ (eq-eqb _ _ (sym code ∙ h)))

pub seeded_by : (s : Inputs) (i delay time : ℕ) {slot : Slot} {hold : DelayHold} {r : Inputs} → slot ≡ slot_at s i → hold ≡ seeded_hold slot.hold delay time → r ≡ put_slot s i (with_hold slot hold)
    → r ≡ seeded_at i delay time s
unfolding seeded_at
seeded_by s i delay time {slot} e f g =
    g
    ∙ ap (put_slot s i) (ap (with_hold slot) f ∙ ap (λ (x : Slot). with_hold x (seeded_hold x.hold delay time)) e)

-- ---- the delay that it starts with
pub start_by_law : (s : Inputs) (i last time : ℕ) {delay : ℕ} → delay ≡ min last s.policy.delay_max → start_of s i last time ≡ start_at delay s i time
unfolding start_of
start_by_law s i last time e = ap (λ (d : ℕ). start_at d s i time) (sym e)

module _ (slot : Slot) (place : ℕ) (s : Inputs) (i time : ℕ) where
  pub recall_not : starts_anew slot ≡ false → recall_of slot place s i time ≡ quiet s
  unfolding recall_of
  recall_not h = no_pick _ _ h

  module _ (h : starts_anew slot ≡ true) {remembered : Option ℕ} (e : remembered ≡ recalled s place) where
    recall_by : recall_of slot place s i time ≡ start_by remembered s i time
    unfolding recall_of
    recall_by = yes_pick _ _ h ∙ ap (λ (x : Option ℕ). start_by x s i time) (sym e)

    pub recall_none : remembered ≡ None → recall_of slot place s i time ≡ quiet s
    unfolding start_by
    recall_none f = recall_by ∙ ap (λ (x : Option ℕ). start_by x s i time) f

    pub recall_last : {last : ℕ} → remembered ≡ Some last → recall_of slot place s i time ≡ start_of s i last time
    unfolding start_by
    recall_last f = recall_by ∙ ap (λ (x : Option ℕ). start_by x s i time) f

-- ---- the reader
module _ (place inode : ℕ) (s : Inputs) (i time : ℕ) (world : World) where
  pub reader_shut : world.reader ≡ None → open_reader world.reader place inode s i time world ≡ quiet s
  unfolding open_reader
  reader_shut h = ap (λ (x : Option ℕ). open_reader x place inode s i time world) h

  pub reader_opens : {channels : ℕ} → world.reader ≡ Some channels → {slot after : Slot} {all : Inputs} → slot ≡ slot_at s i → after ≡ opened_slot slot inode world.head time → all ≡ put_slot s i after
      → open_reader world.reader place inode s i time world ≡ send_first (set_input i channels) (recall_of slot place all i time)
  unfolding open_reader open_with
  reader_opens {channels} h {slot} e f g =
      ap (λ (x : Option ℕ). open_reader x place inode s i time world) h
      ∙ ap (λ (x : Slot). open_with x channels place inode s i time world) (sym e)
      ∙ ap (λ (z : Inputs). send_first (set_input i channels) (recall_of slot place z i time)) (sym (g ∙ ap (put_slot s i) f))

-- ---- the instance
-- making and pruning leave the slots
pub slot_pruned : (s : Inputs) (extra : Option Instance) (i : ℕ) → slot_at (pruned s extra) i ≡ slot_at s i
unfolding slot_at
slot_pruned s extra i = ap (λ (z : Inputs). slot_at z i) (pruned_rest s extra)

pub slot_made : (s : Inputs) (key : Instance) (i : ℕ) → slot_at (made s key) i ≡ slot_at s i
unfolding slot_at
slot_made s key i = ap (λ (z : Inputs). slot_at z i) (made_rest s key)

module _ (s : Inputs) (i time : ℕ) (world : World) {slot : Slot} (e : slot ≡ slot_at s i) where
  routed : try_open_of s i time world ≡ open_routed slot.route s i time world
  unfolding try_open_of
  routed = ap (λ (x : Slot). open_routed x.route s i time world) (sym e)

  pub open_nowhere : slot.route ≡ None → try_open_of s i time world ≡ quiet s
  unfolding open_routed
  open_nowhere h = routed ∙ ap (λ (x : Option Route). open_routed x s i time world) h

  module _ {route : Route} (to : slot.route ≡ Some route) where
    seen : try_open_of s i time world ≡ open_seen world.inode route.flow s i time world
    unfolding open_routed
    seen = routed ∙ ap (λ (x : Option Route). open_routed x s i time world) to

    pub open_gone : world.inode ≡ None → try_open_of s i time world ≡ quiet s
    unfolding open_seen
    open_gone h = seen ∙ ap (λ (x : Option ℕ). open_seen x route.flow s i time world) h

    module _ {inode : ℕ} (of : world.inode ≡ Some inode) where
      abbrev key : Instance
      key = record { flow = route.flow; inode = inode }

      at : try_open_of s i time world ≡ open_at key s i time world
      unfolding open_seen
      at = seen ∙ ap (λ (x : Option ℕ). open_seen x route.flow s i time world) of

      pub open_found : found_key s key ≡ true → {kept : Inputs} → kept ≡ pruned s (Some key) → try_open_of s i time world ≡ open_reader world.reader route.flow inode kept i time world
      unfolding open_at
      open_found h f = at ∙ yes_pick _ _ h ∙ ap (λ (z : Inputs). open_reader world.reader route.flow inode z i time world) (sym f)

      module _ (none : found_key s key ≡ false) where
        pub open_unmade : world.made ≡ false → try_open_of s i time world ≡ quiet s
        unfolding open_at
        open_unmade h = at ∙ no_pick _ _ none ∙ no_pick _ _ h

        pub open_made : world.made ≡ true → {more kept : Inputs} → more ≡ made s key → kept ≡ pruned more (Some key) → try_open_of s i time world ≡ open_reader world.reader route.flow inode kept i time world
        unfolding open_at
        open_made h f g =
            at
            ∙ no_pick _ _ none
            ∙ yes_pick _ _ h
            ∙ ap (λ (z : Inputs). open_reader world.reader route.flow inode z i time world) (sym (g ∙ ap (λ (z : Inputs). pruned z (Some key)) f))
