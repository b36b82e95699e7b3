-- What clearing an input, `set_delay` and the time of a SetInput come to, in the papers' words. Assumes nothing.
use Rattle.std.specs.Prelude.{Some}
use Prim.Native.Nat.{ℕ, ◌<◌}
use mathlib.Core.Bool.{true}
use mathlib.Core.Path.{◌≡◌, refl, ap, ◌∙◌}
use Rattle.base.proofs.Choices.{pick_all}
use Rattle.delay_hold.specs.Next.{fresh_hold}
use Rattle.rules_record.specs.declared.Slot.{Slot}
use Rattle.rules_record.specs.declared.Route.{Route}
use Rattle.rules_record.specs.declared.Inputs.{Inputs}
use Rattle.rules_record.specs.Slots.{is_auto, with_delay}
use Rattle.rules_record.specs.States.{is_waiting, is_stalled}
use Rattle.rules_record.specs.Inputs.{slot_at, put_slot}
use Rattle.rules_record.specs.Flows.{recalled}
use Rattle.rules_record.specs.Lent.{Lists}
use Rattle.rules_record.specs.Sized.{Sized}
use Rattle.rules_record.proofs.SlotFrame.{slot_same}
use Rattle.rules_record.proofs.Sized.{sized_put}
use Rattle.rules_record.proofs.FlowTable.{for_slot, remember_same}
use Rattle.rules_record.proofs.FlowCases.{for_automatic}
use Rattle.rules_routing.specs.Clear.{cleared_slot, cleared}
use Rattle.rules_routing.specs.SetDelay.{delay_stored}
use Rattle.rules_routing.specs.TryOpen.{running_slot, opened_slot}
use Rattle.rules_routing.specs.Watch.{lost_slot, moved_slot}
use Rattle.rules_routing.proofs.SetDelayStored.{stored_same}

module _ (i : ℕ) (low : i < 16) (s : Inputs) (h : Sized s) where
  -- "window and hold are cleared": no second is in use, and the hold is a fresh one
  pub cleared_window : (slot : Slot) (l : Lists) → (slot_at (cleared i slot s l).inputs i).lag_seconds ≡ 0
  unfolding cleared
  cleared_window slot l = ap (λ (x : Slot). x.lag_seconds) (slot_same s i (cleared_slot slot) low h.slots)

  pub cleared_hold_law : (slot : Slot) (l : Lists) → (slot_at (cleared i slot s l).inputs i).hold ≡ fresh_hold
  unfolding cleared
  cleared_hold_law slot l = ap (λ (x : Slot). x.hold) (slot_same s i (cleared_slot slot) low h.slots)

  module _ (delay time : ℕ) where
    abbrev placed : Inputs
    placed = put_slot s i (with_delay (slot_at s i) delay time)

    -- "`set_delay` stores"
    pub set_delay_stores : (slot_at (delay_stored s i delay time) i).delay ≡ delay
    unfolding delay_stored
    set_delay_stores = ap (λ (x : Slot). x.delay) (for_slot placed (slot_at s i) _ i ∙ slot_same s i (with_delay (slot_at s i) delay time) low h.slots)

    -- "remembers the delay for the flow if routed and automatic"
    pub set_delay_remembers : {route : Route} → (slot_at s i).route ≡ Some route → is_auto (slot_at s i).config.extra_delay ≡ true → route.flow < 64 → recalled (delay_stored s i delay time) route.flow ≡ Some delay
    unfolding delay_stored
    set_delay_remembers {route} to auto known =
        ap (λ (z : Inputs). recalled z route.flow) (for_automatic placed (slot_at s i) delay to auto)
        ∙ remember_same placed route.flow delay known (sized_put s i (with_delay (slot_at s i) delay time) h)

    -- a SetDelay leaves the time of the last SetInput
    pub set_delay_leaves_the_opening : (slot_at (delay_stored s i delay time) i).last_input ≡ (slot_at s i).last_input
    set_delay_leaves_the_opening = ap (λ (x : Slot). x.last_input) (stored_same s i delay time low h)

-- ---- document 02, §4: "The time of the last SetInput joins the input's record."
module _ (slot : Slot) where
  -- an input that opens has it, one that is still Stalled too
  pub opening_stores_its_time : (inode head time : ℕ) → (opened_slot slot inode head time).last_input ≡ Some time
  unfolding opened_slot running_slot
  opening_stores_its_time inode head time =
      pick_all (λ (x : Slot). x.last_input ≡ Some time) (is_waiting slot.state)
      (pick_all (λ (x : Slot). x.last_input ≡ Some time) (is_stalled slot.state) refl refl)
      (pick_all (λ (x : Slot). x.last_input ≡ Some time) (is_stalled slot.state) refl refl)

  -- .. and the time of the last SetDelay as it was
  pub opening_leaves_the_delays_time : (inode head time : ℕ) → (opened_slot slot inode head time).last_set ≡ slot.last_set
  unfolding opened_slot running_slot
  opening_leaves_the_delays_time inode head time =
      pick_all (λ (x : Slot). x.last_set ≡ slot.last_set) (is_waiting slot.state)
      (pick_all (λ (x : Slot). x.last_set ≡ slot.last_set) (is_stalled slot.state) refl refl)
      (pick_all (λ (x : Slot). x.last_set ≡ slot.last_set) (is_stalled slot.state) refl refl)

  -- a flow that is gone (ClearInput), a head that moves, a window and a hold that are cleared leave it
  pub gone_leaves_the_opening : (lost_slot slot).last_input ≡ slot.last_input
  unfolding lost_slot
  gone_leaves_the_opening = refl

  pub head_leaves_the_opening : (head time : ℕ) → (moved_slot slot head time).last_input ≡ slot.last_input
  unfolding moved_slot
  head_leaves_the_opening head time = pick_all (λ (x : Slot). x.last_input ≡ slot.last_input) (is_stalled slot.state) refl refl

  pub head_leaves_the_delays_time : (head time : ℕ) → (moved_slot slot head time).last_set ≡ slot.last_set
  unfolding moved_slot
  head_leaves_the_delays_time head time = pick_all (λ (x : Slot). x.last_set ≡ slot.last_set) (is_stalled slot.state) refl refl

  pub clearing_leaves_the_opening : (cleared_slot slot).last_input ≡ slot.last_input
  clearing_leaves_the_opening = refl
