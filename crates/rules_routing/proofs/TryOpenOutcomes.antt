-- What `try_open` makes of its input's slot, and what it sends: nothing, an open reader, or one that starts at the last delay. Assumes nothing.
use Rattle.std.specs.Prelude.{None, Option, Some}
use Prim.Native.Nat.{ℕ, ◌≤◌, ◌<◌, min}
use mathlib.Core.Bool.{true, false}
use mathlib.Core.Path.{◌≡◌, refl, sym, ap, subst, ◌∙◌}
use mathlib.Core.List.{List, [], ◌++◌}
use native.Mathlib.Omega.{arith}
use Rattle.base.proofs.Choices.{pick_all, pick_rule}
use Rattle.delay_hold.specs.Next.{seeded_hold}
use Rattle.rules_record.specs.declared.Slot.{Slot}
use Rattle.rules_record.specs.declared.Instance.{Instance}
use Rattle.rules_record.specs.declared.Inputs.{Inputs}
use Rattle.rules_record.specs.Slots.{with_delay, with_hold}
use Rattle.rules_record.specs.Inputs.{slot_at, put_slot}
use Rattle.rules_record.proofs.SlotFrame.{slot_same}
use Rattle.rules_record.specs.Sized.{Sized}
use Rattle.rules_record.specs.Commands.{Done, set_input, set_delay, quiet, send_first, changed}
use Rattle.rules_record.specs.Flows.{recalled}
use Rattle.rules_record.specs.Instances.{found_key, made}
use Rattle.rules_record.specs.Prune.{pruned}
use Rattle.rules_routing.specs.SetDelay.{delay_stored, set_delay_of}
use Rattle.rules_routing.proofs.SetDelayStored.{stored_same, stored_sized}
use Rattle.rules_routing.specs.declared.World.{World}
use Rattle.rules_routing.specs.TryOpen.{opened_slot, starts_anew, seeded_at, start_at, start_of, start_by, recall_of, open_with, open_reader, open_at, open_seen, open_routed, try_open_of}
use Rattle.rules_routing.proofs.TryOpenCases.{slot_pruned, slot_made}
use Rattle.rules_routing.proofs.TryOpenFrame.{Frame, frame_put, frame_pruned, frame_made}
use Rattle.rules_record.specs.declared.Route.{Route}

-- a slot whose delay is set, and its hold seeded with it
abbrev pub started_slot : Slot → ℕ → ℕ → Slot
started_slot slot delay time = with_hold (with_delay slot delay time) (seeded_hold slot.hold delay time)

module _ (i : ℕ) (input : i < 16) where
  start_slot : (s : Inputs) (delay time : ℕ) → Sized s → slot_at (seeded_at i delay time (delay_stored s i delay time)) i ≡ started_slot (slot_at s i) delay time
  unfolding seeded_at
  start_slot s delay time h =
      slot_same (delay_stored s i delay time) i _ input (stored_sized s i delay time h).slots
      ∙ ap (λ (x : Slot). with_hold x (seeded_hold x.hold delay time)) (stored_same s i delay time input h)

  -- To show P of what `try_open` leaves, show it of each of its ends.
  module _ (slot : Slot) (time most : ℕ) (world : World) (P : Slot → List ℕ → Type 0)
      (stays : P slot [])
      (opens : (inode channels : ℕ) → world.inode ≡ Some inode → world.reader ≡ Some channels → P (opened_slot slot inode world.head time) (set_input i channels))
      (starts : (inode channels delay : ℕ) → world.inode ≡ Some inode → world.reader ≡ Some channels → starts_anew slot ≡ true → delay ≤ most
      → P (started_slot (opened_slot slot inode world.head time) delay time) (set_input i channels ++ set_delay i delay)) where
    abbrev Ends : Done → Type 0
    Ends done = P (slot_at done.inputs i) done.words

    ends_quiet : (s : Inputs) → slot_at s i ≡ slot → Ends (quiet s)
    unfolding quiet
    ends_quiet s e = subst (λ (x : Slot). P x []) (sym e) stays

    module _ (inode channels : ℕ) (of : world.inode ≡ Some inode) (open-to : world.reader ≡ Some channels) where
      abbrev After : Done → Type 0
      After done = P (slot_at done.inputs i) (set_input i channels ++ done.words)

      after_by : (remembered : Option ℕ) (s : Inputs) → Sized s → slot_at s i ≡ opened_slot slot inode world.head time → s.policy.delay_max ≡ most → starts_anew slot ≡ true → After (start_by remembered s i time)
      unfolding start_by start_of start_at changed set_delay_of send_first quiet
      after_by None s h e p w = subst (λ (x : Slot). P x (set_input i channels)) (sym e) (opens inode channels of open-to)
      after_by (Some last) s h e p w =
          let delay : ℕ = min last s.policy.delay_max in
          subst (λ (x : Slot). P x (set_input i channels ++ set_delay i delay))
          (sym (start_slot s delay time h ∙ ap (λ (x : Slot). started_slot x delay time) e))
          (starts inode channels delay of open-to w (omega arith))

      ends_open : (place : ℕ) (s : Inputs) → Sized s → slot_at s i ≡ slot → s.policy.delay_max ≡ most → Ends (open_with slot channels place inode s i time world)
      unfolding open_with send_first recall_of quiet
      ends_open place s h e p =
          let after : Inputs = put_slot s i (opened_slot slot inode world.head time) in
          let f : Frame i s after = frame_put i s _ in
          let same : slot_at after i ≡ opened_slot slot inode world.head time = slot_same s i _ input h.slots in
          pick_rule After (starts_anew slot) _ _
          (λ w. after_by (recalled after place) after (f.sized h) same (ap (λ x. x.delay_max) f.policy ∙ p) w)
          (λ w. subst (λ (x : Slot). P x (set_input i channels)) (sym same) (opens inode channels of open-to))

    ends_reader : (reader : Option ℕ) (place inode : ℕ) (s : Inputs) → world.reader ≡ reader → world.inode ≡ Some inode → Sized s → slot_at s i ≡ slot → s.policy.delay_max ≡ most → Ends (open_reader reader place inode s i time world)
    unfolding open_reader
    ends_reader None place inode s r of h e p = ends_quiet s e
    ends_reader (Some channels) place inode s r of h e p = subst (λ (x : Slot). Ends (open_with x channels place inode s i time world)) (sym e) (ends_open inode channels of r place s h e p)

    module _ (s : Inputs) (h : Sized s) (e : slot_at s i ≡ slot) (p : s.policy.delay_max ≡ most) where
      module _ (inode place : ℕ) (of : world.inode ≡ Some inode) where
        abbrev key : Instance
        key = record { flow = place; inode = inode }

        ends_found : Ends (open_reader world.reader place inode (pruned s (Some key)) i time world)
        ends_found =
            let f : Frame i s (pruned s (Some key)) = frame_pruned i s (Some key) in
            ends_reader world.reader place inode (pruned s (Some key)) refl of (f.sized h) (slot_pruned s (Some key) i ∙ e) (ap (λ x. x.delay_max) f.policy ∙ p)

        ends_made : found_key s key ≡ false → Ends (open_reader world.reader place inode (pruned (made s key) (Some key)) i time world)
        ends_made none =
            let f : Frame i s (pruned (made s key) (Some key)) = frame_made i s key (Some key) none in
            ends_reader world.reader place inode (pruned (made s key) (Some key)) refl of (f.sized h)
            (slot_pruned (made s key) (Some key) i ∙ slot_made s key i ∙ e)
            (ap (λ x. x.delay_max) f.policy ∙ p)

        ends_at : Ends (open_at key s i time world)
        unfolding open_at
        ends_at = pick_rule Ends (found_key s key) _ _ (λ w. ends_found) (λ w. pick_all Ends world.made (ends_made w) (ends_quiet s e))

      ends_seen : (seen : Option ℕ) (place : ℕ) → world.inode ≡ seen → Ends (open_seen seen place s i time world)
      unfolding open_seen
      ends_seen None place of = ends_quiet s e
      ends_seen (Some inode) place of = ends_at inode place of

      ends_routed : (to : Option Route) → Ends (open_routed to s i time world)
      unfolding open_routed
      ends_routed None = ends_quiet s e
      ends_routed (Some route) = ends_seen world.inode route.flow refl

  pub open_outcomes : (s : Inputs) (time : ℕ) (world : World) → Sized s → (P : Slot → List ℕ → Type 0)
      → P (slot_at s i) []
      → ((inode channels : ℕ) → world.inode ≡ Some inode → world.reader ≡ Some channels → P (opened_slot (slot_at s i) inode world.head time) (set_input i channels))
      → ((inode channels delay : ℕ) → world.inode ≡ Some inode → world.reader ≡ Some channels → starts_anew (slot_at s i) ≡ true → delay ≤ s.policy.delay_max
      → P (started_slot (opened_slot (slot_at s i) inode world.head time) delay time) (set_input i channels ++ set_delay i delay))
      → P (slot_at (try_open_of s i time world).inputs i) (try_open_of s i time world).words
  unfolding try_open_of
  open_outcomes s time world h P stays opens starts = ends_routed (slot_at s i) time s.policy.delay_max world P stays opens starts s h refl refl (slot_at s i).route
