-- The window, the hold and the delay of an input after an accepted `route`, with the words that it sends. Assumes nothing.
use Rattle.std.specs.Prelude.{None, Option}
use Prim.Native.Nat.{ℕ, ◌<◌, ◌≤◌}
use mathlib.Core.Bool.{Bool, true, false}
use mathlib.Core.Path.{◌≡◌, refl, sym, ap, subst, ◌∙◌}
use mathlib.Core.List.{List, [], ◌++◌}
use native.Mathlib.Omega.{arith}
use lib.ListN.{length, length-replicate}
use Rattle.base.specs.Choice.{pick}
use Rattle.base.proofs.Choices.{pick_rule}
use Rattle.rules_window.specs.Window.{Window, fresh, windowed}
use Rattle.rules_window.specs.Parts.{part_of}
use Rattle.delay_hold.specs.Next.{Held, held, fresh_hold, cleared_hold, seeded_hold}
use Rattle.rules_record.specs.declared.Slot.{Slot}
use Rattle.rules_record.specs.declared.Inputs.{Inputs}
use Rattle.rules_record.specs.Slots.{with_delay, with_proposed}
use Rattle.rules_record.specs.Inputs.{slot_at}
use Rattle.rules_record.specs.Commands.{set_input, set_delay}
use Rattle.rules_routing.specs.declared.World.{World}
use Rattle.rules_routing.specs.TryOpen.{opened_slot}
use Rattle.rules_routing.proofs.TryOpenOutcomes.{started_slot}
use Rattle.rules_record.specs.Lent.{Lists, buckets_in, window_for, window_of, held_for, held_of, with_window}
use Rattle.rules_record.specs.Effects.{Effect, followed_by}
use Rattle.rules_record.specs.Facts.{Checked}
use Rattle.rules_record.proofs.Beside.{held_same}
use Rattle.rules_record.proofs.Shapes.{held_times, held_lags, fresh_sound}
use Rattle.rules_record.proofs.Keep.{window_beside, window_read}
use Rattle.rules_routing.specs.Clear.{cleared_lists, cleared}
use Rattle.rules_routing.proofs.SettingsKept.{SameSettings, settings_frame}
use Rattle.rules_routing.proofs.TryOpenKeeps.{opened_seconds, opened_hold, opened_delay}
use Rattle.rules_calls.specs.Route.{enrolled_for, route_for, equal_route, forgetting, starts_over, zeroing, started_over, routed_slot, moved, rerouted, routed_to, routed}
use Rattle.rules_calls.proofs.Enrolling.{for_rest, for_slot, for_count}
use Rattle.rules_calls.proofs.RouteKeeps.{for_keeps}
use Rattle.rules_calls.proofs.RouteFrames.{moved_frame, routed_here}
use Rattle.rules_calls.proofs.RouteOutcomes.{moved_outcomes}
use Rattle.rules_calls.specs.declared.Source.{Source}
use Rattle.rules_record.specs.declared.Route.{Route}

-- the delay with a new route, before the flow opens: "another flow, automatic, delay not 0: delay 0"
abbrev pub delay_for : Option Route → Slot → ℕ
delay_for new slot = pick (starts_over new slot) 0 slot.delay

pub over_delay : (new : Option Route) (time : ℕ) (slot : Slot) → (started_over new time slot).delay ≡ delay_for new slot
unfolding started_over
over_delay new time slot = by (starts_over new slot)
  where
    by : (over : Bool) → (pick over (with_proposed (with_delay slot 0 time) None) slot).delay ≡ pick over 0 slot.delay
    by true = refl
    by false = refl

-- ---- another route, in a record that knows its flow
module _ (new : Option Route) (i time : ℕ) (world : World) (s : Inputs) (l : Lists) (c : Checked s l) (h : i < s.count) where
  abbrev after : Inputs
  after = (moved new i time world s l).inputs

  abbrev m : Lists
  m = cleared_lists i s l

  -- a slot without seconds has a fresh window, and its hold has no peaks
  fresh_window : (slot : Slot) → slot.lag_seconds ≡ 0 → window_for s m i slot ≡ fresh (buckets_in s) s.width
  unfolding fresh
  fresh_window slot e = window_read s l i slot c h (fresh (buckets_in s) s.width) (fresh_sound s l c.fitting) refl refl e

  abbrev blank : Slot → Held
  blank slot = held slot.hold (cleared_hold (held_of s l i)).times (cleared_hold (held_of s l i)).lags

  blank_hold : (slot : Slot) → held_for m i slot ≡ blank slot
  unfolding fresh
  blank_hold slot =
      held_same s.count (buckets_in s) i (with_window (buckets_in s) i (fresh (buckets_in s) s.width) l)
      (window_beside s l i slot c h (fresh (buckets_in s) s.width) (fresh_sound s l c.fitting) refl refl).long h (blank slot)
      (length-replicate {A = ℕ} (length (held_of s l i).times) 0 ∙ held_times s l c.fitting i h)
      (length-replicate {A = ℕ} (length (held_of s l i).lags) 0 ∙ held_lags s l c.fitting i h)

  settings : SameSettings s after
  settings = settings_frame i s after (moved_frame new i time world s l)

  window_under : window_of after m i ≡ window_for s m i (slot_at after i)
  unfolding buckets_in
  window_under = λ t. part_of i (windowed (slot_at after i).lag_seconds (buckets_in (settings t)) (settings t).width m.starts m.totals m.counts)

  low : i < 16
  low = omega (arith, c.fitting.allowed.most)

  there_delay : (routed_here new i time s).delay ≡ delay_for new (slot_at s i)
  unfolding routed_slot
  there_delay = over_delay new time (slot_at s i)

  -- To show P of what the input is after another route, and of the words that opening it sends, show it of each end.
  module _ (P : Window → Held → (delay : ℕ) → List ℕ → Type 0)
      (stays : P (fresh (buckets_in s) s.width) (cleared_hold (held_of s l i)) (delay_for new (slot_at s i)) [])
      (opens : (channels : ℕ) → P (fresh (buckets_in s) s.width) (cleared_hold (held_of s l i)) (delay_for new (slot_at s i)) (set_input i channels))
      (starts : (channels delay : ℕ) → delay ≤ s.policy.delay_max
      → P (fresh (buckets_in s) s.width) (held (seeded_hold fresh_hold delay time) (cleared_hold (held_of s l i)).times (cleared_hold (held_of s l i)).lags) delay (set_input i channels ++ set_delay i delay)) where
    -- read from its slot and the cleared lists
    abbrev Read : Slot → List ℕ → Type 0
    Read x words = P (window_for s m i x) (held_for m i x) x.delay words

    read_by : (x : Slot) (v : Held) (delay : ℕ) (words : List ℕ) → x.lag_seconds ≡ 0 → blank x ≡ v → x.delay ≡ delay → P (fresh (buckets_in s) s.width) v delay words → Read x words
    read_by x v delay words no-seconds is-hold is-delay p =
        subst (λ (w : Window). P w (held_for m i x) x.delay words) (sym (fresh_window x no-seconds))
        (subst (λ (k : Held). P (fresh (buckets_in s) s.width) k x.delay words) (sym (blank_hold x ∙ is-hold))
        (subst (λ (n : ℕ). P (fresh (buckets_in s) s.width) v n words) (sym is-delay) p))

    read_ends : Read (slot_at after i) (moved new i time world s l).words
    unfolding routed_slot
    read_ends =
        moved_outcomes new i time world s l low c.sized Read
        (read_by (routed_here new i time s) (cleared_hold (held_of s l i)) (delay_for new (slot_at s i)) [] refl refl there_delay stays)
        (λ inode channels of open-to.
        let x : Slot = opened_slot (routed_here new i time s) inode world.head time in
        read_by x (cleared_hold (held_of s l i)) (delay_for new (slot_at s i)) (set_input i channels) (opened_seconds (routed_here new i time s) inode world.head time)
        (ap (λ k. held k (cleared_hold (held_of s l i)).times (cleared_hold (held_of s l i)).lags) (opened_hold (routed_here new i time s) inode world.head time))
        (opened_delay (routed_here new i time s) inode world.head time ∙ there_delay) (opens channels))
        (λ inode channels delay of open-to anew most.
        let x : Slot = opened_slot (routed_here new i time s) inode world.head time in
        read_by (started_slot x delay time) (held (seeded_hold fresh_hold delay time) (cleared_hold (held_of s l i)).times (cleared_hold (held_of s l i)).lags) delay (set_input i channels ++ set_delay i delay)
        (opened_seconds (routed_here new i time s) inode world.head time)
        (ap (λ k. held (seeded_hold k delay time) (cleared_hold (held_of s l i)).times (cleared_hold (held_of s l i)).lags) (opened_hold (routed_here new i time s) inode world.head time))
        refl (starts channels delay most))

    pub moved_views : P (window_of after (moved new i time world s l).lists i) (held_of after (moved new i time world s l).lists i) (slot_at after i).delay (moved new i time world s l).words
    unfolding moved followed_by cleared
    moved_views = subst (λ (w : Window). P w (held_of after m i) (slot_at after i).delay (moved new i time world s l).words) (sym window_under) read_ends

-- ---- the call, accepted
module _ (s : Inputs) (l : Lists) (i : ℕ) (wanted : Option Source) (time : ℕ) (world : World) (c : Checked s l) (h : i < s.count) where
  abbrev known : Inputs
  known = enrolled_for s wanted

  -- the route that is wanted
  abbrev new_route : Option Route
  new_route = route_for known wanted

  for_window : window_of known l i ≡ window_of s l i
  unfolding buckets_in slot_at
  for_window = ap (λ (z : Inputs). window_of z l i) (for_rest s wanted)

  for_held : held_of known l i ≡ held_of s l i
  for_held = ap (λ (x : Slot). held_for l i x) (for_slot s wanted i)

  for_fresh : fresh (buckets_in known) known.width ≡ fresh (buckets_in s) s.width
  unfolding buckets_in
  for_fresh = ap (λ (z : Inputs). fresh (buckets_in z) z.width) (for_rest s wanted)

  -- To show P of what the input is after the call, and of the words sent, show it of an equal route, which does nothing, and of each end of another.
  module _ (P : Window → Held → (delay : ℕ) → List ℕ → Type 0)
      (equal : equal_route new_route (slot_at s i).route ≡ true → P (window_of s l i) (held_of s l i) (slot_at s i).delay [])
      (stays : equal_route new_route (slot_at s i).route ≡ false
      → P (fresh (buckets_in s) s.width) (cleared_hold (held_of s l i)) (delay_for new_route (slot_at s i)) (forgetting i (slot_at s i).route ++ (zeroing i new_route (slot_at s i) ++ [])))
      (opens : equal_route new_route (slot_at s i).route ≡ false → (channels : ℕ)
      → P (fresh (buckets_in s) s.width) (cleared_hold (held_of s l i)) (delay_for new_route (slot_at s i)) (forgetting i (slot_at s i).route ++ (zeroing i new_route (slot_at s i) ++ set_input i channels)))
      (starts : equal_route new_route (slot_at s i).route ≡ false → (channels delay : ℕ) → delay ≤ s.policy.delay_max
      → P (fresh (buckets_in s) s.width) (held (seeded_hold fresh_hold delay time) (cleared_hold (held_of s l i)).times (cleared_hold (held_of s l i)).lags) delay
      (forgetting i (slot_at s i).route ++ (zeroing i new_route (slot_at s i) ++ (set_input i channels ++ set_delay i delay)))) where
    abbrev Seen : Effect → Type 0
    Seen effect = P (window_of effect.inputs effect.lists i) (held_of effect.inputs effect.lists i) (slot_at effect.inputs i).delay effect.words

    -- what stands in s stands in the record that knows the flow
    slot_is : slot_at known i ≡ slot_at s i
    slot_is = for_slot s wanted i

    route_is : (slot_at known i).route ≡ (slot_at s i).route
    route_is = ap (λ (x : Slot). x.route) slot_is

    equal_seen : equal_route new_route (slot_at known i).route ≡ true → P (window_of known l i) (held_of known l i) (slot_at known i).delay []
    equal_seen e =
        subst (λ (w : Window). P w (held_of known l i) (slot_at known i).delay []) (sym for_window)
        (subst (λ (x : Slot). P (window_of s l i) (held_for l i x) x.delay []) (sym slot_is) (equal (sym (ap (equal_route new_route) route_is) ∙ e)))

    module _ (e : equal_route new_route (slot_at known i).route ≡ false) where
      other : equal_route new_route (slot_at s i).route ≡ false
      other = sym (ap (equal_route new_route) route_is) ∙ e

      -- with the words that are sent before, where this is the slot that was
      abbrev After : Slot → Window → Held → ℕ → List ℕ → Type 0
      After x w v delay words = P w v delay (forgetting i x.route ++ (zeroing i new_route x ++ words))

      other_seen : Seen (rerouted new_route i time world known l)
      unfolding rerouted
      other_seen =
          moved_views new_route i time world known l (for_keeps s l c wanted) (subst (λ (n : ℕ). i < n) (sym (for_count s wanted)) h) (After (slot_at known i))
          (subst (λ (w : Window). After (slot_at known i) w (cleared_hold (held_of known l i)) (delay_for new_route (slot_at known i)) []) (sym for_fresh)
          (subst (λ (x : Slot). After x (fresh (buckets_in s) s.width) (cleared_hold (held_for l i x)) (delay_for new_route x) []) (sym slot_is) (stays other)))
          (λ channels.
          subst (λ (w : Window). After (slot_at known i) w (cleared_hold (held_of known l i)) (delay_for new_route (slot_at known i)) (set_input i channels)) (sym for_fresh)
          (subst (λ (x : Slot). After x (fresh (buckets_in s) s.width) (cleared_hold (held_for l i x)) (delay_for new_route x) (set_input i channels)) (sym slot_is) (opens other channels)))
          (λ channels delay most.
          subst (λ (w : Window). After (slot_at known i) w (held (seeded_hold fresh_hold delay time) (cleared_hold (held_of known l i)).times (cleared_hold (held_of known l i)).lags) delay (set_input i channels ++ set_delay i delay)) (sym for_fresh)
          (subst (λ (x : Slot). After x (fresh (buckets_in s) s.width) (held (seeded_hold fresh_hold delay time) (cleared_hold (held_for l i x)).times (cleared_hold (held_for l i x)).lags) delay (set_input i channels ++ set_delay i delay)) (sym slot_is)
          (starts other channels delay (subst (λ (z : Inputs). delay ≤ z.policy.delay_max) (for_rest s wanted) most))))

    pub routed_views : Seen (routed i wanted time world s l)
    unfolding routed routed_to
    routed_views = pick_rule Seen (equal_route new_route (slot_at known i).route) _ _ equal_seen other_seen
