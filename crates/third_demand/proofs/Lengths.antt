-- How many words a call sends: they fit into the lent commands, whose length stays. Assumes nothing.
use Rattle.std.specs.Prelude.{None, Option, Some}
use Prim.Native.Nat.{ℕ, zero, suc, ◌+◌, ◌*◌, ◌≤◌, ◌<◌, zero-le}
use mathlib.Core.Path.{◌≡◌}
use mathlib.Core.List.{List, [], ◌++◌}
use native.Mathlib.Omega.{arith}
use lib.ListN.{length, length-append}
use Rattle.base.specs.Lists.{padded}
use Rattle.base.proofs.Choices.{pick_all}
use Rattle.base.proofs.Pads.{length_padded}
use Rattle.rules_record.specs.declared.ExtraDelay.{ExtraDelay}
use Rattle.rules_record.specs.declared.ExtraDelay.TheVariants.{Auto, Ms}
use Rattle.rules_record.specs.declared.Slot.{Slot}
use Rattle.rules_record.specs.declared.Inputs.{Inputs}
use Rattle.rules_record.specs.Inputs.{slot_at}
use Rattle.rules_record.proofs.Sized.{sized_put}
use Rattle.rules_record.specs.Sized.{Sized}
use Rattle.rules_record.specs.Commands.{quiet, send_first}
use Rattle.rules_routing.specs.SetDelay.{set_delay_of}
use Rattle.rules_routing.specs.declared.World.{World}
use Rattle.rules_routing.specs.TryOpen.{try_open_of}
use Rattle.rules_routing.proofs.TryOpenOutcomes.{open_outcomes}
use Rattle.rules_record.specs.Lent.{Lists}
use Rattle.rules_record.specs.Effects.{Effect, beside, followed_by}
use Rattle.rules_routing.specs.Clear.{cleared}
use Rattle.rules_tick.specs.Lags.{arrived, largest_of}
use Rattle.rules_tick.specs.AutoDelay.{auto_delayed}
use Rattle.rules_tick.proofs.AutoDelayKeeps.{auto_rule}
use Rattle.rules_calls.specs.Update.{delay_set, updated}
use Rattle.rules_calls.specs.Route.{enrolled_for, route_for, equal_route, starts_over, forgetting, zeroing, routed_slot, opened_for, moved, rerouted, routed_to, routed}
use Rattle.rules_tick.specs.declared.Look.{Look}
use Rattle.rules_tick.specs.Looks.{look_at, lags_of}
use Rattle.rules_tick.specs.Tick.{heard, looked, ticked_input, ticked_below, ticked_all, ticked}
use Rattle.rules_tick.proofs.TickFrames.{heard_sized, below_sized}
use Rattle.rules_tick.proofs.Looked.{looked_outcomes}
use Rattle.rules_calls.specs.NewStart.{kind_at, started_one, started_below}
use Rattle.sent_delays.proofs.OneInput.{tells_wanted}
use Rattle.rules_calls.specs.declared.Source.{Source}
use Rattle.rules_record.specs.declared.Route.{Route}

-- at most so many words
abbrev pub Few : ℕ → List ℕ → Type 0
Few n words = length words ≤ n

few_append : (m n : ℕ) (a b : List ℕ) → Few m a → Few n b → Few (m + n) (a ++ b)
few_append m n a b p q = omega (arith, length-append a b, p, q)

-- the lent list keeps its length
pub padded_long : (n : ℕ) (words : List ℕ) → Few n words → length (padded n words) ≡ n
padded_long n words few = length_padded n words few

few_then : (m n : ℕ) (effect : Effect) (next : Inputs → Lists → Effect) → Few m effect.words → Few n (next effect.inputs effect.lists).words → Few (m + n) (followed_by effect next).words
unfolding followed_by
few_then m n effect next p q = few_append m n effect.words (next effect.inputs effect.lists).words p q

-- ---- the steps on one input
few_none : (n : ℕ) → Few n []
few_none n = zero-le

set_few : (s : Inputs) (i delay time : ℕ) → Few 3 (set_delay_of s i delay time).words
unfolding set_delay_of send_first quiet
set_few s i delay time = omega arith

module _ (i : ℕ) (low : i < 16) where
  open_few : (s : Inputs) (time : ℕ) (world : World) → Sized s → Few 6 (try_open_of s i time world).words
  open_few s time world sized =
      open_outcomes i low s time world sized (λ slot words. Few 6 words) (few_none 6) (λ inode channels of to. omega arith) (λ inode channels delay of to anew small. omega arith)

  looked_few : (look : Look) (time : ℕ) (s : Inputs) → Sized s → Few 6 (looked i look time s).words
  looked_few look time s sized =
      looked_outcomes i look time s low sized (λ slot words. Few 6 words) (few_none 6) (omega arith) (few_none 6)
      (λ inode channels of to. omega arith)
      (λ inode channels delay of to anew small. omega arith)
      (λ stalls. few_none 6)
      (λ inode channels stalls of to. omega arith)

  auto_few : (largest : Option ℕ) (time : ℕ) (s : Inputs) (l : Lists) → Few 3 (auto_delayed i largest time s l).words
  auto_few largest time s l =
      auto_rule i largest time s l (λ effect. Few 3 effect.words) (λ e. few_none 3) (λ e. few_none 3) (λ on e. few_none 3) (λ on delay e h. few_none 3) (λ on delay e h. set_few _ i delay time)

  -- ---- a tick
  heard_few : (look : Look) (lags : List ℕ) (time : ℕ) (s : Inputs) (l : Lists) → Few 0 (heard i look lags time s l).words
  unfolding heard arrived
  heard_few look lags time s l = few_then 0 0 (arrived i time lags s l) _ (few_none 0) (few_none 0)

  input_few : (look : Look) (lags : List ℕ) (time : ℕ) (s : Inputs) (l : Lists) → Sized s → Few 9 (ticked_input i look lags time s l).words
  unfolding ticked_input
  input_few look lags time s l sized =
      few_then 6 3 _ _ (few_then 0 6 (heard i look lags time s l) _ (heard_few look lags time s l) (looked_few look time _ (heard_sized i look lags time s l sized))) (auto_few (largest_of lags) time _ _)

pub below_few : (n : ℕ) → n ≤ 16 → (looks : List Look) (lags : List ℕ) (time : ℕ) (s : Inputs) (l : Lists) → Sized s → Few (n * 9) (ticked_below n looks lags time s l).words
unfolding ticked_below
below_few zero le looks lags time s l sized = few_none 0
below_few (suc n) le looks lags time s l sized =
    omega (
      arith,
      few_then (n * 9) 9 (ticked_below n looks lags time s l) (ticked_input n (look_at looks n) (lags_of looks lags n) time) (below_few n (omega (arith, le)) looks lags time s l sized)
          (input_few n (omega (arith, le)) (look_at looks n) (lags_of looks lags n) time _ _ (below_sized looks lags time s l n sized)),
    )

pub ticked_few : (looks : List Look) (lags : List ℕ) (time : ℕ) (s : Inputs) (l : Lists) → s.count ≤ 16 → Sized s → Few (s.count * 12) (ticked looks lags time s l).words
unfolding ticked ticked_all
ticked_few looks lags time s l le sized = omega (arith, below_few s.count le looks lags time s l sized)

-- ---- `update`
pub updated_few : (i : ℕ) (kind : ExtraDelay) (time : ℕ) (s : Inputs) (l : Lists) → Few 3 (updated i kind time s l).words
unfolding updated cleared delay_set
updated_few i (Auto tag) time s l = few_none 3
updated_few i (Ms delay) time s l = set_few _ i _ time

-- ---- `route`
forgetting_few : (i : ℕ) (old : Option Route) → Few 3 (forgetting i old)
forgetting_few i None = few_none 3
forgetting_few i (Some old) = omega arith

zeroing_few : (i : ℕ) (new : Option Route) (slot : Slot) → Few 3 (zeroing i new slot)
unfolding zeroing
zeroing_few i new slot = pick_all (Few 3) (starts_over new slot) (omega arith) (few_none 3)

module _ (i : ℕ) (low : i < 16) (time : ℕ) (world : World) where
  opened_few : (new : Option Route) (s : Inputs) → Sized s → Few 6 (opened_for new i time world s).words
  unfolding quiet
  opened_few None s sized = few_none 6
  opened_few (Some new) s sized = open_few i low s time world sized

  moved_few : (new : Option Route) (s : Inputs) (l : Lists) → Sized s → Few 6 (moved new i time world s l).words
  unfolding moved cleared
  moved_few new s l sized = few_then 0 6 (cleared i (routed_slot new time (slot_at s i)) s l) (λ z m. beside m (opened_for new i time world z)) (few_none 0) (opened_few new _ (sized_put s i _ sized))

  routed_to_few : (new : Option Route) (s : Inputs) (l : Lists) → Sized s → Few 12 (routed_to new i time world s l).words
  unfolding routed_to rerouted
  routed_to_few new s l sized =
      pick_all (λ (effect : Effect). Few 12 effect.words) (equal_route new (slot_at s i).route) (few_none 12)
      (few_append 3 9 (forgetting i (slot_at s i).route) (zeroing i new (slot_at s i) ++ (moved new i time world s l).words) (forgetting_few i (slot_at s i).route)
      (few_append 3 6 (zeroing i new (slot_at s i)) (moved new i time world s l).words (zeroing_few i new (slot_at s i)) (moved_few new s l sized)))

  pub routed_few : (wanted : Option Source) (s : Inputs) (l : Lists) → Sized s → Few 12 (routed i wanted time world s l).words
  unfolding routed
  routed_few wanted s l sized = routed_to_few (route_for (enrolled_for s wanted) wanted) (enrolled_for s wanted) l (tells_wanted {time = time} s wanted sized).sized

-- ---- `new`
started_one_few : (i : ℕ) (kind : ExtraDelay) (time : ℕ) (s : Inputs) → Few 3 (started_one i kind time s).words
unfolding started_one quiet
started_one_few i (Auto tag) time s = few_none 3
started_one_few i (Ms delay) time s = set_few _ i _ time

pub started_few : (n : ℕ) (kinds : List ExtraDelay) (time : ℕ) (s : Inputs) → Few (n * 3) (started_below n kinds time s).words
unfolding started_below quiet send_first
started_few zero kinds time s = few_none 0
started_few (suc n) kinds time s =
    omega (
      arith,
      few_append (n * 3) 3 (started_below n kinds time s).words (started_one n (kind_at kinds n) time (started_below n kinds time s).inputs).words (started_few n kinds time s) (started_one_few n (kind_at kinds n) time _),
    )
