-- The loops of `new`: the loaded delays, the inputs. Assumes nothing.
use Prim.Native.Nat.{ℕ, suc, ◌+◌, ◌*◌, ◌/◌, ◌%◌, ◌<◌, ◌≤◌, min}
use mathlib.Core.Bool.{Bool, true, false}
use mathlib.Core.Path.{◌≡◌, refl, sym, ap, subst, ◌∙◌}
use mathlib.Core.List.{List}
use native.Mathlib.Nat.{le_antisymm}
use native.Mathlib.Numerals.{add-one}
use native.Mathlib.Omega.{arith}
use lib.Dec.{eqb}
use lib.Ieee.{Float}
use lib.ListN.{length, get_or, length-append}
use lib.Seq.{sets}
use borrow.Author.Tests.{eq-eqb, ne_eqb, eqb-true, eqb-false}
use Rattle.base.proofs.All.{all_none, all_more, all_stop, all_end}
use Rattle.base.proofs.Choices.{by_bool}
use Rattle.base.proofs.Words.{sets_append}
use Rattle.doubles.specs.Doubles.{samples_of}
use Rattle.rules_record.specs.declared.AutoTag.{AutoTag}
use Rattle.rules_record.specs.declared.ExtraDelay.{ExtraDelay}
use Rattle.rules_record.specs.declared.ExtraDelay.TheVariants.{Auto, Ms}
use Rattle.rules_record.specs.declared.Slot.{Slot}
use Rattle.rules_record.specs.declared.Flow.{Flow}
use Rattle.rules_record.specs.declared.Inputs.{Inputs}
use Rattle.rules_record.specs.Slots.{with_config, with_head}
use Rattle.rules_record.specs.Inputs.{slot_at, put_slot}
use Rattle.rules_record.specs.Flows.{admits, enrolled, flow_place, kept}
use Rattle.rules_record.specs.Commands.{Sent, Done, Did, send_first}
use Rattle.rules_record.proofs.Sending.{did_by, did_quiet}
use Rattle.rules_routing.specs.SetDelay.{set_delay_of}
use Rattle.rules_calls.specs.NewLoading.{loaded_flow, loaded_one, loaded_below, load_fits}
use Rattle.rules_calls.specs.NewStart.{kind_at, made_at, started_one, started_below}

-- ---- 16 bytes to each delay
pub bytes_uneven : (bytes delays : ℕ) → (bytes % 16 ≡ 0 → ⊥) → false ≡ eqb bytes (delays * 16)
bytes_uneven bytes delays h = sym (ne_eqb bytes (delays * 16) (λ (e : bytes ≡ delays * 16). h (omega arith)))

pub bytes_even : (bytes delays : ℕ) → bytes % 16 ≡ 0 → eqb (bytes / 16) delays ≡ eqb bytes (delays * 16)
bytes_even bytes delays h =
    by_bool (eqb (bytes / 16) delays)
    (λ e. let q : bytes / 16 ≡ delays = eqb-true _ _ e in e ∙ sym (eq-eqb bytes (delays * 16) (omega arith)))
    (λ e. e ∙ sym (ne_eqb bytes (delays * 16) (λ (q : bytes ≡ delays * 16). eqb-false (bytes / 16) delays e (omega arith))))

-- ---- the loaded delays
pub loaded_by : (s : Inputs) (flow : Flow) (delay : ℕ) {all kept-one : Inputs} {place : ℕ} → all ≡ enrolled s flow → place ≡ flow_place all flow → kept-one ≡ kept all place delay → kept-one ≡ loaded_one flow delay s
unfolding loaded_one
loaded_by s flow delay e f g = rw (g, f, e)

-- the first k delays are loaded, and each flow had room
pub record Loading (bytes delays : List ℕ) (s : Inputs) (k : ℕ) (so_far : Inputs) : Type 0 where
  pub within : k ≤ length delays
  pub is_loaded : so_far ≡ loaded_below k bytes delays s
  pub fits : load_fits k bytes delays s ≡ true

module _ (bytes delays : List ℕ) (s : Inputs) where
  pub loading_none : Loading bytes delays s 0 s
  unfolding loaded_below load_fits
  loading_none = record { within = omega arith; is_loaded = refl; fits = all_none _ }

  module _ {k : ℕ} {so_far : Inputs} (inv : Loading bytes delays s k so_far) where
    module _ (h : k < length delays) {flow : Flow} (is-flow : flow ≡ loaded_flow bytes k) {room : Bool} (is-room : room ≡ admits so_far flow) where
      room_is : admits (loaded_below k bytes delays s) (loaded_flow bytes k) ≡ room
      room_is = sym (is-room ∙ ap (λ (z : Inputs). admits z flow) inv.is_loaded ∙ ap (admits (loaded_below k bytes delays s)) is-flow)

      pub loading_stop : room ≡ false → false ≡ load_fits (length delays) bytes delays s
      unfolding load_fits
      loading_stop e = all_stop (λ k. admits (loaded_below k bytes delays s) (loaded_flow bytes k)) (length delays) k h (room_is ∙ e)

      pub loading_more : room ≡ true → {more : Inputs} → more ≡ loaded_one flow (get_or delays k 0) so_far → Loading bytes delays s (k + 1) more
      unfolding load_fits loaded_below
      loading_more e f = record {
        within = omega arith;
        is_loaded =
            f
            ∙ ap (loaded_one flow (get_or delays k 0)) inv.is_loaded
            ∙ ap (λ (x : Flow). loaded_one x (get_or delays k 0) (loaded_below k bytes delays s)) is-flow
            ∙ ap (λ (n : ℕ). loaded_below n bytes delays s) (sym (add-one k));
        fits = all_more (λ k. admits (loaded_below k bytes delays s) (loaded_flow bytes k)) k inv.fits (room_is ∙ e);
      }

    module _ (h : length delays ≤ k) where
      pub loading_fits : true ≡ load_fits (length delays) bytes delays s
      unfolding load_fits
      loading_fits = all_end (λ k. admits (loaded_below k bytes delays s) (loaded_flow bytes k)) (length delays) k inv.fits inv.within h

      pub loading_end : so_far ≡ loaded_below (length delays) bytes delays s
      loading_end = inv.is_loaded ∙ ap (λ (n : ℕ). loaded_below n bytes delays s) (le_antisymm inv.within h)

-- ---- the inputs
-- one step after another. Of general use: it belongs to commands.
pub did_then : {few most from : ℕ} {done : Done} {answer last : Sent} {before between after : List ℕ} (next : Inputs → Done)
    → Did few done answer before between from → Did most (next answer.inputs) last between after answer.used → Did (few + most) (send_first done.words (next done.inputs)) last before after from
unfolding send_first
did_then {few} {most} {from} {done} {answer} {last} {before} {between} {after} next a b = record {
  inputs = step.inputs;
  used = step.used ∙ simp length-append (omega (arith, a.used));
  words =
      step.words
      ∙ ap (λ (l : List ℕ). sets l answer.used (next done.inputs).words) a.words
      ∙ ap (λ (k : ℕ). sets (sets before from done.words) k (next done.inputs).words) a.used
      ∙ sets_append before from done.words (next done.inputs).words;
  room = simp length-append (omega (arith, a.room, step.room));
}
  where
    step : Did most (next done.inputs) last between after answer.used
    step = subst (λ (z : Inputs). Did most (next z) last between after answer.used) a.inputs b

-- one input
module _ (s : Inputs) (i time : ℕ) where
  pub made_by : (kind : ExtraDelay) {at : Slot} {all : Inputs} → at ≡ slot_at s i → all ≡ put_slot s i (with_head (with_config at (record { extra_delay = kind })) 0 time)
      → all ≡ made_at i kind time s
  made_by kind e f = f ∙ ap (λ (x : Slot). put_slot s i (with_head (with_config x (record { extra_delay = kind })) 0 time)) e

  module _ {kind : ExtraDelay} {all : Inputs} (is_made : all ≡ made_at i kind time s) {before : List ℕ} {used : ℕ} where
    pub started_auto : {tag : AutoTag} → kind ≡ Auto tag → Did 3 (started_one i kind time s) (record { inputs = all; used = used }) before before used
    unfolding started_one
    started_auto e = did_by (ap (λ (x : ExtraDelay). started_one i x time s) e) (did_quiet (is_made ∙ ap (λ (x : ExtraDelay). made_at i x time s) e))

    pub started_manual : {delay : Float} {samples least : ℕ} {sent : Sent} {after : List ℕ} → kind ≡ Ms delay → samples ≡ samples_of delay → least ≡ min samples s.policy.delay_max
        → Did 3 (set_delay_of all i least time) sent before after used → Did 3 (started_one i kind time s) sent before after used
    unfolding started_one
    started_manual {delay} {samples} {least} e f g d =
        did_by (ap (λ (x : ExtraDelay). started_one i x time s) e ∙ sym (ap (λ (z : Inputs). set_delay_of z i (min (samples_of delay) s.policy.delay_max) time) (is_made ∙ ap (λ (x : ExtraDelay). made_at i x time s) e)) ∙ sym (ap (λ (n : ℕ). set_delay_of all i n time) (g ∙ ap (λ (n : ℕ). min n s.policy.delay_max) f))) d

-- the first i inputs are started
pub record Starting (kinds : List ExtraDelay) (time count : ℕ) (s : Inputs) (before : List ℕ) (begin i : ℕ) (so_far : Inputs) (used : ℕ) (after : List ℕ) : Type 0 where
  pub within : i ≤ count
  pub long : length after ≡ length before
  pub did : Did (i * 3) (started_below i kinds time s) (record { inputs = so_far; used = used }) before after begin

module _ (kinds : List ExtraDelay) (time count : ℕ) (s : Inputs) (before : List ℕ) (begin : ℕ) where
  pub starting_none : Starting kinds time count s before begin 0 s begin before
  unfolding started_below
  starting_none = record { within = omega arith; long = refl; did = did_quiet refl }

  module _ {i : ℕ} {so_far : Inputs} {used : ℕ} {between : List ℕ} (inv : Starting kinds time count s before begin i so_far used between) where
    pub starting_more : i < count → {kind : ExtraDelay} {sent : Sent} {after : List ℕ} → kind ≡ kind_at kinds i → Did 3 (started_one i kind time so_far) sent between after used → length after ≡ length between
        → Starting kinds time count s before begin (i + 1) sent.inputs sent.used after
    unfolding started_below
    starting_more h {kind} {sent} {after} is-kind d e = record {
      within = omega arith;
      long = e ∙ inv.long;
      did = rw (add-one i) at_next;
    }
      where
        here : Did 3 (started_one i (kind_at kinds i) time so_far) sent between after used
        here = subst (λ (x : ExtraDelay). Did 3 (started_one i x time so_far) sent between after used) is-kind d

        more : i * 3 + 3 ≡ suc i * 3
        more = omega arith

        at_next : Did (suc i * 3) (started_below (suc i) kinds time s) sent before after begin
        at_next = subst (λ (n : ℕ). Did n (started_below (suc i) kinds time s) sent before after begin) more (did_then (started_one i (kind_at kinds i) time) inv.did here)

    pub starting_end : count ≤ i → Did (count * 3) (started_below count kinds time s) (record { inputs = so_far; used = used }) before between begin
    starting_end h = subst (λ (n : ℕ). Did (n * 3) (started_below n kinds time s) (record { inputs = so_far; used = used }) before between begin) (le_antisymm inv.within h) inv.did
