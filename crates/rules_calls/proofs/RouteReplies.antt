-- What `route` leaves, case by case, as the code goes. Assumes nothing.
use Rattle.std.specs.Prelude.{Option}
use Prim.Native.Nat.{ℕ, ◌+◌, ◌*◌, ◌<◌, ◌≤◌, zero-le}
use mathlib.Core.Bool.{Bool, true, false}
use mathlib.Core.Path.{◌≡◌, refl, sym, ap, subst, ◌∙◌}
use mathlib.Core.List.{List, [], ◌++◌, append_assoc}
use native.Mathlib.Nat.{zero-add}
use native.Mathlib.Omega.{arith}
use lib.ListN.{length, replicate, length-replicate, length-append}
use lib.Seq.{sets, length-sets}
use borrow.Author.Tests.{eqb-true}
use Rattle.base.specs.Lists.{padded}
use Rattle.base.specs.Limits.{counter_limit}
use Rattle.base.proofs.Choices.{yes_pick, no_pick, pick_all}
use Rattle.base.proofs.Words.{laid, sets_append}
use Rattle.rules_record.specs.declared.Slot.{Slot}
use Rattle.rules_record.specs.declared.Inputs.{Inputs}
use Rattle.rules_record.specs.Inputs.{slot_at}
use Rattle.rules_record.proofs.SlotFrame.{slot_put}
use Rattle.rules_record.specs.Commands.{Sent, Done, Did}
use Rattle.rules_routing.specs.declared.World.{World}
use Rattle.rules_record.specs.declared.Output.TheVariants.{Words}
use Rattle.rules_record.specs.Lent.{Lists}
use Rattle.rules_record.specs.Checks.{Fitting}
use Rattle.rules_record.specs.Effects.{Effect, silent, beside, followed_by}
use Rattle.rules_record.specs.Reply.{Reply}
use Rattle.rules_record.proofs.Checked.{checked_output}
use Rattle.rules_record.proofs.Numbers.{input_told, record_whole, call_fitting, call_input, call_low}
use Rattle.rules_record.proofs.Replies.{reply_refused, reply_accepted}
use Rattle.rules_routing.specs.Clear.{cleared_slot, cleared}
use Rattle.rules_calls.specs.RouteChecks.{route_number}
use Rattle.rules_calls.specs.Route.{enrolled_for, route_for, equal_route, forgetting, zeroing, starts_over, started_over, routed_slot, opened_for, moved, sending, rerouted, routed_to, routed}
use Rattle.rules_calls.specs.RouteReply.{route_reply}
use Rattle.rules_calls.proofs.RouteCases.{Wrote}
use Rattle.rules_calls.proofs.Enrolling.{for_slot, for_count, for_fitting}
use Rattle.rules_calls.specs.declared.Source.{Source}
use Rattle.rules_record.specs.declared.Route.{Route}

-- the words of a list, laid over others after which more are laid
lay_more : (n from : ℕ) (first next : List ℕ) {zeros between after : List ℕ} → zeros ≡ replicate n 0 → from ≡ length first → between ≡ sets zeros 0 first → after ≡ sets between from next → length (first ++ next) ≤ n
    → after ≡ padded n (first ++ next)
lay_more n from first next {zeros} is-zeros is-from is-between is-after room =
    is-after
    ∙ (λ t. sets (is-between t) (is-from t) next)
    ∙ ap (λ (k : ℕ). sets (sets zeros 0 first) k next) (sym (zero-add (length first)))
    ∙ sets_append zeros 0 first next
    ∙ ap (λ (z : List ℕ). sets z 0 (first ++ next)) is-zeros
    ∙ laid n (first ++ next) room

-- a new route leaves the reopens
pub routed_reopens : (new : Option Route) (time : ℕ) (slot : Slot) → (routed_slot new time slot).reopens ≡ slot.reopens
unfolding routed_slot started_over
routed_reopens new time slot = pick_all (λ (x : Slot). x.reopens ≡ slot.reopens) (starts_over new slot) refl refl

module _ (s : Inputs) (l : Lists) (commands : List ℕ) (input : ℕ) (wanted : Option Source) (time : ℕ) (world : World) {n : ℕ} (is_number : n ≡ route_number s l (length commands) input wanted time world) where
  pub route_refused : (n ≡ 0 → ⊥) → ◌≡◌ {A = Reply} (record { number = n; inputs = s; lists = l; commands = commands }) (route_reply s l commands input wanted time world)
  unfolding route_reply
  route_refused h = reply_refused s l commands (routed input wanted time world s l) _ is_number h

  module _ (passed : n ≡ 0) where
    fitting : Fitting s l
    unfolding route_number
    fitting = call_fitting s l (length commands) input time _ (sym is_number ∙ passed)

    there : input < s.count
    unfolding route_number
    there = call_input s l (length commands) input time _ (sym is_number ∙ passed)

    low : input < 16
    unfolding route_number
    low = call_low s l (length commands) input time _ (sym is_number ∙ passed)

    room : 12 ≤ length commands
    unfolding route_number
    room =
        let told = input_told s l (length commands) input time _ (sym is_number ∙ passed) in
        omega (arith, eqb-true (length commands) (s.count * 12) (checked_output s l (Words (length commands)) told.0), fitting.allowed.least)

    few : (slot_at s input).reopens < counter_limit
    unfolding route_number
    few =
        let told = input_told s l (length commands) input time _ (sym is_number ∙ passed) in
        ((record_whole s l (length commands) told.0).inputs input told.1).slot.reopens

    module _ {known : Inputs} {new : Option Route} {slot : Slot} {zeros : List ℕ}
        (is_Known : known ≡ enrolled_for s wanted) (is_new : new ≡ route_for known wanted) (is-slot : slot ≡ slot_at known input) (is-zeros : zeros ≡ replicate (length commands) 0) where
      effect_is : routed_to new input time world known l ≡ routed input wanted time world s l
      unfolding routed
      effect_is =
          ap (λ (x : Option Route). routed_to x input time world known l) is_new
          ∙ ap (λ (z : Inputs). routed_to (route_for z wanted) input time world z l) is_Known

      by_slot : equal_route new slot.route ≡ equal_route new (slot_at known input).route
      by_slot = ap (λ (x : Slot). equal_route new x.route) is-slot

      pub route_equal : {equal : Bool} → equal ≡ equal_route new slot.route → equal ≡ true
          → ◌≡◌ {A = Reply} (record { number = n; inputs = known; lists = l; commands = zeros }) (route_reply s l commands input wanted time world)
      unfolding route_reply routed_to
      route_equal is-equal told =
          reply_accepted s l commands (routed input wanted time world s l) _ is_number passed (silent known l)
          (sym (yes_pick _ _ (sym by_slot ∙ sym is-equal ∙ told)) ∙ effect_is)
          refl refl (is-zeros ∙ laid (length commands) [] zero-le)

      pub announce_asked : (6 ≤ length zeros) × (input < 16)
      announce_asked = (omega (arith, room, length-replicate {A = ℕ} (length commands) 0, ap (λ (z : List ℕ). length z) is-zeros), low)

      pub clear_asked : Fitting known l × (input < known.count)
      clear_asked = (subst (λ (z : Inputs). Fitting z l) (sym is_Known) (for_fitting s wanted l fitting), subst (λ (z : Inputs). input < z.count) (sym is_Known) (rw (for_count s wanted) there))

      -- ---- another route
      module _ {used : ℕ} {between : List ℕ} (wrote : Wrote 6 (forgetting input slot.route ++ zeroing input new slot) used zeros between)
          {changed : Slot} (is-changed : changed ≡ routed_slot new time slot) {all : Inputs} {m : Lists} (is-cleared : silent all m ≡ cleared input changed known l) where
        between_long : length between ≡ length commands
        between_long = ap (λ (z : List ℕ). length z) wrote.1 ∙ length-sets zeros 0 (forgetting input slot.route ++ zeroing input new slot) ∙ ap (λ (z : List ℕ). length z) is-zeros ∙ length-replicate {A = ℕ} (length commands) 0

        few_here : slot.reopens < counter_limit
        few_here = subst (λ (x : Slot). x.reopens < counter_limit) (sym (is-slot ∙ ap (λ (z : Inputs). slot_at z input) is_Known ∙ for_slot s wanted input)) few

        few_changed : changed.reopens < counter_limit
        few_changed = subst (λ (k : ℕ). k < counter_limit) (sym (ap (λ (x : Slot). x.reopens) is-changed ∙ routed_reopens new time slot)) few_here

        pub open_asked : (used + 6 ≤ length between) × (input < 16) × ((slot_at all input).reopens < counter_limit)
        unfolding cleared
        open_asked = (
          omega (arith, room, between_long, wrote.0, wrote.2),
          low,
          subst (λ (z : Inputs). (slot_at z input).reopens < counter_limit) (sym (ap (λ (e : Effect). e.inputs) is-cleared))
              (slot_put known input (cleared_slot changed) (λ (x : Slot). x.reopens < counter_limit) few_changed
              (subst (λ (x : Slot). x.reopens < counter_limit) is-slot few_here)),
        )

        abbrev opened : Done
        opened = opened_for new input time world all

        abbrev sent_words : List ℕ
        sent_words = forgetting input slot.route ++ (zeroing input new slot ++ opened.words)

        -- the effect, from what the code has
        abbrev done : Effect
        done = record { inputs = opened.inputs; lists = m; words = sent_words }

        moved_is : beside m opened ≡ moved new input time world known l
        unfolding moved followed_by cleared
        moved_is =
            (λ t. beside (is-cleared t).lists (opened_for new input time world (is-cleared t).inputs))
            ∙ (λ t. followed_by (cleared input (is-changed t) known l) (λ z k. beside k (opened_for new input time world z)))
            ∙ (λ t. followed_by (cleared input (routed_slot new time (is-slot t)) known l) (λ z k. beside k (opened_for new input time world z)))

        done_is : equal_route new slot.route ≡ false → done ≡ routed input wanted time world s l
        unfolding routed_to rerouted
        done_is no-equal =
            ap (λ (e : Effect). sending (forgetting input slot.route) (sending (zeroing input new slot) e)) moved_is
            ∙ ap (λ (x : Slot). sending (forgetting input x.route) (sending (zeroing input new x) (moved new input time world known l))) is-slot
            ∙ sym (no_pick _ _ (sym by_slot ∙ no-equal))
            ∙ effect_is

        pub route_moved : {equal : Bool} → equal ≡ equal_route new slot.route → equal ≡ false → {sent : Sent} {after : List ℕ} → Did 6 opened sent between after used
            → ◌≡◌ {A = Reply} (record { number = n; inputs = sent.inputs; lists = m; commands = after }) (route_reply s l commands input wanted time world)
        unfolding route_reply
        route_moved is-equal told {sent} {after} did =
            reply_accepted s l commands (routed input wanted time world s l) _ is_number passed done (done_is (sym is-equal ∙ told)) did.inputs refl written
          where
            associated : ((forgetting input slot.route ++ zeroing input new slot) ++ opened.words) ≡ sent_words
            associated = append_assoc (forgetting input slot.route) (zeroing input new slot) opened.words

            written : after ≡ padded (length commands) sent_words
            written =
                lay_more (length commands) used (forgetting input slot.route ++ zeroing input new slot) opened.words is-zeros wrote.0 wrote.1 did.words
                (omega (arith, length-append (forgetting input slot.route ++ zeroing input new slot) opened.words, wrote.2, did.room, room))
                ∙ ap (padded (length commands)) associated
