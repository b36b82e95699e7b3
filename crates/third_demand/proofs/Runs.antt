-- What every list of calls keeps: the record, and each input's history. Assumes nothing.
use Prim.Native.Nat.{ℕ, ◌+◌, ◌≤◌, ◌<◌}
use mathlib.Core.Path.{◌≡◌, refl, sym, ap, subst, ◌∙◌}
use mathlib.Core.List.{List, [], ◌∷◌, ◌++◌}
use native.Mathlib.Omega.{arith}
use lib.ListN.{length}
use Rattle.base.proofs.Choices.{accepted_new, refused_old, by_zero}
use Rattle.rules_record.specs.declared.Slot.{Slot}
use Rattle.rules_record.specs.declared.Inputs.{Inputs}
use Rattle.rules_record.specs.Inputs.{slot_at}
use Rattle.rules_record.specs.Lent.{Lists}
use Rattle.rules_record.specs.Reply.{Reply}
use Rattle.rules_record.specs.Facts.{Checked}
use Rattle.rules_routing.proofs.SettingsKept.{SameSettings}
use Rattle.rules_calls.specs.declared.Settings.{Settings}
use Rattle.rules_calls.specs.NewRecord.{policy_of, blank_for}
use Rattle.sent_delays.specs.Last.{last_delay}
use Rattle.history.specs.View.{Rules, rules_of, InputView}
use Rattle.history.specs.Events.{Event, fresh_view, history, Lawful, clock}
use Rattle.history.specs.Events as events
use Rattle.history.proofs.Demand.{history_append}
use Rattle.third_demand.specs.Calls.{Call, time_of, after, run, clock_after, Orderly, told_by, told}
use Rattle.third_demand.proofs.Lifted.{view_of, Lifted}
use Rattle.third_demand.proofs.Good.{Counted, Sure, Good, most, seen_at, Laws}
use Rattle.third_demand.proofs.Steps.{sure_step}
use Rattle.third_demand.proofs.Refused.{Unchanged, refused_after}
use Rattle.third_demand.proofs.Ends.{lawful_then}

-- ---- one list of calls after another
pub run_append : (r : Reply) (calls more : List Call) → run r (calls ++ more) ≡ run (run r calls) more
unfolding run
run_append r [] more = refl
run_append r (call ∷ calls) more = run_append (after r call) calls more

-- the time of the last accepted call
unfoldable pub clocks : (clock : ℕ) → Reply → List Call → ℕ
clocks clock r [] = clock
clocks clock r (call ∷ calls) = clocks (clock_after clock r call) (after r call) calls

pub orderly_append : (clock : ℕ) (r : Reply) (calls more : List Call) → Orderly clock r (calls ++ more) → Orderly clock r calls × Orderly (clocks clock r calls) (run r calls) more
unfolding run clocks
orderly_append clock r [] more o = (tt, o)
orderly_append clock r (call ∷ calls) more o =
    let rest = orderly_append (clock_after clock r call) (after r call) calls more o.1 in
    ((o.0, rest.0), rest.1)

pub told_append : (i before : ℕ) (r : Reply) (calls more : List Call) → told i before r (calls ++ more) ≡ told i (told i before r calls) (run r calls) more
unfolding told run
told_append i before r [] more = refl
told_append i before r (call ∷ calls) more = told_append i (told_by i before r call) (after r call) calls more

-- ---- the events of one input

pub clock_append : (before : ℕ) (past more : List Event) → clock before (past ++ more) ≡ clock (clock before past) more
clock_append before [] more = refl
clock_append before (event ∷ past) more = clock_append (events.time_of event) past more

-- the life of an input up to a time: lawful events from fresh on that lead to this view
pub record Lived (settings : Settings) (time : ℕ) (view : InputView) : Type 0 where
  pub past : List Event
  pub leads : history (rules_of (policy_of settings)) (fresh_view (policy_of settings) settings.width) past ≡ view
  pub lawful : Lawful (rules_of (policy_of settings)) 0 (fresh_view (policy_of settings) settings.width) past
  pub clocked : clock 0 past ≤ time

module _ (settings : Settings) where
  abbrev rules : Rules
  rules = rules_of (policy_of settings)

  abbrev start : InputView
  start = fresh_view (policy_of settings) settings.width

  pub lived_lifted : (before time : ℕ) (view next : InputView) → before ≤ time → Lived settings before view → Lifted (policy_of settings) time view next → Lived settings time next
  lived_lifted before time view next le life lift =
      let soon : clock 0 life.past ≤ time = omega (arith, life.clocked, le) in
      record {
        past = life.past ++ lift.events;
        leads = history_append rules start life.past lift.events ∙ ap (λ (x : InputView). history rules x lift.events) life.leads ∙ lift.leads;
        lawful =
            lawful_then rules 0 start life.past lift.events life.lawful
            (subst (λ (x : InputView). Lawful rules (clock 0 life.past) x lift.events) (sym life.leads) (lift.lawful _ soon));
        clocked = subst (λ (x : ℕ). x ≤ time) (sym (clock_append 0 life.past lift.events)) (lift.clocked _ soon);
      }

  lived_later : (before time : ℕ) (view : InputView) → before ≤ time → Lived settings before view → Lived settings time view
  lived_later before time view le life = record { past = life.past; leads = life.leads; lawful = life.lawful; clocked = omega (arith, life.clocked, le) }

-- ---- a refused call
counted_more : (n : ℕ) (slot : Slot) → Counted n slot → Counted (n + 1) slot
counted_more n slot c = record { reopens = omega (arith, c.reopens); changes = omega (arith, c.changes); lates = omega (arith, c.lates) }

sure_unchanged : (settings : Settings) (n : ℕ) (r z : Reply) → Unchanged r z → Sure settings n r → Sure settings (n + 1) z
sure_unchanged settings n r z u g =
    record {
      checked = subst (λ (l : Lists). Checked z.inputs l) (sym u.lists) (subst (λ (s : Inputs). Checked s r.lists) (sym u.inputs) g.checked);
      same = subst (λ (s : Inputs). SameSettings (blank_for settings) s) (sym u.inputs) g.same;
      long = ap length u.commands ∙ g.long;
      counted = λ i h. subst (λ (s : Inputs). Counted (n + 1) (slot_at s i)) (sym u.inputs) (counted_more n (slot_at r.inputs i) (g.counted i h));
    }

good_unchanged : (settings : Settings) (n : ℕ) (r z : Reply) → Unchanged r z → Good settings n r → Good settings (n + 1) z
good_unchanged settings n r z u g =
    record {
      sure = sure_unchanged settings n r z u g.sure;
      unproposed = λ i h. ap (λ (s : Inputs). (slot_at s i).proposed) u.inputs ∙ g.unproposed i h;
    }

pub seen_unchanged : (r z : Reply) (i : ℕ) → Unchanged r z → seen_at z i ≡ seen_at r i
seen_unchanged r z i u = λ t. view_of (u.inputs t) (u.lists t) i

-- ---- every list of calls, with confirmation or without
module _ (settings : Settings) where
  pub sure_after : (n : ℕ) (r : Reply) (call : Call) → n < most → Sure settings n r → Sure settings (n + 1) (after r call)
  sure_after n r call few g =
      by_zero (after r call).number (λ took. (sure_step settings n r call few g took).sure) (λ refused. sure_unchanged settings n r (after r call) (refused_after r call refused) g)

  pub sure_run : (n : ℕ) (r : Reply) (calls : List Call) → n + length calls < most → Sure settings n r → Sure settings (n + length calls) (run r calls)
  unfolding run
  sure_run n r [] few g = subst (λ (x : ℕ). Sure settings x r) (omega arith) g
  sure_run n r (call ∷ calls) few g =
      subst (λ (x : ℕ). Sure settings x (run (after r call) calls)) (omega arith)
      (sure_run (n + 1) (after r call) calls (omega (arith, few)) (sure_after n r call (omega (arith, few)) g))

  pub told_run :
      (n : ℕ) (r : Reply) (calls : List Call) (i before : ℕ) → n + length calls < most → i < settings.count → Sure settings n r → before ≡ (slot_at r.inputs i).delay →
      told i before r calls ≡ (slot_at (run r calls).inputs i).delay
  unfolding run told told_by
  told_run n r [] i before few h g e = e
  told_run n r (call ∷ calls) i before few h g e =
      told_run (n + 1) (after r call) calls i (told_by i before r call) (omega (arith, few)) h (sure_after n r call (omega (arith, few)) g)
      (by_zero (after r call).number
      (λ took.
      accepted_new (after r call).number before (last_delay i before (after r call).commands) took
      ∙ ap (λ (x : ℕ). last_delay i x (after r call).commands) e
      ∙ sym ((sure_step settings n r call (omega (arith, few)) g took).told i h))
      (λ refused.
      refused_old (after r call).number before _ refused
      ∙ e
      ∙ sym (ap (λ (s : Inputs). (slot_at s i).delay) (refused_after r call refused).inputs)))

-- ---- every list of calls, without confirmation
module _ (settings : Settings) (laws : Laws settings) where
  pub good_after : (n : ℕ) (r : Reply) (call : Call) → n < most → Good settings n r → Good settings (n + 1) (after r call)
  good_after n r call few g =
      by_zero (after r call).number (λ took. (laws.step n r call few g took).good) (λ refused. good_unchanged settings n r (after r call) (refused_after r call refused) g)

  pub good_run : (n : ℕ) (r : Reply) (calls : List Call) → n + length calls < most → Good settings n r → Good settings (n + length calls) (run r calls)
  unfolding run
  good_run n r [] few g = subst (λ (x : ℕ). Good settings x r) (omega arith) g
  good_run n r (call ∷ calls) few g =
      subst (λ (x : ℕ). Good settings x (run (after r call) calls)) (omega arith)
      (good_run (n + 1) (after r call) calls (omega (arith, few)) (good_after n r call (omega (arith, few)) g))

  pub lived_run :
      (n clock : ℕ) (r : Reply) (calls : List Call) (i : ℕ) → n + length calls < most → i < settings.count → Good settings n r → Orderly clock r calls →
      Lived settings clock (seen_at r i) → Lived settings (clocks clock r calls) (seen_at (run r calls) i)
  unfolding run clocks clock_after
  lived_run n clock r [] i few h g o life = life
  lived_run n clock r (call ∷ calls) i few h g o life =
      lived_run (n + 1) (clock_after clock r call) (after r call) calls i (omega (arith, few)) h (good_after n r call (omega (arith, few)) g) o.1
      (by_zero (after r call).number
      (λ took.
      subst (λ (x : ℕ). Lived settings x (seen_at (after r call) i)) (sym (accepted_new (after r call).number clock (time_of call) took))
      (lived_lifted settings clock (time_of call) (seen_at r i) (seen_at (after r call) i) (o.0 took) life ((laws.step n r call (omega (arith, few)) g took).lifted i h)))
      (λ refused.
      subst (λ (x : ℕ). Lived settings x (seen_at (after r call) i)) (sym (refused_old (after r call).number clock (time_of call) refused))
      (subst (Lived settings clock) (sym (seen_unchanged r (after r call) i (refused_after r call refused))) life)))
