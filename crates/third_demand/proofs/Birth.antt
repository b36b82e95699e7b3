-- What an accepted `new` leaves, with confirmation or without. Assumes nothing.
use Prim.Native.Nat.{ℕ, ◌*◌, ◌<◌}
use mathlib.Core.Path.{◌≡◌, refl, ap, ◌∙◌}
use mathlib.Core.List.{[]}
use native.Mathlib.Omega.{arith}
use lib.ListN.{length}
use Rattle.rules_record.specs.Reply.{Reply}
use Rattle.rules_calls.specs.NewRecord.{policy_of, no_inputs}
use Rattle.rules_calls.specs.NewChecks.{new_number}
use Rattle.rules_calls.specs.NewStart.{started, started_below, loaded}
use Rattle.rules_calls.specs.NewReply.{new_reply}
use Rattle.rules_calls.proofs.NewAccepted.{accepted_of}
use Rattle.history.specs.Events.{fresh_view, history}
use Rattle.third_demand.specs.Calls.{Night, fresh}
use Rattle.third_demand.proofs.Given.{passed_of, given_input}
use Rattle.third_demand.proofs.Told.{fresh_told}
use Rattle.third_demand.proofs.Lengths.{padded_long, started_few}
use Rattle.third_demand.proofs.NewViews.{Started, new_reply_law, new_fresh}
use Rattle.third_demand.proofs.Good.{Good, seen_at}
use Rattle.third_demand.proofs.Runs.{Lived, lived_lifted}
use Rattle.third_demand.proofs.Theorem.{Born}

module _ (night : Night) (is_new : (fresh night).number ≡ 0) where
  passed : new_number night.settings night.bytes night.delays night.time night.lists (length night.commands) ≡ 0
  unfolding new_reply
  passed = passed_of _ no_inputs night.lists night.commands (started night.settings night.kinds night.bytes night.delays night.time night.lists) is_new

  begun : Started night.settings night.kinds night.time (fresh night).inputs (fresh night).lists
  begun = new_fresh night.settings night.kinds night.bytes night.delays night.time night.lists night.commands passed

  long : length (fresh night).commands ≡ night.settings.count * 12
  unfolding started
  long =
      let fit = (accepted_of night.settings night.lists (length night.commands) night.bytes night.delays night.time passed).0 in
      let few = started_few night.settings.count night.kinds night.time (loaded night.settings night.bytes night.delays) in
      ap (λ (r : Reply). length r.commands) (new_reply_law night.settings night.kinds night.bytes night.delays night.time night.lists night.commands passed)
      ∙ padded_long (length night.commands) (started_below night.settings.count night.kinds night.time (loaded night.settings night.bytes night.delays)).words (omega (arith, few, fit.commands_long))
      ∙ fit.commands_long

  good : Good night.settings 0 (fresh night)
  good = record {
    sure = record {
      checked = begun.checked;
      same = begun.given;
      long = long;
      counted = λ i h.
          let slot = begun.slot i h in
          record { reopens = omega (arith, slot.reopens); changes = omega (arith, slot.changes); lates = omega (arith, slot.lates) };
    };
    unproposed = λ i h. (begun.slot i h).proposed;
  }

  lived : (i : ℕ) → i < night.settings.count → Lived night.settings 0 (seen_at (fresh night) i)
  unfolding history
  lived i h =
      lived_lifted night.settings 0 0 (fresh_view (policy_of night.settings) night.settings.width) (seen_at (fresh night) i) (omega arith)
      (record { past = []; leads = refl; lawful = tt; clocked = omega arith })
      (begun.lifted i h)

  pub born : Born night
  born = record {
    good = good;
    lived = lived;
    told = λ i h. fresh_told night is_new i (omega (arith, given_input night.settings (fresh night).inputs begun.given i h, begun.checked.fitting.allowed.most));
  }
