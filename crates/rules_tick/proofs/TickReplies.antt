-- What `tick` leaves, refused or accepted, as the code goes. Assumes nothing.
use Prim.Native.Nat.{ℕ}
use mathlib.Core.Bool.{Bool, false}
use mathlib.Core.Path.{◌≡◌, sym, ap, ◌∙◌}
use mathlib.Core.List.{List}
use lib.ListN.{length}
use Rattle.base.proofs.Choices.{refused_old, accepted_new}
use Rattle.rules_record.specs.declared.Inputs.{Inputs}
use Rattle.rules_record.specs.Lent.{Lists}
use Rattle.rules_record.specs.Reply.{carried_out}
use Rattle.rules_record.proofs.Replies.{reply_refused}
use Rattle.rules_tick.specs.declared.Look.{Look}
use Rattle.rules_tick.specs.TickChecks.{tick_number}
use Rattle.rules_tick.specs.Tick.{ticked, unsaved_at}
use Rattle.rules_tick.specs.TickReply.{tick_reply, tick_unsaved}
use Rattle.rules_tick.specs.TickAnswer.{TickReply, carried}
use Rattle.rules_tick.specs.TickLeaves.{tick_leaves}

module _ (s : Inputs) (l : Lists) (commands : List ℕ) (looks : List Look) (lags : List ℕ) (time : ℕ) {n : ℕ} (is_number : n ≡ tick_number s l (length commands) looks lags time) where
  abbrev number : ℕ
  number = tick_number s l (length commands) looks lags time

  pub leaves_refused : (n ≡ 0 → ⊥) → ◌≡◌ {A = TickReply} (record { reply = record { number = n; inputs = s; lists = l; commands = commands }; unsaved = false }) (tick_leaves s l commands looks lags time)
  unfolding tick_leaves tick_reply tick_unsaved
  leaves_refused h = λ t. record {
    reply = reply_refused s l commands (ticked looks lags time s l) number is_number h t;
    unsaved = sym (refused_old number false (unsaved_at looks lags time s l) (λ e. h (is_number ∙ e))) t;
  }

  module _ (passed : n ≡ 0) where
    pub passes : number ≡ 0
    passes = sym is_number ∙ passed

    pub leaves_accepted : {left : TickReply} → left ≡ carried commands (ticked looks lags time s l) (unsaved_at looks lags time s l) → left ≡ tick_leaves s l commands looks lags time
    unfolding tick_leaves tick_reply tick_unsaved
    leaves_accepted e =
        e
        ∙ (λ t. record {
          reply = (ap (λ (k : ℕ). carried_out k commands (ticked looks lags time s l)) (sym passes) ∙ sym (accepted_new number (record { number = number; inputs = s; lists = l; commands = commands }) _ passes)) t;
          unsaved = sym (accepted_new number false (unsaved_at looks lags time s l) passes) t;
        })

-- where the lent list ends as these words
pub ticked_by : {n : ℕ} {s : Inputs} {l : Lists} {unsaved : Bool} {words list : List ℕ} {r : TickReply}
    → record { reply = record { number = n; inputs = s; lists = l; commands = words }; unsaved = unsaved } ≡ r → list ≡ words
    → record { reply = record { number = n; inputs = s; lists = l; commands = list }; unsaved = unsaved } ≡ r
ticked_by {n} {s} {l} {unsaved} h e = ap (λ (c : List ℕ). record { reply = record { number = n; inputs = s; lists = l; commands = c }; unsaved = unsaved }) e ∙ h
