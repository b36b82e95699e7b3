-- The checks of a tick one after another, as the code goes, and what they let through. Assumes nothing.
use Prim.Native.Nat.{ℕ, ◌*◌, ◌<◌, ◌≤◌}
use mathlib.Core.Bool.{Bool, true, false}
use mathlib.Core.Path.{◌≡◌, sym, ◌∙◌}
use mathlib.Core.List.{List}
use native.Mathlib.Omega.{arith}
use borrow.Author.Tests.{eqb-true, le-leb, lt-leb}
use lib.ListN.{length}
use Rattle.base.specs.Limits.{time_limit}
use Rattle.base.proofs.Choices.{yes_ask, no_ask}
use Rattle.base.proofs.All.{told_no, told_yes}
use Rattle.rules_window.proofs.WholeAt.{whole_of}
use Rattle.rules_record.specs.declared.Inputs.{Inputs}
use Rattle.rules_record.specs.Inputs.{slot_at}
use Rattle.rules_record.specs.Sized.{Sized}
use Rattle.rules_record.specs.declared.Output.TheVariants.{Words}
use Rattle.rules_record.specs.Lent.{Lists}
use Rattle.rules_record.specs.Checks.{record_number}
use Rattle.rules_record.proofs.Checked.{checked, checked_output, number_passed, number_refused}
use Rattle.rules_record.specs.Facts.{Checked}
use Rattle.rules_record.proofs.Numbers.{record_fitting}
use Rattle.rules_tick.proofs.Ready.{ready_sound, ready_window}
use Rattle.rules_tick.proofs.Readiness.{ready_of}
use Rattle.rules_tick.specs.declared.Look.{Look}
use Rattle.rules_tick.specs.TickChecks.{looks_fit, lags_fit, rooms_fit, tick_number}
use Rattle.rules_tick.specs.TickAsked.{RoomsAsked, InputsAsked}
use Rattle.rules_tick.proofs.TickAccepted.{tick_record, tick_checked, tick_accepted}

-- ---- one after another
module _ (s : Inputs) (l : Lists) (words : ℕ) (looks : List Look) (lags : List ℕ) (time : ℕ) {n : ℕ} (is-record : n ≡ record_number s l (Words words) 0) where
  pub tick_refused : (n ≡ 0 → ⊥) → n ≡ tick_number s l words looks lags time
  unfolding tick_number
  tick_refused h = is-record ∙ sym (number_refused s l (Words words) (λ e. h (is-record ∙ e)) _)

  module _ (passed : n ≡ 0) where
    pub count_most : s.count ≤ 16
    count_most = (record_fitting s l words (sym is-record ∙ passed)).allowed.most

    pub rooms_asked : Sized s → RoomsAsked s (length l.starts) (length l.totals)
    rooms_asked sized = record {
      most = count_most;
      starts_long = (record_fitting s l words (sym is-record ∙ passed)).long.starts;
      totals_long = (record_fitting s l words (sym is-record ∙ passed)).long.totals;
      seconds = few;
    }
      where
        whole : Checked s l
        whole = checked s l (Words words) sized (sym is-record ∙ passed)

        few : (i : ℕ) → i < s.count → (slot_at s i).lag_seconds ≤ 11
        few i h = (whole_of _ (ready_sound s l i (slot_at s i) (ready_window s l i (ready_of s l whole i h)))).few

    pub tick_late : time_limit < time → 8 ≡ tick_number s l words looks lags time
    unfolding tick_number
    tick_late h = sym (number_passed s l (Words words) (sym is-record ∙ passed) _ ∙ no_ask 8 _ (lt-leb _ _ h))

    module _ (soon : time ≤ time_limit) {good : Bool} (is-good : good ≡ looks_fit s looks) where
      pub looks_refused : good ≡ false → 10 ≡ tick_number s l words looks lags time
      unfolding tick_number
      looks_refused refused = sym (number_passed s l (Words words) (sym is-record ∙ passed) _ ∙ yes_ask 8 _ (le-leb _ _ soon) ∙ no_ask 10 _ (told_no _ _ is-good refused))

      module _ (fits : good ≡ true) {even : Bool} (is-even : even ≡ lags_fit s looks lags) where
        pub lags_refused : even ≡ false → 10 ≡ tick_number s l words looks lags time
        unfolding tick_number
        lags_refused refused =
            sym
            (number_passed s l (Words words) (sym is-record ∙ passed) _
            ∙ yes_ask 8 _ (le-leb _ _ soon)
            ∙ yes_ask 10 _ (told_yes _ _ is-good fits)
            ∙ no_ask 10 _ (told_no _ _ is-even refused))

        module _ (too : even ≡ true) {roomy : Bool} (is-roomy : roomy ≡ rooms_fit s l looks time) where
          pub rooms_refused : roomy ≡ false → 11 ≡ tick_number s l words looks lags time
          unfolding tick_number
          rooms_refused refused =
              sym
              (number_passed s l (Words words) (sym is-record ∙ passed) _
              ∙ yes_ask 8 _ (le-leb _ _ soon)
              ∙ yes_ask 10 _ (told_yes _ _ is-good fits)
              ∙ yes_ask 10 _ (told_yes _ _ is-even too)
              ∙ no_ask 11 _ (told_no _ _ is-roomy refused))

          pub tick_passes : roomy ≡ true → 0 ≡ tick_number s l words looks lags time
          unfolding tick_number
          tick_passes last =
              sym
              (number_passed s l (Words words) (sym is-record ∙ passed) _
              ∙ yes_ask 8 _ (le-leb _ _ soon)
              ∙ yes_ask 10 _ (told_yes _ _ is-good fits)
              ∙ yes_ask 10 _ (told_yes _ _ is-even too)
              ∙ yes_ask 11 0 (told_yes _ _ is-roomy last))

-- ---- what they let through
module _ (s : Inputs) (l : Lists) (words : ℕ) (looks : List Look) (lags : List ℕ) (time : ℕ) (sized : Sized s) (passed : tick_number s l words looks lags time ≡ 0) where
  pub inputs_asked : InputsAsked s l looks lags time
  inputs_asked =
      let whole = tick_checked s l words looks lags time passed sized in
      let told = tick_accepted s l words looks lags time passed in
      record {
        sized = sized;
        timely = told.timely;
        most = whole.fitting.allowed.most;
        lags_in_law = told.total;
        inputs =
            λ i h.
            let slot = (whole.whole.inputs i h).slot in
            record {
              ready = ready_of s l whole i h;
              room = told.rooms i h;
              applied = told.applied i h;
              reopens = slot.reopens;
              changes = slot.changes;
              lates = slot.lates;
            };
      }

  pub words_enough : s.count * 9 ≤ words
  words_enough = omega (arith, eqb-true words (s.count * 12) (checked_output s l (Words words) (tick_record s l words looks lags time passed)))
