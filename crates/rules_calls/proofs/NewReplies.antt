-- The checks of `new` and what it leaves, case by case, as the code goes. Assumes nothing.
use Prim.Native.Nat.{ℕ, ◌*◌, ◌<◌, ◌≤◌}
use mathlib.Core.Bool.{Bool, true, false}
use mathlib.Core.Path.{◌≡◌, sym, ap, ◌∙◌}
use mathlib.Core.List.{List}
use native.Mathlib.Omega.{arith}
use lib.Dec.{eqb}
use lib.ListN.{length, replicate, length-replicate}
use lib.Seq.{sets}
use borrow.Author.Tests.{leb-true}
use Rattle.base.specs.Choice.{ask}
use Rattle.base.specs.Limits.{time_limit, buckets_limit}
use Rattle.base.proofs.All.{told_no, told_yes}
use Rattle.base.proofs.Choices.{yes_ask, no_ask}
use Rattle.base.proofs.Points.{both_true}
use Rattle.base.proofs.Words.{laid}
use Rattle.buckets.specs.Ranges.{buckets_of, ranges_number, Ranged}
use Rattle.buckets.proofs.Told.{ranges_passed, ranges_stop}
use Rattle.policy.specs.declared.DelayPolicy.{DelayPolicy}
use Rattle.rules_record.specs.declared.ExtraDelay.{ExtraDelay}
use Rattle.rules_record.specs.declared.Inputs.{Inputs}
use Rattle.rules_record.specs.Commands.{Sent, Did}
use Rattle.rules_record.specs.declared.Output.TheVariants.{Words}
use Rattle.rules_record.specs.Lent.{Lists, buckets_in}
use Rattle.rules_record.specs.Checks.{inputs_allowed, pauses_allowed, lists_fit, output_fits}
use Rattle.rules_record.specs.Effects.{beside}
use Rattle.rules_record.specs.Reply.{Reply}
use Rattle.rules_record.proofs.Replies.{reply_refused, reply_accepted}
use Rattle.rules_calls.specs.declared.Settings.{Settings}
use Rattle.rules_calls.specs.NewRecord.{policy_of, blank, blank_for, no_inputs}
use Rattle.rules_calls.specs.NewLoading.{loaded_below, load_fits}
use Rattle.rules_calls.specs.NewStart.{zeroed_lists, started_below, started}
use Rattle.rules_calls.specs.NewChecks.{margin_fits, settings_number, new_number}
use Rattle.rules_calls.specs.NewReply.{new_reply}
use Rattle.rules_calls.proofs.NewNumbers.{number_refused, number_late, number_full, number_none}
use Rattle.rules_calls.proofs.NewAccepted.{Fit, fit_of}

-- ---- checks 1 to 5
module _ (settings : Settings) (bytes delays : ℕ) (l : Lists) (words : ℕ) where
  pub refused_one : inputs_allowed settings.count ≡ false → 1 ≡ settings_number settings bytes delays l words 0
  unfolding settings_number
  refused_one h = sym (no_ask 1 _ h)

  module _ (one : inputs_allowed settings.count ≡ true) where
    -- the number of 2, 17 and 18
    pub refused_ranges : {n : ℕ} → n ≡ ranges_number settings.read_offset settings.delay_max settings.width 0 → (n ≡ 0 → ⊥) → n ≡ settings_number settings bytes delays l words 0
    unfolding settings_number
    refused_ranges e h = sym (yes_ask 1 _ one ∙ ranges_stop _ _ _ e h _)

    module _ (ranged : Ranged settings.read_offset settings.delay_max settings.width) {policy : DelayPolicy} (is-policy : policy ≡ policy_of settings) where
      three_is : {b : Bool} → pauses_allowed policy settings.stall ≡ b → pauses_allowed (policy_of settings) settings.stall ≡ b
      three_is h = ap (λ (p : DelayPolicy). pauses_allowed p settings.stall) (sym is-policy) ∙ h

      pub refused_three : pauses_allowed policy settings.stall ≡ false → 3 ≡ settings_number settings bytes delays l words 0
      unfolding settings_number
      refused_three h = sym (yes_ask 1 _ one ∙ ranges_passed _ _ _ ranged _ ∙ no_ask 3 _ (three_is h))

      module _ (three : pauses_allowed policy settings.stall ≡ true) where
        pub refused_four : margin_fits settings ≡ false → 4 ≡ settings_number settings bytes delays l words 0
        unfolding settings_number
        refused_four h = sym (yes_ask 1 _ one ∙ ranges_passed _ _ _ ranged _ ∙ yes_ask 3 _ (three_is three) ∙ no_ask 4 _ h)

        pub count_asked : settings.count ≤ 16
        unfolding inputs_allowed
        count_asked = leb-true _ _ (both_true _ _ one).1

        module _ (four : margin_fits settings ≡ true) {buckets : ℕ} (is-buckets : buckets ≡ buckets_of settings.read_offset settings.delay_max settings.width) where
          pub lists_asked : (settings.count ≤ 16) × (buckets ≤ buckets_limit)
          lists_asked = (count_asked, rw is-buckets ranged.buckets_most)

          five_is : {b : Bool} → lists_fit settings.count buckets l ≡ b → lists_fit settings.count (buckets_in (blank_for settings)) l ≡ b
          unfolding buckets_in blank_for blank policy_of
          five_is h = ap (λ (n : ℕ). lists_fit settings.count n l) (sym is-buckets) ∙ h

          pub refused_lists : lists_fit settings.count buckets l ≡ false → 5 ≡ settings_number settings bytes delays l words 0
          unfolding settings_number
          refused_lists h = sym (yes_ask 1 _ one ∙ ranges_passed _ _ _ ranged _ ∙ yes_ask 3 _ (three_is three) ∙ yes_ask 4 _ four ∙ no_ask 5 _ (five_is h))

          module _ (five : lists_fit settings.count buckets l ≡ true) where
            pub refused_words : output_fits settings.count (Words words) ≡ false → 5 ≡ settings_number settings bytes delays l words 0
            unfolding settings_number
            refused_words h = sym (yes_ask 1 _ one ∙ ranges_passed _ _ _ ranged _ ∙ yes_ask 3 _ (three_is three) ∙ yes_ask 4 _ four ∙ yes_ask 5 _ (five_is five) ∙ no_ask 5 _ h)

            module _ (fit : output_fits settings.count (Words words) ≡ true) where
              passed_words : (rest : ℕ) → settings_number settings bytes delays l words rest ≡ ask 5 (eqb bytes (delays * 16)) rest
              unfolding settings_number
              passed_words rest = yes_ask 1 _ one ∙ ranges_passed _ _ _ ranged _ ∙ yes_ask 3 _ (three_is three) ∙ yes_ask 4 _ four ∙ yes_ask 5 _ (five_is five) ∙ yes_ask 5 _ fit

              pub refused_bytes : eqb bytes (delays * 16) ≡ false → 5 ≡ settings_number settings bytes delays l words 0
              refused_bytes h = sym (passed_words 0 ∙ no_ask 5 _ h)

              pub passed_settings : eqb bytes (delays * 16) ≡ true → 0 ≡ settings_number settings bytes delays l words 0
              passed_settings h = sym (passed_words 0 ∙ yes_ask 5 _ h)

-- ---- the call
module _ (settings : Settings) (kinds : List ExtraDelay) (bytes delays : List ℕ) (time : ℕ) (l : Lists) (commands : List ℕ) {n : ℕ} (is-settings : n ≡ settings_number settings (length bytes) (length delays) l (length commands) 0) where
  module _ {none : Inputs} (is_none : none ≡ no_inputs) where
    refused_by : (k : ℕ) → k ≡ new_number settings bytes delays time l (length commands) → (k ≡ 0 → ⊥) → ◌≡◌ {A = Reply} (record { number = k; inputs = none; lists = l; commands = commands }) (new_reply settings kinds bytes delays time l commands)
    unfolding new_reply
    refused_by k e h =
        ap (λ (z : Inputs). record { number = k; inputs = z; lists = l; commands = commands }) is_none
        ∙ reply_refused no_inputs l commands (started settings kinds bytes delays time l) _ e h

    pub new_refused : (n ≡ 0 → ⊥) → ◌≡◌ {A = Reply} (record { number = n; inputs = none; lists = l; commands = commands }) (new_reply settings kinds bytes delays time l commands)
    new_refused h = refused_by n (is-settings ∙ sym (number_refused settings bytes delays time l (length commands) (λ e. h (is-settings ∙ e)))) h

    module _ (passed : n ≡ 0) where
      pub new_late : time_limit < time → ◌≡◌ {A = Reply} (record { number = 8; inputs = none; lists = l; commands = commands }) (new_reply settings kinds bytes delays time l commands)
      new_late late = refused_by 8 (sym (number_late settings bytes delays time l (length commands) (sym is-settings ∙ passed) late)) (λ e. omega arith)

      pub new_full : time ≤ time_limit → {s : Inputs} {fits : Bool} → s ≡ blank_for settings → fits ≡ load_fits (length delays) bytes delays s → fits ≡ false
          → ◌≡◌ {A = Reply} (record { number = 9; inputs = none; lists = l; commands = commands }) (new_reply settings kinds bytes delays time l commands)
      new_full soon is-blank is-fits full =
          refused_by 9
          (sym (number_full settings bytes delays time l (length commands) (sym is-settings ∙ passed) soon (told_no _ _ (is-fits ∙ ap (load_fits (length delays) bytes delays) is-blank) full)))
          (λ e. omega arith)

  module _ (passed : n ≡ 0) where
    fit : Fit settings (length bytes) (length delays) l (length commands)
    fit = (fit_of settings l (length commands) _ _ 0 (sym is-settings ∙ passed)).0

    pub load_asked : length bytes ≡ length delays * 16
    load_asked = fit.bytes_long

    pub start_asked : {zeros : List ℕ} → zeros ≡ replicate (length commands) 0 → (settings.count * 3 ≤ length zeros) × (settings.count ≤ 16)
    start_asked e = (rw (e, length-replicate {A = ℕ} (length commands) 0) (omega (arith, fit.commands_long)), fit.allowed.most)

    pub new_done : time ≤ time_limit → {s all : Inputs} {fits : Bool} → s ≡ blank_for settings → fits ≡ load_fits (length delays) bytes delays s → fits ≡ true → (fits ≡ true → all ≡ loaded_below (length delays) bytes delays s)
        → {m : Lists} {zeros after : List ℕ} {sent : Sent} → m ≡ zeroed_lists l → zeros ≡ replicate (length commands) 0 → Did (settings.count * 3) (started_below settings.count kinds time all) sent zeros after 0
        → ◌≡◌ {A = Reply} (record { number = n; inputs = sent.inputs; lists = m; commands = after }) (new_reply settings kinds bytes delays time l commands)
    unfolding new_reply started
    new_done soon {s} {all} {fits} is-blank is-fits room is_loaded {m} {zeros} {after} {sent} is-zeroed is-zeros did =
        reply_accepted no_inputs l commands (started settings kinds bytes delays time l) _
        (passed
        ∙ sym (number_none settings bytes delays time l (length commands) (sym is-settings ∙ passed) soon (told_yes _ _ (is-fits ∙ ap (load_fits (length delays) bytes delays) is-blank) room)))
        passed
        (beside (zeroed_lists l) (started_below settings.count kinds time all))
        (ap (λ (z : Inputs). beside (zeroed_lists l) (started_below settings.count kinds time z)) (is_loaded room ∙ ap (loaded_below (length delays) bytes delays) is-blank))
        did.inputs
        is-zeroed
        (did.words
        ∙ ap (λ (z : List ℕ). sets z 0 (started_below settings.count kinds time all).words) is-zeros
        ∙ laid (length commands) (started_below settings.count kinds time all).words (omega (arith, did.room, fit.commands_long)))
