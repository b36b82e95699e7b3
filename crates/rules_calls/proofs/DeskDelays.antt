-- The listening desk's check and limit at their edges, and what is shown of its delays (document 02, §6). Assumes nothing.
use Prim.Native.Nat.{ℕ, ◌≤◌}
use mathlib.Core.Bool.{true, false}
use mathlib.Core.Path.{◌≡◌, refl, sym, ap, subst, ◌∙◌}
use mathlib.Core.List.{List, [], ◌∷◌}
use native.Mathlib.Omega.{arith}
use lib.Dec.{T}
use lib.IntN.{pos, negsuc}
use lib.Ieee.{Float, nan, inf, fin, round, mul, div, of_int, le}
use lib.ListN.{length}
use Rattle.base.specs.Choice.{both, ask}
use Rattle.base.specs.Limits.{samples_limit}
use Rattle.base.specs.Lists.{padded}
use Rattle.base.proofs.Choices.{by_bool, by_zero, yes_ask, no_ask, asked, accepted_new}
use Rattle.base.proofs.Points.{both_true}
use Rattle.doubles.specs.Doubles.{ms_of, samples_of}
use Rattle.doubles.proofs.Delays.{manual_fits_law}
use Rattle.rules_record.specs.declared.AutoTag.TheVariants.{Auto as auto-tag}
use Rattle.rules_record.specs.declared.Slot.{Slot}
use Rattle.rules_record.specs.declared.Inputs.{Inputs}
use Rattle.rules_record.specs.Inputs.{slot_at}
use Rattle.rules_record.specs.Sized.{Sized}
use Rattle.rules_record.specs.Commands.{set_delay}
use Rattle.rules_record.specs.Lent.{Lists}
use Rattle.rules_record.specs.Checks.{timed_number}
use Rattle.rules_record.specs.Reply.{Reply, carried_out, replied}
use Rattle.rules_record.proofs.Numbers.{input_told, refused_by, passed_by_law, call_low}
use Rattle.rules_calls.specs.declared.DelaySetting.{DelaySetting}
use Rattle.rules_calls.specs.declared.DelaySetting.TheVariants.{Auto, Ms, Desk}
use Rattle.rules_calls.specs.UpdateChecks.{manual_fits, kind_fits, desk_reach, desk_limit, desk_fits, manual_number, update_number}
use Rattle.rules_calls.specs.Update.{kind_of, updated}
use Rattle.rules_calls.specs.UpdateReply.{update_reply}
use Rattle.rules_calls.specs.DeskDelays.{DeskDelays}
use Rattle.rules_calls.proofs.UpdateDelays.{manual_slot, manual_words_law}
use Rattle.rules_calls.proofs.UpdateReplies.{update_refused}

-- ---- the edges, computed
-- "Its limit is 2,400 samples or the maximum, whichever is smaller."
pub the_smaller_limit : desk_limit 0 ∷ desk_limit 2399 ∷ desk_limit 2400 ∷ desk_limit 2401 ∷ desk_limit 96000 ∷ [] ≡ 0 ∷ 2399 ∷ 2400 ∷ 2400 ∷ 2400 ∷ []
unfolding desk_limit
the_smaller_limit = refl

-- 50 ms are 2,400 samples, 100 ms 4,800; the doubles next above them
abbrev fifty : Float
fifty = fin false 25 (pos 1)

abbrev above_fifty : Float
above_fifty = fin false 7036874417766401 (negsuc 46)

abbrev hundred : Float
hundred = fin false 25 (pos 2)

abbrev above_hundred : Float
above_hundred = fin false 7036874417766401 (negsuc 45)

-- with a maximum of 4,800: from 0 to 50 ms, -0.0 too, are accepted, above them to 100 ms are 21, and what 12 refuses is 12
pub desk_at_its_edges :
    manual_number (Desk (fin true 0 (pos 0))) 4800
    ∷ manual_number (Desk fifty) 4800
    ∷ manual_number (Desk above_fifty) 4800
    ∷ manual_number (Desk hundred) 4800
    ∷ manual_number (Desk above_hundred) 4800
    ∷ manual_number (Desk (fin true 1 (negsuc 1073))) 4800
    ∷ manual_number (Desk nan) 4800
    ∷ manual_number (Desk (inf false)) 4800
    ∷ manual_number (Desk (inf true)) 4800
    ∷ []
    ≡ 0 ∷ 0 ∷ 21 ∷ 21 ∷ 12 ∷ 12 ∷ 12 ∷ 12 ∷ 12 ∷ []
unfolding manual_number manual_fits desk_limit both ask ms_of round div mul of_int le
desk_at_its_edges = refl

-- of the scoring program, and of a change back to automatic, 21 is not asked
pub others_at_the_edges :
    manual_number (Ms above_fifty) 4800 ∷ manual_number (Ms hundred) 4800 ∷ manual_number (Ms above_hundred) 4800 ∷ manual_number (Auto auto-tag) 4800 ∷ [] ≡ 0 ∷ 0 ∷ 12 ∷ 0 ∷ []
unfolding manual_number manual_fits desk_limit both ask ms_of round div mul of_int le
others_at_the_edges = refl

-- with a maximum of 2,400, or of 48 (1 ms), 12 refuses before 21 can
pub small_maxima_at_their_edges :
    manual_number (Desk fifty) 2400 ∷ manual_number (Desk above_fifty) 2400 ∷ manual_number (Desk (fin false 1 (pos 0))) 48 ∷ manual_number (Desk fifty) 48 ∷ [] ≡ 0 ∷ 12 ∷ 0 ∷ 12 ∷ []
unfolding manual_number manual_fits desk_limit both ask ms_of round div mul of_int le
small_maxima_at_their_edges = refl

-- ---- 21 comes after 12
pub twelve_first : (setting : DelaySetting) (maximum : ℕ) → kind_fits (kind_of setting) maximum ≡ false → manual_number setting maximum ≡ 12
unfolding manual_number
twelve_first setting maximum refused = no_ask 12 _ refused

-- what 12 lets through is refused by 21 above the limit
pub then_twenty_one : (setting : DelaySetting) (maximum : ℕ) → kind_fits (kind_of setting) maximum ≡ true → desk_fits setting maximum ≡ false → manual_number setting maximum ≡ 21
unfolding manual_number
then_twenty_one setting maximum fits beyond = yes_ask 12 _ fits ∙ no_ask 21 0 beyond

limit_is : (maximum : ℕ) → maximum ≤ desk_reach → desk_limit maximum ≡ maximum
unfolding desk_limit
limit_is maximum small = omega (arith, small)

-- with a maximum up to 2,400 the desk is asked no more than the scoring program
pub same_up_to_the_reach : (delay : Float) (maximum : ℕ) → maximum ≤ desk_reach → manual_number (Desk delay) maximum ≡ manual_number (Ms delay) maximum
unfolding manual_number manual_fits
same_up_to_the_reach delay maximum small =
    by_bool (manual_fits delay maximum)
    (λ fits. ap (ask 12 (manual_fits delay maximum)) (yes_ask 21 0 (subst (λ (n : ℕ). le delay (ms_of n) ≡ true) (sym (limit_is maximum small)) (both_true _ _ fits).1) ∙ sym (yes_ask 21 0 refl)))
    (λ refused. no_ask 12 _ refused ∙ sym (no_ask 12 _ refused))

-- ---- the claim
module _ (s : Inputs) (l : Lists) (commands : List ℕ) (input : ℕ) (delay : Float) (time : ℕ) where
  -- what number 0 says of the desk's delay
  told : update_number s l (length commands) input (Desk delay) time ≡ 0 → (manual_fits delay s.policy.delay_max ≡ true) × (desk_fits (Desk delay) s.policy.delay_max ≡ true) × (manual_number (Desk delay) s.policy.delay_max ≡ 0)
  unfolding update_number manual_number
  told e =
      let rest = (input_told s l (length commands) input time _ e).3 in
      let twelve = asked 11 _ _ rest in
      (twelve.0, (asked 20 _ _ twelve.1).0, rest)

  limit_allowed : desk_limit s.policy.delay_max ≤ samples_limit
  unfolding desk_limit
  limit_allowed = omega arith

  samples_within : update_number s l (length commands) input (Desk delay) time ≡ 0 → samples_of delay ≤ desk_limit s.policy.delay_max
  unfolding manual_fits
  samples_within e =
      let twelve = both_true _ _ (told e).0 in
      manual_fits_law delay (desk_limit s.policy.delay_max) limit_allowed (subst T (sym twelve.0) tt) (subst T (sym (told e).1) tt)

  same_number : update_number s l (length commands) input (Desk delay) time ≡ 0 → update_number s l (length commands) input (Desk delay) time ≡ update_number s l (length commands) input (Ms delay) time
  unfolding update_number manual_number
  same_number e = ap (timed_number s l (length commands) input time) ((told e).2 ∙ sym (yes_ask 12 (ask 21 true 0) (told e).0 ∙ yes_ask 21 0 refl))

  -- 1 to 8 are asked first, of both
  module _ (n : ℕ) (first : n ≡ timed_number s l (length commands) input time 0) where
    both_refused : (n ≡ 0 → ⊥) → update_number s l (length commands) input (Desk delay) time ≡ update_number s l (length commands) input (Ms delay) time
    unfolding update_number
    both_refused some = sym (refused_by s l (length commands) input time first some _) ∙ refused_by s l (length commands) input time first some _

    number_is : n ≡ 0 → (setting : DelaySetting) → update_number s l (length commands) input setting time ≡ manual_number setting s.policy.delay_max
    unfolding update_number
    number_is none setting = sym (passed_by_law s l (length commands) input time first none (manual_number setting s.policy.delay_max) refl)

  alike : (update_number s l (length commands) input (Ms delay) time ≡ 0 → ⊥) → update_number s l (length commands) input (Desk delay) time ≡ update_number s l (length commands) input (Ms delay) time
  unfolding manual_number
  alike refused =
      by_zero (timed_number s l (length commands) input time 0)
      (λ none.
      by_bool (manual_fits delay s.policy.delay_max)
      (λ fits. absurd (refused (number_is _ refl none (Ms delay) ∙ yes_ask 12 _ fits ∙ yes_ask 21 0 refl)))
      (λ beyond. number_is _ refl none (Desk delay) ∙ no_ask 12 _ beyond ∙ sym (number_is _ refl none (Ms delay) ∙ no_ask 12 _ beyond)))
      (λ some. both_refused _ refl some)

  -- what number 0 says of the scoring program's delay
  scoring_told : update_number s l (length commands) input (Ms delay) time ≡ 0 → (timed_number s l (length commands) input time 0 ≡ 0) × (manual_fits delay s.policy.delay_max ≡ true)
  unfolding update_number manual_number
  scoring_told e =
      let rest = (input_told s l (length commands) input time _ e).3 in
      (subst (λ (n : ℕ). timed_number s l (length commands) input time n ≡ 0) rest e, (asked 11 _ _ rest).0)

  beyond : update_number s l (length commands) input (Ms delay) time ≡ 0 → desk_fits (Desk delay) s.policy.delay_max ≡ false → update_number s l (length commands) input (Desk delay) time ≡ 21
  beyond e above = number_is _ refl (scoring_told e).0 (Desk delay) ∙ then_twenty_one (Desk delay) _ (scoring_told e).1 above

  up_to : update_number s l (length commands) input (Ms delay) time ≡ 0 → desk_fits (Desk delay) s.policy.delay_max ≡ true → update_number s l (length commands) input (Desk delay) time ≡ 0
  unfolding manual_number
  up_to e fits = number_is _ refl (scoring_told e).0 (Desk delay) ∙ yes_ask 12 _ (scoring_told e).1 ∙ yes_ask 21 0 fits

  same_unless_21 : (update_number s l (length commands) input (Desk delay) time ≡ 21 → ⊥) → update_number s l (length commands) input (Desk delay) time ≡ update_number s l (length commands) input (Ms delay) time
  same_unless_21 other =
      by_zero (update_number s l (length commands) input (Ms delay) time)
      (λ none. by_bool (desk_fits (Desk delay) s.policy.delay_max) (λ fits. up_to none fits ∙ sym none) (λ above. absurd (other (beyond none above))))
      alike

  same_reply : update_number s l (length commands) input (Desk delay) time ≡ update_number s l (length commands) input (Ms delay) time → update_reply s l commands input (Desk delay) time ≡ update_reply s l commands input (Ms delay) time
  unfolding update_reply
  same_reply = ap (λ (n : ℕ). replied n s l commands (updated input (kind_of (Ms delay)) time s l))

  left : update_number s l (length commands) input (Desk delay) time ≡ 21 → update_reply s l commands input (Desk delay) time ≡ record { number = 21; inputs = s; lists = l; commands = commands }
  left e = sym (update_refused s l commands input (Desk delay) time (sym e) (λ z. omega (arith, z)))

  legal : update_number s l (length commands) input (Ms delay) time ≡ timed_number s l (length commands) input time (ask 12 (manual_fits delay s.policy.delay_max) 0)
  unfolding update_number manual_number
  legal = ap (λ (n : ℕ). timed_number s l (length commands) input time (ask 12 (manual_fits delay s.policy.delay_max) n)) (yes_ask 21 0 refl)

  uncut : Sized s → update_number s l (length commands) input (Ms delay) time ≡ 0
      → ((slot_at (update_reply s l commands input (Ms delay) time).inputs input).delay ≡ samples_of delay)
      × ((update_reply s l commands input (Ms delay) time).commands ≡ padded (length commands) (set_delay input (samples_of delay)))
  unfolding update_reply update_number
  uncut sized e =
      let carried = accepted_new (update_number s l (length commands) input (Ms delay) time) _ (carried_out (update_number s l (length commands) input (Ms delay) time) commands (updated input (kind_of (Ms delay)) time s l)) e in
      let low = call_low s l (length commands) input time _ e in (
        ap (λ (r : Reply). (slot_at r.inputs input).delay) carried ∙ ap (λ (x : Slot). x.delay) (manual_slot s input time low sized l delay),
        ap (λ (r : Reply). r.commands) carried ∙ ap (padded (length commands)) (manual_words_law s input time low sized l delay),
      )

  within : Sized s → update_number s l (length commands) input (Desk delay) time ≡ 0
      → ((slot_at (update_reply s l commands input (Desk delay) time).inputs input).delay ≡ samples_of delay)
      × (samples_of delay ≤ desk_limit s.policy.delay_max)
  within sized e = (
    ap (λ (r : Reply). (slot_at r.inputs input).delay) (same_reply (same_number e)) ∙ (uncut sized (sym (same_number e) ∙ e)).0,
    samples_within e,
  )

  pub desk_delays : DeskDelays s l commands input delay time
  desk_delays = record { within_limit = within; beyond_limit = beyond; up_to_limit = up_to; as_scoring = λ other. same_reply (same_unless_21 other); refused_leaves = left; scoring_legal = legal; scoring_uncut = uncut }
