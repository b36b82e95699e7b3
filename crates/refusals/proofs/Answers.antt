-- An answer's number and value determine it: it is accepted exactly where its number is 0, and then its value is the one it brings; a refusal is told by its number. Assumes nothing.
use Rattle.std.specs.Prelude.{◌≡◌, ℕ, ◌<◌, ◌≤◌, ◌==◌, if◌then◌else◌, Bool, true, false, Result, Ok, Err}
use borrow.Author.Tests.{leb-true}
use Rattle.std.proofs.Common.{refl, sym, ap, ◌∙◌, arith}
use Rattle.base.specs.Choice.{ask, accepted}
use Rattle.base.specs.Limits.{timely, time_limit, call_number}
use Rattle.base.proofs.Choices.{asked}
use Rattle.refusals.specs.declared.Refusal.{Refusal}
use Rattle.refusals.specs.declared.Refusal.TheVariants.{InputCount, Reach, Pause, Margin, ListLength, NotWhole, NoInput, Time, FlowTable, Shown, SecondFull, ManualDelay, NoProposal, Quantile, Current, Width, Buckets, FileHead, FileOrder, DeskDelay}
use Rattle.refusals.specs.Numbers.{number_of, number_in, value_in}

-- no check has number 0
pub numbered : (refusal : Refusal) → 0 < number_of refusal
numbered = elim [ InputCount ↦ omega arith | Reach ↦ omega arith | Pause ↦ omega arith | Margin ↦ omega arith | ListLength ↦ omega arith | NotWhole ↦ omega arith | NoInput ↦ omega arith | Time ↦ omega arith | FlowTable ↦ omega arith | Shown ↦ omega arith | SecondFull ↦ omega arith | ManualDelay ↦ omega arith | NoProposal ↦ omega arith | Quantile ↦ omega arith | Current ↦ omega arith | Width ↦ omega arith | Buckets ↦ omega arith | FileHead ↦ omega arith | FileOrder ↦ omega arith | DeskDelay ↦ omega arith ]

pub never_zero : (refusal : Refusal) → number_of refusal ≡ 0 → ⊥
never_zero refusal e = let h = numbered refusal in absurd (omega arith)

-- a refusal leaves what was there
pub refused_keeps : {A : Type 0} (refusal : Refusal) (old new : A) → accepted (number_of refusal) old new ≡ old
refused_keeps InputCount old new = refl
refused_keeps Reach old new = refl
refused_keeps Pause old new = refl
refused_keeps Margin old new = refl
refused_keeps ListLength old new = refl
refused_keeps NotWhole old new = refl
refused_keeps NoInput old new = refl
refused_keeps Time old new = refl
refused_keeps FlowTable old new = refl
refused_keeps Shown old new = refl
refused_keeps SecondFull old new = refl
refused_keeps ManualDelay old new = refl
refused_keeps NoProposal old new = refl
refused_keeps Quantile old new = refl
refused_keeps Current old new = refl
refused_keeps Width old new = refl
refused_keeps Buckets old new = refl
refused_keeps FileHead old new = refl
refused_keeps FileOrder old new = refl
refused_keeps DeskDelay old new = refl

-- an answer whose number is 0 is accepted
pub accepted_by : {A : Type 0} (zero : A) (result : Result A Refusal) → number_in result ≡ 0 → result ≡ Ok (value_in zero result)
accepted_by zero (Ok value) e = refl
accepted_by zero (Err refusal) e = absurd (never_zero refusal e)

-- the check of a number
numbers_check : ℕ → Refusal
numbers_check n =
    (if n == 1 then InputCount else
    (if n == 2 then Reach else
    (if n == 3 then Pause else
    (if n == 4 then Margin else
    (if n == 5 then ListLength else
    (if n == 6 then NotWhole else
    (if n == 7 then NoInput else
    (if n == 8 then Time else
    (if n == 9 then FlowTable else
    (if n == 10 then Shown else
    (if n == 11 then SecondFull else
    (if n == 12 then ManualDelay else
    (if n == 13 then NoProposal else
    (if n == 14 then Quantile else
    (if n == 15 then Current else
    (if n == 17 then Width else
    (if n == 18 then Buckets else
    (if n == 19 then FileHead else
    (if n == 20 then FileOrder else
    DeskDelay)))))))))))))))))))

checked_back : (refusal : Refusal) → numbers_check (number_of refusal) ≡ refusal
unfolding numbers_check
checked_back InputCount = refl
checked_back Reach = refl
checked_back Pause = refl
checked_back Margin = refl
checked_back ListLength = refl
checked_back NotWhole = refl
checked_back NoInput = refl
checked_back Time = refl
checked_back FlowTable = refl
checked_back Shown = refl
checked_back SecondFull = refl
checked_back ManualDelay = refl
checked_back NoProposal = refl
checked_back Quantile = refl
checked_back Current = refl
checked_back Width = refl
checked_back Buckets = refl
checked_back FileHead = refl
checked_back FileOrder = refl
checked_back DeskDelay = refl

-- two refusals of one number are the same
pub told_by_number : (one other : Refusal) → number_of one ≡ number_of other → one ≡ other
told_by_number one other e = sym (checked_back one) ∙ ap numbers_check e ∙ checked_back other

-- ---- the checks 6 and 8 of a clock helper's call, made one after the other
-- the check that says no ends the call with its number
pub call_stopped : (whole : Bool) (time : ℕ) (refusal : Refusal) → number_of refusal ≡ ask 6 whole 0 → number_of refusal ≡ call_number whole time
unfolding ask call_number
call_stopped true time refusal e = absurd (never_zero refusal e)
call_stopped false time refusal e = e

-- where 6 says yes, 8 has the last word
pub call_timed : (whole : Bool) (time n : ℕ) → 0 ≡ ask 6 whole 0 → n ≡ ask 8 (timely time) 0 → n ≡ call_number whole time
unfolding ask call_number
call_timed true time n six e = e
call_timed false time n six e = absurd (omega (arith, six))

-- what 8 lets through
pub timed : (time : ℕ) → 0 ≡ ask 8 (timely time) 0 → time ≤ time_limit
timed time e = leb-true time time_limit (asked 7 (timely time) 0 (sym e)).0

-- a no of 8 is one with other checks after it
pub time_stops : (time rest : ℕ) (refusal : Refusal) → number_of refusal ≡ ask 8 (timely time) 0 → number_of refusal ≡ ask 8 (timely time) rest
unfolding ask
time_stops time rest refusal e = stops (timely time) e
  where
    stops : (ok : Bool) → number_of refusal ≡ ask 8 ok 0 → number_of refusal ≡ ask 8 ok rest
    stops true e = absurd (never_zero refusal e)
    stops false e = e
