-- The numbers of the checks (document 01, "The gatekeeper's questions"; document 02), and this paper's number and values of an answer: "a no ends it with that number, a zero
-- value, and record and buffers unchanged". "When an answer is an enum, the promises use a definition that gives this paper's number and values for each of the enum's cases."
-- Assumes nothing.
use Rattle.std.specs.Prelude.{ℕ, Result, Ok, Err}
use Rattle.refusals.specs.declared.Refusal.{Refusal}
use Rattle.refusals.specs.declared.Refusal.TheVariants.{InputCount, Reach, Pause, Margin, ListLength, NotWhole, NoInput, Time, FlowTable, Shown, SecondFull, ManualDelay, NoProposal, Quantile, Current, Width, Buckets, FileHead, FileOrder, DeskDelay}

-- the number of a check; 16 is no check's
abbrev pub number_of : Refusal → ℕ
number_of InputCount = 1
number_of Reach = 2
number_of Pause = 3
number_of Margin = 4
number_of ListLength = 5
number_of NotWhole = 6
number_of NoInput = 7
number_of Time = 8
number_of FlowTable = 9
number_of Shown = 10
number_of SecondFull = 11
number_of ManualDelay = 12
number_of NoProposal = 13
number_of Quantile = 14
number_of Current = 15
number_of Width = 17
number_of Buckets = 18
number_of FileHead = 19
number_of FileOrder = 20
number_of DeskDelay = 21

-- the number of an answer: that of the check that said no, or 0
abbrev pub number_in : {A : Type 0} → Result A Refusal → ℕ
number_in (Ok value) = 0
number_in (Err refusal) = number_of refusal

-- its value; refused: a zero value, or what was there before
abbrev pub value_in : {A : Type 0} → (zero : A) → Result A Refusal → A
value_in zero (Ok value) = value
value_in zero (Err refusal) = zero
