-- `timing::time_of` meets its contract: the whole seconds and the rest are converted apart. Assumes nothing.
use Rattle.std.proofs.Common.{rules}
use Rattle.std.specs.Prelude.{◌≡◌, ℕ, ◌+◌, ◌*◌, ◌/◌, ◌%◌, ◌^◌, ◌<◌, ◌≤◌, Ok, Err, Option, Some, None, SomeIff}
use Rattle.std.specs.Option.{ok_or}
use mathlib.Core.Path.{sym, ap, ◌∙◌}
use native.Mathlib.Omega.{arith}
use Rattle.base.specs.Limits.{nanos}
use Rattle.refusals.specs.declared.Refusal.{Refusal}
use Rattle.refusals.specs.declared.Refusal.TheVariants.{Time}
use Rattle.refusals.specs.Numbers.{number_in, value_in}
use Rattle.refusals.proofs.Answers.{never_zero}
use Rattle.timing.specs.Clock.{time_of, time_answer, told}
use Rattle.timing.proofs.Conversion.{time_by_seconds, time_answered, time_refused}
use Rattle.timing.proofs.time_of.Goals as goal

by-seconds : (index : ℕ) → index / 48000 * nanos + (index % 48000 * nanos + 47999) / 48000 ≡ time_of 48000 index
by-seconds index = time_by_seconds 48000 index (omega arith)

-- a time at or past a u64's end is refused
refused : (index : ℕ) → 2 ^ 64 ≤ time_of 48000 index → told (Err Time) ≡ time_answer 48000 index
refused index h = sym (time_refused 48000 index h)

-- the product is none, so it does not fit
begins_refused : (index m : ℕ) (o : Option ℕ) (refusal : Refusal) → SomeIff o (m < 2 ^ 64) m → ok_or o Time ≡ Err refusal → m ≤ time_of 48000 index → told (Err refusal) ≡ time_answer 48000 index
begins_refused index m None refusal s e h = ap told (sym e) ∙ refused index (omega (arith, s, h))
begins_refused index m (Some k) refusal s e h = absurd (never_zero refusal (sym (ap number_in e)))

-- the product that there is
begins_is : (m b : ℕ) (o : Option ℕ) → SomeIff o (m < 2 ^ 64) m → ok_or o Time ≡ Ok b → b ≡ m
begins_is m b None s e = let eight : ◌≡◌ {A = ℕ} 8 0 = ap number_in e in absurd (omega (arith, eight))
begins_is m b (Some k) s e = omega (arith, s.1, ap (value_in 0) e)

-- the sum, or none where it does not fit
sum_told : (index t : ℕ) (o : Option ℕ) → SomeIff o (t < 2 ^ 64) t → t ≡ time_of 48000 index → told (ok_or o Time) ≡ time_answer 48000 index
sum_told index t None s e = refused index (omega (arith, s, e))
sum_told index t (Some k) s e = rw (time_answered 48000 index (omega (arith, s.0, e)), s.1, e)

pub returns-in_err-begins : goal.returns-in_err-begins
returns-in_err-begins c =
    let e : c.from_residual.result ≡ Err c.in_err-begins.field-0.0 = search rules in
    rw e (begins_refused c.args.index _ _ _ c.checked_mul.ensures (sym c.ok_or.ensures.value ∙ c.in_err-begins.was) (omega (arith, by-seconds c.args.index)))

pub returns : goal.returns
returns c =
    rw c.ok_or-2.ensures.value (sum_told c.args.index _ _ c.checked_add.ensures (rw (begins_is _ _ _ c.checked_mul.ensures (sym c.ok_or.ensures.value ∙ c.in_ok-begins.was)) (by-seconds c.args.index)))
