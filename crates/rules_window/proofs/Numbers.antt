-- The checks of the calls on a window: what a number says, and what a call answers and leaves. Assumes nothing.
use Prim.Native.Nat.{ℕ, zero, suc, ◌+◌, ◌-◌, ◌*◌, ◌<◌, ◌≤◌}
use mathlib.Core.Bool.{Bool, true, false}
use mathlib.Core.Path.{◌≡◌, refl, sym, ap, ◌∙◌}
use mathlib.Core.List.{List}
use native.Mathlib.Omega.{arith}
use borrow.Author.Tests.{le-leb, lt-leb, leb-true, eqb-true}
use lib.Ieee.{Float}
use lib.Dec.{leb}
use lib.ListN.{length, take}
use lib.Seq.{get_or-take, length-take-le}
use Rattle.base.specs.Choice.{ask}
use Rattle.base.proofs.Choices.{asked, yes_ask, no_ask, refused_old}
use Rattle.base.proofs.Points.{both_true}
use Rattle.rules_window.specs.Quantile.{Quantile}
use Rattle.rules_window.specs.Quantile.{Refused}
use Rattle.base.specs.Rows.{span_of}
use Rattle.base.specs.Limits.{samples_limit, time_limit, width_limit, buckets_limit}
use Rattle.buckets.specs.Ranges.{buckets_of}
use Rattle.buckets.proofs.Told.{width_told, buckets_told, buckets_some, ranges_told}
use Rattle.rules_window.specs.Window.{Window, windowed, fresh, cleared, pushed}
use Rattle.rules_window.specs.WholeWindow.{Shaped, Sound}
use Rattle.rules_window.specs.Quantile.{quantile_upto, Placeable}
use Rattle.rules_window.specs.ColumnSums.{column_sums, as_one_second}
use Rattle.rules_window.specs.Checks.{checked, newest_of, newest, room_of, room_for, CanPush, from_zero_to_one, new_number, push_number, quantile_number, replied, nothing, new_reply, push_reply, clear_reply, span_reply, answered, quantile_upto_reply}
use Rattle.rules_window.proofs.WholeAt.{whole_of}
use Rattle.rules_window.proofs.Totals.{total_few}
use Rattle.rules_window.proofs.ColumnSums.{sums_length, right_are_own}
use Rattle.rules_window.proofs.OneSecond.{row_placeable, same_quantile}
use Rattle.doubles.proofs.Values.{is}

-- ---- 17, 18, 5 and 6, and then the rest
-- the number 0 says that the window is sound, that the row of sums is its own, and that the rest is 0
pub passed : (w : Window) (sums : List ℕ) (rest : ℕ) → checked w sums rest ≡ 0 → (Sound w × (sums ≡ column_sums w)) × (rest ≡ 0)
unfolding checked
passed w sums rest h =
    let a = asked _ _ _ h in
    let b = asked _ _ _ a.1 in
    let c = asked _ _ _ b.1 in
    let d = asked _ _ _ c.1 in
    let e = asked _ _ _ d.1 in
    let f = asked _ _ _ e.1 in
    let g = asked _ _ _ f.1 in
    let six = both_true _ _ g.0 in
    let wide = width_told _ a.0 in
    let some = buckets_told _ b.0 in (
      (
        record {
          shaped = record {
            width_low = wide.0;
            width_high = wide.1;
            buckets_low = some.0;
            buckets_high = some.1;
            starts_long = eqb-true _ _ c.0;
            totals_long = eqb-true _ _ d.0;
            counts_long = eqb-true _ _ e.0;
          };
          whole = six.0;
        },
        right_are_own w sums (eqb-true _ _ f.0) six.1,
      ),
      g.1,
    )

-- x is what the checks give alone, y what they give with the rest after them
record Follows (x y rest : ℕ) : Type 0 where
  go_on : x ≡ 0 → y ≡ rest
  stop : (x ≡ 0 → ⊥) → x ≡ y

ask_follows : (k : ℕ) (b : Bool) (x y rest : ℕ) → Follows x y rest → Follows (ask (suc k) b x) (ask (suc k) b y) rest
unfolding ask
ask_follows k true x y rest f = f
ask_follows k false x y rest f = record { go_on = λ e. absurd (omega arith); stop = λ e. refl }

checked_follows : (w : Window) (sums : List ℕ) (rest : ℕ) → Follows (checked w sums 0) (checked w sums rest) rest
unfolding checked
checked_follows w sums rest =
    ask_follows _ _ _ _ _ (ask_follows _ _ _ _ _ (ask_follows _ _ _ _ _ (ask_follows _ _ _ _ _
    (ask_follows _ _ _ _ _ (ask_follows _ _ _ _ _ (ask_follows _ _ _ _ _
    (record { go_on = λ e. refl; stop = λ e. absurd (e refl) })))))))

module _ (w : Window) (sums : List ℕ) (n : ℕ) (e : n ≡ checked w sums 0) where
  pub checked_stops : (rest : ℕ) → (n ≡ 0 → ⊥) → n ≡ checked w sums rest
  checked_stops rest h = e ∙ (checked_follows w sums rest).stop (λ z. h (e ∙ z))

  pub checked_goes : (rest : ℕ) → n ≡ 0 → checked w sums rest ≡ rest
  checked_goes rest z = (checked_follows w sums rest).go_on (sym e ∙ z)

  pub checked_sound : n ≡ 0 → Sound w
  checked_sound z = (passed w sums 0 (sym e ∙ z)).0.0

  pub checked_sums : n ≡ 0 → sums ≡ column_sums w
  checked_sums z = (passed w sums 0 (sym e ∙ z)).0.1

  pub clear_asks : n ≡ 0 → Shaped w × (length sums ≡ w.buckets)
  clear_asks z = ((checked_sound z).shaped, ap length (checked_sums z) ∙ sums_length w)

-- ---- what `new` was asked
pub new_settings : (offset maximum width a b c d n : ℕ) → n ≡ new_number offset maximum width a b c d → n ≡ 0 → (offset ≤ samples_limit) × (maximum ≤ samples_limit) × (1 ≤ width)
unfolding new_number
new_settings offset maximum width a b c d n e z =
    let r = (ranges_told offset maximum width _ (sym e ∙ z)).0 in
    (r.offset_most, r.maximum_most, r.width_least)

pub new_asks : (offset maximum width : ℕ) (s t c us : List ℕ) (n B : ℕ) → n ≡ new_number offset maximum width (length s) (length t) (length c) (length us) → n ≡ 0 → B ≡ buckets_of offset maximum width → Shaped (windowed 0 B width s t c) × (length us ≡ B)
unfolding new_number
new_asks offset maximum width s t c us n B e z eb =
    let told = ranges_told offset maximum width _ (sym e ∙ z) in
    let ranged = told.0 in
    let a = asked _ _ _ told.1 in
    let b = asked _ _ _ a.1 in
    let d = asked _ _ _ b.1 in
    let f = asked _ _ _ d.1 in (
      record {
        width_low = ranged.width_least;
        width_high = ranged.width_most;
        buckets_low = omega (arith, eb, buckets_some offset maximum width);
        buckets_high = rw eb ranged.buckets_most;
        starts_long = eqb-true _ _ a.0;
        totals_long = eqb-true _ _ b.0;
        counts_long = eqb-true _ _ d.0 ∙ ap (λ (x : ℕ). 11 * x) (sym eb);
      },
      eqb-true _ _ f.0 ∙ sym eb,
    )

-- ---- refused, or not
pub replied_old : (n N : ℕ) (old : Window) (sums : List ℕ) (new : Window) → n ≡ N → (n ≡ 0 → ⊥) → record { number = n; window = old; sums = sums } ≡ replied N old sums new
replied_old zero N old sums new e h = absurd (h refl)
replied_old (suc n) N old sums new e h = rw (← e)

pub replied_new : (n N : ℕ) (old : Window) (sums : List ℕ) (new v : Window) (us : List ℕ) → n ≡ N → n ≡ 0 → v ≡ new → us ≡ column_sums new → record { number = n; window = v; sums = us } ≡ replied N old sums new
replied_new n N old sums new v us e z h k = rw (← e, z, h, k)

pub new_refused : (offset maximum width : ℕ) (s t c us : List ℕ) (n : ℕ) → n ≡ new_number offset maximum width (length s) (length t) (length c) (length us) → (n ≡ 0 → ⊥) → record { number = n; window = nothing s t c; sums = us } ≡ new_reply offset maximum width s t c us
unfolding new_reply
new_refused offset maximum width s t c us n e h = replied_old n _ (nothing s t c) us _ e h

pub new_made : (offset maximum width : ℕ) (s t c us : List ℕ) (n B : ℕ) (v : Window) (vs : List ℕ) → n ≡ new_number offset maximum width (length s) (length t) (length c) (length us) → n ≡ 0 → B ≡ buckets_of offset maximum width → v ≡ fresh B width → vs ≡ column_sums (fresh B width) → record { number = n; window = v; sums = vs } ≡ new_reply offset maximum width s t c us
unfolding new_reply
new_made offset maximum width s t c us n B v vs e z eb ev es = replied_new n _ (nothing s t c) us _ v vs e z (ev ∙ ap (λ (x : ℕ). fresh x width) eb) (es ∙ ap (λ (x : ℕ). column_sums (fresh x width)) eb)

module _ (w : Window) (sums : List ℕ) (n : ℕ) where
  pub push_refused : (lag time : ℕ) → n ≡ push_number time w sums → (n ≡ 0 → ⊥) → record { number = n; window = w; sums = sums } ≡ push_reply lag time w sums
  unfolding push_reply
  push_refused lag time e h = replied_old n _ w sums _ e h

  pub push_made : (lag time : ℕ) (v : Window) (vs : List ℕ) → n ≡ push_number time w sums → n ≡ 0 → v ≡ pushed lag time w → vs ≡ column_sums (pushed lag time w) → record { number = n; window = v; sums = vs } ≡ push_reply lag time w sums
  unfolding push_reply
  push_made lag time v vs e z ev es = replied_new n _ w sums _ v vs e z ev es

  pub clear_refused : n ≡ checked w sums 0 → (n ≡ 0 → ⊥) → record { number = n; window = w; sums = sums } ≡ clear_reply w sums
  unfolding clear_reply
  clear_refused e h = replied_old n _ w sums _ e h

  pub clear_made : (v : Window) (vs : List ℕ) → n ≡ checked w sums 0 → n ≡ 0 → v ≡ cleared w → vs ≡ column_sums (cleared w) → record { number = n; window = v; sums = vs } ≡ clear_reply w sums
  unfolding clear_reply
  clear_made v vs e z ev es = replied_new n _ w sums _ v vs e z ev es

  pub span_refused : n ≡ checked w sums 0 → (n ≡ 0 → ⊥) → record { number = n; span = 0 } ≡ span_reply w sums
  unfolding span_reply
  span_refused e h = ap (λ (k : ℕ). record { number = k; span = 0 }) e ∙ ap (λ (x : ℕ). record { number = checked w sums 0; span = x }) (sym (refused_old (checked w sums 0) 0 (span_of w.seconds w.starts) (λ z. h (e ∙ z))))

  pub span_made : (a : ℕ) → n ≡ checked w sums 0 → n ≡ 0 → a ≡ span_of w.seconds w.starts → record { number = n; span = a } ≡ span_reply w sums
  unfolding span_reply
  span_made a e z h = rw (← e, z, h)

  pub quantile_refused : (q : Float) (limit : ℕ) → n ≡ quantile_number q w sums → (n ≡ 0 → ⊥) → Refused n ≡ quantile_upto_reply q limit w sums
  unfolding quantile_upto_reply
  quantile_refused q limit e h = go n e h
    where
      go : (k : ℕ) → k ≡ quantile_number q w sums → (k ≡ 0 → ⊥) → Refused k ≡ answered (quantile_number q w sums) (quantile_upto q limit w)
      go zero e h = absurd (h refl)
      go (suc k) e h = rw (← e)

  -- the quantile of the row of sums is that of the window
  pub quantile_made : (q : Float) (limit : ℕ) (r : Quantile) → n ≡ quantile_number q w sums → n ≡ 0 → r ≡ quantile_upto q limit (as_one_second w.buckets w.width sums) → r ≡ quantile_upto_reply q limit w sums
  unfolding quantile_upto_reply quantile_number
  quantile_made q limit r e z h =
      let own : sums ≡ column_sums w = (passed w sums _ (sym e ∙ z)).0.1 in
      h
      ∙ (ap (λ (us : List ℕ). quantile_upto q limit (as_one_second w.buckets w.width us)) own
      ∙ (same_quantile w limit q
      ∙ ap (λ (k : ℕ). answered k (quantile_upto q limit w)) (sym (sym e ∙ z))))

-- ---- the numbers of push and of the quantiles
module _ (time : ℕ) (w : Window) (sums : List ℕ) (n : ℕ) (e : n ≡ checked w sums 0) where
  pub push_stops : (n ≡ 0 → ⊥) → n ≡ push_number time w sums
  unfolding push_number
  push_stops h = checked_stops w sums n e _ h

  pub push_late : n ≡ 0 → time_limit < time → 8 ≡ push_number time w sums
  unfolding push_number
  push_late z h = sym (checked_goes w sums n e _ z ∙ no_ask 8 _ (lt-leb time time_limit h))

  pub push_full : (r : Bool) → n ≡ 0 → time ≤ time_limit → r ≡ room_for time 1 w → r ≡ false → 11 ≡ push_number time w sums
  unfolding push_number
  push_full r z h er hr = sym (checked_goes w sums n e _ z ∙ (yes_ask 8 _ (le-leb time time_limit h) ∙ no_ask 11 0 (sym er ∙ hr)))

  pub push_passes : (r : Bool) → n ≡ 0 → time ≤ time_limit → r ≡ room_for time 1 w → r ≡ true → 0 ≡ push_number time w sums
  unfolding push_number
  push_passes r z h er hr = sym (checked_goes w sums n e _ z ∙ (yes_ask 8 _ (le-leb time time_limit h) ∙ yes_ask 11 0 (sym er ∙ hr)))

  pub room_asks : n ≡ 0 → (w.seconds ≤ length w.starts) × (w.seconds ≤ length w.totals)
  room_asks z = let s = whole_of w (checked_sound w sums n e z) in (omega (arith, s.few, s.ls), omega (arith, s.few, s.lt))

-- the newest total of the first n seconds, and whether it takes the lags
newest_part : (time n : ℕ) (s t : List ℕ) → n ≤ length s → n ≤ length t → newest_of time (length (take n s)) (take n s) (take n t) ≡ newest_of time n s t
unfolding newest_of
newest_part time zero s t h l = refl
newest_part time (suc n) s t h l = let last : suc n - 1 ≡ n = omega arith in rw (length-take-le (suc n) s h, last, get_or-take (suc n) s n 0 (omega arith), get_or-take (suc n) t n 0 (omega arith))

pub room_part : (time lags n : ℕ) (s t : List ℕ) → (n ≤ length s) × (n ≤ length t) → room_of time lags (length (take n s)) (take n s) (take n t) ≡ room_of time lags n s t
room_part time lags n s t h = ap (λ (total : ℕ). leb (total + lags) 4294967295) (newest_part time n s t h.0 h.1)

pub push_asks : (time : ℕ) (w : Window) (sums : List ℕ) (n : ℕ) → n ≡ push_number time w sums → n ≡ 0 → CanPush time 1 w sums
unfolding push_number
push_asks time w sums n e z =
    let a = passed w sums _ (sym e ∙ z) in
    let b = asked _ _ _ a.1 in
    let c = asked _ _ _ b.1 in
    record { sound = a.0.0; own = a.0.1; soon = leb-true _ _ b.0; room = c.0 }

-- one lag has room
pub one_room : (time : ℕ) (w : Window) (sums : List ℕ) → CanPush time 1 w sums → newest time w < 4294967295
one_room time w sums h = let one : newest time w + 1 ≤ 4294967295 = leb-true _ _ h.room in omega arith

module _ (q : Float) (w : Window) (sums : List ℕ) (n : ℕ) (e : n ≡ checked w sums 0) where
  pub quantile_stops : (n ≡ 0 → ⊥) → n ≡ quantile_number q w sums
  unfolding quantile_number
  quantile_stops h = checked_stops w sums n e _ h

  pub quantile_outside : (r : Bool) → n ≡ 0 → r ≡ from_zero_to_one q → r ≡ false → 14 ≡ quantile_number q w sums
  unfolding quantile_number
  quantile_outside r z er hr = sym (checked_goes w sums n e _ z ∙ no_ask 14 0 (sym er ∙ hr))

  pub quantile_passes : (r : Bool) → n ≡ 0 → r ≡ from_zero_to_one q → r ≡ true → 0 ≡ quantile_number q w sums
  unfolding quantile_number
  quantile_passes r z er hr = sym (checked_goes w sums n e _ z ∙ yes_ask 14 0 (sym er ∙ hr))

-- a sound window counts few enough lags for a quantile's place
pub sound_placeable : (q : Float) (limit : ℕ) (w : Window) → Sound w → from_zero_to_one q ≡ true → Placeable q limit w
unfolding from_zero_to_one
sound_placeable q limit w s h =
    let b = both_true _ _ h in
    record { few = total_few limit w s; low = is b.0; high = is b.1 }

-- what the quantile over the row of sums asks, of a window that its checks let through
pub quantile_asks : (q : Float) (limit : ℕ) (w : Window) (sums : List ℕ) (n : ℕ) → n ≡ quantile_number q w sums → n ≡ 0
    → ((w.buckets ≤ buckets_limit) × (1 ≤ w.width) × (w.width ≤ width_limit)) × ((length sums ≡ w.buckets) × Placeable q limit (as_one_second w.buckets w.width sums))
unfolding quantile_number
quantile_asks q limit w sums n e z =
    let a = passed w sums _ (sym e ∙ z) in
    let b = asked _ _ _ a.1 in
    let s = a.0.0 in
    let own = a.0.1 in (
      (s.shaped.buckets_high, s.shaped.width_low, s.shaped.width_high),
      (ap length own ∙ sums_length w, row_placeable w limit q own (sound_placeable q limit w s b.0)),
    )

pub span_asks : (w : Window) (sums : List ℕ) (n : ℕ) → n ≡ checked w sums 0 → n ≡ 0 → w.seconds ≤ length w.starts
span_asks w sums n e z = let s = whole_of w (checked_sound w sums n e z) in omega (arith, s.few, s.ls)
