-- The window over the ticks of a stretch: each tick keeps what holds of it, and past `began` + 10 s its quantile is at most the end of L's bucket.
-- Assumes nothing.
use Rattle.std.specs.Prelude.{None}
use Prim.Native.Nat.{ℕ, suc, ◌+◌, ◌-◌, ◌*◌, ◌/◌, ◌≤◌, ◌<◌}
use mathlib.Core.Path.{◌≡◌, ◌∙◌, subst}
use mathlib.Core.List.{List, [], ◌∷◌}
use native.Mathlib.Nat.{le-div_iff_mul-le, div-mul-le_self, mul-le-mul_right, le_trans}
use native.Mathlib.Omega.{arith}
use lib.ListN.{length}
use Rattle.base.specs.Limits.{nanos, time_limit}
use Rattle.base.proofs.Choices.{le_rule}
use Rattle.policy.specs.declared.DelayPolicy.{DelayPolicy}
use Rattle.base.specs.Rows.{span_of}
use Rattle.rules_window.specs.Window.{Window, bucket_of, pushed, pushed_all}
use Rattle.rules_window.specs.Quantile.{quantile_upto, thousandths}
use Rattle.rules_window.specs.Checks.{newest}
use Rattle.rules_window.specs.WholeWindow.{Sound}
use Rattle.rules_window.proofs.WholeAt.{Whole, whole_of, later, span_ends}
use Rattle.rules_window.proofs.Ticks as ticks
use Rattle.rules_window.proofs.Ticks.{push_keeps_sound}
use Rattle.rules_window.proofs.Numbers.{sound_placeable}
use Rattle.rules_window.proofs.Thousandths.{thousandths_in}
use Rattle.delay_hold.proofs.Outcomes.{AtMost}
use Rattle.rules_tick.specs.AutoDelay.{quantile_lag, p999_of}
use Rattle.history.specs.Stretch.{NonEmpty, NoneAbove}
use Rattle.history.proofs.Pushed.{Pushed, pushed_facts}
use Rattle.history.proofs.Quantiles.{HasLag, lag_more, quantile_low}
use Rattle.history.proofs.Seconds.{StartsTill, Clean, Young, Recent, Newest, Near, till_pushed, young_pushed, clean_pushed, newest_pushed, lag_pushed, newest_near, till_near, till_clean, young_low}

-- ---- buckets

pub div_mono : (w a b : ℕ) → 1 ≤ w → a ≤ b → a / w ≤ b / w
div_mono w a b h k = (le-div_iff_mul-le h).1 (le_trans (div-mul-le_self a w) k)

bucket_mono : (a b width buckets : ℕ) → 1 ≤ width → a ≤ b → bucket_of a width buckets ≤ bucket_of b width buckets
bucket_mono a b width buckets h k = omega (arith, div_mono width a b h k)

pub bucket_start : (a width buckets : ℕ) → bucket_of a width buckets * width ≤ a
bucket_start a width buckets = le_trans (mul-le-mul_right width (omega arith)) (div-mul-le_self a width)

-- ---- what a tick at `time` with n lags asks of a window of these settings

pub record Ready (width buckets time n : ℕ) (w : Window) : Type 0 where
  pub sound : Sound w
  pub widths : w.width ≡ width
  pub bucketed : w.buckets ≡ buckets
  pub room : newest time w + n ≤ 4294967295

module _ (width buckets time : ℕ) (one : 1 ≤ width) (some : 0 < buckets) (soon : time ≤ time_limit) where
  pub ready_next : (n lag : ℕ) (w : Window) → Ready width buckets time (suc n) w → Ready width buckets time n (pushed lag time w)
  ready_next n lag w d =
      let p = pushed_facts lag time w (whole_of w d.sound) (omega (arith, d.bucketed)) in
      record {
        sound = push_keeps_sound lag time w d.sound soon (omega (arith, d.room));
        widths = p.same_width ∙ d.widths;
        bucketed = p.same_buckets ∙ d.bucketed;
        room = omega (arith, ticks.newest_pushed lag time w d.sound soon, d.room);
      }

  facts : (n lag : ℕ) (w : Window) → Ready width buckets time (suc n) w → Pushed lag time w (pushed lag time w)
  facts n lag w d = pushed_facts lag time w (whole_of w d.sound) (omega (arith, d.bucketed))

  -- a tick's lags
  pub ready_all : (lags : List ℕ) (w : Window) → Ready width buckets time (length lags) w → Ready width buckets time 0 (pushed_all time lags w)
  unfolding pushed_all
  ready_all [] w d = d
  ready_all (lag ∷ lags) w d = ready_all lags (pushed lag time w) (ready_next (length lags) lag w d)

  pub till_all : (lags : List ℕ) (w : Window) → Ready width buckets time (length lags) w → StartsTill time w → StartsTill time (pushed_all time lags w)
  unfolding pushed_all
  till_all [] w d h = h
  till_all (lag ∷ lags) w d h =
      till_all lags (pushed lag time w) (ready_next (length lags) lag w d) (till_pushed lag time w (pushed lag time w) (facts (length lags) lag w d) h)

-- ---- a stretch from `began` on that brings no lag above L

pub record Windowed (began L width buckets t : ℕ) (w : Window) : Type 0 where
  pub till : StartsTill t w
  pub clean : Clean began (bucket_of L width buckets) w
  pub newest : Newest began t w
  pub young : Young t w
  pub has_lag : HasLag (bucket_of L width buckets) L w

module _ (began L width buckets : ℕ) (one : 1 ≤ width) (some : 0 < buckets) where
  module _ (time : ℕ) (soon : time ≤ time_limit) where
    push_windowed :
        (n lag : ℕ) (w : Window) → Ready width buckets time (suc n) w → lag ≤ L →
        StartsTill time w → Clean began (bucket_of L width buckets) w → Near began time w → Windowed began L width buckets time (pushed lag time w)
    push_windowed n lag w d h till clean near =
        let v : Window = pushed lag time w in
        let p = facts width buckets time one some soon n lag w d in
        let low : bucket_of lag w.width w.buckets ≤ bucket_of L width buckets = rw (d.widths, d.bucketed) (bucket_mono lag L width buckets one h) in
        let new = newest_pushed lag time w v p (whole_of w d.sound) began near in
        let reaches : bucket_of lag w.width w.buckets * w.width ≤ L = le_trans (bucket_start lag w.width w.buckets) h in
        record {
          till = till_pushed lag time w v p till;
          clean = clean_pushed lag time w v p (whole_of w d.sound) began (bucket_of L width buckets) low clean;
          newest = new;
          young = young_pushed lag time w v p;
          has_lag = lag_pushed lag time w v p (whole_of w d.sound) began (bucket_of L width buckets) L (omega (arith, d.bucketed)) low reaches new;
        }

    more_windowed :
        (lags : List ℕ) (w : Window) → Ready width buckets time (length lags) w → NoneAbove L lags →
        Windowed began L width buckets time w → Windowed began L width buckets time (pushed_all time lags w)
    unfolding pushed_all
    more_windowed [] w d h k = k
    more_windowed (lag ∷ lags) w d h k =
        more_windowed lags (pushed lag time w) (ready_next width buckets time one some soon (length lags) lag w d) h.1
        (push_windowed (length lags) lag w d h.0 k.till k.clean (newest_near began time time w (omega arith) k.newest))

    all_windowed :
        (lags : List ℕ) (w : Window) → Ready width buckets time (length lags) w → NonEmpty lags → NoneAbove L lags →
        StartsTill time w → Clean began (bucket_of L width buckets) w → Near began time w → Windowed began L width buckets time (pushed_all time lags w)
    unfolding pushed_all
    all_windowed [] w d e h till clean near = absurd e
    all_windowed (lag ∷ lags) w d e h till clean near =
        more_windowed lags (pushed lag time w) (ready_next width buckets time one some soon (length lags) lag w d) h.1
        (push_windowed (length lags) lag w d h.0 till clean near)

    -- a later tick
    pub step_windowed :
        (t : ℕ) (lags : List ℕ) (w : Window) → t ≤ time → time ≤ t + 5 * nanos →
        Ready width buckets time (length lags) w → NonEmpty lags → NoneAbove L lags → Windowed began L width buckets t w → Windowed began L width buckets time (pushed_all time lags w)
    step_windowed t lags w a b d e h k =
        all_windowed lags w d e h (λ r l. omega (arith, k.till r l)) k.clean (newest_near began t time w b k.newest)

  -- the first tick, at `began`
  pub first_windowed :
      began ≤ time_limit → (lags : List ℕ) (w : Window) → Ready width buckets began (length lags) w → NonEmpty lags → NoneAbove L lags →
      StartsTill began w → Windowed began L width buckets began (pushed_all began lags w)
  first_windowed soon lags w d e h till =
      all_windowed began soon lags w d e h till (till_clean began (bucket_of L width buckets) w till) (till_near began w till)

  -- ---- past `began` + 10 s there are two seconds, and the quantile is low
  span_second : (t : ℕ) (w : Window) → began + 10 * nanos < t → Whole w → Windowed began L width buckets t w → nanos ≤ span_of w.seconds w.starts
  span_second t w f h k =
      let n = k.newest in
      let r : Recent w n.row = n.recent (omega (arith, k.young n.row (omega (arith, n.last)))) in
      let q : w.seconds - 1 ≡ n.row = omega (arith, n.last) in
      rw (span_ends w.seconds w.starts (omega (arith, n.last)), q)
      (omega (arith, r.apart, later w h 0 r.before (omega arith) (omega (arith, r.follows, n.last))))

  pub p999_windowed :
      (policy : DelayPolicy) → L ≤ policy.read_offset + policy.delay_max →
      (t : ℕ) (w : Window) → began + 10 * nanos < t → Sound w → w.width ≡ width → Windowed began L width buckets t w →
      AtMost ((bucket_of L width buckets + 1) * width) (p999_of policy w)
  unfolding p999_of
  p999_windowed policy fits t w f h e k =
      let limit : ℕ = policy.read_offset + policy.delay_max in
      le_rule _ (span_of w.seconds w.starts) (quantile_lag (quantile_upto (thousandths 999) limit w)) None (AtMost ((bucket_of L width buckets + 1) * width))
      (λ l. subst (λ (x : ℕ). AtMost ((bucket_of L width buckets + 1) * x) (quantile_lag (quantile_upto (thousandths 999) limit w))) e
      (quantile_low (thousandths 999) limit w (bucket_of L width buckets) (young_low began (bucket_of L width buckets) t w f k.young k.clean)
      (sound_placeable (thousandths 999) limit w h (thousandths_in 999 (omega arith))) (lag_more (bucket_of L width buckets) w fits k.has_lag)))
      (λ l. absurd (omega (arith, span_second t w f (whole_of w h) k)))
