-- The phases of a stretch, from its start to the settled delay; from the time `calm` on each tick needs at most `most`.
--     early     before `calm`, when the need may still be higher
--     old       a timer that ran before `calm` still runs: it ends by `calm` + hold
--     dropped   it has lowered, perhaps to an older need: no timer runs
--     clean     a timer started since: its highest need is at most `most`
--     settled   the delay is at most `most` + a millisecond less one sample
-- Assumes nothing.
use Rattle.std.specs.Prelude.{None, Option, Some}
use Prim.Native.Nat.{ℕ, ◌+◌, ◌-◌, ◌*◌, ◌≤◌, ◌<◌}
use mathlib.Core.Bool.{Bool, true}
use mathlib.Core.Path.{◌≡◌, refl, ap}
use native.Mathlib.Omega.{arith}
use Rattle.base.specs.Limits.{nanos}
use Rattle.delay_hold.specs.declared.LowerTimer.{LowerTimer}
use Rattle.delay_hold.specs.declared.DelayHold.{DelayHold}
use Rattle.delay_hold.specs.declared.Next.{Next}
use Rattle.delay_hold.specs.Steps5To8.{timer_met}
use Rattle.delay_hold.specs.Next.{delay_after}
use Rattle.delay_hold.proofs.Outcomes.{Till, Outcome, raises, quits, waits, lowers}
use Rattle.delay_hold.proofs.Later.{TimerTill, till_later}
use Rattle.history.proofs.Timer.{HighestWithin, runs_on, starts, met_most}

pub data Phase (millisecond calm hold most t delay : ℕ) (last : Option ℕ) (timer : Option LowerTimer) : Type 0 where
  early : t < calm → Phase millisecond calm hold most t delay last timer
  old : (running : LowerTimer) → timer ≡ Some running → t < calm + hold → running.since ≤ calm → Till calm last → Phase millisecond calm hold most t delay last timer
  dropped : timer ≡ None → t ≤ calm + hold + 5 * nanos → Phase millisecond calm hold most t delay last timer
  clean :
      (running : LowerTimer) → timer ≡ Some running →
      running.highest ≤ most → running.since ≤ calm + hold + 10 * nanos → t < running.since + hold → Till running.since last →
      Phase millisecond calm hold most t delay last timer
  settled : delay ≤ most + (millisecond - 1) → HighestWithin most timer → Phase millisecond calm hold most t delay last timer

-- it holds of every smaller delay
pub phase_lower :
    (millisecond calm hold most t small delay : ℕ) (last : Option ℕ) (timer : Option LowerTimer) → small ≤ delay →
    Phase millisecond calm hold most t delay last timer → Phase millisecond calm hold most t small last timer
phase_lower millisecond calm hold most t small delay last timer h (early e) = early e
phase_lower millisecond calm hold most t small delay last timer h (old running on a b c) = old running on a b c
phase_lower millisecond calm hold most t small delay last timer h (dropped off a) = dropped off a
phase_lower millisecond calm hold most t small delay last timer h (clean running on a b c k) = clean running on a b c k
phase_lower millisecond calm hold most t small delay last timer h (settled c u) = settled (omega arith) u

-- one tick from `calm` on, at `time`, that needs at most `most`
module _
    (millisecond : ℕ) (one : 1 ≤ millisecond) (may_lower : Bool) (may : may_lower ≡ true)
    (calm hold most t time : ℕ) (forward : t ≤ time) (soon : time ≤ t + 5 * nanos) (short : ℕ) (shorter : short ≤ hold)
    (h : DelayHold) (current : ℕ) (urgent : Bool) (need : ℕ) (low : need ≤ most)
  where
    abbrev After : Next → Type 0
    After d = Phase millisecond calm hold most time (delay_after current d.change) d.hold.last_change d.hold.lower

    abbrev Decides : Next → Type 0
    Decides d = Outcome millisecond may_lower h need urgent current short time d

    -- the timer after this tick, where it runs
    abbrev met : LowerTimer
    met = timer_met h.lower need time

    from_settled : current ≤ most + (millisecond - 1) → HighestWithin most h.lower → (d : Next) → Decides d → After d
    from_settled c u d (raises g k) = settled (omega arith) tt
    from_settled c u d (quits g k) = settled c tt
    from_settled c u d (waits g k w) = settled c (met_most h.lower need time most low u)
    from_settled c u d (lowers g k a b) = settled (omega (arith, met_most h.lower need time most low u)) tt

    from_dropped : h.lower ≡ None → t ≤ calm + hold + 5 * nanos → Till t h.last_change → (d : Next) → Decides d → After d
    from_dropped off a l d (raises g k) = settled (omega arith) tt
    from_dropped off a l d (quits g k) = settled (omega arith) tt
    from_dropped off a l d (waits g k w) =
        let q : met.since ≡ time = ap (λ (x : LowerTimer). x.since) (starts need time off) in
        let v : met.highest ≡ need = ap (λ (x : LowerTimer). x.highest) (starts need time off) in
        let last : Till met.since h.last_change = till_later t met.since h.last_change (omega arith) l in
        clean met refl (omega arith) (omega arith) (omega (arith, w may met.since (omega arith) last)) last
    from_dropped off a l d (lowers g k u v) = let q : met.highest ≡ need = ap (λ (x : LowerTimer). x.highest) (starts need time off) in settled (omega arith) tt

    -- a timer that is on
    module _ (running : LowerTimer) (on : h.lower ≡ Some running) where
      since_kept : met.since ≡ running.since
      since_kept = ap (λ (x : LowerTimer). x.since) (runs_on need time on)

      highest_most : running.highest ≤ most → met.highest ≤ most
      highest_most a = omega (arith, ap (λ (x : LowerTimer). x.highest) (runs_on need time on))

      from_old : t < calm + hold → running.since ≤ calm → Till calm h.last_change → (d : Next) → Decides d → After d
      from_old a b c d (raises g k) = settled (omega arith) tt
      from_old a b c d (quits g k) = settled (omega arith) tt
      from_old a b c d (waits g k w) =
          let q : met.since ≤ calm = omega (arith, since_kept) in
          old met refl (omega (arith, w may calm q c)) q c
      from_old a b c d (lowers g k u v) = dropped refl (omega arith)

      from_clean :
          running.highest ≤ most → running.since ≤ calm + hold + 10 * nanos → Till running.since h.last_change →
          (d : Next) → Decides d → After d
      from_clean a b l d (raises g k) = settled (omega arith) tt
      from_clean a b l d (quits g k) = settled (omega arith) tt
      from_clean a b l d (waits g k w) =
          let q : met.since ≡ running.since = since_kept in
          let last : Till met.since h.last_change = till_later running.since met.since h.last_change (omega arith) l in
          clean met refl (highest_most a) (omega arith) (omega (arith, w may met.since (omega arith) last)) last
      from_clean a b l d (lowers g k u v) = settled (omega (arith, highest_most a)) tt

    from_early : t < calm → TimerTill t h.lower → Till t h.last_change → (d : Next) → Decides d → After d
    from_early e s l d o = by_timer h.lower refl s
      where
        by_timer : (timer : Option LowerTimer) → h.lower ≡ timer → TimerTill t timer → After d
        by_timer None off s = from_dropped off (omega arith) l d o
        by_timer (Some running) on s = from_old running on (omega arith) (omega arith) (till_later t calm h.last_change (omega arith) l) d o

    pub step_phase :
        TimerTill t h.lower → Till t h.last_change →
        Phase millisecond calm hold most t current h.last_change h.lower →
        (d : Next) → Decides d → After d
    step_phase s l (early e) d o = from_early e s l d o
    step_phase s l (old running on a b c) d o = from_old running on a b c d o
    step_phase s l (dropped off a) d o = from_dropped off a l d o
    step_phase s l (clean running on a b c k) d o = from_clean running on a b k d o
    step_phase s l (settled c u) d o = from_settled c u d o

-- long enough after `calm` only `settled` is left
pub at_last :
    (millisecond calm hold most t delay : ℕ) (last : Option ℕ) (timer : Option LowerTimer) →
    calm + 2 * hold + 10 * nanos ≤ t → Phase millisecond calm hold most t delay last timer → delay ≤ most + (millisecond - 1)
at_last millisecond calm hold most t delay last timer h (early e) = absurd (omega arith)
at_last millisecond calm hold most t delay last timer h (old running on a b c) = absurd (omega arith)
at_last millisecond calm hold most t delay last timer h (dropped off a) = absurd (omega arith)
at_last millisecond calm hold most t delay last timer h (clean running on a b c k) = absurd (omega arith)
at_last millisecond calm hold most t delay last timer h (settled c u) = c
