-- Document 01, "DelayHold", steps 1 to 3: startup, the seed, and what the largest lag tells. Assumes nothing.
use Rattle.std.specs.Prelude.{ℕ, ◌+◌, ◌-◌, ◌*◌, min, Bool, true, false, not, ◌&&◌, nat_le, nat_lt, None, Option, Some}
use Rattle.base.specs.Choice.{pick}
use Rattle.base.specs.Limits.{nanos}
use Rattle.policy.specs.declared.DelayPolicy.{DelayPolicy}
use Rattle.policy.specs.Need.{need_of}
use Rattle.delay_hold.specs.declared.Seed.{Seed}
use Rattle.delay_hold.specs.declared.DelayHold.{DelayHold}

-- 1. "The first call sets started."
abbrev pub started_at : Option ℕ → (time : ℕ) → ℕ
started_at None time = time
started_at (Some t) time = t

-- how long startup lasts, the longest hold and window in it, how many startup lates end it, and how far they are counted
abbrev pub startup_span : ℕ
startup_span = 60 * nanos

abbrev pub startup_hold : ℕ
startup_hold = 5 * nanos

abbrev pub startup_lates : ℕ
startup_lates = 2

abbrev pub most_lates : ℕ
most_lates = 255

-- 1. "Startup is: under 60 s since, and fewer than two startup lates."
abbrev pub startup_at : (started lates time : ℕ) → Bool
startup_at started lates time = nat_lt (time - started) startup_span && nat_lt lates startup_lates

abbrev pub in_startup : (h : DelayHold) (time : ℕ) → Bool
in_startup h time = startup_at (started_at h.started time) h.startup_late time

-- 1. "In startup hold and window are each at most 5 s."
abbrev pub capped : (startup : Bool) (x : ℕ) → ℕ
capped startup x = pick startup (min x startup_hold) x

-- 2. "A seed of age at least the policy's hold (not the startup one) goes."
abbrev pub seed_left : Option Seed → (hold time : ℕ) → Option Seed
seed_left None hold time = None
seed_left (Some seed) hold time = pick (nat_le hold (time - seed.since)) None (Some seed)

-- 3. "A largest lag above offset + maximum is dropped."
abbrev pub lag_within : Option ℕ → (limit : ℕ) → Option ℕ
lag_within None limit = None
lag_within (Some lag) limit = pick (nat_le lag limit) (Some lag) None

abbrev pub lag_of : (policy : DelayPolicy) (largest : Option ℕ) → Option ℕ
lag_of policy largest = lag_within largest (policy.read_offset + policy.delay_max)

-- 3. "Late: it exceeds offset + current."
abbrev pub late_at : Option ℕ → (limit : ℕ) → Bool
late_at None limit = false
late_at (Some lag) limit = nat_lt limit lag

abbrev pub late_of : (policy : DelayPolicy) (largest : Option ℕ) (current : ℕ) → Bool
late_of policy largest current = late_at (lag_of policy largest) (policy.read_offset + current)

abbrev pub changed_before : Option ℕ → Bool
changed_before None = false
changed_before (Some t) = true

-- 3. "A late after a not-late, in startup, with an earlier change, adds a startup late (up to 255)."
abbrev pub lates_next : (late before startup : Bool) (last : Option ℕ) (n : ℕ) → ℕ
lates_next late before startup last n = pick (late && not before && startup && changed_before last) (min (n + 1) most_lates) n

-- 3. "With a largest lag, a seed not above its need + 48 sets startup lates to 2."
abbrev pub lates_seeded : (millisecond : ℕ) (policy : DelayPolicy) → Option ℕ → (seed : Option Seed) (n : ℕ) → ℕ
lates_seeded millisecond policy None seed n = n
lates_seeded millisecond policy (Some lag) None n = n
lates_seeded millisecond policy (Some lag) (Some seed) n = pick (nat_le seed.delay (need_of policy lag + millisecond)) startup_lates n

-- 1 to 3, of the hold: the start, the seed, the startup lates, and whether this call is late
unfoldable pub noted : (millisecond : ℕ) (policy : DelayPolicy) (h : DelayHold) (lag : Option ℕ) (startup late : Bool) (time : ℕ) → DelayHold
noted millisecond policy h lag startup late time =
    record {
      peaks = h.peaks;
      last_change = h.last_change;
      lower = h.lower;
      started = Some (started_at h.started time);
      startup_late =
          lates_seeded millisecond policy lag (seed_left h.seeded policy.hold time)
          (lates_next late h.late_before startup h.last_change h.startup_late);
      late_before = late;
      seeded = seed_left h.seeded policy.hold time;
    }
