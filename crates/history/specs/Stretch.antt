-- The words of the third demand, of one input: the settings that `new` accepts, a stretch of ticks, and the end of a lag's bucket. Assumes nothing.
use Rattle.std.specs.Prelude.{ℕ, ◌+◌, ◌*◌, ◌≤◌, ◌≡◌, true, List, [], ◌∷◌}
use Rattle.base.specs.Limits.{nanos, span_limit, width_limit, buckets_limit}
use Rattle.policy.specs.declared.DelayPolicy.{DelayPolicy}
use Rattle.policy.specs.Settings as policies
use Rattle.rules_window.specs.Window.{bucket_of}
use Rattle.rules_record.specs.Lent.{buckets_for}
use Rattle.history.specs.View.{Tick}
use Rattle.history.specs.Events.{Event, ticks}

-- what checks 2, 17, 18, 3 and 4 of `new` let through
pub record Allowed (policy : DelayPolicy) (width : ℕ) : Type 0 where
  pub sound : policies.Sound policy
  pub hold_most : policy.hold ≤ span_limit
  pub window_least : nanos ≤ policy.window
  pub window_most : policy.window ≤ span_limit
  pub width_least : 1 ≤ width
  pub width_most : width ≤ width_limit
  pub buckets_most : buckets_for policy width ≤ buckets_limit

-- ticks that all leave the input running on automatic
abbrev pub running_ticks : List Tick → List Event
running_ticks [] = []
running_ticks (tick ∷ later) = ticks tick ∷ running_ticks later

-- "bring it lags"
abbrev pub NonEmpty : List ℕ → Type 0
NonEmpty [] = ⊥
NonEmpty (lag ∷ lags) = Unit {0}

-- "none above L"
abbrev pub NoneAbove : ℕ → List ℕ → Type 0
NoneAbove L [] = Unit {0}
NoneAbove L (lag ∷ lags) = (lag ≤ L) × NoneAbove L lags

-- successive ticks, "each at most 5 s after the one before" (the first after `before`), that may lower and bring lags, none above L
abbrev pub TickStretch : (L before : ℕ) → List Tick → Type 0
TickStretch L before [] = Unit {0}
TickStretch L before (tick ∷ later) =
    (tick.time ≤ before + 5 * nanos) × (tick.may_lower ≡ true) × NonEmpty tick.lags × NoneAbove L tick.lags × TickStretch L tick.time later

-- the time of the last of them
abbrev pub ending : (before : ℕ) → List Tick → ℕ
ending before [] = before
ending before (tick ∷ later) = ending tick.time later

-- "the end of L's bucket (the end that `quantile_upto` answers)"
unfoldable pub bucket_end : (policy : DelayPolicy) (width L : ℕ) → ℕ
bucket_end policy width L = (bucket_of L width (buckets_for policy width) + 1) * width
