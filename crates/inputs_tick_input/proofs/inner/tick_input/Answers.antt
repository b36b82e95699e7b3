-- `inputs_tick_input::inner::tick_input` meets its contract. Assumes nothing.
use Rattle.std.specs.Prelude.{[]}
use mathlib.Core.Path.{refl, ap, ◌∙◌}
use native.Mathlib.Omega.{arith}
use Rattle.rules_record.specs.Effects.{Effect}
use Rattle.rules_record.specs.Lending.{lists_lent}
use Rattle.inputs_commands.proofs.Steps.{room_after}
use Rattle.rules_tick.proofs.TickAsking.{arrived_kept, low, arrive_asks, late_asks, look_asks, auto_asks, auto_sums, ticked_by, rested_by, moved_by}
use Rattle.inputs_tick_input.proofs.inner.tick_input.Goals as goal

pub arrive-arrived-requires : goal.arrive-arrived-requires
arrive-arrived-requires c = arrive_asks _ (lists_lent c.args.lists.now) _ _ c.args.lags.now _ c.requires.sized.0 c.requires.sized.1 c.requires.input_asked [] []

pub late_event-heard-requires : goal.late_event-heard-requires
late_event-heard-requires c = let first = arrived_kept _ _ c.args.lags.now _ (lists_lent c.args.lists.now) (lists_lent c.arrive-arrived.new.lent) c.arrive-arrived.ensures.arrived c.arrive-arrived.ensures.times_kept c.arrive-arrived.ensures.peaks_kept in late_asks _ (lists_lent c.args.lists.now) _ _ c.args.lags.now _ c.requires.sized.0 c.requires.sized.1 c.requires.input_asked _ (ap (λ (x : Effect). x.inputs) first)

pub offset_bounds-before-i : goal.offset_bounds-before-i
offset_bounds-before-i c = omega (arith, low _ (lists_lent c.args.lists.now) _ _ c.args.lags.now _ c.requires.sized.0 c.requires.sized.1 c.requires.input_asked)

pub bounds-before-i : goal.bounds-before-i
bounds-before-i c = low _ (lists_lent c.args.lists.now) _ _ c.args.lags.now _ c.requires.sized.0 c.requires.sized.1 c.requires.input_asked

pub returns-then-rests-clause-affects : goal.returns-then-rests-clause-affects
returns-then-rests-clause-affects c = let first = arrived_kept _ _ c.args.lags.now _ (lists_lent c.args.lists.now) (lists_lent c.arrive-arrived.new.lent) c.arrive-arrived.ensures.arrived c.arrive-arrived.ensures.times_kept c.arrive-arrived.ensures.peaks_kept in record { effected = rested_by _ _ _ _ _ (lists_lent c.args.lists.now) _ _ (low _ (lists_lent c.args.lists.now) _ _ c.args.lags.now _ c.requires.sized.0 c.requires.sized.1 c.requires.input_asked) c.requires.sized.0.slots first c.max_lag-max_lag.ensures c.late_event-heard.ensures (c.rests.ensures c.if-rests.true); same = refl }

pub offset_bounds-before-i-then-moves : goal.offset_bounds-before-i-then-moves
offset_bounds-before-i-then-moves c = omega (arith, low _ (lists_lent c.args.lists.now) _ _ c.args.lags.now _ c.requires.sized.0 c.requires.sized.1 c.requires.input_asked)

pub bounds-before-i-then-moves : goal.bounds-before-i-then-moves
bounds-before-i-then-moves c = low _ (lists_lent c.args.lists.now) _ _ c.args.lags.now _ c.requires.sized.0 c.requires.sized.1 c.requires.input_asked

pub auto_delay-requires : goal.auto_delay-requires
auto_delay-requires c = let first = arrived_kept _ _ c.args.lags.now _ (lists_lent c.args.lists.now) (lists_lent c.arrive-arrived.new.lent) c.arrive-arrived.ensures.arrived c.arrive-arrived.ensures.times_kept c.arrive-arrived.ensures.peaks_kept in record { auto_asked = auto_asks _ (lists_lent c.args.lists.now) _ _ c.args.lags.now _ c.requires.sized.0 c.requires.sized.1 c.requires.input_asked _ _ (ap (λ (x : Effect). x.inputs) first) c.late_event-heard.ensures (moved_by _ _ _ _ _ [] 0 (low _ (lists_lent c.args.lists.now) _ _ c.args.lags.now _ c.requires.sized.0 c.requires.sized.1 c.requires.input_asked) c.requires.sized.0 (c.moves.ensures c.if-moves.true) c.moved-moved.ensures) (ap (λ (x : Effect). x.lists) first); used_in_bounds = omega (arith, c.requires.used_in_bounds) }

pub returns-then-moves-clause-affects : goal.returns-then-moves-clause-affects
returns-then-moves-clause-affects c = let first = arrived_kept _ _ c.args.lags.now _ (lists_lent c.args.lists.now) (lists_lent c.arrive-arrived.new.lent) c.arrive-arrived.ensures.arrived c.arrive-arrived.ensures.times_kept c.arrive-arrived.ensures.peaks_kept in let affects = c.auto_delay.ensures _ _ (auto_sums _ (lists_lent c.args.lists.now) _ _ c.args.lags.now _ c.requires.sized.0 c.requires.sized.1 c.requires.input_asked _ _ (ap (λ (x : Effect). x.inputs) first) c.late_event-heard.ensures (moved_by _ _ _ _ _ [] 0 (low _ (lists_lent c.args.lists.now) _ _ c.args.lags.now _ c.requires.sized.0 c.requires.sized.1 c.requires.input_asked) c.requires.sized.0 (c.moves.ensures c.if-moves.true) c.moved-moved.ensures) (ap (λ (x : Effect). x.lists) first)) in record { effected = ticked_by _ _ _ _ _ (lists_lent c.args.lists.now) _ (low _ (lists_lent c.args.lists.now) _ _ c.args.lags.now _ c.requires.sized.0 c.requires.sized.1 c.requires.input_asked) c.requires.sized.0.slots first c.max_lag-max_lag.ensures c.late_event-heard.ensures (moved_by _ _ _ _ _ _ _ (low _ (lists_lent c.args.lists.now) _ _ c.args.lags.now _ c.requires.sized.0 c.requires.sized.1 c.requires.input_asked) c.requires.sized.0 (c.moves.ensures c.if-moves.true) c.moved-moved.ensures) affects.effected; same = affects.same }

pub look_at-seen-requires : goal.look_at-seen-requires
look_at-seen-requires c = let first = arrived_kept _ _ c.args.lags.now _ (lists_lent c.args.lists.now) (lists_lent c.arrive-arrived.new.lent) c.arrive-arrived.ensures.arrived c.arrive-arrived.ensures.times_kept c.arrive-arrived.ensures.peaks_kept in let asks = look_asks _ (lists_lent c.args.lists.now) _ _ c.args.lags.now _ c.requires.sized.0 c.requires.sized.1 c.requires.input_asked _ _ (ap (λ (x : Effect). x.inputs) first) c.late_event-heard.ensures in (omega (arith, c.requires.used_in_bounds), asks.0, asks.1)

pub auto_delay-requires-2 : goal.auto_delay-requires-2
auto_delay-requires-2 c = let first = arrived_kept _ _ c.args.lags.now _ (lists_lent c.args.lists.now) (lists_lent c.arrive-arrived.new.lent) c.arrive-arrived.ensures.arrived c.arrive-arrived.ensures.times_kept c.arrive-arrived.ensures.peaks_kept in record { auto_asked = auto_asks _ (lists_lent c.args.lists.now) _ _ c.args.lags.now _ c.requires.sized.0 c.requires.sized.1 c.requires.input_asked _ _ (ap (λ (x : Effect). x.inputs) first) c.late_event-heard.ensures c.look_at-seen.ensures.did (ap (λ (x : Effect). x.lists) first); used_in_bounds = room_after 3 c.requires.used_in_bounds c.look_at-seen.ensures }

pub returns-clause-affects : goal.returns-clause-affects
returns-clause-affects c = let first = arrived_kept _ _ c.args.lags.now _ (lists_lent c.args.lists.now) (lists_lent c.arrive-arrived.new.lent) c.arrive-arrived.ensures.arrived c.arrive-arrived.ensures.times_kept c.arrive-arrived.ensures.peaks_kept in let affects = c.auto_delay-2.ensures _ _ (auto_sums _ (lists_lent c.args.lists.now) _ _ c.args.lags.now _ c.requires.sized.0 c.requires.sized.1 c.requires.input_asked _ _ (ap (λ (x : Effect). x.inputs) first) c.late_event-heard.ensures c.look_at-seen.ensures.did (ap (λ (x : Effect). x.lists) first)) in record { effected = ticked_by _ _ _ _ _ (lists_lent c.args.lists.now) _ (low _ (lists_lent c.args.lists.now) _ _ c.args.lags.now _ c.requires.sized.0 c.requires.sized.1 c.requires.input_asked) c.requires.sized.0.slots first c.max_lag-max_lag.ensures c.late_event-heard.ensures c.look_at-seen.ensures.did affects.effected; same = affects.same ∙ c.look_at-seen.ensures.same }
