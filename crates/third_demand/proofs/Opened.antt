-- The definitions that a night of calls computes with, crate by crate: an `unfolding` line that names one of these opens all that it names.
-- Assumes nothing.
use Prim.Native.Nat.{ℕ}
use lib.Ieee.{round, mul, div, of_int, le}
use Rattle.base.specs.Any.{any}
use Rattle.base.specs.Choice.{both, ask}
use Rattle.base.specs.Lists.{padded, each_from, sum, all, listed, sum_from}
use Rattle.base.specs.Rows.{apart, up_to}
use Rattle.base.specs.First as firsts
use Rattle.buckets.specs.Ranges.{reaches_allowed, width_allowed, buckets_of, buckets_few, ranges_number}
use Rattle.doubles.specs.Doubles.{half_away, ceil_of}
use Rattle.doubles.specs.Quantile as quantiles
use Rattle.policy.specs.Need.{share_of, need_of}
use Rattle.policy.specs.Settings.{times_allowed, margins_allowed, share_of_percent, percent_allowed}
use Rattle.rules_window.specs.Quantile.{column, within, running, reach, quantile_in, thousandths}
use Rattle.rules_window.specs.WholeWindow.{summed, whole_window}
use Rattle.rules_window.specs.ColumnSums.{column_sums, right_sums}
use Rattle.rules_window.specs.Window.{in_use, laid, opened, dropped, counted, pushed, pushed_all}
use Rattle.rules_window.specs.Checks.{newest_of}
use Rattle.rules_window.specs.Window as windows
use Rattle.delay_hold.specs.Steps5To8.{lowering, weighed, decide_at, decide}
use Rattle.delay_hold.specs.Next.{next_of}
use Rattle.delay_hold.specs.Step4Peaks.{join_times, join_lags, old_count, times_after, lags_after}
use Rattle.delay_hold.specs.Steps1To3.{noted}
use Rattle.delay_hold.specs.Whole.{whole_peaks, whole_times, whole_hold}
use Rattle.rules_record.specs.Checks.{inputs_allowed, pauses_allowed, lists_fit, record_number, input_number, timed_number}
use Rattle.rules_record.specs.Commands.{quiet, send_first}
use Rattle.rules_record.specs.Effects.{followed_by}
use Rattle.rules_record.specs.Flows.{same_flow, empty_entry, entry_at, flow_at, known, place_below, flow_place, distinct_flows, admits, enrolled_at, enrolled, recalled, kept, remembered, remembered_by, remembered_for}
use Rattle.rules_record.specs.Inputs.{slot_at, put_slot}
use Rattle.rules_record.specs.Instances.{same_key, no_key, key_at, keys_held, key_below, found_key, distinct_keys, made}
use Rattle.rules_record.specs.Prune.{uses_key, any_uses, wanted_key, keep_one, kept_keys, with_keys, pruned}
use Rattle.rules_record.specs.Lent.{buckets_in}
use Rattle.rules_record.specs.WholePlaces.{route_fits, whole_slot, unused_hold, unused_parts, unused_numbers, unused_slot, unused_entry, entries_fit, whole_flows, unused_key, keys_fit, whole_instances}
use Rattle.rules_record.specs.WholeRecord.{whole_input, whole_inputs, whole_record}
use Rattle.rules_record.specs.Slots.{empty_slot}
use Rattle.rules_routing.specs.Clear.{cleared}
use Rattle.rules_routing.specs.SetDelay.{delay_stored, set_delay_of}
use Rattle.rules_routing.specs.TryOpen.{running_slot, opened_slot, starts_anew, start_by, recall_of, open_with, open_reader, open_at, open_seen, open_routed, try_open_of}
use Rattle.rules_routing.specs.Watch.{stalls_now, watch_same, watch_stored, watch_seen, watch_routed, watch_slot, watch_of}
use Rattle.rules_calls.specs.NewChecks.{margin_fits, settings_number, new_number}
use Rattle.rules_calls.specs.NewLoading.{loaded_below, load_fits}
use Rattle.rules_calls.specs.NewRecord.{policy_of, blank, blank_for}
use Rattle.rules_calls.specs.NewReply.{new_reply}
use Rattle.rules_calls.specs.NewStart.{kind_at, started_one, started_below, started}
use Rattle.rules_calls.specs.Route.{equal_route, other_flow, starts_over, zeroing, started_over, routed_slot, moved, rerouted, routed_to, routed}
use Rattle.rules_calls.specs.RouteChecks.{route_number}
use Rattle.rules_calls.specs.RouteReply.{route_reply}
use Rattle.rules_calls.specs.UpdateReply.{update_reply}
use Rattle.rules_calls.specs.UpdateChecks.{update_number}
use Rattle.rules_tick.specs.Lags.{window_after, last_lag_of, arrived}
use Rattle.rules_tick.specs.LateEvents.{late_now, late_events_of, late_event}
use Rattle.rules_tick.specs.AutoDelay.{p999_of, next_for, answered, decided_for, goes_on, auto_delayed}
use Rattle.rules_tick.specs.Looks.{look_at, lags_before, lags_of}
use Rattle.rules_tick.specs.Tick.{heard, looked, ticked_input, ticked_below, ticked_all, ticked}
use Rattle.rules_tick.specs.TickChecks.{looks_fit, lags_fit, rooms_fit, tick_number}
use Rattle.rules_tick.specs.TickReply.{tick_reply}

-- of base, doubles and policy
unfoldable pub base_opened : ℕ
unfolding any both ask padded each_from sum all listed sum_from apart up_to firsts.first half_away ceil_of quantiles.target_of share_of need_of reaches_allowed width_allowed buckets_few ranges_number times_allowed margins_allowed share_of_percent percent_allowed round mul div of_int le
base_opened = 0

-- of a window
unfoldable pub window_opened : ℕ
unfolding column within running reach quantile_in column_sums right_sums summed whole_window buckets_of windows.fresh in_use laid opened dropped counted pushed pushed_all newest_of
window_opened = 0

-- of a hold
unfoldable pub hold_opened : ℕ
unfolding lowering weighed decide_at decide next_of join_times join_lags old_count times_after lags_after noted whole_peaks whole_times whole_hold
hold_opened = 0

-- of the record, its tables and its checks
unfoldable pub record_opened : ℕ
unfolding inputs_allowed pauses_allowed lists_fit record_number input_number timed_number quiet send_first followed_by same_flow empty_entry entry_at flow_at known place_below flow_place distinct_flows admits enrolled_at enrolled recalled kept remembered remembered_by remembered_for slot_at put_slot same_key no_key key_at keys_held key_below found_key distinct_keys made uses_key any_uses wanted_key keep_one kept_keys with_keys pruned buckets_in route_fits whole_slot unused_hold unused_parts unused_numbers unused_slot unused_entry entries_fit whole_flows unused_key keys_fit whole_instances whole_input whole_inputs whole_record empty_slot
record_opened = 0

-- of routing
unfoldable pub routing_opened : ℕ
unfolding cleared delay_stored set_delay_of running_slot opened_slot starts_anew start_by recall_of open_with open_reader open_at open_seen open_routed try_open_of stalls_now watch_same watch_stored watch_seen watch_routed watch_slot watch_of
routing_opened = 0

-- of `new` and `route`, and the number of `update`
unfoldable pub calls_opened : ℕ
unfolding margin_fits settings_number new_number loaded_below load_fits policy_of blank blank_for new_reply kind_at started_one started_below started equal_route other_flow starts_over zeroing started_over routed_slot moved rerouted routed_to routed route_number route_reply update_reply update_number
calls_opened = 0

-- of a tick
unfoldable pub tick_opened : ℕ
unfolding window_after last_lag_of arrived late_now late_events_of late_event thousandths p999_of next_for answered decided_for goes_on auto_delayed look_at lags_before lags_of heard looked ticked_input ticked_below ticked_all ticked looks_fit lags_fit rooms_fit tick_number tick_reply
tick_opened = 0
