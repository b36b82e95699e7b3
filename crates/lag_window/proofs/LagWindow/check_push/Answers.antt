-- `lag_window::LagWindow::check_push` meets its contract. Assumes nothing.
use Rattle.std.proofs.Common.{refl, sym, ap, ◌∙◌, rules}
use Rattle.std.specs.Prelude.{◌≡◌, Err}
use lib.Seq.{length-take-le}
use Rattle.refusals.proofs.Answers.{never_zero}
use Rattle.refusals.specs.Numbers.{number_in}
use Rattle.rules_window.proofs.Numbers.{push_stops, push_late, push_full, push_passes, room_asks, room_part}
use Rattle.lag_window.proofs.LagWindow.check_push.Goals as goal

pub returns-in_err-check : goal.returns-in_err-check
returns-in_err-check c =
    let e : c.from_residual.result ≡ Err c.in_err-check.field-0.0 = search rules in
    ap number_in e ∙ push_stops _ _ _ _ c.in_err-check.ensures (never_zero _)

pub returns-then-time-gt-LATEST : goal.returns-then-time-gt-LATEST
returns-then-time-gt-LATEST c = push_late _ _ _ _ c.in_ok-check.ensures refl c.if-time-gt-LATEST.true

pub slice_bounds-room-end : goal.slice_bounds-room-end
slice_bounds-room-end c = sym (length-take-le _ _ (room_asks c.args.time _ _ _ c.in_ok-check.ensures refl).0)

pub slice_bounds-room-end-2 : goal.slice_bounds-room-end-2
slice_bounds-room-end-2 c = sym (length-take-le _ _ (room_asks c.args.time _ _ _ c.in_ok-check.ensures refl).1)

pub room-requires : goal.room-requires
room-requires c = let used = room_asks c.args.time _ _ _ c.in_ok-check.ensures refl in length-take-le _ _ used.0 ∙ sym (length-take-le _ _ used.1)

pub returns-then-not-room : goal.returns-then-not-room
returns-then-not-room c =
    push_full _ _ _ _ c.in_ok-check.ensures _ refl c.if-time-gt-LATEST.false (c.room.ensures ∙ room_part _ _ _ _ _ (room_asks c.args.time _ _ _ c.in_ok-check.ensures refl)) c.if-not-room.true

pub returns : goal.returns
returns c =
    push_passes _ _ _ _ c.in_ok-check.ensures _ refl c.if-time-gt-LATEST.false (c.room.ensures ∙ room_part _ _ _ _ _ (room_asks c.args.time _ _ _ c.in_ok-check.ensures refl)) c.if-not-room.false
