-- No call but a tick has stored lags. Assumes nothing.
use Rattle.std.specs.Prelude.{Option, None, Some, IfSome, option_and_then, option_map, unwrap_or}
use Rattle.std.specs.Option.{option_or}
use Prim.Native.Nat.{ℕ}
use mathlib.Core.Path.{◌≡◌, refl}
use mathlib.Core.Bool.{Bool, true, false}
use mathlib.Core.List.{List}
use lib.Dec.{eqb}
use Rattle.base.specs.Choice.{pick}
use Rattle.base.proofs.Choices.{pick_all}
use Rattle.text_scan.specs.declared.Word.{Word}
use Rattle.text_scan.specs.Scan.{word, ends_at}
use Rattle.text_requests.specs.declared.Call.{Call}
use Rattle.text_requests.specs.declared.Known.{Known}
use Rattle.text_read.specs.Supervisor.{lags_of, tick_said, tick_line, new_line, route_line, update_line, confirm_line, settled_line, status_line, has_line, dump_line, dwrite1_line, put_line, change_lines, ask_lines, call_line}
use Rattle.text_read.specs.Table.{Said, said_of, silent as silent_said, whole, full_line, request_at}
use Rattle.text_read_alone.specs.Alone.{lone_line}
use Rattle.text_requests.specs.declared.Request.TheVariants.{Bad, Full, Alone, On}

pub record Silent (line : Option (Word Call)) : Type 0 where
  pub told : IfSome line (λ w. lags_of w.value ≡ 0)

none_silent : Silent None
none_silent = record { told = tt }

one_silent : (call : Call) (next : ℕ) → lags_of call ≡ 0 → Silent (Some (word call next))
one_silent call next e = record { told = e }

-- a line that is read word by word is silent if it is with any words
read_all : {A : Type 0} (o : Option A) (f : A → Option (Word Call)) → ((x : A) → Silent (f x)) → Silent (option_and_then f o)
read_all None f h = none_silent
read_all (Some x) f h = h x

or_all : (first second : Option (Word Call)) → Silent first → Silent second → Silent (option_or first second)
or_all None second f g = g
or_all (Some x) second f g = f

pick_silent : (b : Bool) (x y : Option (Word Call)) → Silent x → Silent y → Silent (pick b x y)
pick_silent b x y p q = pick_all Silent b p q

ruleset silent = (none_silent, one_silent, read_all, pick_silent, refl)

module _ (s : List ℕ) (at : ℕ) where
  route_silent : Silent (route_line s at)
  unfolding route_line
  route_silent = search silent depth 12

  update_silent : Silent (update_line s at)
  unfolding update_line
  update_silent = search silent

  confirm_silent : Silent (confirm_line s at)
  unfolding confirm_line
  confirm_silent = search silent

  status_silent : Silent (status_line s at)
  unfolding status_line
  status_silent = search silent

  has_silent : Silent (has_line s at)
  unfolding has_line
  has_silent = search silent

  settled_silent : Silent (settled_line s at)
  unfolding settled_line
  settled_silent = search silent

  dump_silent : Silent (dump_line s at)
  dump_silent = search silent

  dwrite1_silent : Silent (dwrite1_line s at)
  dwrite1_silent = search silent

  new_silent : Silent (new_line s at)
  unfolding new_line
  new_silent = search silent depth 12

  put_silent : (inputs buckets : ℕ) → Silent (put_line s at inputs buckets)
  unfolding put_line
  put_silent inputs buckets = search silent

  change_silent : Silent (change_lines s at)
  unfolding change_lines
  change_silent = or_all _ _ (or_all _ _ route_silent update_silent) confirm_silent

  ask_silent : Silent (ask_lines s at)
  unfolding ask_lines
  ask_silent = or_all _ _ (or_all _ _ (or_all _ _ (or_all _ _ status_silent has_silent) settled_silent) dump_silent) dwrite1_silent

  line_silent : (known : Known) → Silent (call_line s at known)
  unfolding call_line
  line_silent known =
      pick_all Silent (eqb known.inputs 0) new_silent (or_all _ _ (or_all _ _ (or_all _ _ new_silent change_silent) ask_silent) (put_silent known.inputs known.buckets))

pub call_silent : (s : List ℕ) (at : ℕ) (known : Known) {call : Call} → Some call ≡ whole s (call_line s at known) → lags_of call ≡ 0
unfolding whole
call_silent s at known {call} = told (call_line s at known) (line_silent s at known)
  where
    told : (line : Option (Word Call)) → Silent line → Some call ≡ option_and_then (λ w. pick (ends_at s w.next) (Some w.value) None) line → lags_of call ≡ 0
    told None h e = cc
    told (Some w) h e = ended (ends_at s w.next) e
      where
        ended : (b : Bool) → Some call ≡ pick b (Some w.value) None → lags_of call ≡ 0
        ended true q = let g = h.told in cc
        ended false q = cc

-- ---- a request, by what its lines were found to be
module _ (s : List ℕ) (heard : List ℕ) where
  ticked_whole : (line : Option (Word Call)) → option_and_then (λ t. pick (ends_at s t.line.next) (Some (record { request = On t.line.value; lags = t.lags })) None) (tick_said line heard) ≡ option_map (λ call. said_of (On call) heard) (whole s line)
  unfolding whole
  ticked_whole None = refl
  ticked_whole (Some w) = ended (ends_at s w.next)
    where
      ended : (b : Bool) → ◌≡◌ {A = Option Said} (pick b (Some (said_of (On w.value) heard)) None) (option_map (λ call. said_of (On call) heard) (pick b (Some w.value) None))
      ended true = refl
      ended false = refl

  pub requested : (at : ℕ) (known : Known) (room : ℕ) (line : Option (Word Call)) → tick_said line heard ≡ tick_line s at known.inputs room → request_at s at known room ≡
      unwrap_or
      (option_or
      (option_or
      (option_or
      (option_map (λ call. said_of (On call) heard) (whole s line))
      (option_map (λ call. silent_said (On call)) (whole s (call_line s at known))))
      (option_map (λ lone. silent_said (Alone lone)) (whole s (lone_line s at known.lone_buckets))))
      (option_map (λ bit. silent_said (Full bit)) (whole s (full_line s at))))
      (silent_said Bad)
  unfolding request_at
  requested at known room line e = rw (← e, ticked_whole line)
