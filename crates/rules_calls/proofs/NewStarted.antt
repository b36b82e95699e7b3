-- The inputs started in their order: the slot of each, the words sent, and all else stays; the record stays checked. Assumes nothing.
use Prim.Native.Nat.{ℕ, zero, suc, ◌<◌, ◌≤◌, min}
use mathlib.Core.Path.{◌≡◌, refl, sym, ap, subst, ◌∙◌}
use mathlib.Core.Logic.{⊎_elim}
use mathlib.Core.List.{List, [], ◌++◌}
use native.Mathlib.Nat.{eq-or-lt_of_le, le_of_suc-le-suc}
use native.Mathlib.Omega.{arith}
use Rattle.base.specs.Limits.{time_limit}
use Rattle.doubles.specs.Doubles.{samples_of}
use Rattle.rules_record.specs.declared.ExtraDelay.{ExtraDelay}
use Rattle.rules_record.specs.declared.ExtraDelay.TheVariants.{Auto, Ms}
use Rattle.rules_record.specs.declared.Slot.{Slot}
use Rattle.rules_record.specs.declared.Inputs.{Inputs}
use Rattle.rules_record.specs.Slots.{is_auto, with_config, with_head, with_delay}
use Rattle.rules_record.specs.Inputs.{slot_at, put_slot, with_slots}
use Rattle.rules_record.proofs.SlotFrame.{slot_same, slot_other, put_rest}
use Rattle.rules_record.proofs.Sized.{sized_put}
use Rattle.rules_record.specs.Sized.{Sized}
use Rattle.rules_record.specs.Flows.{remembered_by, remembered_for}
use Rattle.rules_record.specs.Commands.{set_delay, quiet, send_first}
use Rattle.rules_routing.specs.SetDelay.{delay_stored, set_delay_of}
use Rattle.rules_routing.proofs.SetDelayStored.{stored_same, stored_other, stored_sized}
use Rattle.rules_record.specs.Lent.{Lists}
use Rattle.rules_record.specs.Facts.{WholeSlot, Checked}
use Rattle.rules_record.proofs.Keep.{slot_keeps}
use Rattle.rules_record.proofs.FlowCases.{unremembered}
use Rattle.rules_routing.proofs.SetDelayKeeps.{stored_keeps}
use Rattle.rules_calls.specs.NewStart.{kind_at, made_at, started_one, started_below}

-- the slot of an input that was not in use, with this kind and this maximum
abbrev pub made_slot : ExtraDelay → (time : ℕ) → Slot → Slot
made_slot kind time slot = with_head (with_config slot (record { extra_delay = kind })) 0 time

abbrev pub started_slot : ExtraDelay → (time maximum : ℕ) → Slot → Slot
started_slot (Auto tag) time maximum slot = made_slot (Auto tag) time slot
started_slot (Ms delay) time maximum slot = with_delay (made_slot (Ms delay) time slot) (min (samples_of delay) maximum) time

-- the words for it
abbrev pub started_words : (i : ℕ) → ExtraDelay → (maximum : ℕ) → List ℕ
started_words i (Auto tag) maximum = []
started_words i (Ms delay) maximum = set_delay i (min (samples_of delay) maximum)

-- "for each Ms input in order", of the first n inputs
unfoldable pub manual_words : (n : ℕ) → List ExtraDelay → (maximum : ℕ) → List ℕ
manual_words zero kinds maximum = []
manual_words (suc n) kinds maximum = manual_words n kinds maximum ++ started_words n (kind_at kinds n) maximum

-- ---- one input
module _ (s : Inputs) (i time : ℕ) (low : i < 16) (sized : Sized s) where
  made_slot_law : (kind : ExtraDelay) → slot_at (made_at i kind time s) i ≡ made_slot kind time (slot_at s i)
  made_slot_law kind = slot_same s i (made_slot kind time (slot_at s i)) low sized.slots

  made_sized : (kind : ExtraDelay) → Sized (made_at i kind time s)
  made_sized kind = sized_put s i (made_slot kind time (slot_at s i)) sized

  pub one_slot : (kind : ExtraDelay) → slot_at (started_one i kind time s).inputs i ≡ started_slot kind time s.policy.delay_max (slot_at s i)
  unfolding started_one set_delay_of send_first quiet
  one_slot (Auto tag) = made_slot_law (Auto tag)
  one_slot (Ms delay) =
      stored_same (made_at i (Ms delay) time s) i (min (samples_of delay) s.policy.delay_max) time low (made_sized (Ms delay))
      ∙ ap (λ (x : Slot). with_delay x (min (samples_of delay) s.policy.delay_max) time) (made_slot_law (Ms delay))

  pub one_other : (kind : ExtraDelay) (j : ℕ) → (j ≡ i → ⊥) → slot_at (started_one i kind time s).inputs j ≡ slot_at s j
  unfolding started_one set_delay_of send_first quiet
  one_other (Auto tag) j apart = slot_other s i (made_slot (Auto tag) time (slot_at s i)) j apart
  one_other (Ms delay) j apart =
      stored_other (made_at i (Ms delay) time s) i (min (samples_of delay) s.policy.delay_max) time j apart
      ∙ slot_other s i (made_slot (Ms delay) time (slot_at s i)) j apart

  pub one_sized : (kind : ExtraDelay) → Sized (started_one i kind time s).inputs
  unfolding started_one set_delay_of send_first quiet
  one_sized (Auto tag) = made_sized (Auto tag)
  one_sized (Ms delay) = stored_sized (made_at i (Ms delay) time s) i (min (samples_of delay) s.policy.delay_max) time (made_sized (Ms delay))

  -- only slots change: a manual delay is not remembered
  pub one_rest : (kind : ExtraDelay) → (started_one i kind time s).inputs ≡ with_slots s (started_one i kind time s).inputs.slots
  unfolding started_one set_delay_of send_first quiet delay_stored remembered_for
  one_rest (Auto tag) = put_rest s i (made_slot (Auto tag) time (slot_at s i))
  one_rest (Ms delay) = stays ∙ rest ∙ ap (λ (x : Inputs). with_slots s x.slots) (sym stays)
    where
      samples : ℕ
      samples = min (samples_of delay) s.policy.delay_max

      made : Inputs
      made = made_at i (Ms delay) time s

      there : Inputs
      there = put_slot made i (with_delay (slot_at made i) samples time)

      stays : remembered_by (slot_at made i).route (is_auto (slot_at made i).config.extra_delay) there samples ≡ there
      stays = unremembered (slot_at made i).route _ there samples (ap (λ (x : Slot). is_auto x.config.extra_delay) (made_slot_law (Ms delay)))

      rest : there ≡ with_slots s there.slots
      rest = put_rest made i _ ∙ ap (λ (x : Inputs). with_slots x there.slots) (put_rest s i _)

  pub one_words : (kind : ExtraDelay) → (started_one i kind time s).words ≡ started_words i kind s.policy.delay_max
  unfolding started_one set_delay_of send_first quiet
  one_words (Auto tag) = refl
  one_words (Ms delay) = refl

-- the record stays checked
module _ (s : Inputs) (l : Lists) (i time : ℕ) (c : Checked s l) (h : i < s.count) (soon : time ≤ time_limit) where
  made_keeps : (kind : ExtraDelay) → Checked (made_at i kind time s) l
  made_keeps kind = slot_keeps s l i (made_slot kind time (slot_at s i)) c h fits refl refl
    where
      fits : WholeSlot s.policy.delay_max s.flow_count (made_slot kind time (slot_at s i))
      fits =
          let w = (c.whole.inputs i h).slot in
          record { delay = w.delay; proposed = w.proposed; route = w.route; reopens = w.reopens; changes = w.changes; lates = w.lates; head = soon; set = w.set; opened = w.opened }

  pub one_keeps : (kind : ExtraDelay) → Checked (started_one i kind time s).inputs l
  unfolding started_one set_delay_of send_first quiet
  one_keeps (Auto tag) = made_keeps (Auto tag)
  one_keeps (Ms delay) =
      let rest = put_rest s i (made_slot (Ms delay) time (slot_at s i)) in
      stored_keeps (made_at i (Ms delay) time s) l i (min (samples_of delay) s.policy.delay_max) time (made_keeps (Ms delay))
      (subst (λ (z : Inputs). i < z.count) (sym rest) h)
      (subst (λ (z : Inputs). min (samples_of delay) s.policy.delay_max ≤ z.policy.delay_max) (sym rest) (omega arith))
      soon

-- ---- the first n inputs
module _ (kinds : List ExtraDelay) (time : ℕ) (s : Inputs) (sized : Sized s) where
  pub below_sized : (n : ℕ) → n ≤ 16 → Sized (started_below n kinds time s).inputs
  unfolding started_below send_first quiet
  below_sized zero few = sized
  below_sized (suc n) few = one_sized (started_below n kinds time s).inputs n time (omega arith) (below_sized n (omega arith)) (kind_at kinds n)

  -- only slots change
  pub below_rest : (n : ℕ) → n ≤ 16 → (started_below n kinds time s).inputs ≡ with_slots s (started_below n kinds time s).inputs.slots
  unfolding started_below send_first quiet
  below_rest zero few = refl
  below_rest (suc n) few =
      one_rest (started_below n kinds time s).inputs n time (omega arith) (below_sized n (omega arith)) (kind_at kinds n)
      ∙ ap (λ (z : Inputs). with_slots z (started_below (suc n) kinds time s).inputs.slots) (below_rest n (omega arith))

  below_maximum : (n : ℕ) → n ≤ 16 → (started_below n kinds time s).inputs.policy.delay_max ≡ s.policy.delay_max
  below_maximum n few = ap (λ (z : Inputs). z.policy.delay_max) (below_rest n few)

  -- the slots after them stay
  pub below_later : (n : ℕ) → n ≤ 16 → (i : ℕ) → n ≤ i → slot_at (started_below n kinds time s).inputs i ≡ slot_at s i
  unfolding started_below send_first quiet
  below_later zero few i h = refl
  below_later (suc n) few i h =
      one_other (started_below n kinds time s).inputs n time (omega arith) (below_sized n (omega arith)) (kind_at kinds n) i (λ e. omega arith)
      ∙ below_later n (omega arith) i (omega arith)

  -- the slot of each of them
  pub below_slot : (n : ℕ) → n ≤ 16 → (i : ℕ) → i < n → slot_at (started_below n kinds time s).inputs i ≡ started_slot (kind_at kinds i) time s.policy.delay_max (slot_at s i)
  unfolding started_below send_first quiet
  below_slot zero few i h = absurd (omega arith)
  below_slot (suc n) few i h = ⊎_elim (λ e. here e) (λ k. there k (below_slot n (omega arith) i k)) (eq-or-lt_of_le (le_of_suc-le-suc h))
    where
      before : Inputs
      before = (started_below n kinds time s).inputs

      here : i ≡ n → slot_at (started_one n (kind_at kinds n) time before).inputs i ≡ started_slot (kind_at kinds i) time s.policy.delay_max (slot_at s i)
      here e =
          rw e
          (one_slot before n time (omega arith) (below_sized n (omega arith)) (kind_at kinds n)
          ∙ ap (λ (m : ℕ). started_slot (kind_at kinds n) time m (slot_at before n)) (below_maximum n (omega arith))
          ∙ ap (started_slot (kind_at kinds n) time s.policy.delay_max) (below_later n (omega arith) n (omega arith)))

      there : i < n → slot_at before i ≡ started_slot (kind_at kinds i) time s.policy.delay_max (slot_at s i) → slot_at (started_one n (kind_at kinds n) time before).inputs i ≡ started_slot (kind_at kinds i) time s.policy.delay_max (slot_at s i)
      there k e = one_other before n time (omega arith) (below_sized n (omega arith)) (kind_at kinds n) i (λ q. omega arith) ∙ e

  -- the words: SetDelay for each manual one, in their order
  pub below_words : (n : ℕ) → n ≤ 16 → (started_below n kinds time s).words ≡ manual_words n kinds s.policy.delay_max
  unfolding started_below send_first quiet manual_words
  below_words zero few = refl
  below_words (suc n) few =
      ap (λ (words : List ℕ). words ++ (started_one n (kind_at kinds n) time (started_below n kinds time s).inputs).words) (below_words n (omega arith))
      ∙ ap (λ (words : List ℕ). manual_words n kinds s.policy.delay_max ++ words)
      (one_words (started_below n kinds time s).inputs n time (omega arith) (below_sized n (omega arith)) (kind_at kinds n)
      ∙ ap (started_words n (kind_at kinds n)) (below_maximum n (omega arith)))

  pub below_keeps : (l : Lists) → Checked s l → time ≤ time_limit → (n : ℕ) → n ≤ s.count → Checked (started_below n kinds time s).inputs l
  unfolding started_below send_first quiet
  below_keeps l c soon zero few = c
  below_keeps l c soon (suc n) few =
      let most : s.count ≤ 16 = c.fitting.allowed.most in
      one_keeps (started_below n kinds time s).inputs l n time (below_keeps l c soon n (omega arith))
      (subst (λ (z : Inputs). n < z.count) (sym (below_rest n (omega arith))) (omega arith))
      soon (kind_at kinds n)
