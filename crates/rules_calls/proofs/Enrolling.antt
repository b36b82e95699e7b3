-- The record in which the wanted flow is enrolled: the slots, the settings and the lists' lengths are as before. Assumes nothing.
use Rattle.std.specs.Prelude.{None, Option, Some}
use Prim.Native.Nat.{ℕ}
use mathlib.Core.Path.{◌≡◌, refl, sym, ap, subst}
use Rattle.rules_record.specs.declared.Inputs.{Inputs}
use Rattle.rules_record.specs.Inputs.{slot_at, with_flows}
use Rattle.rules_record.proofs.FlowTable.{enrolled_rest}
use Rattle.rules_record.specs.Lent.{Lists, buckets_in}
use Rattle.rules_record.specs.Checks.{Fitting}
use Rattle.rules_calls.specs.Route.{enrolled_for}
use Rattle.rules_calls.specs.declared.Source.{Source}

module _ (s : Inputs) where
  -- only the flow table changes, and the unsaved mark stays
  pub for_rest : (wanted : Option Source) → enrolled_for s wanted ≡ with_flows s (enrolled_for s wanted).flows (enrolled_for s wanted).flow_count s.unsaved
  for_rest None = refl
  for_rest (Some source) = enrolled_rest s source.flow

  pub for_slot : (wanted : Option Source) (i : ℕ) → slot_at (enrolled_for s wanted) i ≡ slot_at s i
  unfolding slot_at
  for_slot wanted i = ap (λ (z : Inputs). slot_at z i) (for_rest wanted)

  pub for_count : (wanted : Option Source) → (enrolled_for s wanted).count ≡ s.count
  for_count wanted = ap (λ (z : Inputs). z.count) (for_rest wanted)

  pub for_buckets : (wanted : Option Source) → buckets_in (enrolled_for s wanted) ≡ buckets_in s
  unfolding buckets_in
  for_buckets wanted = ap buckets_in (for_rest wanted)

  pub for_fitting : (wanted : Option Source) (l : Lists) → Fitting s l → Fitting (enrolled_for s wanted) l
  unfolding buckets_in
  for_fitting wanted l f = subst (λ (z : Inputs). Fitting z l) (sym (for_rest wanted)) (record { allowed = f.allowed; long = f.long })
