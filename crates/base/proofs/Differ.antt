-- Numbers that differ in no bit are equal. Assumes nothing.
use Rattle.std.specs.Prelude.{◌≡◌, ℕ, zero, suc, ◌+◌, ◌*◌, ◌/◌, ◌%◌, eqb}
use mathlib.Core.Path.{refl, sym, ap, ◌∙◌}
use native.Mathlib.Nat.{div-add-mod'}
use native.Mathlib.Omega.{arith}
use borrow.Author.Tests.{eq-eqb, ne_eqb, eqb-true, eqb-false}
use lib.Arith.{bin_ind}
use lib.Bits.{bit_xor, xor_step, xor_self, differ}
use Rattle.base.proofs.Choices.{by_bool}

differ_zero : (x y : ℕ) → differ x y ≡ 0 → x ≡ y
differ_zero zero y e = sym e
differ_zero (suc x) zero e = e
differ_zero (suc x) (suc y) e = ap suc (differ_zero x y e)

apart : (r c : ℕ) → r * 2 + c ≡ 0 → (r ≡ 0) × (c ≡ 0)
apart r c e = (omega arith, omega arith)

xor_zero : (a b : ℕ) → bit_xor a b ≡ 0 → a ≡ b
xor_zero a =
    bin_ind (λ (n : ℕ). (b : ℕ) → bit_xor n b ≡ 0 → n ≡ b) (λ b e. sym e)
    (λ n ih b e.
    let parts = apart _ _ (sym (xor_step n b) ∙ e) in
    sym (div-add-mod' n 2) ∙ ap (λ (x : ℕ). x * 2 + n % 2) (ih (b / 2) parts.0) ∙ ap (λ (x : ℕ). b / 2 * 2 + x) (differ_zero (n % 2) (b % 2) parts.1) ∙ div-add-mod' b 2) a

pub xor_same : (a b : ℕ) → eqb (bit_xor a b) 0 ≡ eqb a b
xor_same a b =
    by_bool (eqb a b)
    (λ h. let e : a ≡ b = eqb-true a b h in rw (e, xor_self b) (sym (eq-eqb b b refl)))
    (λ h. rw h (ne_eqb (bit_xor a b) 0 (λ z. eqb-false a b h (xor_zero a b z))))
