-- The readout of every temperature code is the model's.
-- Assumes nothing.
use Prim.Native.Nat.{ℕ, suc, ◌+◌, ◌-◌, ◌*◌, ◌/◌, ◌%◌, ◌≤◌}
use native.Mathlib.Nat.{mul-add-mod_self_left}
use native.Mathlib.Omega.{arith}
use mathlib.Core.Bool.{Bool, true, false}
use mathlib.Core.Path.{◌≡◌, refl, ap, ◌∙◌}
use borrow.Author.Tests.{eqb-true, eqb-false}
use lib.Dec.{eqb}
use lib.IntN.{pos, negsuc, neg_ℤ}
use Rattle.dom.specs.Readout as dom
use Rattle.dom.proofs.Rounding.{by_rest}
use Rattle.guarantees.specs.Behaviour.{tenths_above}
use Rattle.guarantees.specs.Guarantees.{Readout}

-- 5 × 77, divided by 128, leaves 1: where code × 5 leaves 64, so does the code
half_code : (n : ℕ) → n * 10 % 256 * 2 ≡ 256 → n % 128 ≡ 64
half_code n r =
    let q = n * 10 / 256 in
    let ten : n * 10 ≡ q * 256 + 128 = omega (arith, r) in
    let room : 3 * n ≤ 77 * q + 38 = omega (arith, ten) in
    let whole : n ≡ 128 * (77 * q + 38 - 3 * n) + 64 = omega (arith, ten, room) in
    ap (λ (k : ℕ). k % 128) whole ∙ mul-add-mod_self_left 128 (77 * q + 38 - 3 * n) 64

half_rest : (n : ℕ) → n % 128 ≡ 64 → n * 10 % 256 ≡ 128
half_rest n h =
    let ten : n * 10 ≡ 256 * (5 * (n / 128) + 2) + 128 = omega (arith, h) in
    ap (λ (k : ℕ). k % 256) ten ∙ mul-add-mod_self_left 256 (5 * (n / 128) + 2) 128

by_half : (n : ℕ) (half : Bool) → eqb (n % 128) 64 ≡ half → dom.nearest (n * 10) 256 ≡ tenths_above n
by_half n true e =
    let h = half_rest n (eqb-true (n % 128) 64 e) in
    by_rest (n * 10 % 256 * 2) 256 (dom.nearest (n * 10) 256 ≡ tenths_above n) (λ l r. absurd (omega (arith, h)))
    (λ l m r. absurd (omega (arith, h))) (λ l m r. rw (l, m, e) (omega (arith, h)))
by_half n false e =
    by_rest (n * 10 % 256 * 2) 256 (dom.nearest (n * 10) 256 ≡ tenths_above n) (λ l r. rw (l, e) (omega arith))
    (λ l m r. rw (l, m, e) (omega arith)) (λ l m r. absurd (eqb-false (n % 128) 64 e (half_code n r)))

above : (n : ℕ) → dom.nearest (n * 10) 256 ≡ tenths_above n
above n = by_half n (eqb (n % 128) 64) refl

pub readout : Readout
readout (pos n) = ap pos (above n)
readout (negsuc n) = ap (λ (t : ℕ). neg_ℤ (pos t)) (above (suc n))
