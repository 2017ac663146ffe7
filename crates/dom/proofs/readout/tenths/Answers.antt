-- Each step has the code's sign and a size, and is read back whole, since it fits.
use Prim.Native.Nat.{ℕ, ◌+◌, ◌*◌, ◌/◌, ◌%◌, ◌≤◌, ◌<◌}
use native.Mathlib.Nat.{mod-le, div-le_self}
use native.Mathlib.Omega.{arith}
use mathlib.Core.Path.{◌≡◌, ap, ◌∙◌}
use lib.IntN.{ℤ, pos, nat_abs, ◌+ℤ◌, ◌*ℤ◌}
use lib.Signed.{quot_z, rem_z}
use mir.Syntax.{w16, w32}
use mir.Val.{SFits, to_z, of_z}
use Rattle.dom.specs.Readout.{nearest, signed_as, tenths_of}
use Rattle.dom.proofs.Rounding.{by_rest}
use Rattle.dom.proofs.Tenths.{Sized, size, fits, held, times, sum, quotient, remainder}
use Rattle.dom.proofs.readout.tenths.Goals as goal

-- ---- the steps, as an i32 holds them: it has room for up to the product and 256
abbrev i32 : ℤ → ℤ
i32 x = to_z w32 (of_z w32 x)

whole : {code x : ℤ} {n : ℕ} → SFits w16 code → Sized code x n → n ≤ nat_abs code * 10 + 256 → Sized code (i32 x) n
whole f s h = held w32 s (omega (arith, size _ f))

abbrev product : ℤ → ℤ
product code = i32 (i32 (to_z w16 (of_z w16 code)) *ℤ pos 10)

abbrev down : ℤ → ℤ
down code = i32 (quot_z (product code) (pos 256))

-- the rest, and whether the quotient is odd
abbrev left : ℤ → (odd : ℕ) → ℤ
left code odd = i32 (rem_z (product code) (pos 256)) +ℤ i32 (rem_z (down code) (pos odd))

product_is : {code : ℤ} → SFits w16 code → Sized code (product code) (nat_abs code * 10)
product_is f = whole f (times _ 10 f) (omega arith)

down_is : {code : ℤ} → SFits w16 code → Sized code (down code) (nat_abs code * 10 / 256)
down_is f = whole f (quotient 256 (product_is f)) (omega arith)

left_is : {code : ℤ} (odd : ℕ) → SFits w16 code → Sized code (left code odd) (nat_abs code * 10 % 256 + nat_abs code * 10 / 256 % odd)
left_is {code} odd f =
    sum (whole f (remainder 256 (product_is f)) (omega arith))
    (whole f (remainder odd (down_is f)) (omega (arith, mod-le (nat_abs code * 10 / 256) odd)))

more_is : {code : ℤ} (odd over : ℕ) → SFits w16 code → Sized code (i32 (quot_z (i32 (left code odd)) (pos over))) ((nat_abs code * 10 % 256 + nat_abs code * 10 / 256 % odd) / over)
more_is {code} odd over f =
    let n = mod-le (nat_abs code * 10 / 256) odd in
    whole f (quotient over (whole f (left_is odd f) (omega (arith, n))))
    (omega (arith, n, div-le_self (nat_abs code * 10 % 256 + nat_abs code * 10 / 256 % odd) over))

-- ---- what has the nearest's size is the readout
reads : {code x : ℤ} {n : ℕ} → Sized code x n → (nat_abs code * 10 % 256 * 2 < 256 → n ≡ nat_abs code * 10 / 256) → (256 < nat_abs code * 10 % 256 * 2 → n ≡ nat_abs code * 10 / 256 + 1) → (nat_abs code * 10 % 256 * 2 ≡ 256 → n ≡ nat_abs code * 10 / 256 + nat_abs code * 10 / 256 % 2) → x ≡ tenths_of code
reads {code} {n = n} s less more half =
    s.is ∙ ap (signed_as code)
    (by_rest (nat_abs code * 10 % 256 * 2) 256 (n ≡ nearest (nat_abs code * 10) 256) (λ l r. rw l (less r)) (λ l m r. rw (l, m) (more r)) (λ l m r. rw (l, m) (half r)))

pub overflow_cast-result : goal.overflow_cast-result
overflow_cast-result c =
    let f = c.ranges.code in
    fits w16 (whole f (sum (down_is f) (more_is _ _ f)) (omega arith)) (omega (arith, size _ f))

pub returns : goal.returns
returns c =
    let f = c.ranges.code in
    reads (held w16 (whole f (sum (down_is f) (more_is _ _ f)) (omega arith)) (omega (arith, size _ f))) (λ r. omega arith)
    (λ r. omega arith) (λ r. omega arith)
