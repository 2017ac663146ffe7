-- The readout's arithmetic: every step has the sign of the code, and a size.
-- Assumes nothing.
use Prim.Native.Nat.{ℕ, zero, suc, ◌+◌, ◌*◌, ◌/◌, ◌%◌, ◌<◌, ◌≤◌, ◌^◌}
use native.Mathlib.Nat.{zero-div, zero-mod}
use native.Mathlib.Omega.{arith}
use mathlib.Core.Path.{◌≡◌, sym, ◌∙◌}
use lib.IntN.{ℤ, pos, negsuc, nat_abs, ◌+ℤ◌, ◌*ℤ◌, neg_ℤ-+ℤ}
use lib.Signed.{quot_z, rem_z, nat_abs-le}
use mir.Syntax.{Width, w16, w32}
use mir.Val.{SFits, to_z, of_z, hbits}
use mir.Facts.{to_z-of_z, sfits_widen}
use Rattle.dom.specs.Readout.{signed_as}

-- x has the sign of the code and so many units
pub record Sized (code x : ℤ) (n : ℕ) : Type 0 where
  pub is : x ≡ signed_as code n

pub size : (code : ℤ) → SFits w16 code → nat_abs code ≤ 0x8000
size code f = nat_abs-le code f.sfits

-- ---- what fits, and is then read back
pub fits : (w : Width) {code x : ℤ} {n : ℕ} → Sized code x n → n < 2 ^ hbits w → SFits w x
fits w {code = pos _} s h = rw s.is (record { sfits = h })
fits w {code = negsuc _} {n = zero} s h = rw s.is (record { sfits = h })
fits w {code = negsuc _} {n = suc n} s h = rw s.is (record { sfits = omega arith })

pub held : (w : Width) {code x : ℤ} {n : ℕ} → Sized code x n → n < 2 ^ hbits w → Sized code (to_z w (of_z w x)) n
held w s h = record { is = to_z-of_z (fits w s h) ∙ s.is }

-- an i16 as an i32
widened : (z : ℤ) → SFits w16 z → to_z w32 (of_z w32 (to_z w16 (of_z w16 z))) ≡ z
widened z h = rw (to_z-of_z h) (to_z-of_z (sfits_widen {w = w16} {w' = w32} tt h))

-- ---- signed operations
pub times : (code : ℤ) (k : ℕ) → SFits w16 code → Sized code (to_z w32 (of_z w32 (to_z w16 (of_z w16 code))) *ℤ pos k) (nat_abs code * k)
times (pos n) k f = record { is = rw (widened (pos n) f) }
times (negsuc n) k f = record { is = rw (widened (negsuc n) f) }

pub sum : {code x y : ℤ} {a b : ℕ} → Sized code x a → Sized code y b → Sized code (x +ℤ y) (a + b)
sum {code = pos _} s t = record { is = rw (s.is, t.is) }
sum {code = negsuc _} {a = a} {b = b} s t = record { is = rw (s.is, t.is) (sym (neg_ℤ-+ℤ (pos a) (pos b))) }

pub quotient : {code x : ℤ} {a : ℕ} (d : ℕ) → Sized code x a → Sized code (quot_z x (pos d)) (a / d)
quotient {code = pos _} d s = record { is = rw s.is }
quotient {code = negsuc _} {a = zero} d s = record { is = rw (s.is, zero-div d) }
quotient {code = negsuc _} {a = suc a} d s = record { is = rw s.is }

pub remainder : {code x : ℤ} {a : ℕ} (d : ℕ) → Sized code x a → Sized code (rem_z x (pos d)) (a % d)
remainder {code = pos _} d s = record { is = rw s.is }
remainder {code = negsuc _} {a = zero} d s = record { is = rw (s.is, zero-mod d) }
remainder {code = negsuc _} {a = suc a} d s = record { is = rw s.is }
