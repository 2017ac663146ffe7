-- The copy begins as 256 zeros: there is a byte at each offset, and it is 0.
-- Assumes nothing.
use Prim.Native.Nat.{ℕ, zero, suc, ◌<◌}
use native.Mathlib.Omega.{arith}
use mathlib.Core.Path.{◌≡◌, refl}
use lib.ListN.{get_or}
use Rattle.store.specs.Bytes.{zeros}

-- whatever the default is, for where there is none
pub zeros_at : (n k default : ℕ) → k < n → get_or (zeros n) k default ≡ 0
unfolding zeros
zeros_at zero k default h = absurd (omega arith)
zeros_at (suc n) zero default h = refl
zeros_at (suc n) (suc k) default h = zeros_at n k default (omega arith)
