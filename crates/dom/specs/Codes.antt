-- 16-bit codes; a temperature's is signed, in 1/256 degree.
-- Assumes nothing.
use Rattle.std.specs.Prelude.{ℕ, Bool, cond, ◌&&◌, ltb, ℤ, pos}
use Rattle.std.proofs.Math.IntN.{sub_ℕ}
use Rattle.std.specs.Int.Signed.{le_z}

-- a code as a signed number: from 8000 on, less 10000
abbrev pub signed_code : ℕ → ℤ
signed_code n = cond (ltb n 0x8000) (pos n) (sub_ℕ n 0x10000)

-- refusal 6 is for a temperature below D800 or above 7D00, as signed
abbrev pub acceptable : ℤ → Bool
acceptable t = le_z (signed_code 0xd800) t && le_z t (signed_code 0x7d00)

-- the quantities, in the order of their thresholds and registers
abbrev pub temperature : ℕ
temperature = 0

abbrev pub bias : ℕ
bias = 1

abbrev pub transmit : ℕ
transmit = 2

abbrev pub receive : ℕ
receive = 3
