-- A temperature code in tenths of a degree, and what it is to go to the nearest tenth.
-- Assumes nothing.
use Rattle.std.specs.Prelude.{ℕ, ◌+◌, ◌*◌, ◌/◌, ◌%◌, ◌≤◌, cond, [], ◌∷◌, map, ◌≡◌, ltb, ℤ, pos, negsuc, neg_ℤ, nat_abs, ◌-ℤ◌, ◌*ℤ◌}

-- ---- the readout
-- n / d to the nearest whole number, a half to the even one
abbrev pub nearest : (n d : ℕ) → ℕ
nearest n d = cond (ltb (n % d * 2) d) (n / d) (cond (ltb d (n % d * 2)) (n / d + 1) (n / d + n / d % 2))

-- a number with the sign of a code
abbrev pub signed_as : (code : ℤ) → ℕ → ℤ
signed_as (pos n) k = pos k
signed_as (negsuc n) k = neg_ℤ (pos k)

-- code × 10 / 256, so rounded
abbrev pub tenths_of : (code : ℤ) → ℤ
tenths_of code = signed_as code (nearest (nat_abs code * 10) 256)

-- ---- the same in plain arithmetic
-- how far so many tenths are from code × 10 / 256, in 1/256 of a tenth
abbrev pub distance : (code tenths : ℤ) → ℕ
distance code t = nat_abs (code *ℤ pos 10 -ℤ t *ℤ pos 256)

-- at most half a tenth; at the half, an even number of tenths
pub record Nearest (code tenths : ℤ) : Type 0 where
  pub near : distance code tenths ≤ 128
  pub even : distance code tenths ≡ 128 → nat_abs tenths % 2 ≡ 0

-- document 02's: 64, 192, −64 and −192 read out 2, 8, −2 and −8; and the ends, 32,767 and −32,768, 1280 and −1280
abbrev pub Examples : Type 0
Examples =
    map tenths_of (pos 64 ∷ pos 192 ∷ negsuc 63 ∷ negsuc 191 ∷ pos 32767 ∷ negsuc 32767 ∷ [])
    ≡ pos 2 ∷ pos 8 ∷ negsuc 1 ∷ negsuc 7 ∷ pos 1280 ∷ negsuc 1279 ∷ []

-- the readout of every code is its nearest tenth, at a half the even one, and no other number is
pub record Rounding : Type 0 where
  pub examples : Examples
  pub meets : (code : ℤ) → Nearest code (tenths_of code)
  pub only : (code tenths : ℤ) → Nearest code tenths → tenths ≡ tenths_of code
