-- The 40 threshold bytes as codes, and their order. Document 01, "Registers" and refusal 5.
-- Assumes nothing.
use Rattle.std.specs.Prelude.{ℕ, ◌+◌, ◌*◌, Bool, ◌&&◌, List, [], ◌∷◌, ℤ, pos, get_or}
use Rattle.std.specs.Int.Signed.{le_z}
use Rattle.dom.specs.Codes.{signed_code}

-- the code of two bytes, high byte first
abbrev pub code_of : ℕ → ℕ → ℕ
code_of high low = high * 256 + low

-- the code at an offset
abbrev pub code_at : List ℕ → ℕ → ℕ
code_at bytes at = code_of (get_or bytes at 0) (get_or bytes (at + 1) 0)

-- the columns of a quantity's row
abbrev pub high_alarm : ℕ
high_alarm = 0

abbrev pub low_alarm : ℕ
low_alarm = 1

abbrev pub high_warning : ℕ
high_warning = 2

abbrev pub low_warning : ℕ
low_warning = 3

-- the row from an offset on
abbrev pub row_at : (ℕ → ℤ) → List ℕ → ℕ → List ℤ
row_at read bytes at =
    read (code_at bytes at) ∷ read (code_at bytes (at + 2)) ∷ read (code_at bytes (at + 4)) ∷ read (code_at bytes (at + 6)) ∷ []

-- temperature, bias, transmit power, receive power; bytes 8 to 15 are no quantity's
abbrev pub thresholds_of : List ℕ → List (List ℤ)
thresholds_of bytes = row_at signed_code bytes 0 ∷ row_at pos bytes 16 ∷ row_at pos bytes 24 ∷ row_at pos bytes 32 ∷ []

abbrev pub at_most : List ℤ → ℕ → ℕ → Bool
at_most row i j = le_z (get_or row i (pos 0)) (get_or row j (pos 0))

-- low alarm ≤ low warning ≤ high warning ≤ high alarm
abbrev pub row_ordered : List ℤ → Bool
row_ordered row = at_most row low_alarm low_warning && at_most row low_warning high_warning && at_most row high_warning high_alarm

-- refusal 5 is for thresholds of which a row is not in order
abbrev pub ordered : List (List ℤ) → Bool
ordered t = row_ordered (get_or t 0 []) && row_ordered (get_or t 1 []) && row_ordered (get_or t 2 []) && row_ordered (get_or t 3 [])
