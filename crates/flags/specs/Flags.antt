-- The alarm and warning flags of a sample: four quantities meet four thresholds each. Document 01, "Alarms".
-- Assumes nothing.
use Rattle.std.specs.Prelude.{ℕ, Bool, false, List, [], ◌∷◌, ℤ, pos, get_or}
use Rattle.std.specs.Int.Signed.{lt_z}
use Rattle.words.specs.Words.{of_bits}
use Rattle.dom.specs.Codes.{temperature, bias, transmit, receive}
use Rattle.thresholds.specs.Thresholds.{high_alarm, low_alarm, high_warning, low_warning}
use Rattle.dom.specs.declared.Sample.{Sample}
use Rattle.flags.specs.declared.Flags.{Flags}
use Rattle.flags.specs.declared.Level.{Level}
use Rattle.flags.specs.declared.Level.TheVariants.{Alarm, Warning}

-- a flag is for a reading above its high threshold, or below its low one
pub data Side : Type 0 where
  high low : Side

-- the columns of a level's high and low thresholds
abbrev pub columns : ℕ → ℕ → Side → ℕ
columns h l high = h
columns h l low = l

abbrev pub alarm : Side → ℕ
alarm = columns high_alarm low_alarm

abbrev pub warning : Side → ℕ
warning = columns high_warning low_warning

-- the columns of a level
abbrev pub columns_of : Level → Side → ℕ
columns_of Alarm = alarm
columns_of Warning = warning

-- a sample's codes, in the order of the quantities
abbrev pub codes_of : Sample → List ℤ
codes_of s = s.temperature ∷ pos s.bias ∷ pos s.transmit ∷ pos s.receive ∷ []

abbrev pub threshold : List (List ℤ) → ℕ → ℕ → ℤ
threshold thresholds q column = get_or (get_or thresholds q []) column (pos 0)

-- a quantity's reading is strictly above a threshold, or strictly below
abbrev pub above : List (List ℤ) → List ℤ → ℕ → ℕ → Bool
above thresholds codes q column = lt_z (threshold thresholds q column) (get_or codes q (pos 0))

abbrev pub below : List (List ℤ) → List ℤ → ℕ → ℕ → Bool
below thresholds codes q column = lt_z (get_or codes q (pos 0)) (threshold thresholds q column)

-- a quantity's flag at a level: high above its threshold, low below, equality neither
abbrev pub crossed : List (List ℤ) → List ℤ → (Side → ℕ) → Side → ℕ → Bool
crossed thresholds codes level high q = above thresholds codes q (level high)
crossed thresholds codes level low q = below thresholds codes q (level low)

-- A070 and A074, from bit 0 up: transmit power 0 low, 1 high; bias 2, 3; temperature 6, 7
abbrev pub tx_bits : (Side → ℕ → Bool) → List Bool
tx_bits flag =
    flag low transmit ∷ flag high transmit ∷ flag low bias ∷ flag high bias ∷ false ∷ false ∷ flag low temperature ∷ flag high temperature ∷ []

-- A071 and A075: receive power 6, 7
abbrev pub rx_bits : (Side → ℕ → Bool) → List Bool
rx_bits flag = false ∷ false ∷ false ∷ false ∷ false ∷ false ∷ flag low receive ∷ flag high receive ∷ []

-- the four flag words, from each level's flags
abbrev pub flag_words : ((Side → ℕ) → Side → ℕ → Bool) → Flags
flag_words flag =
    record {
      txalarm = of_bits (tx_bits (flag alarm));
      rxalarm = of_bits (rx_bits (flag alarm));
      txwarning = of_bits (tx_bits (flag warning));
      rxwarning = of_bits (rx_bits (flag warning));
    }

-- the flags that a sample raises
unfoldable pub flags_of : List (List ℤ) → Sample → Flags
flags_of thresholds s = flag_words (crossed thresholds (codes_of s))
