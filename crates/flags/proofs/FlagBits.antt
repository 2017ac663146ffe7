-- Each flag from its word: the bits of A070 and A074, and of A071 and A075.
-- Assumes nothing.
use Prim.Native.Nat.{ℕ, ◌%◌, ◌<◌, ◌^◌}
use native.Mathlib.Omega.{arith}
use mathlib.Core.Path.{◌≡◌}
use mathlib.Core.Bool.{Bool, false}
use lib.IntN.{ℤ}
use mathlib.Core.List.{List}
use Rattle.words.specs.Words.{bit, of_bits}
use Rattle.words.proofs.Laws.{bit-of_bits, of_bits-below}
use Rattle.dom.specs.Codes.{temperature, bias, transmit, receive}
use Rattle.flags.specs.Flags.{Side, high, low, alarm, warning, codes_of, crossed, tx_bits, rx_bits, flags_of}
use Rattle.dom.specs.declared.Sample.{Sample}

-- temperature high 7, low 6; bias 3, 2; transmit power 1, 0
pub record TxFlags (flag : Side → ℕ → Bool) (word : ℕ) : Type 0 where
  pub temperature-high : bit 7 word ≡ flag high temperature
  pub temperature-low : bit 6 word ≡ flag low temperature
  pub bias-high : bit 3 word ≡ flag high bias
  pub bias-low : bit 2 word ≡ flag low bias
  pub transmit-high : bit 1 word ≡ flag high transmit
  pub transmit-low : bit 0 word ≡ flag low transmit
  pub no_other : (bit 4 word ≡ false) × (bit 5 word ≡ false) × (word < 2 ^ 8)

-- receive power high 7, low 6
pub record RxFlags (flag : Side → ℕ → Bool) (word : ℕ) : Type 0 where
  pub receive-high : bit 7 word ≡ flag high receive
  pub receive-low : bit 6 word ≡ flag low receive
  pub no_other : (word % 2 ^ 6 ≡ 0) × (word < 2 ^ 8)

pub tx-flags : (flag : Side → ℕ → Bool) → TxFlags flag (of_bits (tx_bits flag))
tx-flags flag =
    let at = bit-of_bits (tx_bits flag) in
    record {
      temperature-high = at 7;
      temperature-low = at 6;
      bias-high = at 3;
      bias-low = at 2;
      transmit-high = at 1;
      transmit-low = at 0;
      no_other = (at 4, at 5, of_bits-below (tx_bits flag));
    }

pub rx-flags : (flag : Side → ℕ → Bool) → RxFlags flag (of_bits (rx_bits flag))
rx-flags flag =
    let at = bit-of_bits (rx_bits flag) in
    record {
      receive-high = at 7;
      receive-low = at 6;
      no_other = (omega arith, of_bits-below (rx_bits flag));
    }

-- so, of a sample's four words
pub record SampleFlags (thresholds : List (List ℤ)) (s : Sample) : Type 0 where
  pub txalarm : TxFlags (crossed thresholds (codes_of s) alarm) (flags_of thresholds s).txalarm
  pub rxalarm : RxFlags (crossed thresholds (codes_of s) alarm) (flags_of thresholds s).rxalarm
  pub txwarning : TxFlags (crossed thresholds (codes_of s) warning) (flags_of thresholds s).txwarning
  pub rxwarning : RxFlags (crossed thresholds (codes_of s) warning) (flags_of thresholds s).rxwarning

pub sample_flags : (thresholds : List (List ℤ)) (s : Sample) → SampleFlags thresholds s
unfolding flags_of
sample_flags thresholds s =
    let flag = crossed thresholds (codes_of s) in
    record {
      txalarm = tx-flags (flag alarm);
      rxalarm = rx-flags (flag alarm);
      txwarning = tx-flags (flag warning);
      rxwarning = rx-flags (flag warning);
    }
