-- What the alarm registers read, and the alarm line. Document 01, "Registers" and "Alarms".
-- Assumes nothing.
use Rattle.std.specs.Prelude.{ℕ, Bool, false, ◌&&◌, [], ◌∷◌, get_or}
use Rattle.std.specs.Int.Bits.{bit_or}
use Rattle.words.specs.Words.{of_bits, share}
use Rattle.latch.specs.Latch.{latched}
use Rattle.alarms.specs.declared.Alarms.{Alarms}

-- 9003: bit 1 is whether A071 and 9007 share a bit; it has no latch
abbrev pub rx_alarm : Alarms → ℕ
rx_alarm a = bit_or (latched a.rxfaults) (of_bits (false ∷ share (latched a.rxalarm) a.controls.rxflag ∷ false ∷ []))

-- 9004: bit 1 is whether A070 and 9006 share a bit; it has no latch
abbrev pub tx_alarm : Alarms → ℕ
tx_alarm a = bit_or (latched a.txfaults) (of_bits (false ∷ share (latched a.txalarm) a.controls.txflag ∷ false ∷ []))

-- 9005: bit 2 is whether 9003 and 9000 share a bit, bit 1 whether 9004 and 9001 do, bit 0 the link alarm
abbrev pub lasi_status : Alarms → ℕ
lasi_status a =
    of_bits (a.changed ∷ share (tx_alarm a) a.controls.txalarm ∷ share (rx_alarm a) a.controls.rxalarm ∷ [])

-- the alarm line: powered, and 9005 and 9002 share a bit
abbrev pub alarm_line : Bool → Alarms → Bool
alarm_line powered a = powered && share (lasi_status a) a.controls.lasi

-- 9003, 9004, 9005
abbrev pub status_at : Alarms → ℕ → ℕ
status_at a i = get_or (rx_alarm a ∷ tx_alarm a ∷ lasi_status a ∷ []) i 0

-- A070, A071, A074, A075
abbrev pub flags_at : Alarms → ℕ → ℕ
flags_at a i = get_or (latched a.txalarm ∷ latched a.rxalarm ∷ latched a.txwarning ∷ latched a.rxwarning ∷ []) i 0
