-- The last sample, and the low byte that a read of a high byte holds. Document 01, "Registers" and "Beside the list".
-- Assumes nothing.
use Rattle.std.specs.Prelude.{ℕ, suc, ◌-◌, ◌/◌, ◌%◌, Bool, true, false, cond, not, ◌&&◌, [], ◌∷◌, eqb, ℤ, pos, negsuc, get_or}
use Rattle.registers.specs.declared.Register.{Register}
use Rattle.registers.specs.declared.Register.TheVariants as register
use Rattle.action.specs.declared.Action.{Action}
use Rattle.action.specs.declared.Action.TheVariants as action
use Rattle.dom.specs.declared.Sample.{Sample}
use Rattle.monitor.specs.declared.Monitor.{Monitor}

-- a sample, and whether a low byte is held, of which quantity, and the byte
abbrev pub monitor : Sample → Bool → ℕ → ℕ → Monitor
monitor s h q b = record { sample = s; held = h; quantity = q; byte = b }

-- 0 before any sample
abbrev pub no_monitor : Monitor
no_monitor = monitor (record { temperature = pos 0; bias = 0; transmit = 0; receive = 0 }) false 0 0

-- the 16 bits of a signed code: a negative one, plus 10000
abbrev pub bits_of : ℤ → ℕ
bits_of (pos n) = n
bits_of (negsuc n) = 0x10000 - suc n

-- temperature, bias, transmit power, receive power
abbrev pub code_in : Sample → ℕ → ℕ
code_in s quantity = get_or (bits_of s.temperature ∷ s.bias ∷ s.transmit ∷ s.receive ∷ []) quantity 0

abbrev pub holds : Monitor → ℕ → Bool
holds m quantity = m.held && eqb m.quantity quantity

-- the high byte of a code, or the low one: the byte held, if one is
abbrev pub byte_of : ℕ → Bool → Bool → ℕ → ℕ
byte_of code low held byte = cond low (cond held byte (code % 256)) (code / 256)

-- what the register of a quantity's high or low byte reads
abbrev pub value_of : Monitor → ℕ → Bool → ℕ
value_of m quantity low = byte_of (code_in m.sample quantity) low (holds m quantity) m.byte

-- reading a sample's high byte holds its low byte, in place of another
abbrev pub holding : Monitor → ℕ → Monitor
holding m quantity = monitor m.sample true quantity (code_in m.sample quantity % 256)

-- the next read of that low address forgets it; a read of another does not
abbrev pub forgetting : Monitor → ℕ → Monitor
forgetting m quantity = monitor m.sample (m.held && not (eqb m.quantity quantity)) m.quantity m.byte

abbrev pub after_sample_read : Monitor → ℕ → Bool → Monitor
after_sample_read m quantity low = cond low (forgetting m quantity) (holding m quantity)

-- after a read of a register
abbrev pub after_read : Monitor → Register → Monitor
after_read m register.PmaControl = m
after_read m register.NvrControl = m
after_read m (register.Copy offset) = m
after_read m (register.Customer offset) = m
after_read m (register.Control i) = m
after_read m (register.Status i) = m
after_read m (register.Threshold k) = m
after_read m (register.Sample quantity low) = after_sample_read m quantity low
after_read m (register.Flags i) = m
after_read m register.Unlisted = m

-- after a frame: a reset zeroes the last sample and forgets the byte held
abbrev pub monitor_after : Monitor → Action → Monitor
monitor_after m action.Refused = m
monitor_after m action.Silent = m
monitor_after m (action.SetAddress a) = m
monitor_after m action.Dropped = m
monitor_after m action.Reset = no_monitor
monitor_after m (action.Command word) = m
monitor_after m (action.Customer offset byte) = m
monitor_after m (action.Control i word) = m
monitor_after m (action.Read r increment) = after_read m r

-- after a sample: nothing of the byte held changes
abbrev pub sampled_monitor : Sample → Monitor → Monitor
sampled_monitor s m = monitor s m.held m.quantity m.byte
