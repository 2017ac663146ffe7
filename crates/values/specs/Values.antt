-- What a frame reads, and what each register reads. Document 01, "Registers".
-- Assumes nothing.
use Rattle.std.specs.Prelude.{ℕ, List, get_or}
use Rattle.registers.specs.declared.Register.{Register}
use Rattle.registers.specs.declared.Register.TheVariants.{PmaControl, NvrControl, Copy, Customer, Control, Status, Threshold, Sample, Flags, Unlisted}
use Rattle.action.specs.declared.Action.{Action}
use Rattle.action.specs.declared.Action.TheVariants as action
use Rattle.jobs.specs.Job.{word_of, pma_word}
use Rattle.jobs.specs.declared.Job.{Job}
use Rattle.controls.specs.Controls.{control_at}
use Rattle.alarms.specs.declared.Alarms.{Alarms}
use Rattle.lasi.specs.Lasi.{status_at, flags_at}
use Rattle.monitor.specs.Monitor.{value_of}
use Rattle.monitor.specs.declared.Monitor.{Monitor}

-- the register that a frame reads
abbrev pub register_of : Action → Register
register_of action.Refused = Unlisted
register_of action.Silent = Unlisted
register_of (action.SetAddress a) = Unlisted
register_of action.Dropped = Unlisted
register_of action.Reset = Unlisted
register_of (action.Command word) = Unlisted
register_of (action.Customer offset byte) = Unlisted
register_of (action.Control i word) = Unlisted
register_of (action.Read r increment) = r

-- the byte of copy or thresholds at a register; the others have none
abbrev pub register_byte : Register → List ℕ → List ℕ → ℕ
register_byte PmaControl c t = 0
register_byte NvrControl c t = 0
register_byte (Copy offset) c t = get_or c offset 0
register_byte (Customer offset) c t = get_or c offset 0
register_byte (Control i) c t = 0
register_byte (Status i) c t = 0
register_byte (Threshold k) c t = get_or t k 0
register_byte (Sample quantity low) c t = 0
register_byte (Flags i) c t = 0
register_byte Unlisted c t = 0

-- what a register reads, with its byte; an unlisted address reads 0000
abbrev pub register_value : Register → ℕ → Job → ℕ → Alarms → Monitor → ℕ
register_value PmaControl byte j command a m = pma_word j
register_value NvrControl byte j command a m = word_of j command
register_value (Copy offset) byte j command a m = byte
register_value (Customer offset) byte j command a m = byte
register_value (Control i) byte j command a m = control_at a.controls i
register_value (Status i) byte j command a m = status_at a i
register_value (Threshold k) byte j command a m = byte
register_value (Sample quantity low) byte j command a m = value_of m quantity low
register_value (Flags i) byte j command a m = flags_at a i
register_value Unlisted byte j command a m = 0
