-- Register 8000, and the job that a command starts there. Document 01, "Registers" and "Load, burn, cut".
-- Assumes nothing.
use Rattle.std.specs.Prelude.{ℕ, ◌*◌, Bool, cond, not, eqb}
use Rattle.std.specs.Int.Bits.{bit_or}
use Rattle.registers.specs.declared.Register.{Register}
use Rattle.registers.specs.declared.Register.TheVariants as register
use Rattle.action.specs.declared.Action.{Action}
use Rattle.action.specs.declared.Action.TheVariants as action
use Rattle.nvr.specs.Command.{kept_bits, command_of}
use Rattle.nvr.specs.declared.command.Command.{Command}
use Rattle.nvr.specs.declared.command.Command.TheVariants.{LoadAll, LoadByte, BurnCustomer, BurnByte, Failed}
use Rattle.jobs.specs.declared.Job.{Job}

-- the kinds of job
abbrev pub none : ℕ
none = 0

abbrev pub load : ℕ
load = 1

abbrev pub burn : ℕ
burn = 2

abbrev pub first : ℕ
first = 3

-- the status, bits 3:2 of 8000
abbrev pub idle : ℕ
idle = 0

abbrev pub done : ℕ
done = 1

abbrev pub busy : ℕ
busy = 2

abbrev pub failed : ℕ
failed = 3

-- a job of a kind, by its due and last offsets, that has not ended
abbrev pub job : ℕ → ℕ → ℕ → Job
job k d l = record { due = d; last = l; ended = idle; kind = k }

abbrev pub no_job : Job
no_job = job none 0 0

-- power-on and reset start a first load, of all offsets; 8000 reads 000B
abbrev pub first_load : Job
first_load = job first 0 255

-- the word at 8000 then, without its status
abbrev pub first_command : ℕ
first_command = 0x0003

-- all offsets, or 119 to 166, or that one offset; a failed command has no job
abbrev pub command_job : Command → Job
command_job LoadAll = job load 0 255
command_job (LoadByte offset) = job load offset offset
command_job BurnCustomer = job burn 119 166
command_job (BurnByte offset) = job burn offset offset
command_job Failed = record { due = 0; last = 0; ended = failed; kind = none }

abbrev pub is_busy : Job → Bool
is_busy j = not (eqb j.kind none)

abbrev pub status_of : Job → ℕ
status_of j = cond (eqb j.kind none) j.ended busy

-- the word at 8000: the bits that it keeps of the command, and the status
abbrev pub word_of : Job → ℕ → ℕ
word_of j command = bit_or command (4 * status_of j)

-- the word at 0000: 2040, plus 8000 while the first load runs
abbrev pub pma_word : Job → ℕ
pma_word j = cond (eqb j.kind first) 0xa040 0x2040

-- reading 8000 shows done or failed, then makes it idle
abbrev pub after_read : Job → Register → Job
after_read j register.PmaControl = j
after_read j register.NvrControl = job j.kind j.due j.last
after_read j (register.Copy offset) = j
after_read j (register.Customer offset) = j
after_read j (register.Control i) = j
after_read j (register.Status i) = j
after_read j (register.Threshold k) = j
after_read j (register.Sample quantity low) = j
after_read j (register.Flags i) = j
after_read j register.Unlisted = j

-- after a frame
abbrev pub job_after : Job → Action → Job
job_after j action.Refused = j
job_after j action.Silent = j
job_after j (action.SetAddress a) = j
job_after j action.Dropped = j
job_after j action.Reset = first_load
job_after j (action.Command word) = command_job (command_of word)
job_after j (action.Customer offset byte) = j
job_after j (action.Control i word) = j
job_after j (action.Read r increment) = after_read j r

-- the bits that 8000 keeps of the command, after a frame
abbrev pub command_after : ℕ → Action → ℕ
command_after command action.Refused = command
command_after command action.Silent = command
command_after command (action.SetAddress a) = command
command_after command action.Dropped = command
command_after command action.Reset = first_command
command_after command (action.Command word) = kept_bits word
command_after command (action.Customer offset byte) = command
command_after command (action.Control i word) = command
command_after command (action.Read r increment) = command
