-- What a frame asks of the module's parts, decided once. Document 01, "Frames" and "Registers".
-- Assumes nothing.
use Rattle.std.specs.Prelude.{ℕ, ◌%◌, Bool, true, false, cond, not}
use Rattle.words.specs.Words.{bit}
use Rattle.mdio.specs.Frame.{request_of}
use Rattle.mdio.specs.declared.Request.{Request}
use Rattle.mdio.specs.declared.Request.TheVariants as request
use Rattle.registers.specs.Map.{register_at}
use Rattle.registers.specs.declared.Register.{Register}
use Rattle.registers.specs.declared.Register.TheVariants as register
use Rattle.action.specs.declared.Action.{Action}
use Rattle.action.specs.declared.Action.TheVariants.{Refused, Silent, SetAddress, Dropped, Reset, Command, Customer, Control, Read}

-- a write that is taken, or dropped
abbrev pub when : Bool → Action → Action
when taken action = cond taken action Dropped

-- a write to a register, a job under way (busy) or not; what is not named is dropped
abbrev pub write_to : Register → Bool → ℕ → Action
write_to register.PmaControl busy value = when (bit 15 value) Reset
write_to register.NvrControl busy value = when (not busy) (Command value)
write_to (register.Copy offset) busy value = Dropped
write_to (register.Customer offset) busy value = when (not busy) (Customer offset (value % 256))
write_to (register.Control i) busy value = Control i value
write_to (register.Status i) busy value = Dropped
write_to (register.Threshold k) busy value = Dropped
write_to (register.Sample quantity low) busy value = Dropped
write_to (register.Flags i) busy value = Dropped
write_to register.Unlisted busy value = Dropped

-- a request, at the address register
abbrev pub request_action : Request → ℕ → Bool → Action
request_action request.Silent address busy = Silent
request_action (request.SetAddress a) address busy = SetAddress a
request_action (request.Write value) address busy = write_to (register_at address) busy value
request_action request.Read address busy = Read (register_at address) false
request_action request.ReadIncrement address busy = Read (register_at address) true

-- what a frame asks of a module with this power, port and address register; refusal 7 when it is off
unfoldable pub action_of : Bool → ℕ → ℕ → Bool → ℕ → Action
action_of powered port address busy word =
    cond powered (request_action (request_of word port) address busy) Refused
